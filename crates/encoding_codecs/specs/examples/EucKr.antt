-- Worked rows of `specs/EucKr.antt`.
use Rattle.std.specs.Prelude.{◌≡◌, ℕ, List, [], ◌∷◌, refl, map, replicate, ◌++◌}
use Rattle.encoding_mem.specs.Piece.{well_formed, malformed}
use Rattle.encoding_mem.specs.Pieces.{pieces_in}
use Rattle.encoding_mem.specs.declared.codec.form.Form.TheVariants.{Mapped, Unmapped}
use Rattle.encoding_codecs.specs.EucKr.{euc_kr_pair_pointer, pieces_euc_kr, euc_kr_pair_bytes, euc_kr_form}

-- a list for examples, of the first trails of the lead 81: U+AC02 at 41 and 43, nothing at 42
unfoldable sample : List ℕ
sample = 0xAC02 ∷ 0 ∷ 0xAC02 ∷ []

characters : pieces_euc_kr sample (0x81 ∷ 0x43 ∷ 0x41 ∷ 0x81 ∷ 0x41 ∷ []) ≡ well_formed 2 (0xAC02 ∷ []) ∷ well_formed 1 (0x41 ∷ []) ∷ well_formed 2 (0xAC02 ∷ []) ∷ []
unfolding sample pieces_in
characters = refl

-- 42 is ASCII, and is read again; FF is no trail
no_entry : pieces_euc_kr sample (0x81 ∷ 0x42 ∷ 0x81 ∷ 0xFF ∷ []) ≡ malformed 1 ∷ well_formed 1 (0x42 ∷ []) ∷ malformed 2 ∷ []
unfolding sample pieces_in
no_entry = refl

unused : pieces_euc_kr sample (0x80 ∷ 0xFF ∷ 0x81 ∷ []) ≡ malformed 1 ∷ malformed 1 ∷ malformed 1 ∷ []
unfolding sample pieces_in
unused = refl

-- B0 A1 is the pointer 9026
first_of_wansung : euc_kr_pair_pointer 0xB0 0xA1 ≡ 9026
first_of_wansung = refl

its_bytes : euc_kr_pair_bytes 9026 ≡ 0xB0 ∷ 0xA1 ∷ []
its_bytes = refl

last_bytes : euc_kr_pair_bytes 23939 ≡ 0xFE ∷ 0xFE ∷ []
last_bytes = refl

least_pointer : euc_kr_form sample 0xAC02 ≡ Mapped (0x81 ∷ 0x41 ∷ [])
unfolding sample
least_pointer = refl

itself : euc_kr_form sample 0x41 ≡ Mapped (0x41 ∷ [])
itself = refl

none : euc_kr_form sample 0x80 ≡ Unmapped 0x80
unfolding sample
none = refl

-- the trails are 41 to FE, a lead has 190; 40 is no trail
unfoldable neighbours : List ℕ
neighbours = 0xAC00 ∷ (replicate 188 0xAC01 ++ (0xAC02 ∷ 0xAC03 ∷ []))

trail_ends : pieces_euc_kr neighbours (0x81 ∷ 0x41 ∷ 0x81 ∷ 0xFE ∷ 0x82 ∷ 0x41 ∷ 0x82 ∷ 0x40 ∷ 0x81 ∷ 0xFF ∷ [])
    ≡ well_formed 2 (0xAC00 ∷ []) ∷ well_formed 2 (0xAC02 ∷ []) ∷ well_formed 2 (0xAC03 ∷ []) ∷ malformed 1 ∷ well_formed 1 (0x40 ∷ []) ∷ malformed 2 ∷ []
unfolding neighbours pieces_in
trail_ends = refl

-- FE leads
last_lead : pieces_euc_kr (replicate 23939 0 ++ (0xAC00 ∷ [])) (0xFE ∷ 0xFE ∷ 0xFF ∷ 0x41 ∷ [])
    ≡ well_formed 2 (0xAC00 ∷ []) ∷ malformed 1 ∷ well_formed 1 (0x41 ∷ []) ∷ []
unfolding pieces_in
last_lead = refl

-- the index has the pointers below 23940
last_of_index : map (λ p. euc_kr_form (replicate p 0 ++ (0xAC00 ∷ [])) 0xAC00) (189 ∷ 190 ∷ 23939 ∷ 23940 ∷ [])
    ≡ Mapped (0x81 ∷ 0xFE ∷ []) ∷ Mapped (0x82 ∷ 0x41 ∷ []) ∷ Mapped (0xFE ∷ 0xFE ∷ []) ∷ Unmapped 0xAC00 ∷ []
last_of_index = refl

ascii_end : euc_kr_form [] 0x7F ≡ Mapped (0x7F ∷ [])
ascii_end = refl
