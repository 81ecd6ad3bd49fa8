-- Rows of EUC-KR, Big5 and EUC-JP with entries at the pointers of their indexes.
use Rattle.std.specs.Prelude.{◌≡◌, ℕ, List, [], ◌∷◌, ◌++◌, replicate, refl}
use Rattle.encoding_mem.specs.Piece.{well_formed, malformed}
use Rattle.encoding_mem.specs.Pieces.{pieces_in}
use Rattle.encoding_mem.specs.declared.codec.form.Form.TheVariants.{Mapped}
use Rattle.encoding_codecs.specs.EucKr.{pieces_euc_kr, euc_kr_form}
use Rattle.encoding_codecs.specs.Big5.{pieces_big5, big5_form}
use Rattle.encoding_codecs.specs.EucJp.{pieces_euc_jp}

-- EUC-KR with U+AC00 at 9026
unfoldable wansung : List ℕ
wansung = replicate 9026 0 ++ (0xAC00 ∷ [])

a_lead_before_ascii : pieces_euc_kr wansung (0xB0 ∷ 0xA1 ∷ 0xB0 ∷ 0x41 ∷ []) ≡ well_formed 2 (0xAC00 ∷ []) ∷ malformed 1 ∷ well_formed 1 (0x41 ∷ []) ∷ []
unfolding wansung pieces_in
a_lead_before_ascii = refl

its_pointer : euc_kr_form wansung 0xAC00 ≡ Mapped (0xB0 ∷ 0xA1 ∷ [])
unfolding wansung
its_pointer = refl

-- Big5 with U+5341 at 5287 and 5512: both are read, the last is written
unfoldable ten : List ℕ
ten = replicate 5287 0 ++ (0x5341 ∷ (replicate 224 0 ++ (0x5341 ∷ [])))

both_pointers : pieces_big5 ten (0xA2 ∷ 0xCC ∷ 0xA4 ∷ 0x51 ∷ []) ≡ well_formed 2 (0x5341 ∷ []) ∷ well_formed 2 (0x5341 ∷ []) ∷ []
unfolding ten pieces_in
both_pointers = refl

the_last : big5_form ten 0x5341 ≡ Mapped (0xA4 ∷ 0x51 ∷ [])
unfolding ten
the_last = refl

-- EUC-JP with nothing in either index: three bytes that break off, and that have no character
break_off : pieces_euc_jp [] [] (0x8F ∷ 0xA1 ∷ 0x41 ∷ 0x8E ∷ 0xB1 ∷ []) ≡ malformed 2 ∷ well_formed 1 (0x41 ∷ []) ∷ well_formed 2 (0xFF71 ∷ []) ∷ []
unfolding pieces_in
break_off = refl

no_character : pieces_euc_jp [] [] (0x8F ∷ 0xA1 ∷ 0xA6 ∷ 0x8F ∷ 0xA1 ∷ []) ≡ malformed 3 ∷ malformed 2 ∷ []
unfolding pieces_in
no_character = refl
