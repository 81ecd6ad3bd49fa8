-- Laws of the pieces of UTF-8.
use Rattle.std.proofs.Common.{◌≡◌, ℕ, ◌+◌, ◌/◌, ◌%◌, ◌≤◌, ◌<◌, ◌&&◌, inl, inr, Bool, true, false, cond, List, [], ◌∷◌, ◌++◌, length, drop, nat_lt, nat_le, refl, sym, ◌∙◌, ap, arith, encode_utf8_all, append_assoc, length-append, ◌⊎◌}
use Rattle.std.specs.Int.{is_in_range}
use Rattle.std.specs.Char.{len_utf8, IsScalar, encode_utf8}
use Rattle.std.specs.Str.{all_scalars, chars, IsUtf8}
use Rattle.std.proofs.Math.Utf8.{scalar, scalar_cases}
use Rattle.std.proofs.lemmas.Str.{encode_ascii, encodes-chars, scalars-chars, length-encode, len_utf8_bounds}
use Rattle.std.proofs.lemmas.List.{append-nil, drop_at}
use Rattle.std.proofs.lemmas.Bool.{lt-ltb, le-ltb, le-leb, ltb-true, ltb-false, leb-true, and_from, and_parts, cases_lt}
use Rattle.std.proofs.lemmas.Bool.Decides.{nat_tests}
use Rattle.std.specs.Int.{IsInRange}
use Rattle.encoding_mem.specs.Piece.{Piece, well_formed, malformed, piece_len, Cuts}
use Rattle.encoding_mem.specs.laws.Pieces.{pieces_by-nil, pieces_by-first}
use Rattle.encoding_mem.specs.calls.TextRun.{text_pieces}
use Rattle.encoding_mem.specs.Utf8.{pieces_utf8, first_piece_utf8, utf8_after_lead, utf8_after_two, utf8_after_three, second_min, second_max, scalar_of_two, scalar_of_three, scalar_of_four}

in_range : (lo hi c : ℕ) → lo ≤ c → c ≤ hi → is_in_range lo hi c ≡ true
in_range lo hi c h k = and_from (nat_le lo c) (nat_le c hi) (le-leb lo c h) (le-leb c hi k)

fits_second : (b c : ℕ) → 0x80 ≤ c → c ≤ 0xBF → (b ≡ 0xE0 → 0xA0 ≤ c) → (b ≡ 0xF0 → 0x90 ≤ c) → (b ≡ 0xED → c ≤ 0x9F) → (b ≡ 0xF4 → c ≤ 0x8F) → is_in_range (second_min b) (second_max b) c ≡ true
fits_second b c h k e0 f0 ed f4 = in_range (second_min b) (second_max b) c (grind (arith, nat_tests)) (grind (arith, nat_tests))

first_piece_two : (b c : ℕ) (x : List ℕ) → 0xC2 ≤ b → b < 0xE0 → 0x80 ≤ c → c ≤ 0xBF → first_piece_utf8 (b ∷ c ∷ x) ≡ well_formed 2 (scalar_of_two b c ∷ [])
first_piece_two b c x h k i j =
    rw (le-ltb b 0x80 (omega arith))
    (rw (in_range 0xC2 0xF4 b h (omega arith))
    (rw (fits_second b c i j (λ e. absurd (omega arith)) (λ e. absurd (omega arith)) (λ e. absurd (omega arith)) (λ e. absurd (omega arith)))
    (rw (lt-ltb b 0xE0 k) refl)))

first_piece_three : (b c d : ℕ) (x : List ℕ) → 0xE0 ≤ b → b < 0xF0 → is_in_range (second_min b) (second_max b) c ≡ true → 0x80 ≤ d → d ≤ 0xBF → first_piece_utf8 (b ∷ c ∷ d ∷ x) ≡ well_formed 3 (scalar_of_three b c d ∷ [])
first_piece_three b c d x h k second i j =
    rw (le-ltb b 0x80 (omega arith))
    (rw (in_range 0xC2 0xF4 b (omega arith) (omega arith))
    (rw second
    (rw (le-ltb b 0xE0 h)
    (rw (in_range 0x80 0xBF d i j)
    (rw (lt-ltb b 0xF0 k) refl)))))

first_piece_four : (b c d e : ℕ) (x : List ℕ) → 0xF0 ≤ b → b ≤ 0xF4 → is_in_range (second_min b) (second_max b) c ≡ true → 0x80 ≤ d → d ≤ 0xBF → 0x80 ≤ e → e ≤ 0xBF → first_piece_utf8 (b ∷ c ∷ d ∷ e ∷ x) ≡ well_formed 4 (scalar_of_four b c d e ∷ [])
first_piece_four b c d e x h k second i j m n =
    rw (le-ltb b 0x80 (omega arith))
    (rw (in_range 0xC2 0xF4 b (omega arith) k)
    (rw second
    (rw (le-ltb b 0xE0 (omega arith))
    (rw (in_range 0x80 0xBF d i j)
    (rw (le-ltb b 0xF0 h)
    (rw (in_range 0x80 0xBF e m n) refl))))))

-- the bytes of a scalar, by their number
pub encode_two : (c : ℕ) → 128 ≤ c → c < 2048 → encode_utf8 c ≡ (192 + c / 64) ∷ (128 + c % 64) ∷ []
unfolding encode_utf8
encode_two c h k = rw (le-ltb c 128 h) (rw (lt-ltb c 2048 k) refl)

pub encode_three : (c : ℕ) → 2048 ≤ c → c < 65536 → encode_utf8 c ≡ (224 + c / 4096) ∷ (128 + c / 64 % 64) ∷ (128 + c % 64) ∷ []
unfolding encode_utf8
encode_three c h k = rw (le-ltb c 128 (omega arith)) (rw (le-ltb c 2048 h) (rw (lt-ltb c 65536 k) refl))

pub encode_four : (c : ℕ) → 65536 ≤ c → encode_utf8 c ≡ (240 + c / 262144) ∷ (128 + c / 4096 % 64) ∷ (128 + c / 64 % 64) ∷ (128 + c % 64) ∷ []
unfolding encode_utf8
encode_four c h = rw (le-ltb c 128 (omega arith)) (rw (le-ltb c 2048 (omega arith)) (rw (le-ltb c 65536 h) refl))

same_well_formed : (n m c d : ℕ) → n ≡ m → c ≡ d → well_formed n (c ∷ []) ≡ well_formed m (d ∷ [])
same_well_formed n m c d h k = cc

length_two : (c : ℕ) → 128 ≤ c → c < 2048 → 2 ≡ len_utf8 c
length_two c h k = grind (arith, nat_tests)

length_three : (c : ℕ) → 2048 ≤ c → c < 65536 → 3 ≡ len_utf8 c
length_three c h k = grind (arith, nat_tests)

length_four : (c : ℕ) → 65536 ≤ c → 4 ≡ len_utf8 c
length_four c h = grind (arith, nat_tests)

reads_two : (c : ℕ) (x : List ℕ) → 128 ≤ c → c < 2048 → first_piece_utf8 (encode_utf8 c ++ x) ≡ well_formed (len_utf8 c) (c ∷ [])
reads_two c x h k =
    rw (encode_two c h k)
    (first_piece_two (192 + c / 64) (128 + c % 64) x (omega arith) (omega arith) (omega arith) (omega arith)
    ∙ same_well_formed 2 (len_utf8 c) (scalar_of_two (192 + c / 64) (128 + c % 64)) c (length_two c h k) (omega arith))

second_three : (c : ℕ) → 2048 ≤ c → c < 65536 → (c < 55296) ⊎ (57344 ≤ c) → is_in_range (second_min (224 + c / 4096)) (second_max (224 + c / 4096)) (128 + c / 64 % 64) ≡ true
second_three c h k gap = fits_second (224 + c / 4096) (128 + c / 64 % 64) (omega arith) (omega arith) (λ e. omega arith) (λ e. absurd (omega arith)) (λ e. elim gap [ inl low ↦ omega arith | inr high ↦ omega arith ]) (λ e. absurd (omega arith))

reads_three : (c : ℕ) (x : List ℕ) → 2048 ≤ c → c < 65536 → (c < 55296) ⊎ (57344 ≤ c) → first_piece_utf8 (encode_utf8 c ++ x) ≡ well_formed (len_utf8 c) (c ∷ [])
reads_three c x h k gap =
    rw (encode_three c h k)
    (first_piece_three (224 + c / 4096) (128 + c / 64 % 64) (128 + c % 64) x (omega arith) (omega arith) (second_three c h k gap) (omega arith) (omega arith)
    ∙ same_well_formed 3 (len_utf8 c) (scalar_of_three (224 + c / 4096) (128 + c / 64 % 64) (128 + c % 64)) c (length_three c h k) (omega arith))

second_four : (c : ℕ) → 65536 ≤ c → c < 1114112 → is_in_range (second_min (240 + c / 262144)) (second_max (240 + c / 262144)) (128 + c / 4096 % 64) ≡ true
second_four c h k = fits_second (240 + c / 262144) (128 + c / 4096 % 64) (omega arith) (omega arith) (λ e. absurd (omega arith)) (λ e. omega arith) (λ e. absurd (omega arith)) (λ e. omega arith)

reads_four : (c : ℕ) (x : List ℕ) → 65536 ≤ c → c < 1114112 → first_piece_utf8 (encode_utf8 c ++ x) ≡ well_formed (len_utf8 c) (c ∷ [])
reads_four c x h k =
    rw (encode_four c h)
    (first_piece_four (240 + c / 262144) (128 + c / 4096 % 64) (128 + c / 64 % 64) (128 + c % 64) x (omega arith) (omega arith) (second_four c h k) (omega arith) (omega arith) (omega arith) (omega arith)
    ∙ same_well_formed 4 (len_utf8 c) (scalar_of_four (240 + c / 262144) (128 + c / 4096 % 64) (128 + c / 64 % 64) (128 + c % 64)) c (length_four c h) (omega arith))

reads_one : (c : ℕ) (x : List ℕ) → c < 128 → first_piece_utf8 (encode_utf8 c ++ x) ≡ well_formed (len_utf8 c) (c ∷ [])
reads_one c x h =
    rw (encode_ascii c h)
    (rw (lt-ltb c 0x80 h) refl)

reads_low : (c : ℕ) (x : List ℕ) → c < 65536 → (c < 55296) ⊎ (57344 ≤ c) → first_piece_utf8 (encode_utf8 c ++ x) ≡ well_formed (len_utf8 c) (c ∷ [])
reads_low c x h gap = elim (cases_lt c 128) [
  | inl one ↦ reads_one c x one
  | inr more ↦ elim (cases_lt c 2048) [
    | inl two ↦ reads_two c x more two
    | inr three ↦ reads_three c x three h gap
  ]
]

-- the bytes of a scalar are its piece, whatever follows
pub first_piece_utf8-encode : (c : ℕ) (x : List ℕ) → IsScalar c → first_piece_utf8 (encode_utf8 c ++ x) ≡ well_formed (len_utf8 c) (c ∷ [])
first_piece_utf8-encode c x is = elim (scalar_cases c is) [
  | inl low ↦ reads_low c x (omega arith) (inl low)
  | inr high ↦ elim (cases_lt c 65536) [
    | inl three ↦ reads_low c x three (inr high.0)
    | inr four ↦ reads_four c x four high.1
  ]
]

-- each first piece is some of the bytes, and gives a scalar
pub cuts_cond : (t : Bool) (p q : Piece) (n : ℕ) → (t ≡ true → Cuts p n) → (t ≡ false → Cuts q n) → Cuts (cond t p q) n
cuts_cond true p q n h k = h refl
cuts_cond false p q n h k = k refl

pub cuts_malformed : (n k : ℕ) → 0 < n → n ≤ k → Cuts (malformed n) k
cuts_malformed n k some fits = record { piece = record { some = some; few = omega arith; at_most_two = omega arith; are_scalars = refl }; within = fits }

pub cuts_one : (n c k : ℕ) → 0 < n → n ≤ k → IsScalar c → Cuts (well_formed n (c ∷ [])) k
cuts_one n c k some fits is = record { piece = record { some = some; few = omega arith; at_most_two = omega arith; are_scalars = and_from (scalar c) true is refl }; within = fits }

pub range_from : (lo hi c : ℕ) → is_in_range lo hi c ≡ true → IsInRange lo hi c
range_from lo hi c h = let parts = and_parts (nat_le lo c) (nat_le c hi) h in (leb-true lo c parts.0, leb-true c hi parts.1)

low : (t u : Bool) → t ≡ true → cond t true u ≡ true
low true u h = refl
low false u h = cc

high : (t u : Bool) → u ≡ true → cond t true u ≡ true
high true u h = refl
high false u h = h

pub scalar_from : (c : ℕ) → (c < 55296) ⊎ ((57344 ≤ c) × (c < 1114112)) → IsScalar c
scalar_from c (inl h) = low (nat_lt c 55296) (nat_le 57344 c && nat_lt c 1114112) (lt-ltb c 55296 h)
scalar_from c (inr h) = high (nat_lt c 55296) (nat_le 57344 c && nat_lt c 1114112) (and_from (nat_le 57344 c) (nat_lt c 1114112) (le-leb 57344 c h.0) (lt-ltb c 1114112 h.1))

pub second_low : (b c : ℕ) → second_min b ≤ c → 0x80 ≤ c
second_low b c h = grind (arith, nat_tests)

pub second_high : (b c : ℕ) → c ≤ second_max b → (c ≤ 0xBF) × (b ≡ 0xED → c ≤ 0x9F) × (b ≡ 0xF4 → c ≤ 0x8F)
second_high b c h = (grind (arith, nat_tests), λ e. grind (arith, nat_tests), λ e. grind (arith, nat_tests))

scalar_three : (b c d : ℕ) → 0xE0 ≤ b → b < 0xF0 → 0x80 ≤ c → c ≤ 0xBF → (b ≡ 0xED → c ≤ 0x9F) → 0x80 ≤ d → d ≤ 0xBF → IsScalar (scalar_of_three b c d)
scalar_three b c d lo hi c0 c1 ed d0 d1 = scalar_from (scalar_of_three b c d) (elim (cases_lt b 0xEE) [
  | inl before ↦ inl (elim (cases_lt b 0xED) [ inl less ↦ omega arith | inr most ↦ (let is : b ≡ 0xED = omega arith in omega (arith, ed is)) ])
  | inr from ↦ inr (omega arith, omega arith)
])

scalar_four : (b c d e : ℕ) → 0xF0 ≤ b → b ≤ 0xF4 → 0x80 ≤ c → c ≤ 0xBF → (b ≡ 0xF0 → 0x90 ≤ c) → (b ≡ 0xF4 → c ≤ 0x8F) → 0x80 ≤ d → d ≤ 0xBF → 0x80 ≤ e → e ≤ 0xBF → IsScalar (scalar_of_four b c d e)
scalar_four b c d e lo hi c0 c1 f0 f4 d0 d1 e0 e1 = scalar_from (scalar_of_four b c d e) (inr (
  elim (cases_lt b 0xF1) [ inl less ↦ (let is : b ≡ 0xF0 = omega arith in omega (arith, f0 is)) | inr more ↦ omega arith ],
  elim (cases_lt b 0xF4) [ inl less ↦ omega arith | inr most ↦ (let is : b ≡ 0xF4 = omega arith in omega (arith, f4 is)) ],
))

pub second_least : (b c : ℕ) → second_min b ≤ c → b ≡ 0xF0 → 0x90 ≤ c
second_least b c h e = grind (arith, nat_tests)

-- what the tests of the bytes before say
record Begins (b c : ℕ) : Type 0 where
  lead : IsInRange 0xE0 0xF4 b
  second : IsInRange (second_min b) (second_max b) c

cuts_three : (b c d : ℕ) (x : List ℕ) → Begins b c → 0xF0 ≤ b → IsInRange 0x80 0xBF d → Cuts (utf8_after_three b c d x) (3 + length x)
cuts_three b c d [] begins four third = cuts_malformed 3 3 (omega arith) (omega arith)
cuts_three b c d (e ∷ x) begins four third =
    let h = second_high b c begins.second.1 in
    cuts_cond (is_in_range 0x80 0xBF e) (well_formed 4 (scalar_of_four b c d e ∷ [])) (malformed 3) _
    (λ t. let fourth = range_from 0x80 0xBF e t in cuts_one 4 (scalar_of_four b c d e) _ (omega arith) (omega arith) (scalar_four b c d e four begins.lead.1 (second_low b c begins.second.0) h.0 (second_least b c begins.second.0) h.2 third.0 third.1 fourth.0 fourth.1))
    (λ t. cuts_malformed 3 _ (omega arith) (omega arith))

longer : (p : Piece) (n k : ℕ) → n ≤ k → Cuts p n → Cuts p k
longer p n k h s = record { piece = s.piece; within = omega (arith, h, s.within) }

cuts_two : (b c : ℕ) (x : List ℕ) → Begins b c → Cuts (utf8_after_two b c x) (2 + length x)
cuts_two b c [] begins = cuts_malformed 2 2 (omega arith) (omega arith)
cuts_two b c (d ∷ x) begins =
    let h = second_high b c begins.second.1 in
    cuts_cond (is_in_range 0x80 0xBF d) (cond (nat_lt b 0xF0) (well_formed 3 (scalar_of_three b c d ∷ [])) (utf8_after_three b c d x)) (malformed 2) _
    (λ t. let third = range_from 0x80 0xBF d t in
    cuts_cond (nat_lt b 0xF0) (well_formed 3 (scalar_of_three b c d ∷ [])) (utf8_after_three b c d x) _
    (λ u. cuts_one 3 (scalar_of_three b c d) _ (omega arith) (omega arith) (scalar_three b c d begins.lead.0 (ltb-true b 0xF0 u) (second_low b c begins.second.0) h.0 h.1 third.0 third.1))
    (λ u. longer (utf8_after_three b c d x) (3 + length x) _ (omega arith) (cuts_three b c d x begins (ltb-false b 0xF0 u) third)))
    (λ t. cuts_malformed 2 _ (omega arith) (omega arith))

cuts_lead : (b : ℕ) (x : List ℕ) → IsInRange 0xC2 0xF4 b → Cuts (utf8_after_lead b x) (1 + length x)
cuts_lead b [] lead = cuts_malformed 1 1 (omega arith) (omega arith)
cuts_lead b (c ∷ x) lead =
    cuts_cond (is_in_range (second_min b) (second_max b) c) (cond (nat_lt b 0xE0) (well_formed 2 (scalar_of_two b c ∷ [])) (utf8_after_two b c x)) (malformed 1) _
    (λ t. let second = range_from (second_min b) (second_max b) c t in
    let h = second_high b c second.1 in
    cuts_cond (nat_lt b 0xE0) (well_formed 2 (scalar_of_two b c ∷ [])) (utf8_after_two b c x) _
    (λ u. let less = ltb-true b 0xE0 u in cuts_one 2 (scalar_of_two b c) _ (omega arith) (omega arith) (scalar_from (scalar_of_two b c) (inl (omega (arith, less, h.0)))))
    (λ u. longer (utf8_after_two b c x) (2 + length x) _ (omega arith) (cuts_two b c x (record { lead = (ltb-false b 0xE0 u, lead.1); second = second }))))
    (λ t. cuts_malformed 1 _ (omega arith) (omega arith))

pub cuts_utf8 : (b : ℕ) (x : List ℕ) → Cuts (first_piece_utf8 (b ∷ x)) (1 + length x)
cuts_utf8 b x = cuts_cond (nat_lt b 0x80) (well_formed 1 (b ∷ [])) (cond (is_in_range 0xC2 0xF4 b) (utf8_after_lead b x) (malformed 1)) _
    (λ t. let less = ltb-true b 0x80 t in cuts_one 1 b _ (omega arith) (omega arith) (scalar_from b (inl (omega (arith, less)))))
    (λ t. cuts_cond (is_in_range 0xC2 0xF4 b) (utf8_after_lead b x) (malformed 1) _ (λ u. cuts_lead b x (range_from 0xC2 0xF4 b u)) (λ u. cuts_malformed 1 _ (omega arith) (omega arith)))

-- a scalar's bytes, then the pieces of what follows
pieces_utf8-scalar : (c : ℕ) (x : List ℕ) → IsScalar c → pieces_utf8 (encode_utf8 c ++ x) ≡ well_formed (len_utf8 c) (c ∷ []) ∷ pieces_utf8 x
pieces_utf8-scalar c x is =
    let some : 0 < length (encode_utf8 c ++ x) = omega (arith, length-append (encode_utf8 c) x, length-encode c, (len_utf8_bounds c).0) in
    pieces_by-first first_piece_utf8 cuts_utf8 (encode_utf8 c ++ x) some
    ∙ ap (λ p. p ∷ pieces_utf8 (drop (piece_len p) (encode_utf8 c ++ x))) (first_piece_utf8-encode c x is)
    ∙ ap (λ y. well_formed (len_utf8 c) (c ∷ []) ∷ pieces_utf8 y) (drop_at (encode_utf8 c) x (len_utf8 c) (length-encode c))

-- scalars in UTF-8 are their pieces, whatever follows
pub pieces_utf8-encodes : (t r : List ℕ) → all_scalars t ≡ true → pieces_utf8 (encode_utf8_all t ++ r) ≡ text_pieces t ++ pieces_utf8 r
pieces_utf8-encodes [] r h = refl
pieces_utf8-encodes (c ∷ t) r h =
    let parts = and_parts (scalar c) (all_scalars t) h in
    ap pieces_utf8 (append_assoc (encode_utf8 c) (encode_utf8_all t) r)
    ∙ pieces_utf8-scalar c (encode_utf8_all t ++ r) parts.0
    ∙ ap (λ ps. well_formed (len_utf8 c) (c ∷ []) ∷ ps) (pieces_utf8-encodes t r parts.1)

-- and so are those of a text
pub pieces_utf8-text : (text r : List ℕ) → IsUtf8 text → pieces_utf8 (text ++ r) ≡ text_pieces (chars text) ++ pieces_utf8 r
pieces_utf8-text text r utf8 = ap (λ x. pieces_utf8 (x ++ r)) (sym (encodes-chars text utf8)) ∙ pieces_utf8-encodes (chars text) r (scalars-chars text utf8)

-- text that is written in UTF-8 reads back
pub utf8_reads_back : (t : List ℕ) → all_scalars t ≡ true → pieces_utf8 (encode_utf8_all t) ≡ text_pieces t
utf8_reads_back t h = ap pieces_utf8 (sym (append-nil (encode_utf8_all t))) ∙ pieces_utf8-encodes t [] h ∙ ap (λ ps. text_pieces t ++ ps) (pieces_by-nil first_piece_utf8) ∙ append-nil (text_pieces t)
