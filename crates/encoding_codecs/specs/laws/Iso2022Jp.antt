-- The pieces of ISO-2022-JP, one at a time: the reader's parts and a look at the start of the bytes agree.
use Rattle.std.proofs.Common.{◌≡◌, ◌≢◌, ℕ, zero, suc, ◌+◌, ◌-◌, ◌*◌, ◌≤◌, ◌<◌, ◌==◌, ◌||◌, Bool, true, false, cond, nat_le, List, [], ◌∷◌, ◌++◌, length, drop, refl, sym, ◌∙◌, ap, subst, arith, lit<, lit≤, inl, inr, Option, None, Some, length-drop}
use Rattle.std.specs.Prelude.{IfSome, is_some, slice_index}
use Rattle.std.specs.Char.{IsScalar, len_utf8}
use Rattle.std.specs.Int.{is_in_range}
use Rattle.std.specs.Option.{unwrap_or}
use Rattle.std.proofs.lemmas.Bool.{cases_eq, eq-eqb, ne_eqb}
use Rattle.std.proofs.lemmas.Bool.Decides.{nat_tests}
use Rattle.std.proofs.lemmas.Str.{len_utf8_bounds}
use Rattle.encoding_mem.specs.Piece.{Piece, well_formed, malformed, piece_len, sizes, ArePieces, Cuts, piece_of_scalar}
use Rattle.encoding_mem.specs.Pieces.{pieces_in, pieces_by}
use Rattle.encoding_mem.specs.laws.Pieces.{AllCut, CutsEach, pieces_in-nil, pieces_in-cons, pieces_in-whole, pieces_in-are_pieces, pieces_by-nil, pieces_by-cons}
use Rattle.encoding_mem.specs.laws.Utf8.{cuts_malformed, cuts_one, range_from}
use Rattle.encoding_mem.specs.calls.Writing.{len_utf16}
use Rattle.encoding_tables.specs.Lookups.{AreEntries, value_of}
use Rattle.encoding_codecs.specs.Iso2022Jp.{escape_of, escape_at, ascii_piece, roman_piece, katakana_piece, jis_pair_pointer, pair_piece, first_text_piece, join_byte, cut_at_escapes, escape_piece, pieces_of_part, pieces_of_parts, pieces_in_mode}
use Rattle.encoding_codecs.specs.laws.Iso2022JpDecide.{escape_first_piece, jis_pair_first_piece, char_first_piece, first_piece_iso_2022_jp, mode_after}
use Rattle.encoding_codecs.specs.declared.iso_2022_jp_decoder.Mode.{Mode}
use Rattle.encoding_codecs.specs.declared.iso_2022_jp_decoder.Mode.TheVariants.{Ascii, Roman, Katakana, Jis}

-- ---- each first piece is some of the bytes, and gives one scalar at most

-- A piece of k bytes at most. Three bytes of UTF-8, or a unit of UTF-16, are room for each of its bytes.
abbrev pub IsSmall : Piece → ℕ → Type 0
IsSmall (malformed n) k = (0 < n) × (n ≤ k) × (n ≤ 4)
IsSmall (well_formed n []) k = (0 < n) × (n ≤ k)
IsSmall (well_formed n (c ∷ [])) k = (0 < n) × (n ≤ k) × IsScalar c × (len_utf8 c ≤ 3 * n) × (len_utf16 c ≤ n)
IsSmall (well_formed n (c ∷ d ∷ cs)) k = ⊥

small_if : (t : Bool) (p q : Piece) (k : ℕ) → (t ≡ true → IsSmall p k) → (t ≡ false → IsSmall q k) → IsSmall (cond t p q) k
small_if true p q k h j = h refl
small_if false p q k h j = j refl

small_malformed : (n k : ℕ) → 0 < n → n ≤ k → n ≤ 4 → IsSmall (malformed n) k
small_malformed n k some fits few = (some, fits, few)

small_one : (c k : ℕ) → 1 ≤ k → c < 0xD800 → IsSmall (well_formed 1 (c ∷ [])) k
small_one c k fits low = (lit< tt, fits, grind (arith, nat_tests), grind (arith, nat_tests), grind (arith, nat_tests))

small_high : (c k : ℕ) → 1 ≤ k → 0xE000 ≤ c → c < 0x10000 → IsSmall (well_formed 1 (c ∷ [])) k
small_high c k fits low high = (lit< tt, fits, grind (arith, nat_tests), grind (arith, nat_tests), grind (arith, nat_tests))

small_ascii : (b k : ℕ) → 1 ≤ k → IsSmall (ascii_piece b) k
small_ascii b k fits = small_if (nat_le 0x80 b || b == 0x0E || b == 0x0F || b == 0x1B) (malformed 1) (well_formed 1 (b ∷ [])) k
    (λ t. small_malformed 1 k (lit< tt) fits (lit≤ tt))
    (λ t. small_one b k fits (grind (arith, nat_tests)))

small_roman : (b k : ℕ) → 1 ≤ k → IsSmall (roman_piece b) k
small_roman b k fits = small_if (b == 0x5C) (well_formed 1 (0xA5 ∷ [])) _ k
    (λ t. small_one 0xA5 k fits (lit< tt))
    (λ t. small_if (b == 0x7E) (well_formed 1 (0x203E ∷ [])) (ascii_piece b) k (λ u. small_one 0x203E k fits (lit< tt)) (λ u. small_ascii b k fits))

small_katakana : (b k : ℕ) → 1 ≤ k → IsSmall (katakana_piece b) k
small_katakana b k fits = small_if (is_in_range 0x21 0x5F b) (well_formed 1 ((0xFF61 + (b - 0x21)) ∷ [])) (malformed 1) k
    (λ t. let r = range_from 0x21 0x5F b t in small_high (0xFF61 + (b - 0x21)) k fits (omega arith) (omega (arith, r.1)))
    (λ t. small_malformed 1 k (lit< tt) fits (lit≤ tt))

small_entry : (o : Option ℕ) (k : ℕ) → 2 ≤ k → IfSome o IsScalar → IsSmall (piece_of_scalar 2 o) k
small_entry None k fits scalar = small_malformed 2 k (lit< tt) fits (lit≤ tt)
small_entry (Some c) k fits scalar = (lit< tt, fits, scalar, omega (arith, (len_utf8_bounds c).1), grind (arith, nat_tests))

scalar_of_value : (flat : List ℕ) → AreEntries flat → (p : ℕ) → IfSome (value_of flat p) IsScalar
scalar_of_value flat scalars p = elim (cases_eq (slice_index flat p) 0) [
  | inl none ↦ rw (eq-eqb (slice_index flat p) 0 none) tt
  | inr mapped ↦ rw (ne_eqb (slice_index flat p) 0 mapped) (scalars p mapped)
]

small_second : (jis0208 : List ℕ) → AreEntries jis0208 → (b c : ℕ) (x : List ℕ) → IsSmall (pair_piece jis0208 b (c ∷ x)) (2 + length x)
small_second jis0208 scalars b c x = small_if (is_in_range 0x21 0x7E c) (piece_of_scalar 2 (value_of jis0208 (jis_pair_pointer b c))) (malformed 2) _
    (λ t. small_entry (value_of jis0208 (jis_pair_pointer b c)) _ (omega arith) (scalar_of_value jis0208 scalars (jis_pair_pointer b c)))
    (λ t. small_malformed 2 _ (lit< tt) (omega arith) (lit≤ tt))

small_pair : (jis0208 : List ℕ) → AreEntries jis0208 → (b : ℕ) (x : List ℕ) → IsSmall (jis_pair_first_piece jis0208 b x) (1 + length x)
small_pair jis0208 scalars b [] = small_malformed 1 1 (lit< tt) (lit≤ tt) (lit≤ tt)
small_pair jis0208 scalars b (c ∷ x) = small_if (c == 0x1B) (malformed 1) _ _
    (λ t. small_malformed 1 _ (lit< tt) (omega arith) (lit≤ tt))
    (λ t. let k : 2 + length x ≡ 1 + length (c ∷ x) = omega arith in subst (IsSmall (pair_piece jis0208 b (c ∷ x))) k (small_second jis0208 scalars b c x))

small_char : (jis0208 : List ℕ) → AreEntries jis0208 → (m : Mode) (b : ℕ) (x : List ℕ) → IsSmall (char_first_piece jis0208 m b x) (1 + length x)
small_char jis0208 scalars Ascii b x = small_ascii b _ (omega arith)
small_char jis0208 scalars Roman b x = small_roman b _ (omega arith)
small_char jis0208 scalars Katakana b x = small_katakana b _ (omega arith)
small_char jis0208 scalars Jis b x = small_if (is_in_range 0x21 0x7E b) (jis_pair_first_piece jis0208 b x) (malformed 1) _
    (λ t. small_pair jis0208 scalars b x)
    (λ t. small_malformed 1 _ (lit< tt) (omega arith) (lit≤ tt))

-- an escape has three bytes
small_escape : (x : List ℕ) → is_some (escape_at x) ≡ true → IsSmall (escape_first_piece (drop 3 x)) (length x)
small_escape [] e = cc
small_escape (a ∷ []) e = cc
small_escape (a ∷ b ∷ []) e = cc
small_escape (a ∷ b ∷ c ∷ x) e = small_if (is_some (escape_at x)) (malformed 3) (well_formed 3 []) _
    (λ t. small_malformed 3 _ (lit< tt) (omega arith) (lit≤ tt))
    (λ t. (lit< tt, omega arith))

pub small_prefix : (jis0208 : List ℕ) → AreEntries jis0208 → (m : Mode) (b : ℕ) (x : List ℕ) → IsSmall (first_piece_iso_2022_jp jis0208 m (b ∷ x)) (1 + length x)
small_prefix jis0208 scalars m b x = small_if (is_some (escape_at (b ∷ x))) (escape_first_piece (drop 3 (b ∷ x))) (char_first_piece jis0208 m b x) _
    (λ t. let k : length (b ∷ x) ≡ 1 + length x = omega arith in subst (IsSmall (escape_first_piece (drop 3 (b ∷ x)))) k (small_escape (b ∷ x) t))
    (λ t. small_char jis0208 scalars m b x)

cuts_small : (p : Piece) (k : ℕ) → IsSmall p k → Cuts p k
cuts_small (malformed n) k s = cuts_malformed n k s.0 s.1
cuts_small (well_formed n []) k s = record { piece = record { some = s.0; few = omega arith; at_most_two = omega arith; are_scalars = refl }; within = s.1 }
cuts_small (well_formed n (c ∷ [])) k s = cuts_one n c k s.0 s.1 s.2
cuts_small (well_formed n (c ∷ d ∷ cs)) k s = absurd s

pub cuts_iso_2022_jp : (jis0208 : List ℕ) → AreEntries jis0208 → AllCut (first_piece_iso_2022_jp jis0208)
cuts_iso_2022_jp jis0208 scalars m b x = cuts_small (first_piece_iso_2022_jp jis0208 m (b ∷ x)) (1 + length x) (small_prefix jis0208 scalars m b x)

-- ---- the parts of bytes

-- what comes before the next 1B, and what comes from there
head_of : List ℕ → List ℕ
head_of [] = []
head_of (b ∷ x) = cond (b == 0x1B) [] (b ∷ head_of x)

tail_of : List ℕ → List ℕ
tail_of [] = []
tail_of (b ∷ x) = cond (b == 0x1B) (b ∷ x) (tail_of x)

head_other : (b : ℕ) (x : List ℕ) → b ≢ 0x1B → head_of (b ∷ x) ≡ b ∷ head_of x
unfolding head_of
head_other b x n = rw (ne_eqb b 0x1B n) refl

tail_other : (b : ℕ) (x : List ℕ) → b ≢ 0x1B → tail_of (b ∷ x) ≡ tail_of x
unfolding tail_of
tail_other b x n = rw (ne_eqb b 0x1B n) refl

head_1B : (b : ℕ) (x : List ℕ) → b ≡ 0x1B → head_of (b ∷ x) ≡ []
unfolding head_of
head_1B b x e = rw (eq-eqb b 0x1B e) refl

tail_1B : (b : ℕ) (x : List ℕ) → b ≡ 0x1B → tail_of (b ∷ x) ≡ b ∷ x
unfolding tail_of
tail_1B b x e = rw (eq-eqb b 0x1B e) refl

-- the first part is a byte and what comes before the next 1B
cut_at_escapes-cons : (b : ℕ) (x : List ℕ) → cut_at_escapes (b ∷ x) ≡ (b ∷ head_of x) ∷ cut_at_escapes (tail_of x)
unfolding head_of tail_of
cut_at_escapes-cons b [] = refl
cut_at_escapes-cons b (c ∷ x) = ap (join_byte b) (cut_at_escapes-cons c x) ∙ elim (cases_eq c 0x1B) [
  | inl is ↦ rw (eq-eqb c 0x1B is) (ap (λ l. (b ∷ []) ∷ l) (sym (cut_at_escapes-cons c x)))
  | inr other ↦ rw (ne_eqb c 0x1B other) refl
]

-- an escape has no second 1B
escape_of-second : (a c : ℕ) → escape_of a 0x1B c ≡ None
escape_of-second a c = never (a == 0x1B)
  where
    never : (t : Bool) → cond {A = Option Mode} t None None ≡ None
    never true = refl
    never false = refl

escape_of-third : (a b : ℕ) → escape_of a b 0x1B ≡ None
escape_of-third a b = never (a == 0x1B) (b == 0x28) (b == 0x24)
  where
    never : (t u v : Bool) → cond {A = Option Mode} t (cond u None (cond v None None)) None ≡ None
    never false u v = refl
    never true true v = refl
    never true false true = refl
    never true false false = refl

-- so it stands in one part
escape_in-part : (b : ℕ) (x : List ℕ) → escape_at (b ∷ head_of x) ≡ escape_at (b ∷ x)
unfolding head_of
escape_in-part b [] = refl
escape_in-part b (c ∷ []) = if_short (c == 0x1B)
  where
    if_short : (t : Bool) → escape_at (b ∷ cond t [] (c ∷ [])) ≡ None
    if_short true = refl
    if_short false = refl
escape_in-part b (c ∷ d ∷ x) = elim (cases_eq c 0x1B) [
  | inl second ↦ rw (head_1B c (d ∷ x) second) (rw second (sym (escape_of-second b d)))
  | inr free ↦ rw (head_other c (d ∷ x) free) (elim (cases_eq d 0x1B) [
    | inl third ↦ rw (head_1B d x third) (rw third (sym (escape_of-third b c)))
    | inr frees ↦ rw (head_other d x frees) refl
  ])
]

-- bytes that do not begin with 1B do not begin with an escape
pub no_escape_at : (b : ℕ) (x : List ℕ) → b ≢ 0x1B → escape_at (b ∷ x) ≡ None
no_escape_at b [] n = refl
no_escape_at b (c ∷ []) n = refl
no_escape_at b (c ∷ d ∷ x) n = rw (ne_eqb b 0x1B n) refl

-- ---- the two agree

-- what is in the first part, and then the other parts
parts_of_text : (jis0208 : List ℕ) (m : Mode) (x : List ℕ)
    → pieces_of_parts jis0208 m (cut_at_escapes x) ≡ pieces_by (first_text_piece jis0208 m) (head_of x) ++ pieces_of_parts jis0208 m (cut_at_escapes (tail_of x))
unfolding head_of tail_of
parts_of_text jis0208 m [] = sym (ap (λ l. l ++ []) (pieces_by-nil (first_text_piece jis0208 m)))
parts_of_text jis0208 m (b ∷ x) = elim (cases_eq b 0x1B) [
  | inl is ↦ rw (head_1B b x is, tail_1B b x is, pieces_by-nil (first_text_piece jis0208 m)) refl
  | inr other ↦ rw (head_other b x other, tail_other b x other, cut_at_escapes-cons b x, no_escape_at b (head_of x) other) refl
]

-- an escape, by the bytes after it, is that of its part before the others
no_more : (n : ℕ) → (suc (suc (suc (suc n))) == 3) ≡ false
no_more n = ne_eqb (suc (suc (suc (suc n)))) 3 (λ e. absurd (omega (arith, e)))

escape_agrees : (a b c : ℕ) (x : List ℕ) → escape_piece (a ∷ b ∷ c ∷ head_of x) (cut_at_escapes (tail_of x)) ≡ escape_first_piece x
unfolding head_of tail_of
escape_agrees a b c [] = refl
escape_agrees a b c (d ∷ x) = elim (cases_eq d 0x1B) [
  | inl is ↦ rw (head_1B d x is, tail_1B d x is, cut_at_escapes-cons d x, escape_in-part d x) refl
  | inr other ↦ rw (head_other d x other, no_escape_at d x other, no_more (length (head_of x))) refl
]

-- text within a part
small_text : (jis0208 : List ℕ) → AreEntries jis0208 → (b : ℕ) (x : List ℕ) → IsSmall (pair_piece jis0208 b x) (1 + length x)
small_text jis0208 scalars b [] = small_malformed 1 1 (lit< tt) (lit≤ tt) (lit≤ tt)
small_text jis0208 scalars b (c ∷ x) = let k : 2 + length x ≡ 1 + length (c ∷ x) = omega arith in subst (IsSmall (pair_piece jis0208 b (c ∷ x))) k (small_second jis0208 scalars b c x)

cuts_text : (jis0208 : List ℕ) → AreEntries jis0208 → (m : Mode) → CutsEach (first_text_piece jis0208 m)
cuts_text jis0208 scalars Ascii b x = cuts_small (ascii_piece b) _ (small_ascii b _ (omega arith))
cuts_text jis0208 scalars Roman b x = cuts_small (roman_piece b) _ (small_roman b _ (omega arith))
cuts_text jis0208 scalars Katakana b x = cuts_small (katakana_piece b) _ (small_katakana b _ (omega arith))
cuts_text jis0208 scalars Jis b x = cuts_small (first_text_piece jis0208 Jis (b ∷ x)) _ (small_if (is_in_range 0x21 0x7E b) (pair_piece jis0208 b x) (malformed 1) _
    (λ t. small_text jis0208 scalars b x)
    (λ t. small_malformed 1 _ (lit< tt) (omega arith) (lit≤ tt)))

-- after n bytes, what is left of the part of b and x and the other parts are what is left of b and x
IsLeft : List ℕ → Mode → ℕ → List ℕ → ℕ → Type 0
IsLeft jis0208 m b x n = pieces_by (first_text_piece jis0208 m) (drop n (b ∷ head_of x)) ++ pieces_of_parts jis0208 m (cut_at_escapes (tail_of x))
    ≡ pieces_of_parts jis0208 m (cut_at_escapes (drop n (b ∷ x)))

left_one : (jis0208 : List ℕ) (m : Mode) (b : ℕ) (x : List ℕ) (n : ℕ) → n ≡ 1 → IsLeft jis0208 m b x n
unfolding IsLeft
left_one jis0208 m b x n e = rw e (sym (parts_of_text jis0208 m x))

left_two : (jis0208 : List ℕ) (m : Mode) (b c : ℕ) (x : List ℕ) (n : ℕ) → c ≢ 0x1B → n ≡ 2 → IsLeft jis0208 m b (c ∷ x) n
unfolding IsLeft
left_two jis0208 m b c x n other e = rw (e, head_other c x other, tail_other c x other) (sym (parts_of_text jis0208 m x))

-- bytes whose first piece is p
Begins : List ℕ → Mode → List ℕ → Piece → Mode → Type 0
Begins jis0208 m x p m' = pieces_of_parts jis0208 m (cut_at_escapes x) ≡ p ∷ pieces_of_parts jis0208 m' (cut_at_escapes (drop (piece_len p) x))

begins_text : (jis0208 : List ℕ) → AreEntries jis0208 → (m : Mode) (b : ℕ) (x : List ℕ) (p : Piece) → escape_at (b ∷ x) ≡ None
    → first_text_piece jis0208 m (b ∷ head_of x) ≡ p → IsLeft jis0208 m b x (piece_len p) → Begins jis0208 m (b ∷ x) p m
unfolding IsLeft Begins
begins_text jis0208 scalars m b x p none first left =
    rw (cut_at_escapes-cons b x, escape_in-part b x, none)
    (ap (λ ps. ps ++ pieces_of_parts jis0208 m (cut_at_escapes (tail_of x))) (pieces_by-cons (first_text_piece jis0208 m) (cuts_text jis0208 scalars m) b (head_of x))
    ∙ rw first (ap (λ ps. p ∷ ps) left))

size_either : (t : Bool) (p q : Piece) → piece_len p ≡ 1 → piece_len q ≡ 1 → piece_len (cond t p q) ≡ 1
size_either true p q h k = h
size_either false p q h k = k

size_ascii : (b : ℕ) → piece_len (ascii_piece b) ≡ 1
size_ascii b = size_either (nat_le 0x80 b || b == 0x0E || b == 0x0F || b == 0x1B) (malformed 1) (well_formed 1 (b ∷ [])) refl refl

size_roman : (b : ℕ) → piece_len (roman_piece b) ≡ 1
size_roman b = size_either (b == 0x5C) (well_formed 1 (0xA5 ∷ [])) _ refl (size_either (b == 0x7E) (well_formed 1 (0x203E ∷ [])) (ascii_piece b) refl (size_ascii b))

size_katakana : (b : ℕ) → piece_len (katakana_piece b) ≡ 1
size_katakana b = size_either (is_in_range 0x21 0x5F b) (well_formed 1 ((0xFF61 + (b - 0x21)) ∷ [])) (malformed 1) refl refl

size_pair : (t : Bool) (o : Option ℕ) → piece_len (cond t (piece_of_scalar 2 o) (malformed 2)) ≡ 2
size_pair true None = refl
size_pair true (Some c) = refl
size_pair false o = refl

left_pair : (jis0208 : List ℕ) (b c : ℕ) (x : List ℕ) (t : Bool) (p : Piece) → c ≢ 0x1B → piece_len p ≡ 2 → IsLeft jis0208 Jis b (c ∷ x) (piece_len (cond t p (malformed 1)))
left_pair jis0208 b c x true p other two = left_two jis0208 Jis b c x (piece_len p) other two
left_pair jis0208 b c x false p other two = left_one jis0208 Jis b (c ∷ x) 1 refl

begins_char : (jis0208 : List ℕ) → AreEntries jis0208 → (m : Mode) (b : ℕ) (x : List ℕ) → escape_at (b ∷ x) ≡ None → Begins jis0208 m (b ∷ x) (char_first_piece jis0208 m b x) m
unfolding head_of
begins_char jis0208 scalars Ascii b x none = begins_text jis0208 scalars Ascii b x (ascii_piece b) none refl (left_one jis0208 Ascii b x _ (size_ascii b))
begins_char jis0208 scalars Roman b x none = begins_text jis0208 scalars Roman b x (roman_piece b) none refl (left_one jis0208 Roman b x _ (size_roman b))
begins_char jis0208 scalars Katakana b x none = begins_text jis0208 scalars Katakana b x (katakana_piece b) none refl (left_one jis0208 Katakana b x _ (size_katakana b))
begins_char jis0208 scalars Jis b [] none =
    begins_text jis0208 scalars Jis b [] _ none refl (left_one jis0208 Jis b [] _ (size_either (is_in_range 0x21 0x7E b) (malformed 1) (malformed 1) refl refl))
begins_char jis0208 scalars Jis b (c ∷ x) none = elim (cases_eq c 0x1B) [
  | inl is ↦ rw (eq-eqb c 0x1B is)
      (begins_text jis0208 scalars Jis b (c ∷ x) (cond (is_in_range 0x21 0x7E b) (malformed 1) (malformed 1)) none (rw (head_1B c x is) refl) (left_one jis0208 Jis b (c ∷ x) _ (size_either (is_in_range 0x21 0x7E b) (malformed 1) (malformed 1) refl refl)))
  | inr other ↦ rw (ne_eqb c 0x1B other)
      (begins_text jis0208 scalars Jis b (c ∷ x) (cond (is_in_range 0x21 0x7E b) (pair_piece jis0208 b (c ∷ x)) (malformed 1)) none (rw (head_other c x other) refl)
      (left_pair jis0208 b c x (is_in_range 0x21 0x7E b) (pair_piece jis0208 b (c ∷ x)) other (size_pair (is_in_range 0x21 0x7E c) (value_of jis0208 (jis_pair_pointer b c)))))
]

-- what begins with a whole escape
size_escape : (x : List ℕ) → piece_len (escape_first_piece x) ≡ 3
size_escape x = either (is_some (escape_at x))
  where
    either : (t : Bool) → piece_len (cond t (malformed 3) (well_formed 3 [])) ≡ 3
    either true = refl
    either false = refl

begins_escape : (jis0208 : List ℕ) (m own : Mode) (a b c : ℕ) (x : List ℕ) → escape_of a b c ≡ Some own → Begins jis0208 m (a ∷ b ∷ c ∷ x) (escape_first_piece x) own
unfolding Begins
begins_escape jis0208 m own a b c x e =
    let second : b ≢ 0x1B = λ is. let none : escape_of a b c ≡ None = rw is (escape_of-second a c) in absurd (clash none e) in
    let third : c ≢ 0x1B = λ is. let none : escape_of a b c ≡ None = rw is (escape_of-third a b) in absurd (clash none e) in
    let part : cut_at_escapes (a ∷ b ∷ c ∷ x) ≡ (a ∷ b ∷ c ∷ head_of x) ∷ cut_at_escapes (tail_of x) = rw (cut_at_escapes-cons a (b ∷ c ∷ x), head_other b (c ∷ x) second, head_other c x third, tail_other b (c ∷ x) second, tail_other c x third) refl in
    ap (pieces_of_parts jis0208 m) part
    ∙ own_mode (escape_of a b c) e
    ∙ rw (escape_agrees a b c x, size_escape x) (ap (λ ps. escape_first_piece x ∷ ps) (sym (parts_of_text jis0208 own x)))
  where
    clash : {o : Option Mode} → o ≡ None → o ≡ Some own → ⊥
    clash e f = cc

    own_mode : (o : Option Mode) → o ≡ Some own
        → pieces_of_part jis0208 m o (a ∷ b ∷ c ∷ head_of x) (cut_at_escapes (tail_of x)) ++ pieces_of_parts jis0208 (unwrap_or o m) (cut_at_escapes (tail_of x))
        ≡ escape_piece (a ∷ b ∷ c ∷ head_of x) (cut_at_escapes (tail_of x)) ∷ (pieces_by (first_text_piece jis0208 own) (head_of x) ++ pieces_of_parts jis0208 own (cut_at_escapes (tail_of x)))
    own_mode o is = rw is refl

begins_by : (jis0208 : List ℕ) → AreEntries jis0208 → (m : Mode) (b : ℕ) (x : List ℕ) (o : Option Mode) → escape_at (b ∷ x) ≡ o
    → Begins jis0208 m (b ∷ x) (cond (is_some o) (escape_first_piece (drop 3 (b ∷ x))) (char_first_piece jis0208 m b x)) (unwrap_or o m)
begins_by jis0208 scalars m b x None e = begins_char jis0208 scalars m b x e
begins_by jis0208 scalars m b [] (Some own) e = absurd (cc)
begins_by jis0208 scalars m b (c ∷ []) (Some own) e = absurd (cc)
begins_by jis0208 scalars m b (c ∷ d ∷ x) (Some own) e = begins_escape jis0208 m own b c d x e

agrees_within : (jis0208 : List ℕ) → AreEntries jis0208 → (n : ℕ) (m : Mode) (x : List ℕ) → length x ≤ n → pieces_in (first_piece_iso_2022_jp jis0208) mode_after m x ≡ pieces_of_parts jis0208 m (cut_at_escapes x)
unfolding Begins
agrees_within jis0208 scalars n m [] h = pieces_in-nil (first_piece_iso_2022_jp jis0208) mode_after m
agrees_within jis0208 scalars zero m (b ∷ x) h = absurd (omega (arith, h))
agrees_within jis0208 scalars (suc n) m (b ∷ x) h =
    let p : Piece = first_piece_iso_2022_jp jis0208 m (b ∷ x) in
    let some : 0 < piece_len p = (cuts_iso_2022_jp jis0208 scalars m b x).piece.some in
    let len : length (drop (piece_len p) (b ∷ x)) ≡ length (b ∷ x) - piece_len p = length-drop (piece_len p) (b ∷ x) in
    pieces_in-cons (first_piece_iso_2022_jp jis0208) mode_after (cuts_iso_2022_jp jis0208 scalars) m b x
    ∙ ap (λ ps. p ∷ ps) (agrees_within jis0208 scalars n (mode_after m (b ∷ x)) (drop (piece_len p) (b ∷ x)) (omega (arith, len, some, h)))
    ∙ sym (begins_by jis0208 scalars m b x (escape_at (b ∷ x)) refl)

-- The pieces of the parts are those that looks at the start of the bytes give, one after another.
pub agrees : (jis0208 : List ℕ) → AreEntries jis0208 → (m : Mode) (x : List ℕ) → pieces_in (first_piece_iso_2022_jp jis0208) mode_after m x ≡ pieces_in_mode jis0208 m x
unfolding pieces_in_mode
agrees jis0208 scalars m x = agrees_within jis0208 scalars (length x) m x (omega arith)

pub iso_2022_jp_whole : (jis0208 : List ℕ) → AreEntries jis0208 → (m : Mode) (x : List ℕ) → sizes (pieces_in_mode jis0208 m x) ≡ length x
iso_2022_jp_whole jis0208 scalars m x = subst (λ ps. sizes ps ≡ length x) (agrees jis0208 scalars m x) (pieces_in-whole (first_piece_iso_2022_jp jis0208) mode_after (cuts_iso_2022_jp jis0208 scalars) m x)

pub iso_2022_jp_are_pieces : (jis0208 : List ℕ) → AreEntries jis0208 → (m : Mode) (x : List ℕ) → ArePieces (pieces_in_mode jis0208 m x)
iso_2022_jp_are_pieces jis0208 scalars m x = subst ArePieces (agrees jis0208 scalars m x) (pieces_in-are_pieces (first_piece_iso_2022_jp jis0208) mode_after (cuts_iso_2022_jp jis0208 scalars) m x)

pub iso_2022_jp_ends : (jis0208 : List ℕ) (m : Mode) → pieces_in_mode jis0208 m [] ≡ []
unfolding pieces_in_mode
iso_2022_jp_ends jis0208 m = refl
