-- What Shift_JIS writes for a scalar reads back as it, or as something else whatever follows: no table is asked.
use Rattle.std.proofs.Common.{◌≡◌, ℕ, ◌+◌, ◌/◌, ◌<◌, ◌≤◌, ◌⊎◌, true, false, List, [], ◌∷◌, nat_lt, refl, ap, arith, lit<, Option, None, Some, inl, inr}
use Rattle.std.specs.Prelude.{◌==◌}
use Rattle.std.specs.Int.{is_in_range}
use Rattle.std.specs.Option.{option_map, option_or}
use Rattle.std.proofs.lemmas.Bool.{cases_lt, lt-ltb, le-ltb, ltb-true, ltb-false}
use Rattle.std.proofs.lemmas.Bool.Decides.{nat_tests}
use Rattle.encoding_mem.specs.declared.codec.reference.Reference.{Reference}
use Rattle.encoding_mem.specs.Coding.{spelled, form_of_bytes}
use Rattle.encoding_mem.specs.Piece.{well_formed}
use Rattle.encoding_mem.specs.laws.Utf8.{range_from}
use Rattle.encoding_mem.specs.Steps.{Returns, Strays, StepsReadBack}
use Rattle.encoding_tables.specs.Lookups.{value_of, first_pointer}
use Rattle.encoding_tables.specs.laws.OptionCases.{option_or_some}
use Rattle.encoding_codecs.specs.JisForms.{is_katakana_byte, katakana_of_byte, is_katakana, byte_of_katakana, folded}
use Rattle.encoding_codecs.specs.laws.JisSteps.{choose, either_of_entry, either_of_none, pointer_before}
use Rattle.encoding_codecs.specs.ShiftJis.{is_shift_jis_lead, is_shift_jis_trail, shift_jis_first, shift_jis_pair, shift_jis_pair_pointer, index_shift_jis_pointer, shift_jis_lead, shift_jis_trail, shift_jis_pair_bytes, shift_jis_form}
use Rattle.encoding_codecs.specs.laws.Steps.{IsEither, one_either, by_piece, reference_strays}
use Rattle.encoding_codecs.specs.TwoByte.{after_bytes, piece_of_first, piece_of_trail}
use Rattle.encoding_codecs.specs.laws.TwoByte.{lead_ascii}
use Rattle.encoding_codecs.specs.declared.lead_byte_rule.FirstByte.TheVariants.{Alone, Lead}
use Rattle.encoding_codecs.specs.declared.two_byte.PairValue.{PairValue}
use Rattle.encoding_codecs.specs.declared.two_byte.PairValue.TheVariants.{NoChar}
use Rattle.encoding_codecs.specs.laws.FirstPieces.{first_piece_shift_jis}

-- bytes of Shift_JIS read as the character c alone, or begin with a piece that is not c
abbrev Steps : List ℕ → ℕ → List ℕ → Type 0
Steps jis0208 c bytes = Returns (first_piece_shift_jis jis0208) bytes c ⊎ Strays (first_piece_shift_jis jis0208) bytes c

-- ---- one byte

itself : (jis0208 : List ℕ) (b : ℕ) (y : List ℕ) → b < 0x80 → first_piece_shift_jis jis0208 (b ∷ y) ≡ well_formed 1 (b ∷ [])
itself jis0208 = lead_ascii shift_jis_first (λ a. after_bytes 1 (shift_jis_pair jis0208 a))

ascii_steps : (jis0208 : List ℕ) (c b : ℕ) → b < 0x80 → Steps jis0208 c (b ∷ [])
ascii_steps jis0208 c b low =
    by_piece (first_piece_shift_jis jis0208) (b ∷ []) c (well_formed 1 (b ∷ [])) (λ y. itself jis0208 b y low) (one_either 1 c b)

alone_steps : (jis0208 : List ℕ) (c b d : ℕ) → 0x80 ≤ b → shift_jis_first b ≡ Alone d → Steps jis0208 c (b ∷ [])
alone_steps jis0208 c b d high is =
    by_piece (first_piece_shift_jis jis0208) (b ∷ []) c (well_formed 1 (d ∷ []))
    (λ y. rw (le-ltb b 0x80 high) (ap (λ o. piece_of_first o (after_bytes 1 (shift_jis_pair jis0208 b) y)) is))
    (one_either 1 c d)

katakana_first : (b : ℕ) → 0xA1 ≤ b → b ≤ 0xDF → shift_jis_first b ≡ Alone (katakana_of_byte b)
katakana_first b from to =
    let no_control : (b == 0x80) ≡ false = grind (arith, nat_tests) in
    let no_lead : is_shift_jis_lead b ≡ false = grind (arith, nat_tests) in
    let one : is_katakana_byte b ≡ true = grind (arith, nat_tests) in
    rw (no_control, no_lead, one) refl

katakana_steps : (jis0208 : List ℕ) (c : ℕ) → is_katakana c ≡ true → Steps jis0208 c (byte_of_katakana c ∷ [])
katakana_steps jis0208 c is =
    let range = range_from 0xFF61 0xFF9F c is in
    let from : 0xA1 ≤ byte_of_katakana c = omega arith in
    let to : byte_of_katakana c ≤ 0xDF = omega (arith, range.0, range.1) in
    alone_steps jis0208 c (byte_of_katakana c) _ (omega arith) (katakana_first (byte_of_katakana c) from to)

low_steps : (jis0208 : List ℕ) (c : ℕ) → c < 0x81 → Steps jis0208 c (c ∷ [])
low_steps jis0208 c low = elim (cases_lt c 0x80) [
  | inl ascii ↦ ascii_steps jis0208 c c ascii
  | inr control ↦
      let is : c ≡ 0x80 = omega arith in
      alone_steps jis0208 c c 0x80 control (ap shift_jis_first is)
]

-- ---- two bytes

lead_is : (p : ℕ) → p < 11280 → (0x80 ≤ shift_jis_lead p) × (shift_jis_first (shift_jis_lead p) ≡ Lead)
lead_is p below = elim (cases_lt (p / 188) 31) [
  | inl low ↦ rw (lt-ltb (p / 188) 31 low) (omega arith, leads (0x81 + p / 188) (omega arith) (in_first (0x81 + p / 188) (omega arith) (omega arith)))
  | inr high ↦ rw (le-ltb (p / 188) 31 high) (omega arith, leads (0xC1 + p / 188) (omega arith) (in_second (0xC1 + p / 188) (omega arith) (omega arith)))
]
  where
    in_first : (a : ℕ) → 0x81 ≤ a → a ≤ 0x9F → is_shift_jis_lead a ≡ true
    in_first a from to = grind (arith, nat_tests)

    in_second : (a : ℕ) → 0xE0 ≤ a → a ≤ 0xFC → is_shift_jis_lead a ≡ true
    in_second a from to = grind (arith, nat_tests)

    leads : (a : ℕ) → 0x81 ≤ a → is_shift_jis_lead a ≡ true → shift_jis_first a ≡ Lead
    leads a from is = let no_control : (a == 0x80) ≡ false = grind (arith, nat_tests) in rw (no_control, is) refl

-- the piece of a lead and the byte b is the character c, or another or a malformed one
abbrev OfPair : (c b : ℕ) → PairValue → Type 0
OfPair c b v = IsEither 2 c (piece_of_trail 1 v b)

pair_either : (jis0208 : List ℕ) (c a b : ℕ) → IsEither 2 c (piece_of_trail 1 (shift_jis_pair jis0208 a b) b)
pair_either jis0208 c a b =
    choose (OfPair c b) (is_shift_jis_trail b) _ NoChar
    (λ _. choose (OfPair c b) (is_in_range 8836 10715 (shift_jis_pair_pointer a b)) _ _
    (λ _. one_either 2 c _)
    (λ _. either_of_entry c b (value_of jis0208 (shift_jis_pair_pointer a b))))
    (λ _. either_of_none c b)

pair_steps : (jis0208 : List ℕ) (c p : ℕ) → p < 11280 → Steps jis0208 c (shift_jis_pair_bytes p)
pair_steps jis0208 c p below =
    let lead = lead_is p below in
    by_piece (first_piece_shift_jis jis0208) (shift_jis_pair_bytes p) c (piece_of_trail 1 (shift_jis_pair jis0208 (shift_jis_lead p) (shift_jis_trail p)) (shift_jis_trail p))
    (λ y. rw (le-ltb (shift_jis_lead p) 0x80 lead.0) (ap (λ o. piece_of_first o (after_bytes 1 (shift_jis_pair jis0208 (shift_jis_lead p)) (shift_jis_trail p ∷ y))) lead.1))
    (pair_either jis0208 c (shift_jis_lead p) (shift_jis_trail p))

used : (jis0208 : List ℕ) (c p : ℕ) → index_shift_jis_pointer jis0208 c ≡ Some p → p < 11280
used jis0208 c p e = elim (option_or_some (first_pointer jis0208 c 0 8272) (first_pointer jis0208 c 8836 11280) p e) [
  | inl first ↦ omega (arith, pointer_before jis0208 c 0 8272 p first)
  | inr later ↦ pointer_before jis0208 c 8836 11280 p later.1
]

pointer_steps : (ref : Reference) (jis0208 : List ℕ) (c : ℕ) (o : Option ℕ) → 0x80 ≤ c → ((p : ℕ) → o ≡ Some p → p < 11280)
    → Steps jis0208 c (spelled ref (form_of_bytes c (option_map shift_jis_pair_bytes o)))
pointer_steps ref jis0208 c None high before = inr (reference_strays ref (first_piece_shift_jis jis0208) (itself jis0208) c c high)
pointer_steps ref jis0208 c (Some p) high before = pair_steps jis0208 c p (before p refl)

-- ---- any scalar

-- by its byte, if it has one
abbrev ByByte : Reference → List ℕ → ℕ → Option ℕ → Type 0
ByByte ref jis0208 c byte = Steps jis0208 c (spelled ref (form_of_bytes c (option_or (option_map (λ b. b ∷ []) byte) (option_map shift_jis_pair_bytes (index_shift_jis_pointer jis0208 (folded c))))))

pub shift_jis_steps : (jis0208 : List ℕ) → StepsReadBack (first_piece_shift_jis jis0208) (shift_jis_form jis0208)
shift_jis_steps jis0208 ref c scalar =
    choose (ByByte ref jis0208 c) (nat_lt c 0x81) (Some c) _
    (λ low. low_steps jis0208 c (ltb-true c 0x81 low))
    (λ high. let above : 0x81 ≤ c = ltb-false c 0x81 high in
    choose (ByByte ref jis0208 c) (c == 0xA5) (Some 0x5C) _
    (λ _. ascii_steps jis0208 c 0x5C (lit< tt))
    (λ _. choose (ByByte ref jis0208 c) (c == 0x203E) (Some 0x7E) _
    (λ _. ascii_steps jis0208 c 0x7E (lit< tt))
    (λ _. choose (ByByte ref jis0208 c) (is_katakana c) (Some (byte_of_katakana c)) None
    (katakana_steps jis0208 c)
    (λ _. pointer_steps ref jis0208 c (index_shift_jis_pointer jis0208 (folded c)) (omega arith) (used jis0208 (folded c))))))
