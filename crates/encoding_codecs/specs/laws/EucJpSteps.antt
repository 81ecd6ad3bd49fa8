-- What EUC-JP writes for a scalar reads back as it, or as something else whatever follows: no table is asked.
use Rattle.std.proofs.Common.{◌≡◌, ℕ, ◌+◌, ◌/◌, ◌%◌, ◌<◌, ◌≤◌, ◌⊎◌, true, false, List, [], ◌∷◌, nat_lt, refl, ◌∙◌, ap, arith, lit<, lit≤, Option, None, Some, inr}
use Rattle.std.specs.Prelude.{◌==◌, ◌||◌}
use Rattle.std.specs.Option.{option_map, option_or}
use Rattle.std.proofs.lemmas.Bool.{le-ltb, ltb-true, ltb-false}
use Rattle.std.proofs.lemmas.Bool.Decides.{nat_tests}
use Rattle.encoding_mem.specs.declared.codec.reference.Reference.{Reference}
use Rattle.encoding_mem.specs.Coding.{spelled, form_of_bytes}
use Rattle.encoding_mem.specs.Piece.{well_formed}
use Rattle.encoding_mem.specs.Steps.{Returns, Strays, StepsReadBack}
use Rattle.encoding_tables.specs.Lookups.{value_of, first_pointer}
use Rattle.encoding_codecs.specs.EucJp.{is_pointer_byte, euc_jp_pair_pointer, euc_jp_first, euc_jp_pair, euc_jp_after, euc_jp_pair_bytes, euc_jp_form}
use Rattle.encoding_codecs.specs.JisForms.{is_katakana_byte, katakana_of_byte, is_katakana, byte_of_katakana, folded}
use Rattle.encoding_codecs.specs.laws.JisSteps.{choose, either_of_entry, either_of_none, pointer_before}
use Rattle.encoding_codecs.specs.laws.Steps.{IsEither, one_either, by_piece, reference_strays}
use Rattle.encoding_codecs.specs.TwoByte.{piece_of_first, piece_of_trail}
use Rattle.encoding_codecs.specs.laws.TwoByte.{lead_ascii}
use Rattle.encoding_codecs.specs.declared.lead_byte_rule.FirstByte.TheVariants.{Lead}
use Rattle.encoding_codecs.specs.declared.two_byte.PairValue.{PairValue}
use Rattle.encoding_codecs.specs.declared.two_byte.PairValue.TheVariants.{NoChar, OneChar}
use Rattle.encoding_codecs.specs.laws.FirstPieces.{first_piece_euc_jp}

-- bytes of EUC-JP read as the character c alone, or begin with a piece that is not c
abbrev Steps : (jis0208 jis0212 : List ℕ) → ℕ → List ℕ → Type 0
Steps jis0208 jis0212 c bytes = Returns (first_piece_euc_jp jis0208 jis0212) bytes c ⊎ Strays (first_piece_euc_jp jis0208 jis0212) bytes c

itself : (jis0208 jis0212 : List ℕ) (b : ℕ) (y : List ℕ) → b < 0x80 → first_piece_euc_jp jis0208 jis0212 (b ∷ y) ≡ well_formed 1 (b ∷ [])
itself jis0208 jis0212 = lead_ascii euc_jp_first (euc_jp_after jis0208 jis0212)

ascii_steps : (jis0208 jis0212 : List ℕ) (c b : ℕ) → b < 0x80 → Steps jis0208 jis0212 c (b ∷ [])
ascii_steps jis0208 jis0212 c b low =
    by_piece (first_piece_euc_jp jis0208 jis0212) (b ∷ []) c (well_formed 1 (b ∷ [])) (λ y. itself jis0208 jis0212 b y low) (one_either 1 c b)

-- ---- two bytes, of which the first is not 8F

-- the piece of a lead and the byte b is the character c, or another or a malformed one
abbrev OfPair : (c b : ℕ) → PairValue → Type 0
OfPair c b v = IsEither 2 c (piece_of_trail 1 v b)

pair_either : (jis0208 : List ℕ) (c a b : ℕ) → IsEither 2 c (piece_of_trail 1 (euc_jp_pair jis0208 a b) b)
pair_either jis0208 c a b =
    choose (OfPair c b) (a == 0x8E) _ _
    (λ _. choose (OfPair c b) (is_katakana_byte b) (OneChar (katakana_of_byte b)) NoChar (λ _. one_either 2 c _) (λ _. either_of_none c b))
    (λ _. choose (OfPair c b) (is_pointer_byte b) _ NoChar (λ _. either_of_entry c b (value_of jis0208 (euc_jp_pair_pointer a b))) (λ _. either_of_none c b))

pair_steps : (jis0208 jis0212 : List ℕ) (c a b : ℕ) → 0x80 ≤ a → (a == 0x8F) ≡ false → euc_jp_first a ≡ Lead → Steps jis0208 jis0212 c (a ∷ b ∷ [])
pair_steps jis0208 jis0212 c a b high other lead =
    by_piece (first_piece_euc_jp jis0208 jis0212) (a ∷ b ∷ []) c (piece_of_trail 1 (euc_jp_pair jis0208 a b) b)
    (λ y. rw (le-ltb a 0x80 high) (ap (λ o. piece_of_first o (euc_jp_after jis0208 jis0212 a (b ∷ y))) lead ∙ rw other refl))
    (pair_either jis0208 c a b)

pointer_lead : (a : ℕ) → 0xA1 ≤ a → a ≤ 0xFE → ((a == 0x8F) ≡ false) × (euc_jp_first a ≡ Lead)
pointer_lead a from to =
    let other : (a == 0x8F) ≡ false = grind (arith, nat_tests) in
    let is : (a == 0x8E || a == 0x8F || is_pointer_byte a) ≡ true = grind (arith, nat_tests) in
    (other, rw is refl)

pointer_steps : (ref : Reference) (jis0208 jis0212 : List ℕ) (c : ℕ) (o : Option ℕ) → 0x80 ≤ c → ((p : ℕ) → o ≡ Some p → p < 8836)
    → Steps jis0208 jis0212 c (spelled ref (form_of_bytes c (option_map euc_jp_pair_bytes o)))
pointer_steps ref jis0208 jis0212 c None high before = inr (reference_strays ref (first_piece_euc_jp jis0208 jis0212) (itself jis0208 jis0212) c c high)
pointer_steps ref jis0208 jis0212 c (Some p) high before =
    let below : p < 8836 = before p refl in
    let lead = pointer_lead (0xA1 + p / 94) (omega arith) (omega arith) in
    pair_steps jis0208 jis0212 c (0xA1 + p / 94) (0xA1 + p % 94) (omega arith) lead.0 lead.1

-- ---- any scalar

-- by its own bytes, if it has some
abbrev ByBytes : Reference → (jis0208 jis0212 : List ℕ) → ℕ → Option (List ℕ) → Type 0
ByBytes ref jis0208 jis0212 c own = Steps jis0208 jis0212 c (spelled ref (form_of_bytes c (option_or own (option_map euc_jp_pair_bytes (first_pointer jis0208 (folded c) 0 8836)))))

pub euc_jp_steps : (jis0208 jis0212 : List ℕ) → StepsReadBack (first_piece_euc_jp jis0208 jis0212) (euc_jp_form jis0208)
euc_jp_steps jis0208 jis0212 ref c scalar =
    choose (ByBytes ref jis0208 jis0212 c) (nat_lt c 0x80) (Some (c ∷ [])) _
    (λ low. ascii_steps jis0208 jis0212 c c (ltb-true c 0x80 low))
    (λ high. let above : 0x80 ≤ c = ltb-false c 0x80 high in
    choose (ByBytes ref jis0208 jis0212 c) (c == 0xA5) (Some (0x5C ∷ [])) _
    (λ _. ascii_steps jis0208 jis0212 c 0x5C (lit< tt))
    (λ _. choose (ByBytes ref jis0208 jis0212 c) (c == 0x203E) (Some (0x7E ∷ [])) _
    (λ _. ascii_steps jis0208 jis0212 c 0x7E (lit< tt))
    (λ _. choose (ByBytes ref jis0208 jis0212 c) (is_katakana c) (Some (0x8E ∷ byte_of_katakana c ∷ [])) None
    (λ _. pair_steps jis0208 jis0212 c 0x8E (byte_of_katakana c) (lit≤ tt) refl refl)
    (λ _. pointer_steps ref jis0208 jis0212 c (first_pointer jis0208 (folded c) 0 8836) above (pointer_before jis0208 (folded c) 0 8836)))))
