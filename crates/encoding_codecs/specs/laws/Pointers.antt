-- Laws of pointers as two bytes.
use Rattle.std.proofs.Common.{◌≡◌, ℕ, ◌<◌, ◌≤◌, Bool, true, false, cond, nat_lt, nat_le, List, [], ◌∷◌, length, refl, ap, ◌∙◌, arith, Option, None, Some, inl, inr}
use Rattle.std.specs.Int.{is_in_range}
use Rattle.std.specs.Option.{option_map}
use Rattle.std.proofs.lemmas.Bool.{cases_lt, lt-ltb, le-ltb, le-leb, and_from}
use Rattle.encoding_mem.specs.Coding.{IsCoding, FitsNeed, form_of_bytes}
use Rattle.encoding_mem.specs.Piece.{well_formed}
use Rattle.encoding_mem.specs.Stateless.{stateless}
use Rattle.encoding_mem.specs.laws.Stateless.{stateless_laws, short_if, short_one, short_none}
use Rattle.encoding_mem.specs.declared.codec.form.Form.{Form}
use Rattle.encoding_mem.specs.declared.codec.form.Form.TheVariants.{Mapped}
use Rattle.encoding_tables.specs.Lookups.{AreEntries, value_of}
use Rattle.encoding_tables.specs.laws.Pointers.{value_some}
use Rattle.encoding_codecs.specs.TwoByte.{first_piece_two_byte, after_bytes, piece_of_first, piece_of_trail}
use Rattle.encoding_codecs.specs.laws.TwoByte.{cuts_two_byte, lead_ascii}
use Rattle.encoding_codecs.specs.Pointers.{value_of_entry, form_by_pointer}
use Rattle.encoding_codecs.specs.laws.ExactReadBack.{ReadsEach, ReadsAsScalar}
use Rattle.encoding_codecs.specs.declared.lead_byte_rule.FirstByte.{FirstByte}
use Rattle.encoding_codecs.specs.declared.lead_byte_rule.FirstByte.TheVariants.{Lead}
use Rattle.encoding_codecs.specs.declared.two_byte.PairValue.{PairValue}
use Rattle.encoding_codecs.specs.declared.two_byte.PairValue.TheVariants.{OneChar}
use Rattle.encoding_codecs.specs.calls.TwoByteRule.{IsFirstByte, TwoByteRule, IsPairValue, IsTwoByte}

-- what an entry gives is a scalar
value_is : (flat : List ℕ) → AreEntries flat → (p : ℕ) (o : Option ℕ) → value_of flat p ≡ o → IsPairValue (value_of_entry o)
value_is flat scalars p None e = tt
value_is flat scalars p (Some c) e = let v = value_some flat p c e in rw (← v.0) (scalars p (λ z. v.1 (rw v.0 at z)))

pub is_value_of_entry : (flat : List ℕ) → AreEntries flat → (p : ℕ) → IsPairValue (value_of_entry (value_of flat p))
is_value_of_entry flat scalars p = value_is flat scalars p (value_of flat p) refl

-- of a choice by a test
pub is_value_if : (t : Bool) (v w : PairValue) → IsPairValue v → IsPairValue w → IsPairValue (cond t v w)
is_value_if true v w h k = h
is_value_if false v w h k = k

pub is_first_if : (t : Bool) (o p : FirstByte) → IsFirstByte o → IsFirstByte p → IsFirstByte (cond t o p)
is_first_if true o p h k = h
is_first_if false o p h k = k

-- a byte between two others
pub in_range : (lo hi b : ℕ) → lo ≤ b → b ≤ hi → is_in_range lo hi b ≡ true
in_range lo hi b h k = and_from (nat_le lo b) (nat_le b hi) (le-leb lo b h) (le-leb b hi k)

-- the first piece of a lead and a trail that give a scalar
pub first_piece_of_pair : (e : TwoByteRule) (a b c : ℕ) (y : List ℕ) → 0x80 ≤ a → e.first a ≡ Lead → e.pair a b ≡ OneChar c
    → first_piece_two_byte e.first e.pair (a ∷ b ∷ y) ≡ well_formed 2 (c ∷ [])
first_piece_of_pair e a b c y high lead gives =
    rw (le-ltb a 0x80 high)
    (ap (λ o. piece_of_first o (after_bytes 1 (e.pair a) (b ∷ y))) lead ∙ ap (λ v. piece_of_trail 1 v b) gives)

-- the form of a character by the pointer that it has, if any
abbrev pub form_of_pointer : (ℕ → List ℕ) → ℕ → Option ℕ → Form
form_of_pointer bytes c o = form_of_bytes c (option_map bytes o)

-- a target that writes ASCII as it is, and the bytes of a pointer
pub coding_by_pointer : (bytes : ℕ → List ℕ) (pointer : ℕ → Option ℕ) → ((p : ℕ) → length (bytes p) ≤ 2)
    → IsCoding 2 (stateless (form_by_pointer bytes pointer))
coding_by_pointer bytes pointer few =
    stateless_laws 2 (form_by_pointer bytes pointer) (omega arith) (λ c. short_if (nat_lt c 0x80) short_one (short c (pointer c)))
  where
    short : (c : ℕ) (o : Option ℕ) → FitsNeed 2 (form_of_pointer bytes c o)
    short c None = short_none
    short c (Some p) = record { short = few p }

-- these two bytes give the scalar
pub record IsPairOf (e : TwoByteRule) (c : ℕ) (bs : List ℕ) : Type 0 where
  pub lead : ℕ
  pub trail : ℕ
  pub is : bs ≡ lead ∷ trail ∷ []
  pub high : 0x80 ≤ lead
  pub leads : e.first lead ≡ Lead
  pub gives : e.pair lead trail ≡ OneChar c

-- if the bytes of each pointer give its scalar, each form reads back
reads_pair : (e : TwoByteRule) (c : ℕ) (bs : List ℕ) → IsPairOf e c bs → ReadsAsScalar (first_piece_two_byte e.first e.pair) c (Mapped bs)
reads_pair e c bs h = rw h.is (omega arith, λ y. first_piece_of_pair e h.lead h.trail c y h.high h.leads h.gives)

reads_pointer : (e : TwoByteRule) (bytes : ℕ → List ℕ) (c : ℕ) (o : Option ℕ) → 0x80 ≤ c → ((p : ℕ) → o ≡ Some p → IsPairOf e c (bytes p))
    → ReadsAsScalar (first_piece_two_byte e.first e.pair) c (form_of_pointer bytes c o)
reads_pointer e bytes c None high h = high
reads_pointer e bytes c (Some p) high h = reads_pair e c (bytes p) (h p refl)

pub reads_by_pointer : (e : TwoByteRule) → IsTwoByte e → (bytes : ℕ → List ℕ) (pointer : ℕ → Option ℕ)
    → ((c p : ℕ) → 0x80 ≤ c → pointer c ≡ Some p → IsPairOf e c (bytes p)) → ReadsEach (first_piece_two_byte e.first e.pair) (form_by_pointer bytes pointer)
reads_by_pointer e is bytes pointer h = record {
  cuts = cuts_two_byte e is;
  ascii = lead_ascii e.first (λ a. after_bytes 1 (e.pair a));
  scalar = λ c k. elim (cases_lt c 0x80) [
    | inl low ↦ rw (lt-ltb c 0x80 low) (omega arith, λ y. lead_ascii e.first (λ a. after_bytes 1 (e.pair a)) c y low)
    | inr high ↦ rw (le-ltb c 0x80 high) (reads_pointer e bytes c (pointer c) high (λ p. h c p high))
  ];
}

pub ascii_by_pointer : (bytes : ℕ → List ℕ) (pointer : ℕ → Option ℕ) (c : ℕ) → c < 0x80 → form_by_pointer bytes pointer c ≡ Mapped (c ∷ [])
ascii_by_pointer bytes pointer c low = rw (lt-ltb c 0x80 low) refl
