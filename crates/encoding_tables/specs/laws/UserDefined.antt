-- Laws of the pieces and the forms of x-user-defined.
use Rattle.std.proofs.Common.{◌≡◌, ℕ, ◌+◌, ◌-◌, ◌≤◌, ◌<◌, Bool, true, false, cond, List, ◌∷◌, [], refl, arith, ◌∙◌, ap, inl, inr, Some, None}
use Rattle.std.specs.Prelude.{IfSome}
use Rattle.std.specs.Int.{is_in_range}
use Rattle.std.specs.Char.{IsScalar}
use Rattle.std.proofs.lemmas.Bool.{cases_lt, lt-ltb, le-ltb}
use Rattle.std.proofs.lemmas.Bool.Decides.{nat_tests}
use Rattle.encoding_mem.specs.Agreement.{ReadsByStep}
use Rattle.encoding_mem.specs.Coding.{IsCoding}
use Rattle.encoding_mem.specs.Piece.{well_formed, Piece}
use Rattle.encoding_mem.specs.laws.Pieces.{CutsEach}
use Rattle.encoding_mem.specs.ReadBack.{ReadsBackExactly}
use Rattle.encoding_mem.specs.laws.Utf8.{range_from, scalar_from}
use Rattle.encoding_mem.specs.declared.codec.form.Form.TheVariants.{Mapped}
use Rattle.encoding_tables.specs.EachByte.{form_by_byte, first_piece_by_byte}
use Rattle.encoding_tables.specs.laws.EachByte.{AreScalars, cuts_by_byte, laws_by_byte}
use Rattle.encoding_mem.specs.Steps.{StepLaw, in_any_set}
use Rattle.encoding_tables.specs.laws.EachByteReadBack.{ReadsBack, exact_by_byte, steps_by_byte, by_step_by_byte}
use Rattle.encoding_tables.specs.laws.OptionCases.{if_some_some}
use Rattle.encoding_tables.specs.UserDefined.{user_char_of_byte, byte_of_user_char, pieces_user_defined, user_defined_coding}

-- the first piece of some bytes in x-user-defined: the character of the first byte
abbrev pub first_piece_user_defined : List ℕ → Piece
first_piece_user_defined = first_piece_by_byte user_char_of_byte

-- the characters are scalars
upper : (t : Bool) (b : ℕ) → (t ≡ true → IsScalar (0xF780 + (b - 0x80))) → IfSome (cond t (Some (0xF780 + (b - 0x80))) None) IsScalar
upper true b h = h refl
upper false b h = tt

pub scalars_user_defined : AreScalars user_char_of_byte
scalars_user_defined b = elim (cases_lt b 0x80) [
  | inl low ↦ rw (lt-ltb b 0x80 low) (scalar_from b (inl (omega (arith, low))))
  | inr high ↦ rw (le-ltb b 0x80 high) (upper (is_in_range 0x80 0xFF b) b (λ t. let r = range_from 0x80 0xFF b t in scalar_from (0xF780 + (b - 0x80)) (inr (omega (arith, r), omega (arith, r)))))
]

pub cuts_user_defined : CutsEach first_piece_user_defined
cuts_user_defined = cuts_by_byte user_char_of_byte scalars_user_defined

pub user_defined_laws : IsCoding 1 user_defined_coding
user_defined_laws = laws_by_byte byte_of_user_char

pub user_defined_ascii : (c : ℕ) → c < 0x80 → form_by_byte byte_of_user_char c ≡ Mapped (c ∷ [])
user_defined_ascii c low = rw (lt-ltb c 0x80 low) refl

-- ASCII is itself, whatever follows
pub ascii_user_defined : (b : ℕ) (x : List ℕ) → b < 0x80 → first_piece_user_defined (b ∷ x) ≡ well_formed 1 (b ∷ [])
ascii_user_defined b x low = rw (lt-ltb b 0x80 low) refl

-- the byte of a character reads as that character
user_byte : (b : ℕ) → 0x80 ≤ b → b ≤ 0xFF → user_char_of_byte b ≡ Some (0xF780 + (b - 0x80))
user_byte b low high = grind (arith, nat_tests)

reads_back : ReadsBack user_char_of_byte byte_of_user_char
reads_back c b e = elim (cases_lt c 0x80) [
  | inl low ↦
      let some = rw (lt-ltb c 0x80 low) at e in
      let same : c ≡ b = cc in
      rw (← same, lt-ltb c 0x80 low) refl
  | inr high ↦
      let found = if_some_some (is_in_range 0xF780 0xF7FF c) (0x80 + (c - 0xF780)) b (rw (le-ltb c 0x80 high) at e) in
      let r = range_from 0xF780 0xF7FF c found.0 in
      user_byte b (omega (arith, found.1, r)) (omega (arith, found.1, r)) ∙ ap (λ d. Some d) (omega (arith, found.1, r))
]

-- what is written reads back exactly when each character has a byte
pub user_defined_exact : ReadsBackExactly pieces_user_defined user_defined_coding
user_defined_exact = exact_by_byte user_char_of_byte byte_of_user_char scalars_user_defined reads_back

-- and character by character
pub user_defined_steps : StepLaw user_defined_coding (in_any_set pieces_user_defined)
user_defined_steps = steps_by_byte user_char_of_byte byte_of_user_char scalars_user_defined reads_back refl

pub user_defined_by_step : ReadsByStep user_defined_coding (in_any_set pieces_user_defined)
user_defined_by_step = by_step_by_byte user_char_of_byte byte_of_user_char scalars_user_defined reads_back refl
