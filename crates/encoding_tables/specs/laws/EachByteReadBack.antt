-- If each byte is a piece and the byte of a character reads as that character, what is written reads back exactly
-- when each character has a byte, and character by character.
use Rattle.std.proofs.Common.{◌≡◌, ℕ, ◌+◌, ◌≤◌, List, [], ◌∷◌, ◌++◌, length, sym, ◌≢◌, ◌⊎◌, inl, inr, ◌∙◌, ap, subst, refl, arith, Option, None, Some, true, append-nil, length-append}
use Rattle.std.specs.Fmt.{decimal, digits}
use Rattle.encoding_mem.specs.declared.codec.reference.Reference.{Reference}
use Rattle.encoding_mem.specs.declared.codec.reference.Reference.TheVariants.{Decimal, Hexadecimal}
use Rattle.encoding_mem.specs.Piece.{text, piece_text, AreWellFormed, piece_of_scalar}
use Rattle.encoding_mem.specs.laws.Pieces.{pieces_by-nil}
use Rattle.encoding_mem.specs.Coding.{AllMapped, IsMapped, open_from, output, spelled, lost_count, unmapped_count}
use Rattle.encoding_mem.specs.Steps.{StepLaw, in_any_set, Returns, Strays}
use Rattle.encoding_mem.specs.Agreement.{ReadsByStep}
use Rattle.encoding_mem.specs.laws.OneSet.{one_set_by_step}
use Rattle.encoding_mem.specs.laws.Steps.{step_law, strays_at_reference}
use Rattle.encoding_mem.specs.ReadBack.{ReadsAs, ReadsBackExactly}
use Rattle.encoding_mem.specs.laws.ReadBack.{all_mapped}
use Rattle.encoding_mem.specs.declared.codec.form.EscapeState.{EscapeState}
use Rattle.encoding_mem.specs.declared.codec.form.EscapeState.TheVariants.{Ascii}
use Rattle.encoding_tables.specs.EachByte.{first_piece_by_byte, form_by_byte}
use Rattle.encoding_tables.specs.laws.EachByte.{AreScalars, cuts_by_byte, pieces_by_byte-cons, form_of_byte, coding_by_byte, pieces_by_byte}

-- the byte of a character reads as that character
abbrev pub ReadsBack : (char_of byte_of : ℕ → Option ℕ) → Type 0
ReadsBack char_of byte_of = (c b : ℕ) → byte_of c ≡ Some b → char_of b ≡ Some c

one_text : (o : Option ℕ) → length (piece_text (piece_of_scalar 1 o)) ≡ 1
one_text None = refl
one_text (Some c) = refl

as_long : (char_of : ℕ → Option ℕ) → AreScalars char_of → (x : List ℕ) → length (text (pieces_by_byte char_of x)) ≡ length x
as_long char_of scalars [] = ap (λ ps. length (text ps)) (pieces_by-nil (first_piece_by_byte char_of))
as_long char_of scalars (b ∷ x) =
    ap (λ ps. length (text ps)) (pieces_by_byte-cons char_of scalars b x)
    ∙ omega (arith, length-append (piece_text (piece_of_scalar 1 (char_of b))) (text (pieces_by_byte char_of x)), one_text (char_of b), as_long char_of scalars x)

-- What is written for a text whose characters have bytes.
mapped_byte : (c : ℕ) (o : Option ℕ) → IsMapped (form_of_byte c o) → (b : ℕ) × (o ≡ Some b)
mapped_byte c None h = absurd h
mapped_byte c (Some b) h = (b, refl)

reads : (ref : Reference) (char_of byte_of : ℕ → Option ℕ) (s : EscapeState) (t : List ℕ) → AreScalars char_of → ReadsBack char_of byte_of → AllMapped (coding_by_byte byte_of) t
    → ReadsAs (pieces_by_byte char_of) (open_from ref (coding_by_byte byte_of) s t) t
reads ref char_of byte_of s [] scalars back h = record {
  well_formed = subst AreWellFormed (sym (pieces_by-nil (first_piece_by_byte char_of))) tt;
  same = ap text (pieces_by-nil (first_piece_by_byte char_of));
}
reads ref char_of byte_of s (c ∷ t) scalars back h =
    let more = reads ref char_of byte_of Ascii t scalars back h.1 in
    let byte = mapped_byte c (byte_of c) h.0 in
    let begins : open_from ref (coding_by_byte byte_of) s (c ∷ t) ≡ byte.0 ∷ open_from ref (coding_by_byte byte_of) Ascii t = ap (λ o. spelled ref (form_of_byte c o) ++ open_from ref (coding_by_byte byte_of) Ascii t) byte.1 in
    let pieces = ap (pieces_by_byte char_of) begins ∙ pieces_by_byte-cons char_of scalars byte.0 (open_from ref (coding_by_byte byte_of) Ascii t)
    ∙ ap (λ o. piece_of_scalar 1 o ∷ pieces_by_byte char_of (open_from ref (coding_by_byte byte_of) Ascii t)) (back c byte.0 byte.1) in
    record {
      well_formed = subst AreWellFormed (sym pieces) (tt, more.well_formed);
      same = ap text pieces ∙ ap (λ l. c ∷ l) more.same;
    }

-- A reference has more than one byte.
spelled_length : (ref : Reference) (c : ℕ) (o : Option ℕ) → 1 + unmapped_count (form_of_byte c o) ≤ length (spelled ref (form_of_byte c o))
spelled_length Decimal c None = omega (arith, length-append (decimal c) (0x3B ∷ []))
spelled_length Hexadecimal c None = omega (arith, length-append (digits 16 true c) (0x3B ∷ []))
spelled_length ref c (Some b) = omega arith

open_length : (ref : Reference) (byte_of : ℕ → Option ℕ) (s : EscapeState) (t : List ℕ) → length t + lost_count (coding_by_byte byte_of) t ≤ length (open_from ref (coding_by_byte byte_of) s t)
open_length ref byte_of s [] = omega arith
open_length ref byte_of s (c ∷ t) =
    omega (arith, spelled_length ref c (byte_of c), open_length ref byte_of Ascii t, length-append (spelled ref (form_of_byte c (byte_of c))) (open_from ref (coding_by_byte byte_of) Ascii t))

pub exact_by_byte : (char_of byte_of : ℕ → Option ℕ) → AreScalars char_of → ReadsBack char_of byte_of → ReadsBackExactly (pieces_by_byte char_of) (coding_by_byte byte_of)
exact_by_byte char_of byte_of scalars back ref t h =
    let whole : output ref (coding_by_byte byte_of) t ≡ open_from ref (coding_by_byte byte_of) Ascii t = append-nil _ in (
      λ read.
          let long : length (output ref (coding_by_byte byte_of) t) ≡ length t = sym (as_long char_of scalars (output ref (coding_by_byte byte_of) t)) ∙ ap length read.same in
          all_mapped (coding_by_byte byte_of) t (omega (arith, long, ap length whole, open_length ref byte_of Ascii t)),
      λ mapped. subst (λ l. ReadsAs (pieces_by_byte char_of) l t) (sym whole) (reads ref char_of byte_of Ascii t scalars back mapped),
    )

-- What is written for a character is the byte that reads as it; or a reference, which begins with the byte of `&`.
abbrev IsAbsent : Option ℕ → Type 0
IsAbsent None = Unit {0}
IsAbsent (Some b) = ⊥

one_step : (ref : Reference) (char_of byte_of : ℕ → Option ℕ) → ReadsBack char_of byte_of → byte_of 0x26 ≡ Some 0x26 → (c : ℕ) (o : Option ℕ) → byte_of c ≡ o
    → Returns (first_piece_by_byte char_of) (spelled ref (form_of_byte c o)) c ⊎ Strays (first_piece_by_byte char_of) (spelled ref (form_of_byte c o)) c
one_step ref char_of byte_of back ampersand c None is =
    let other : c ≢ 0x26 = λ same. subst IsAbsent (sym is ∙ ap byte_of same ∙ ampersand) tt in
    inr (strays_at_reference ref (first_piece_by_byte char_of) c c (λ x. ap (piece_of_scalar 1) (back 0x26 0x26 ampersand)) other)
one_step ref char_of byte_of back ampersand c (Some b) is = inl (record { piece = λ y. ap (piece_of_scalar 1) (back c b is) })

pub steps_by_byte : (char_of byte_of : ℕ → Option ℕ) → AreScalars char_of → ReadsBack char_of byte_of → byte_of 0x26 ≡ Some 0x26
    → StepLaw (coding_by_byte byte_of) (in_any_set (pieces_by_byte char_of))
steps_by_byte char_of byte_of scalars back ampersand =
    step_law (first_piece_by_byte char_of) (λ c. form_of_byte c (byte_of c)) (cuts_by_byte char_of scalars)
    (λ ref c scalar. one_step ref char_of byte_of back ampersand c (byte_of c) refl)

pub by_step_by_byte : (char_of byte_of : ℕ → Option ℕ) → AreScalars char_of → ReadsBack char_of byte_of → byte_of 0x26 ≡ Some 0x26
    → ReadsByStep (coding_by_byte byte_of) (in_any_set (pieces_by_byte char_of))
by_step_by_byte char_of byte_of scalars back ampersand =
    one_set_by_step (first_piece_by_byte char_of) (form_by_byte byte_of) (cuts_by_byte char_of scalars) (steps_by_byte char_of byte_of scalars back ampersand)
    (λ x. ap (piece_of_scalar 1) (back 0x26 0x26 ampersand)) (subst (λ o. IsMapped (form_of_byte 0x26 o)) (sym ampersand) tt)
