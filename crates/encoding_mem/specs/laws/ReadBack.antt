-- What UTF-8 writes reads back.
use Rattle.std.proofs.Common.{◌≡◌, ℕ, List, [], ◌∷◌, true, refl, sym, ◌∙◌, ap, subst, arith}
use Rattle.std.specs.Str.{all_scalars}
use Rattle.encoding_mem.specs.Piece.{text, AreWellFormed}
use Rattle.encoding_mem.specs.calls.TextRun.{text_pieces}
use Rattle.encoding_mem.specs.Coding.{Coding, AllMapped, IsMapped, output, lost_count, unmapped_count}
use Rattle.encoding_mem.specs.laws.EncoderCalls.{utf8_output}
use Rattle.encoding_mem.specs.ReadBack.{ReadsBackExactly}
use Rattle.encoding_mem.specs.Utf8.{pieces_utf8}
use Rattle.encoding_mem.specs.Utf8Coding.{utf8_coding}
use Rattle.encoding_mem.specs.laws.Utf8.{utf8_reads_back}
use Rattle.encoding_mem.specs.declared.codec.reference.Reference.{Reference}
use Rattle.encoding_mem.specs.declared.codec.form.Form.{Form}
use Rattle.encoding_mem.specs.declared.codec.form.Form.TheVariants.{Mapped, Unmapped}

-- Pieces of text are well-formed, and are that text.
pub text_pieces-well_formed : (t : List ℕ) → AreWellFormed (text_pieces t)
text_pieces-well_formed [] = tt
text_pieces-well_formed (c ∷ t) = (tt, text_pieces-well_formed t)

pub text_pieces-text : (t : List ℕ) → text (text_pieces t) ≡ t
text_pieces-text [] = refl
text_pieces-text (c ∷ t) = ap (λ x. c ∷ x) (text_pieces-text t)

-- A target loses nothing of a text exactly when each scalar has bytes.
mapped_form : (f : Form) → unmapped_count f ≡ 0 → IsMapped f
mapped_form (Mapped bs) h = tt
mapped_form (Unmapped c) h = absurd (omega (arith, h))

counted_form : (f : Form) → IsMapped f → unmapped_count f ≡ 0
counted_form (Mapped bs) h = refl
counted_form (Unmapped c) h = absurd h

pub all_mapped : (e : Coding) (t : List ℕ) → lost_count e t ≡ 0 → AllMapped e t
all_mapped e [] h = tt
all_mapped e (c ∷ t) h = (mapped_form (e.form c) (omega (arith, h)), all_mapped e t (omega (arith, h)))

pub none_lost : (e : Coding) (t : List ℕ) → AllMapped e t → lost_count e t ≡ 0
none_lost e [] h = refl
none_lost e (c ∷ t) h = omega (arith, counted_form (e.form c) h.0, none_lost e t h.1)

-- UTF-8 has bytes for each scalar, and they read back.
pub all_in_utf8 : (t : List ℕ) → AllMapped utf8_coding t
all_in_utf8 [] = tt
all_in_utf8 (c ∷ t) = (tt, all_in_utf8 t)

read_back : (ref : Reference) (t : List ℕ) → all_scalars t ≡ true → pieces_utf8 (output ref utf8_coding t) ≡ text_pieces t
read_back ref t h = ap pieces_utf8 (utf8_output ref t) ∙ utf8_reads_back t h

pub utf8_exact : ReadsBackExactly pieces_utf8 utf8_coding
utf8_exact ref t h = (
  λ _. all_in_utf8 t,
  λ _. record {
    well_formed = subst AreWellFormed (sym (read_back ref t h)) (text_pieces-well_formed t);
    same = ap text (read_back ref t h) ∙ text_pieces-text t;
  },
)
