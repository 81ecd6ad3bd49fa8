-- Targets with one set that read back step by step.
use Rattle.std.proofs.Common.{◌≡◌, ℕ, inl, List, [], ◌∷◌, refl, sym, ◌∙◌, ap, subst}
use Rattle.std.specs.Char.{encode_utf8}
use Rattle.std.proofs.lemmas.Str.{length-encode}
use Rattle.encoding_mem.specs.Agreement.{ReadsByStep}
use Rattle.encoding_mem.specs.Coding.{IsMapped, spelled}
use Rattle.encoding_mem.specs.Piece.{Piece, text, AreWellFormed, well_formed}
use Rattle.encoding_mem.specs.Pieces.{pieces_by}
use Rattle.encoding_mem.specs.ReadBack.{ReadsAs}
use Rattle.encoding_mem.specs.Stateless.{stateless}
use Rattle.encoding_mem.specs.Steps.{StepLaw, in_any_set, Strays}
use Rattle.encoding_mem.specs.Utf8.{first_piece_utf8, pieces_utf8}
use Rattle.encoding_mem.specs.Utf8Coding.{utf8_coding}
use Rattle.encoding_mem.specs.laws.Pieces.{CutsEach, pieces_by-nil}
use Rattle.encoding_mem.specs.laws.Steps.{step_law, broken_at_first, strays_at_reference}
use Rattle.encoding_mem.specs.laws.Utf8.{first_piece_utf8-encode, cuts_utf8}
use Rattle.encoding_mem.specs.declared.codec.reference.Reference.{Reference}
use Rattle.encoding_mem.specs.declared.codec.form.Form.{Form}
use Rattle.encoding_mem.specs.declared.codec.form.Form.TheVariants.{Mapped, Unmapped}

-- a reference is never read as the character that it stands for, if `&` is itself and has bytes
lost_strays : (ref : Reference) (first_piece : List ℕ → Piece) (form : ℕ → Form) → ((x : List ℕ) → first_piece (0x26 ∷ x) ≡ well_formed 1 (0x26 ∷ [])) → IsMapped (form 0x26)
    → (c : ℕ) → ¬ (IsMapped (form c)) → Strays first_piece (spelled ref (form c)) c
lost_strays ref first_piece form ampersand has c lost = by (form c) refl
  where
    by : (f : Form) → form c ≡ f → Strays first_piece (spelled ref f) c
    by (Mapped bs) is = absurd (lost (subst IsMapped (sym is) tt))
    by (Unmapped d) is = strays_at_reference ref first_piece c d ampersand (λ same. lost (subst (λ a. IsMapped (form a)) (sym same) has))

reads_nothing : (first_piece : List ℕ → Piece) → ReadsAs (pieces_by first_piece) [] []
reads_nothing first_piece = record {
  well_formed = subst AreWellFormed (sym (pieces_by-nil first_piece)) tt;
  same = ap text (pieces_by-nil first_piece);
}

pub one_set_by_step : (first_piece : List ℕ → Piece) (form : ℕ → Form) → CutsEach first_piece → StepLaw (stateless form) (in_any_set (pieces_by first_piece))
    → ((x : List ℕ) → first_piece (0x26 ∷ x) ≡ well_formed 1 (0x26 ∷ [])) → IsMapped (form 0x26) → ReadsByStep (stateless form) (in_any_set (pieces_by first_piece))
one_set_by_step first_piece form cuts steps ampersand has = record {
  steps = steps;
  lost = λ ref s c scalar lost. broken_at_first first_piece cuts (spelled ref (form c)) c (lost_strays ref first_piece form ampersand has c lost);
  nothing = λ s. pieces_by-nil first_piece;
  ignored = λ s s'. reads_nothing first_piece;
  undecided = λ s s'. inl refl;
}

-- UTF-8 is one
pub utf8_step_law : StepLaw utf8_coding (in_any_set pieces_utf8)
utf8_step_law =
    step_law first_piece_utf8 (λ c. Mapped (encode_utf8 c)) cuts_utf8
    (λ ref c scalar. inl (record { piece = λ y. first_piece_utf8-encode c y scalar ∙ ap (λ n. well_formed n (c ∷ [])) (sym (length-encode c)) }))

pub utf8_by_step : ReadsByStep utf8_coding (in_any_set pieces_utf8)
utf8_by_step = one_set_by_step first_piece_utf8 (λ c. Mapped (encode_utf8 c)) cuts_utf8 utf8_step_law (λ x. refl) tt
