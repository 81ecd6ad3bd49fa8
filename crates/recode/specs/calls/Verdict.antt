-- Whether an output reads back as its text, as it is known while it is written.
use Rattle.std.specs.Prelude.{◌≡◌, ◌⊎◌, ℕ, Bool, true, false, IsTrue, IsFalse, List, []}
use Rattle.std.specs.Bool.{MatchBool}
use Rattle.std.specs.Str.{all_scalars}
use Rattle.encoding_mem.specs.declared.codec.reference.Reference.{Reference}
use Rattle.encoding_mem.specs.Agreement.{ReadsByStep}
use Rattle.encoding_mem.specs.Coding.{Coding}
use Rattle.encoding_mem.specs.calls.EncoderCalls.{Encodes}
use Rattle.encoding_mem.specs.Piece.{Piece, text, AreWellFormed}
use Rattle.encoding_mem.specs.ReadBack.{ReadsAs}
use Rattle.encoding_mem.specs.calls.ReadCalls.{AreRead, HasTaken, KeepsVerdict, IsNotUnmappable, ReadsAlong, ReadsWhole}
use Rattle.encoding_mem.specs.declared.codec.form.EscapeState.{EscapeState}
use Rattle.encoding_mem.specs.declared.codec.encoder_result.EncoderResult.{EncoderResult}
use Rattle.encoding_mem.specs.Decided.{IsFixed}
use Rattle.encoding_front.specs.calls.Stream.{DecoderView}
use Rattle.recode.specs.calls.Buffers.{is_wide}
use Rattle.recode.specs.calls.PivotText.{is_in_units}
use Rattle.recode.specs.declared.job.Pivot.{Pivot}
use Rattle.recode.specs.declared.codec_calls.PivotText.{PivotText}

-- What reads the output back, whether the log alone says what is lost, and whether nothing was lost so far.
pub record VerdictView : Type 0 where
  pub reader : DecoderView
  pub by_log : Bool
  pub faithful : Bool

-- the pieces of the output to come
abbrev pub to_read : VerdictView → List ℕ → List Piece
to_read v = v.reader.state.pieces

-- Nothing was lost so far, and nothing will be if these pieces are still to be converted: none is malformed, and what
-- is written for their text reads back as it.
abbrev pub IsFaithfulFor : Reference → VerdictView → Coding → EscapeState → List Piece → Type 0
IsFaithfulFor ref v e s ps = IsTrue v.faithful × AreWellFormed ps × ReadsWhole ref e (to_read v) s (text ps)

-- what leaves the rest of a text keeps the verdict on it
abbrev pub VerdictIsKept : Coding → Bool → VerdictView → EscapeState → List ℕ → VerdictView → EscapeState → List ℕ → Type 0
VerdictIsKept e last v s t v' s' rest = KeepsVerdict e last v.faithful (to_read v) s t v'.faithful (to_read v') s' rest

-- ---- what is read back

-- what bytes decide is this text
pub record ReadsAsText (before after : List ℕ → List Piece) (bytes t : List ℕ) : Type 0 where
  pub taken : List Piece
  pub has : HasTaken before after bytes taken
  pub well_formed : AreWellFormed taken
  pub same : text taken ≡ t

-- pieces that bytes decide, whatever numbers follow, are not at the start of this text, or all that they decide are not
-- the whole of it
abbrev pub ReadsAsOther : (before after : List ℕ → List Piece) (bytes t : List ℕ) → Type 0
ReadsAsOther before after bytes t =
    ((part : List Piece) × IsFixed before bytes part × (¬ (AreRead part t)))
    ⊎ ((taken : List Piece) × HasTaken before after bytes taken × (¬ (AreWellFormed taken × (text taken ≡ t))))

-- what was written for a text was read back, and the verdict says whether it is that text
abbrev pub IsCompared : (v v' : VerdictView) (bytes t : List ℕ) → Type 0
IsCompared v v' bytes t = MatchBool v'.faithful (ReadsAsText (to_read v) (to_read v') bytes t) (ReadsAsOther (to_read v) (to_read v') bytes t)

-- What was written for a text was read back, or nothing was, if the log alone says what is lost or something was lost
-- before.
pub record IsReadBack (v v' : VerdictView) (bytes t : List ℕ) : Type 0 where
  pub by_log : v'.by_log ≡ v.by_log
  pub open_ : v'.reader.finished ≡ false
  pub kept : (IsTrue v.by_log) ⊎ (IsFalse v.faithful) → v' ≡ v
  pub compared : IsFalse v.by_log → IsTrue v.faithful → IsCompared v v' bytes t

-- if a text will be read back, the room for it is of its form
abbrev pub NeedsForm : VerdictView → Pivot → PivotText → Type 0
NeedsForm v check p = IsFalse v.by_log → IsTrue v.faithful → is_wide check ≡ is_in_units p

-- ---- why that says it

-- The pieces of the output are the same from every set, and a call that reports nothing keeps a true verdict.
pub record IsToldByLog (e : Coding) (pieces_from : EscapeState → List ℕ → List Piece) (pieces : List ℕ → List Piece) : Type 0 where
  pub anywhere : (s : EscapeState) → pieces_from s ≡ pieces
  pub keeps : (last : Bool) (outcome : EncoderResult) (s : EscapeState) (t written : List ℕ) (s' : EscapeState) (rest : List ℕ) → all_scalars t ≡ true
      → Encodes e last outcome s t written s' rest → IsNotUnmappable outcome → KeepsVerdict e last true pieces s t true pieces s' rest

-- The target reads back step by step, and the reader reads along what is written, up to the set s before the text t.
pub record IsReadAlong (v : VerdictView) (e : Coding) (s : EscapeState) (t : List ℕ) : Type 0 where
  pub pieces_from : EscapeState → List ℕ → List Piece
  pub steps : ReadsByStep e pieces_from
  pub along : IsTrue v.faithful → ReadsAlong e pieces_from (to_read v) s t
  pub told : IsTrue v.by_log → IsToldByLog e pieces_from (to_read v)

-- the verdict can be known
pub record CanTell (v : VerdictView) (e : Coding) (s : EscapeState) (t : List ℕ) : Type 0 where
  pub open_ : v.reader.finished ≡ false
  pub along : ∥ IsReadAlong v e s t ∥₁

-- if all is written, what is pending in the reader is no text
abbrev pub IsToldAtEnd : VerdictView → Type 0
IsToldAtEnd v = IsTrue v.faithful → ReadsAs (to_read v) [] []
