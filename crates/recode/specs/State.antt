-- Where a conversion stands, as contracts see it.
use Rattle.std.specs.Prelude.{Bool, List, [], ℕ, ◌+◌, ◌++◌, length}
use Rattle.encoding_mem.specs.Coding.{Coding}
use Rattle.encoding_mem.specs.calls.Decoding.{DecoderState}
use Rattle.encoding_mem.specs.Items.{Item}
use Rattle.encoding_mem.specs.Piece.{Piece, text}
use Rattle.encoding_mem.specs.declared.codec.form.EscapeState.{EscapeState}
use Rattle.encoding_front.specs.declared.encoding.Encoding.{Encoding}
use Rattle.recode.specs.Policy.{reference_form}
use Rattle.recode.specs.calls.TraceToWrite.{trace_to_write}
use Rattle.recode.specs.calls.Verdict.{IsFaithfulFor, VerdictView}
use Rattle.recode.specs.declared.job.Policy.{Policy}
use Rattle.recode.specs.declared.counts.Counts.{Counts}

-- The pieces of the bytes to come, whether the decoder has ended, and the encoding that the input turns out to be in
-- with them; the target's rule and the set in force, and what is done about characters without bytes; whether something
-- was lost, and what was counted so far.
pub record State : Type 0 where
  pub decoder : DecoderState
  pub finished : Bool
  pub source : List ℕ → Encoding
  pub coding : Coding
  pub set : EscapeState
  pub policy : Policy
  pub verdict : VerdictView
  pub counts : Counts

-- what is still to be written for the bytes to come, if no policy stops it
abbrev pub to_write : State → List ℕ → List Item
to_write s r = trace_to_write (reference_form s.policy) s.decoder s.coding s.set s.counts r

-- nothing was lost so far, and nothing will be of these bytes
abbrev pub WillBeFaithful : State → List ℕ → Type 0
WillBeFaithful s r = IsFaithfulFor (reference_form s.policy) s.verdict s.coding s.set (s.decoder.pieces r)

-- the text that is still to be encoded, if these pieces wait, with the bytes to come
abbrev pub text_after : List Piece → State → List ℕ → List ℕ
text_after waiting s r = text (waiting ++ s.decoder.pieces r)

-- how many characters the whole text has then: those that were encoded, and those that are still to be
abbrev pub characters_after : List Piece → State → List ℕ → ℕ
characters_after waiting s r = s.counts.index + length (text_after waiting s r)

-- how many characters the whole text has, if no piece waits
abbrev pub characters_with : State → List ℕ → ℕ
characters_with s r = characters_after [] s r
