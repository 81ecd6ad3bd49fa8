-- What the words of a converter's handle stand for.
use Rattle.std.specs.Prelude.{◌≡◌, ℕ, List, if◌then◌else◌, [], ◌∷◌, Option, None, Some, option_and_then, option_map, slice_get, take}
use Rattle.std.specs.Option.{ForSome}
use Rattle.encoding_mem.specs.declared.codec.decoder_result.DecoderResult.{DecoderResult}
use Rattle.encoding_mem.specs.declared.codec.decoder_result.DecoderResult.TheVariants as decoded
use Rattle.encoding_tables.specs.IndexLists.{IndexLists}
use Rattle.recode.specs.SavedConverters.{SavesConverter}
use Rattle.recode.specs.declared.converter.saved_converter.SavedConverter.{SavedConverter}
use Rattle.recode.specs.declared.converter.saved_converter.SavedJob.{SavedJob}
use Rattle.recode.specs.declared.converter.saved_converter.SavedVerdict.{SavedVerdict}
use Rattle.jillapun_c.specs.Asked.{policy_at}
use Rattle.jillapun_c.specs.Converters.{StepView}
use Rattle.jillapun_c.specs.EncoderWords.{set_at}
use Rattle.jillapun_c.specs.EncodingNumbers.{encoding_at, mark_at}
use Rattle.jillapun_c.specs.HeldDecoders.{saved_in}
use Rattle.jillapun_c.specs.declared.converter.Stage.{Stage}
use Rattle.jillapun_c.specs.declared.converter.Stage.TheVariants as stage
use Rattle.jillapun_c.specs.declared.converter.words.AnswerWords.{AnswerWords}
use Rattle.jillapun_c.specs.declared.converter.words.ConverterWords.{ConverterWords}
use Rattle.jillapun_c.specs.declared.converter.words.JobWords.{JobWords}
use Rattle.jillapun_c.specs.declared.converter.words.SavedStep.{SavedStep}
use Rattle.jillapun_c.specs.declared.converter.words.StageWords.{StageWords}
use Rattle.jillapun_c.specs.declared.converter.words.StreamWords.{StreamWords}
use Rattle.jillapun_c.specs.declared.converter.words.VerdictWords.{VerdictWords}

-- ---- each number stands for something, or there is nothing

-- a job
abbrev pub saved_job_in : JobWords → Option SavedJob
saved_job_in w =
    option_and_then (λ from. option_and_then (λ to. option_and_then (λ mark. option_map (λ policy. record { from = from; to = to; mark = mark; policy = policy; limit = w.limit })
    (policy_at w.policy)) (mark_at w.mark)) (encoding_at w.to)) (encoding_at w.from)

-- a verdict
abbrev pub saved_verdict_in : VerdictWords → Option SavedVerdict
saved_verdict_in w = option_map (λ reader. record { reader = reader; by_log = w.by_log; faithful = w.faithful }) (saved_in w.reader)

-- how a call of a decoder ended, if there was one, with the two lengths of a malformed sequence
abbrev pub saved_answer_in : AnswerWords → Option (Option DecoderResult)
saved_answer_in w = slice_get (None ∷ Some decoded.InputEmpty ∷ Some decoded.OutputFull ∷ Some (decoded.Malformed w.size w.after) ∷ []) w.kind

-- a conversion
abbrev pub saved_stream_in : StreamWords → Option SavedConverter
saved_stream_in w =
    option_and_then (λ job. option_and_then (λ decoder. option_and_then (λ set. option_and_then (λ verdict. option_map (λ answer. record {
      job = job;
      decoder = decoder;
      set = set;
      verdict = verdict;
      counts = record { read = w.read; index = w.index; bad = w.bad; lost = w.lost; calls = w.calls };
      answer = answer;
      ended = w.ended;
      over = w.over;
    }) (saved_answer_in w.answer)) (saved_verdict_in w.verdict)) (set_at w.set)) (saved_in w.decoder)) (saved_job_in w.job)

-- what a conversion has come to
abbrev pub saved_stage_in : StageWords → Option Stage
saved_stage_in w = slice_get (stage.Open ∷ stage.Stopped w.index w.scalar ∷ stage.TooLong ∷ []) w.stage

-- what was saved of the converter; none if there is none, or if a number stands for nothing
abbrev pub saved_step_in : ConverterWords → Option SavedStep
saved_step_in w = if w.is_there then option_and_then (λ stream. option_map (λ stage. record {
  stream = stream;
  held = w.held;
  held_len = w.held_len;
  loss = if w.has_loss then Some w.loss else None;
  stage = stage;
  is_finished = w.is_finished;
}) (saved_stage_in w.stage)) (saved_stream_in w.stream) else None

-- ---- the converter that they are of

-- what was saved, and the text that waits, are those of a converter
pub record SavesStep (w : SavedStep) (text : List ℕ) (v : StepView) : Type 0 where
  pub stream : SavesConverter w.stream text v.stream
  pub is : v ≡ record { stream = v.stream; held = take w.held_len w.held; loss = w.loss; stage = w.stage; is_finished = w.is_finished }

-- the words, and the text that waits, stand for a converter that callers know by this view, whose job has these indexes
pub record HoldsConverter (lists : IndexLists) (words : ConverterWords) (text : List ℕ) (v : StepView) : Type 0 where
  pub lists_are : lists ≡ v.stream.lists
  pub saved : SavedStep
  pub is : saved_step_in words ≡ Some saved
  pub saves : SavesStep saved text v

-- words that stand for a converter are those of one
abbrev pub IsSoundConverter : IndexLists → ConverterWords → (text : List ℕ) → Type 0
IsSoundConverter lists words text = ForSome (saved_step_in words) (λ saved. ∥ ((v : StepView) × HoldsConverter lists words text v) ∥₁)
