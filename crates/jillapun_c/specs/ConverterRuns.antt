-- What the calls of a converter make together.
use Rattle.std.specs.Prelude.{◌≡◌, ◌<◌, ℕ, Bool, true, false, List, [], ◌++◌, drop, length, take}
use Rattle.encoding_mem.specs.Items.{Item}
use Rattle.recode_log.specs.declared.line.LogLine.TheVariants.{Lost}
use Rattle.recode.specs.Converter.{AllIsConverted, ConverterView, ConvertedSoFar, IsWhole, found_items}
use Rattle.recode.specs.Job.{log_of, output_of}
use Rattle.recode.specs.Policy.{reference_form, written_under}
use Rattle.recode.specs.TaggedByte.{IsPrefix, log_bytes, output_bytes, tagged}
use Rattle.recode.specs.WrittenItems.{IsSpared, lost_line_count}
use Rattle.recode.specs.declared.converter.ConverterResult.TheVariants.{Found}
use Rattle.recode.specs.declared.job.Job.{Job}
use Rattle.recode.specs.declared.job.Policy.{Policy}
use Rattle.jillapun_c.specs.Conversions.{ConvertsInMemory}
use Rattle.jillapun_c.specs.Converters.{StepView, held_losses}
use Rattle.jillapun_c.specs.Losses.{log_of_losses}
use Rattle.jillapun_c.specs.declared.converter.Stage.{Stage}
use Rattle.jillapun_c.specs.declared.converter.Stage.TheVariants.{Open, Stopped, TooLong}
use Rattle.jillapun_c.specs.declared.converter.progress.ConverterProgress.{ConverterProgress}
use Rattle.jillapun_c.specs.declared.losses.Loss.{Loss}
use Rattle.jillapun_c.specs.declared.report.Report.{Report}

-- the input is longer than the limit, and all that the limit allows is converted
pub record ExceedsLimit (j : Job) (v : ConverterView) (input : List ℕ) : Type 0 where
  pub long : j.limit < length input
  pub read : v.state.counts.read ≡ j.limit
  pub all : AllIsConverted v [] false

-- the policy stops, and these items end with the first character that is lost
pub record EndsAtLoss (p : Policy) (index scalar : ℕ) (items : List Item) : Type 0 where
  pub policy : p ≡ Policy.Stop
  pub before : List Item
  pub first : lost_line_count before ≡ 0
  pub is : items ≡ before ++ found_items (reference_form p) (Found (Lost index scalar))

-- what a stage says of all that was handed in and of the items of it that were converted
abbrev pub IsAtStage : Stage → Job → ConverterView → (input : List ℕ) → List Item → Type 0
IsAtStage Open j v input items = IsSpared j.policy items
IsAtStage (Stopped index scalar) j v input items = EndsAtLoss j.policy index scalar items
IsAtStage TooLong j v input items = IsSpared j.policy items × ExceedsLimit j v input

-- a conversion that is over was handed its end, has read all, and owes nothing
pub record IsOverWith (v : ConverterView) (last : Bool) (rest : List ℕ) : Type 0 where
  pub last_ : last ≡ true
  pub none : rest ≡ []
  pub whole : IsWhole v

-- an output and a log are what a policy writes of some items
pub record WritesUnder (p : Policy) (items : List Item) (output log : List ℕ) : Type 0 where
  pub is_output : output ≡ output_bytes (tagged (written_under p items))
  pub is_log : log ≡ log_bytes (tagged (written_under p items))

-- The calls of a converter, from a new one of a job on, were handed this input, of which the rest is not read. They handed
-- out this output and these records: with what the converter still holds, that is what its policy writes of the items that
-- were converted.
pub record HasConverted (j : Job) (last : Bool) (input rest output : List ℕ) (losses : List Loss) (c : StepView) : Type 0 where
  pub items : List Item
  pub taken : ConvertedSoFar j last input rest items c.stream
  pub written : WritesUnder j.policy items (output ++ c.held) (log_of_losses (losses ++ held_losses c))
  pub stage : IsAtStage c.stage j c.stream input items
  pub over : c.stream.over ≡ true → IsOverWith c.stream last rest

-- a converter went on from some bytes to the rest of them, and handed out these bytes and records
abbrev pub Carries : (before after : StepView) → (last : Bool) → (src rest output : List ℕ) → List Loss → Type 0
Carries c c' last src rest output losses = (j : Job) (input out : List ℕ) (records : List Loss) → HasConverted j last input src out records c
    → HasConverted j last input rest (out ++ output) (records ++ losses) c'

-- an output and records are the first part of what a job makes of an input, however it goes on
pub record IsFirstPartOf (j : Job) (last : Bool) (input output : List ℕ) (losses : List Loss) : Type 0 where
  pub first_bytes : (r : List ℕ) → (last ≡ true → r ≡ []) → IsPrefix output (output_of j (input ++ r))
  pub first_records : (r : List ℕ) → (last ≡ true → r ≡ []) → IsPrefix (log_of_losses losses) (log_of j (input ++ r))

-- the calls of a converter were handed this input and handed out this output and these records; these are the first part
-- of what the job makes of it; and a report and a status say of them what those of a conversion in memory do
pub record MakesConversion (j : Job) (last : Bool) (input rest output : List ℕ) (losses : List Loss) (converter : StepView) (report : Report) (status : ℕ) : Type 0 where
  pub so_far : HasConverted j last input rest output losses converter
  pub part : IsFirstPartOf j last input output losses
  pub told : ConvertsInMemory j input output losses report status

-- A call of a converter goes on with what the calls before it left and handed out: it is handed first what they have not
-- read, and nothing else if they were handed the end. What it hands out is joined to that, and what it reports is true of all.
abbrev pub JoinsToCalls : (before after : StepView) (src : List ℕ) (last : Bool) (dst : List ℕ) → List Loss → ConverterProgress → Report → (status : ℕ) → Type 0
JoinsToCalls c c' src last dst losses p report status = (j : Job) (last_before : Bool) (input rest more output : List ℕ) (records : List Loss)
    → HasConverted j last_before input rest output records c → src ≡ rest ++ more → (last_before ≡ true → (last ≡ true) × (more ≡ []))
    → MakesConversion j last (input ++ more) (drop p.read src) (output ++ take p.written dst) (records ++ take p.losses losses) c' report status
