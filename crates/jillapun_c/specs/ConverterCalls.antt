-- What the calls of a converter's handle do.
use Rattle.std.specs.Prelude.{◌≡◌, ℕ, Bool, true, false, List, [], Option, None, take}
use Rattle.encoding_tables.specs.IndexLists.{IndexLists}
use Rattle.recode.specs.declared.job.Job.{Job}
use Rattle.jillapun_c.specs.Asked.{IfKnown}
use Rattle.jillapun_c.specs.ConverterRuns.{HasConverted, JoinsToCalls}
use Rattle.jillapun_c.specs.ConverterWords.{HoldsConverter, saved_step_in}
use Rattle.jillapun_c.specs.Converters.{ConvertsByStep, IsNewConverter, StepView}
use Rattle.jillapun_c.specs.HeldTables.{held_lists}
use Rattle.jillapun_c.specs.declared.converter.handle.ConverterHandle.{ConverterHandle}
use Rattle.jillapun_c.specs.declared.converter.progress.ConverterProgress.{ConverterProgress}
use Rattle.jillapun_c.specs.declared.losses.Loss.{Loss}
use Rattle.jillapun_c.specs.declared.report.Report.{Report}
use Rattle.jillapun_c.specs.declared.request.Request.{Request}
use Rattle.jillapun_c.specs.declared.status.TheConstants.{CLOSED, FINISHED, OK}

-- a handle holds a converter
abbrev pub HoldsStep : ConverterHandle → StepView → Type 0
HoldsStep h v = HoldsConverter (held_lists h.tables.tables) h.words (take h.text_len h.text) v

-- it holds none
abbrev pub HoldsNoStep : ConverterHandle → Type 0
HoldsNoStep h = saved_step_in h.words ≡ None

-- there is nothing to convert: it holds no converter but one whose end was reported
abbrev pub IsIdle : ConverterHandle → Type 0
IsIdle h = (v : StepView) → HoldsStep h v → v.is_finished ≡ true

-- a status says why there is nothing to convert: the handle holds no converter, or one whose end was reported
pub record TellsWhyIdle (h : ConverterHandle) (status : ℕ) : Type 0 where
  pub closed : HoldsNoStep h → status ≡ CLOSED
  pub finished : (v : StepView) → HoldsStep h v → (v.is_finished ≡ true) × (status ≡ FINISHED)

-- A handle holds the converter that a call made of the one that it held: it converted all that it can, and what it handed
-- out goes on with what the calls before it left and handed out.
pub record MakesStep (before : StepView) (after : ConverterHandle) (src : List ℕ) (last : Bool) (dst dst' : List ℕ) (losses losses' : List Loss) (p : ConverterProgress) (report : Report) (status : ℕ) : Type 0 where
  pub converter : StepView
  pub holds : HoldsStep after converter
  pub converts : ConvertsByStep converter src last dst dst' losses losses' p report status
  pub joins : JoinsToCalls before converter src last dst' losses' p report status

-- a handle holds a converter of a job that was handed nothing
pub record HoldsNewConverter (job : Job) (h : ConverterHandle) : Type 0 where
  pub converter : StepView
  pub holds : HoldsStep h converter
  pub is_new : IsNewConverter converter job
  pub so_far : HasConverted job false [] [] [] [] converter

-- a converter is made of the job that is asked for
abbrev pub OpensConverter : (tables : Option IndexLists) → Request → (new : ConverterHandle) (status : ℕ) → Type 0
OpensConverter tables r new status =
    IfKnown (held_lists tables) r.from r.to r.mark r.policy r.limit (λ job. (status ≡ OK) × HoldsNewConverter job new) status
