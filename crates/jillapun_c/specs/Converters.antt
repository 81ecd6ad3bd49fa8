-- A conversion by steps: what a converter is, and what a call of its handle does.
use Rattle.std.specs.Prelude.{◌≡◌, ◌≢◌, ◌⊎◌, ◌↔◌, ◌≤◌, ℕ, Bool, true, false, IsFalse, IsTrue, List, [], ◌∷◌, drop, length, Option, None, Some}
use Rattle.recode.specs.Converter.{AllIsConverted, ConverterView, IsFreshConverter}
use Rattle.recode.specs.Session.{ReportsOn}
use Rattle.recode.specs.calls.ConverterView.{converter_view}
use Rattle.recode.specs.declared.job.Job.{Job}
use Rattle.recode.specs.declared.job.Report.{Report as RunReport}
use Rattle.jillapun_c.specs.Conversions.{IsToldReport, IsToldStop}
use Rattle.jillapun_c.specs.Room.{FillsRoom, IsFilled}
use Rattle.jillapun_c.specs.declared.converter.Converter.{Converter}
use Rattle.jillapun_c.specs.declared.converter.Stage.{Stage}
use Rattle.jillapun_c.specs.declared.converter.Stage.TheVariants.{Open, Stopped, TooLong}
use Rattle.jillapun_c.specs.declared.converter.progress.ConverterProgress.{ConverterProgress}
use Rattle.jillapun_c.specs.declared.losses.Loss.{Loss}
use Rattle.jillapun_c.specs.declared.report.Report.{Report}
use Rattle.jillapun_c.specs.declared.report.TheConstants.Report.{NONE}
use Rattle.jillapun_c.specs.declared.status.TheConstants.{GOES_ON, TOO_LONG}

-- A conversion by steps, as its callers know it: where the conversion stands; the bytes and the record that wait for room;
-- what it has come to, and whether its end was reported.
pub record StepView : Type 0 where
  pub stream : ConverterView
  pub held : List ℕ
  pub loss : Option Loss
  pub stage : Stage
  pub is_finished : Bool

-- what a converter of this library is to its callers
abbrev pub step_view : Converter → StepView
step_view c = record { stream = converter_view c.stream; held = c.held; loss = c.loss; stage = c.stage; is_finished = c.is_finished }

-- a record, if there is one, as a list
abbrev pub listed : Option Loss → List Loss
listed None = []
listed (Some loss) = loss ∷ []

-- the records of losses that a converter made and has not handed out: one at most
abbrev pub held_losses : StepView → List Loss
held_losses c = listed c.loss

-- all that it made was handed out
abbrev pub HoldsNothing : StepView → Type 0
HoldsNothing c = (c.held ≡ []) × (held_losses c ≡ [])

-- a converter that was handed nothing
pub record IsNewConverter (c : StepView) (j : Job) : Type 0 where
  pub fresh : IsFreshConverter c.stream j
  pub empty : HoldsNothing c
  pub stage : c.stage ≡ Open
  pub open_ : c.is_finished ≡ false

-- a converter handed out what it holds, as far as there is room, after what was handed out before
pub record HandsOut (c c' : StepView) (dst dst' : List ℕ) (losses losses' : List Loss) (p p' : ConverterProgress) : Type 0 where
  pub rest : c' ≡ record c { held = c'.held; loss = c'.loss }
  pub small : length c.held ≤ 32
  pub output : FillsRoom c.held c'.held dst dst' p.written p'.written
  pub lost : FillsRoom (held_losses c) (held_losses c') losses losses' p.losses p'.losses
  pub read : p'.read ≡ p.read
  pub wants_room : IsFalse p'.wants_room ↔ HoldsNothing c'

-- a report and a status say of a conversion that it goes on
abbrev pub TellsNoEnd : Report → (status : ℕ) → Type 0
TellsNoEnd report status = (report ≡ NONE) × (status ≡ GOES_ON)

-- what they say of one that nothing ended before its time: the counts and the verdict, if all was converted, and else
-- that it goes on
pub record TellsVerdict (v : ConverterView) (report : Report) (status : ℕ) : Type 0 where
  pub done : v.over ≡ true → (p : RunReport) × ReportsOn v.state p × IsToldReport p v.state.counts.index report status
  pub open_ : v.over ≡ false → TellsNoEnd report status

-- what they say of one at this stage
abbrev pub TellsStage : Stage → ConverterView → Report → (status : ℕ) → Type 0
TellsStage Open v report status = TellsVerdict v report status
TellsStage (Stopped index scalar) v report status = IsToldStop index scalar report status
TellsStage TooLong v report status = (report ≡ NONE) × (status ≡ TOO_LONG)

-- what they say of a converter: its end, once all that it made was handed out
pub record TellsStatus (c : StepView) (report : Report) (status : ℕ) : Type 0 where
  pub empty : HoldsNothing c → TellsStage c.stage c.stream report status
  pub held : ¬ (HoldsNothing c) → TellsNoEnd report status

-- What a call converts: if something wants room, it wants more than there was. Else the conversion has come to its end,
-- or all that was handed in is read, all that it decides is written, and the end was not among it.
pub record ConvertsAll (c : StepView) (last : Bool) (unread dst : List ℕ) (losses : List Loss) (p : ConverterProgress) : Type 0 where
  pub wants_room : IsFalse p.wants_room ↔ HoldsNothing c
  pub output : (c.held ≡ []) ⊎ (p.written ≡ length dst)
  pub lost : (held_losses c ≡ []) ⊎ (p.losses ≡ length losses)
  pub all : HoldsNothing c → c.stage ≡ Open → c.stream.over ≡ false → (last ≡ false) × AllIsConverted c.stream unread false

-- What a call does: it fills the start of both rooms, converts all that it can, and returns the status. If that is an end,
-- it was the last call.
pub record ConvertsByStep (converter : StepView) (src : List ℕ) (last : Bool) (dst dst' : List ℕ) (losses losses' : List Loss) (p : ConverterProgress) (report : Report) (status : ℕ) : Type 0 where
  pub read : p.read ≤ length src
  pub output : IsFilled dst dst' p.written
  pub lost : IsFilled losses losses' p.losses
  pub converts : ConvertsAll converter last (drop p.read src) dst' losses' p
  pub tells : TellsStatus converter report status
  pub finished : IsTrue converter.is_finished ↔ (status ≢ GOES_ON)
