-- A job in two rooms: what it makes stands there, as far as it fits.
use Rattle.std.proofs.Common.{◌≡◌, ◌+◌, ◌<◌, ◌≤◌, ℕ, Bool, true, false, List, length, inl, inr, refl, arith}
use Rattle.recode.specs.declared.job.Job.{Job}
use Rattle.jillapun_c.specs.ConverterRuns.{HasConverted, IsAtStage}
use Rattle.jillapun_c.specs.Converters.{StepView, ConvertsAll, HoldsNothing, TellsStage, TellsStatus}
use Rattle.jillapun_c.specs.Conversions.{IsDone}
use Rattle.jillapun_c.specs.Room.{HoldsFront}
use Rattle.jillapun_c.specs.declared.converter.Stage.{Stage}
use Rattle.jillapun_c.specs.declared.converter.Stage.TheVariants.{Open, Stopped, TooLong}
use Rattle.jillapun_c.specs.declared.converter.progress.ConverterProgress.{ConverterProgress}
use Rattle.jillapun_c.specs.declared.filled.Filled.{Filled}
use Rattle.jillapun_c.specs.declared.losses.Loss.{Loss}
use Rattle.jillapun_c.specs.declared.report.Report.{Report}
use Rattle.jillapun_c.specs.declared.status.TheConstants.{LOSSY, OK}

-- so many more steps may come than items are owed
abbrev pub steps_left : (wants_room : Bool) (owed : ℕ) → ℕ
steps_left true owed = owed + 1
steps_left false owed = 0

pub fewer_steps : (wants_room : Bool) (owed before : ℕ) → (wants_room ≡ true → owed < before) → steps_left wants_room owed < before + 1
fewer_steps true owed before fewer = omega (arith, fewer refl)
fewer_steps false owed before fewer = omega arith

-- Of a job in two rooms: what its converter handed out stands there, as far as it fits; and if no room is wanted, the
-- conversion has come to its end.
pub record RunSoFar (j : Job) (input rest dst dst' : List ℕ) (losses losses' : List Loss) (c : StepView) (wants_room : Bool) (output records : Filled) : Type 0 where
  pub out : List ℕ
  pub lines : List Loss
  pub so_far : HasConverted j true input rest out lines c
  pub written : HoldsFront out dst dst' output
  pub lost : HoldsFront lines losses losses' records
  pub same : length dst' ≡ length dst
  pub same_losses : length losses' ≡ length losses
  pub ended : wants_room ≡ false → HoldsNothing c × (c.stage ≡ Open → c.stream.over ≡ true)

is_over : (b : Bool) → (b ≡ false → ⊥) → b ≡ true
is_over true other = refl
is_over false other = absurd (other refl)

pub at_its_end : (c : StepView) (unread dst : List ℕ) (losses : List Loss) (p : ConverterProgress) → ConvertsAll c true unread dst losses p → p.wants_room ≡ false → HoldsNothing c × (c.stage ≡ Open → c.stream.over ≡ true)
at_its_end c unread dst losses p k is =
    let empty = k.wants_room.0 is in
    (empty, λ open_. is_over c.stream.over (λ goes_on. absurd (cc ((k.all empty open_ goes_on).0))))

-- an end that nothing but the verdict or the policy made
is_done : (s : Stage) (j : Job) (c : StepView) (input rest out : List ℕ) (lines : List Loss) (report : Report) (status : ℕ) (h : HasConverted j true input rest out lines c)
    → IsAtStage s j c.stream input h.items → TellsStage s c.stream report status → (s ≡ Open → c.stream.over ≡ true) → length input ≤ j.limit → IsDone status
is_done Open j c input rest out lines report status h stage tells over short =
    let told = tells.done (over refl) in by told.0.faithful told.2.faithful told.2.lossy
  where
    by : (b : Bool) → (b ≡ true → status ≡ OK) → (b ≡ false → status ≡ LOSSY) → IsDone status
    by true ok lossy = inl (inl (ok refl))
    by false ok lossy = inl (inr (lossy refl))
is_done (Stopped index scalar) j c input rest out lines report status h stage tells over short = inr tells.stopped
is_done TooLong j c input rest out lines report status h stage tells over short = absurd (omega (arith, stage.1.long, short))

pub run_done : (j : Job) (input rest dst dst' : List ℕ) (losses losses' : List Loss) (c : StepView) (wants_room : Bool) (output records : Filled) (report : Report) (status : ℕ) → RunSoFar j input rest dst dst' losses losses' c wants_room output records
    → wants_room ≡ false → TellsStatus c report status → length input ≤ j.limit → IsDone status
run_done j input rest dst dst' losses losses' c wants_room output records report status so none tells short =
    let ended = so.ended none in is_done c.stage j c input rest so.out so.lines report status so.so_far so.so_far.stage (tells.empty ended.0) ended.1 short
