-- What a call does that converts an input as its numbers ask for.
use Rattle.std.specs.Prelude.{◌≡◌, ◌≢◌, ℕ, List}
use Rattle.encoding_tables.specs.IndexLists.{IndexLists}
use Rattle.jillapun_c.specs.Asked.{IfKnown}
use Rattle.jillapun_c.specs.Conversions.{ConvertsIfShort, IsDone}
use Rattle.jillapun_c.specs.declared.losses.Loss.{Loss}
use Rattle.jillapun_c.specs.declared.report.Report.{Report}
use Rattle.jillapun_c.specs.declared.report.TheConstants.Report.{NONE}
use Rattle.jillapun_c.specs.declared.request.Request.{Request}
use Rattle.jillapun_c.specs.declared.status.TheConstants.{ROOM}

-- The input is converted by the job that is asked for, over tables with these indexes; or nothing is written, and nothing is
-- reported.
pub record ConvertsAsked (tables : IndexLists) (r : Request) (input dst dst' : List ℕ) (losses losses' : List Loss) (report : Report) (status : ℕ) : Type 0 where
  pub converts : IfKnown tables r.from r.to r.mark r.policy r.limit (λ j. ConvertsIfShort j input dst dst' losses losses' report status) status
  pub kept : ¬ (IsDone status) → status ≢ ROOM → (dst' ≡ dst) × (losses' ≡ losses)
  pub nothing : ¬ (IsDone status) → status ≢ ROOM → report ≡ NONE
