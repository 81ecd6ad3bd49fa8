use Rattle.std.proofs.Common.{◌≡◌, ℕ, List, Bool, Some, ◌&&◌, ◌++◌, ◌≤◌, length, length-append, ◌∙◌, ap, sym, subst, arith, refl}
use Rattle.recode.specs.Devices.{IsOf, reads_of}
use Rattle.recode.specs.Parts.{CanBeCut, later}
use Rattle.recode.specs.declared.job.Job.{Job}
use Rattle.recode_log.specs.Counted.{inner_of}
use Rattle.test_examples.specs.SessionSteps.{GaveAll}
use Rattle.test_examples.specs.declared.session_steps.Keeper.{Keeper}
use Rattle.test_examples.specs.declared.session_steps.SingleBytes.{SingleBytes}
use Rattle.test_examples.proofs.PartRunsLemmas.{gave_parts, moves_second}
use Rattle.test_examples.proofs.part_runs.convert_parts.Goals as goal
use Rattle.test_examples.proofs.part_runs.convert_parts.Goals.{then-one, else-one}

pub returns : goal.returns
returns c =
    let j : Job = c.args.job in
    let x : List ℕ = c.args.first.now in
    let y : List ℕ = c.args.second.now in
    let law = c.parts_are_the_whole.ensures in
    let cut : CanBeCut j x = c.can_be_cut.ensures.0 c.if-not-can_be_cut.false in
    let one = c.in_ok-one.one in
    let other = c.in_ok-other.other in
    let gave : GaveAll j x one.output.items one.log.items one.characters one.faithful = c.in_ok-one.ensures in
    let gave_later : GaveAll (later j x) y other.output.items other.log.items other.characters other.faithful =
    subst (λ (k : Job). GaveAll k y other.output.items other.log.items other.characters other.faithful) c.later-later.ensures c.in_ok-other.ensures in
    let short : length y ≤ j.limit = gave_later.within in
    let joins = c.in_ok-join_log.ensures.ok in
    let given : IsOf (reads_of c.new-part.result) (reads_of c.join_log.new.part) other.log.items =
    c.devices_tell.ensures.input other.log.items (reads_of c.new-part.result) (reads_of c.join_log.new.part) _ _
    (ap (λ (s : SingleBytes). Some s.rest.now) c.new-part.ensures.inner ∙ ap Some c.deref-2.ensures.value) c.join_log.ensures.part_told in
    let moves = moves_second j x y _ _ _ _ _ _ _ _ gave gave_later (length x) _ _ _ _ joins refl given in
    let took : (inner_of c.join_log.new.whole).bytes.items ≡ (inner_of c.new-log.result).bytes.items ++ joins.moved =
    c.devices_tell.ensures.took _ _ _ _ joins.moved c.join_log.ensures.whole_told joins.wrote in
    let log : c.into_inner.result.bytes.items ≡ one.log.items ++ joins.moved =
    ap (λ (k : Keeper). k.bytes.items) c.into_inner.ensures ∙ took ∙ ap (λ (k : Keeper). k.bytes.items ++ joins.moved) c.new-log.ensures.inner in
    let both : c.if-one.faithful ≡ (one.faithful && other.faithful) = elim c.if-one.branch [
      | then-one w ↦ w.faithful-is ∙ ap (λ (b : Bool). b && other.faithful) (sym w.if-one.true)
      | else-one w ↦ w.faithful-is ∙ w.if-one.false ∙ ap (λ (b : Bool). b && other.faithful) (sym w.if-one.false)
    ] in
    gave_parts j x y _ _ _ _ _ _ _ _ gave gave_later _ _ joins.moved _ _
    (omega (arith, c.if-size-job.false, length-append x y)) (law.runs_through j x y c.requires cut) (law.text j x y c.requires cut) (law.output j x y c.requires cut gave.unstopped)
    (c.joined_logs_are_the_log.ensures j x y joins.moved c.requires cut gave.unstopped (omega (arith, short, c.requires.limit)) moves) (law.verdict j x y c.requires cut)
    (c.in_ok-extend_from_slice.ensures.items ∙ ap (λ l. one.output.items ++ l) c.deref.ensures.value) log (omega (arith, c.in-Some.ensures)) both
