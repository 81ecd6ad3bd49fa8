use Rattle.std.proofs.Common.{◌≡◌, ◌∙◌, ◌+◌, ◌-◌, ◌<◌, ℕ, Bool, [], ◌++◌, List, arith, drop, false, length, refl, subst, sym, take, true}
use Rattle.std.proofs.lemmas.List.{take_rest}
use Rattle.recode.specs.Converter.{owes}
use Rattle.jillapun_c.specs.ConverterRuns.{HasConverted}
use Rattle.jillapun_c.specs.Converters.{step_view}
use Rattle.jillapun_c.proofs.ConversionLemmas.{at_its_end, fewer_steps, run_done, steps_left}
use Rattle.jillapun_c.proofs.ConverterRunLemmas.{handed_in, told_so_far}
use Rattle.jillapun_c.proofs.RoomLemmas.{first_filled}
use Rattle.jillapun_c.proofs.in_memory.run_job.Goals as goal

pub steps-init : goal.steps-init
steps-init c =
    let e = c.run-progress in
    let out = take e.result.written e.new.dst in
    let lines = take e.result.losses e.new.losses in
    let begun = handed_in c.args.job false true [] [] c.args.src.now [] [] (step_view c.new-converter.result) (λ is. absurd (cc is)) c.new-converter.ensures.so_far in
    record {
      so_far = record {
        out = out;
        lines = lines;
        so_far = subst (λ (x : List ℕ). HasConverted c.args.job true c.args.src.now x out lines (step_view e.new.self)) (sym (take_rest c.args.src.now e.result.read)) (e.ensures.carries c.args.job c.args.src.now [] [] begun);
        written = first_filled c.args.dst.now e.new.dst e.result.written c.first-output.result e.ensures.output.fits e.ensures.output.after c.first-output.ensures.put c.first-output.ensures.length c.first-output.ensures.whole;
        lost = first_filled c.args.losses.now e.new.losses e.result.losses c.first-records.result e.ensures.lost.fits e.ensures.lost.after c.first-records.ensures.put c.first-records.ensures.length c.first-records.ensures.whole;
        same = e.auto.dst;
        same_losses = e.auto.losses;
        ended = at_its_end (step_view e.new.self) _ e.new.dst e.new.losses e.result e.ensures.converts;
      };
      size = refl;
      count = refl;
    }

pub steps-smaller : goal.steps-smaller
steps-smaller c =
    let e = c.run-progress-in-steps in
    let owed = length (owes (step_view c.steps.converter).stream c.steps.rest.now) in
    let next = take (length c.steps.rest.now - e.result.read) (drop e.result.read c.steps.rest.now) in
    let size : length e.new.dst ≡ 1024 = e.auto.dst ∙ c.steps.invariant.size in
    let count : length e.new.losses ≡ 16 = e.auto.losses ∙ c.steps.invariant.count in
    subst (λ (b : Bool). steps_left e.result.wants_room (length (owes (step_view e.new.self).stream next)) < steps_left b owed) (sym c.steps-test.true)
    (subst (λ (x : List ℕ). steps_left e.result.wants_room (length (owes (step_view e.new.self).stream x)) < owed + 1) (sym (take_rest c.steps.rest.now e.result.read))
    (fewer_steps e.result.wants_room _ owed (λ wants. e.ensures.fewer wants (omega (arith, size)) (omega (arith, count)))))

pub steps-preserved : goal.steps-preserved
steps-preserved c =
    let e = c.run-progress-in-steps in
    let so = c.steps.invariant.so_far in
    let out = so.out ++ take e.result.written e.new.dst in
    let lines = so.lines ++ take e.result.losses e.new.losses in
    record {
      so_far = record {
        out = out;
        lines = lines;
        so_far = subst (λ (x : List ℕ). HasConverted c.args.job true c.args.src.now x out lines (step_view e.new.self)) (sym (take_rest c.steps.rest.now e.result.read)) (e.ensures.carries c.args.job c.args.src.now so.out so.lines so.so_far);
        written = c.add.ensures.holds so.out c.args.dst.now (sym so.same) so.written;
        lost = c.add-in-steps.ensures.holds so.lines c.args.losses.now (sym so.same_losses) so.lost;
        same = c.add.auto.room ∙ so.same;
        same_losses = c.add-in-steps.auto.room ∙ so.same_losses;
        ended = at_its_end (step_view e.new.self) _ e.new.dst e.new.losses e.result e.ensures.converts;
      };
      size = e.auto.dst ∙ c.steps.invariant.size;
      count = e.auto.losses ∙ c.steps.invariant.count;
    }

pub returns : goal.returns
returns c =
    let so = c.steps.invariant.so_far in
    record {
      output = so.out;
      records = so.lines;
      converts = told_so_far c.stops_at_first_loss.ensures.fault c.args.job true c.args.src.now c.steps.rest.now so.out so.lines (step_view c.steps.converter) c.tell-status.result.1 c.tell-status.result.0 so.so_far c.tell-status.ensures;
      written = so.written;
      lost = so.lost;
      done = run_done c.args.job c.args.src.now c.steps.rest.now c.args.dst.now c.steps.dst c.args.losses.now c.steps.losses (step_view c.steps.converter) c.steps.progress.wants_room c.steps.output c.steps.records c.tell-status.result.1 c.tell-status.result.0 so c.steps-test.false c.tell-status.ensures;
    }
