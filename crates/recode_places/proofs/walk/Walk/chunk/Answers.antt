use Rattle.std.proofs.Common.{arith, sym, refl}
use Rattle.std.proofs.lemmas.List.{take_rest}
use Rattle.recode_places.specs.calls.Walks.{walk_state}
use Rattle.recode_places.proofs.AheadLemmas.{tells_passed}
use Rattle.recode_places.proofs.CallLemmas.{on_err}
use Rattle.recode_places.proofs.EntryLemmas.{rises_err, rising_none, rising_then}
use Rattle.recode_places.proofs.FitsLemmas.{match_err}
use Rattle.recode_places.specs.calls.FatesViews.{asked_by}
use Rattle.recode_places.proofs.FatedLemmas.{fated_none, fated_then}
use Rattle.recode_places.proofs.FoundLemmas.{found_none}
use Rattle.recode_places.proofs.ReadsLemmas.{lines_none, lines_then, reads_nothing}
use Rattle.recode_places.proofs.WalkLemmas.{walks_start, walks_stops, walks_then}
use Rattle.recode_places.proofs.walk.Walk.chunk.Goals as goal

pub chunk-init : goal.chunk-init
chunk-init g c = record { walks = walks_start _ (walk_state c.args.self.now) _ _; lines = lines_none _ _ _ (reads_nothing _); fates = fated_none (asked_by c.args.choice.now) (asked_by c.args.choice.now) _ refl; rising = rising_none _ _ _ (omega arith); finds = λ r end. found_none (asked_by c.args.choice.now) _ _ _ refl; fits = λ r end h. h; ready = c.requires.ready }

pub returns-in_err-part-clause-err : goal.returns-in_err-part-clause-err
returns-in_err-part-clause-err g c =
    rw (sym c.is_empty-last.ensures) (on_err _ _ (walks_stops _ _ _ _ _ _ _ _ c.chunk.invariant.walks c.in_err-part.ensures.err))

pub returns-then-part-clause-chunk : goal.returns-then-part-clause-chunk
returns-then-part-clause-chunk g c =
    let part = c.in_ok-part.ensures.part in
    let done = part.done c.if-part.true in
    rw (sym c.is_empty-last.ensures) (record {
      walks = walks_then _ _ _ _ _ _ _ _ _ _ c.chunk.invariant.walks (rw done.0 at part.walks);
      more = λ h. done.1 h;
      end = λ h. done.2 h;
    })

pub chunk-preserved : goal.chunk-preserved
chunk-preserved g c =
    let part = c.in_ok-part.ensures.part in
    let more = part.more c.if-part.false in
    record {
      walks = rw (take_rest c.chunk.rest.now c.in_ok-part.part.read) (walks_then _ _ _ _ _ _ _ _ _ _ c.chunk.invariant.walks part.walks);
      finds = λ r end. rw (take_rest c.chunk.rest.now c.in_ok-part.part.read) (tells_passed (asked_by c.args.choice.now) (asked_by c.chunk.choice) _ (walk_state c.chunk.self) (walk_state c.part.new.self) _ _ _ _ _ c.chunk.invariant.fates.0 (c.chunk.invariant.finds r end) (c.in_ok-part.ensures.finds r end));
      fits = λ r end h. rw (take_rest c.chunk.rest.now c.in_ok-part.part.read) (c.in_ok-part.ensures.fits r end (c.chunk.invariant.fits r end h));
      lines = lines_then _ _ _ _ _ _ c.chunk.invariant.lines c.in_ok-part.ensures.lines;
      fates = fated_then _ _ _ _ _ _ c.chunk.invariant.fates c.in_ok-part.ensures.fates;
      rising = rising_then _ _ _ _ _ _ c.chunk.invariant.rising c.in_ok-part.ensures.rising;
      ready = record { open_ = more.0; within = part.walks.within c.chunk.invariant.ready.within };
    }

pub returns-then-part-clause-fates : goal.returns-then-part-clause-fates
returns-then-part-clause-fates g c = fated_then _ _ _ _ _ _ c.chunk.invariant.fates c.in_ok-part.ensures.fates

pub returns-in_err-part-clause-fates : goal.returns-in_err-part-clause-fates
returns-in_err-part-clause-fates g c = fated_then _ _ _ _ _ _ c.chunk.invariant.fates c.in_err-part.ensures.fates

pub returns-then-part-clause-rising : goal.returns-then-part-clause-rising
returns-then-part-clause-rising g c = rising_then _ _ _ _ _ _ c.chunk.invariant.rising c.in_ok-part.ensures.rising

pub returns-in_err-part-clause-rising : goal.returns-in_err-part-clause-rising
returns-in_err-part-clause-rising g c =
    let e = c.in_err-part.ensures.rising in
    rises_err _ _ _ _ e.0 _ _ c.from_residual.ensures.1 (rising_then _ _ _ _ _ _ c.chunk.invariant.rising e.1)

pub returns-then-part-clause-lines : goal.returns-then-part-clause-lines
returns-then-part-clause-lines g c = lines_then _ _ _ _ _ _ c.chunk.invariant.lines c.in_ok-part.ensures.lines

pub returns-in_err-part-clause-fits : goal.returns-in_err-part-clause-fits
returns-in_err-part-clause-fits g c = rw (sym c.is_empty-last.ensures) (λ r end h. match_err _ _ _ c.from_residual.ensures.1 (c.in_err-part.ensures.fits r end (c.chunk.invariant.fits r end h)))

pub returns-then-part-clause-fits : goal.returns-then-part-clause-fits
returns-then-part-clause-fits g c = rw (sym c.is_empty-last.ensures) (λ r end h. rw (c.in_ok-part.ensures.part.done c.if-part.true).0 at (c.in_ok-part.ensures.fits r end (c.chunk.invariant.fits r end h)))

pub returns-then-part-clause-finds : goal.returns-then-part-clause-finds
returns-then-part-clause-finds g c = rw (sym c.is_empty-last.ensures) (λ r end.
    rw (c.in_ok-part.ensures.part.done c.if-part.true).0 at (tells_passed (asked_by c.args.choice.now) (asked_by c.chunk.choice) _ (walk_state c.chunk.self) (walk_state c.part.new.self) _ _ _ _ _ c.chunk.invariant.fates.0 (c.chunk.invariant.finds r end) (c.in_ok-part.ensures.finds r end)))
