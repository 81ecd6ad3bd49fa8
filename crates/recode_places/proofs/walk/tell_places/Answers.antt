use Rattle.std.proofs.Common.{◌∙◌, arith, length, subst, take, refl}
use Rattle.std.proofs.lemmas.Bool.{eq-eqb, eqb-true, ne_eqb}
use Rattle.std.proofs.lemmas.List.{length-take}
use Rattle.encoding_front.specs.calls.DecoderViews.{decoder_view}
use Rattle.recode_places.specs.calls.LogViews.{choice_left}
use Rattle.recode_places.specs.calls.Walks.{FitsAhead, walk_state}
use Rattle.recode_places.proofs.AheadLemmas.{ahead_new, at_end, consumed, ends_ahead, if_err, if_ok, tells_all, tells_read}
use Rattle.recode_places.specs.calls.FatesViews.{asked_by}
use Rattle.recode_places.proofs.EntryLemmas.{rising_none, rising_then}
use Rattle.recode_places.proofs.FatedLemmas.{fated_none, fated_then, if_ok_anyway}
use Rattle.recode_places.proofs.FoundLemmas.{found_none}
use Rattle.recode_places.proofs.ReadsLemmas.{finished_lines, lines_none, lines_then, reads_nothing}
use Rattle.recode_places.proofs.WalkLemmas.{stops_known, tells_known, walks_from, walks_new}
use Rattle.recode_places.proofs.walk.tell_places.Goals as goal

pub input-init : goal.input-init
input-init g c = record { walks = walks_new _ _ _; lines = lines_none _ _ _ (reads_nothing _); fates = fated_none (asked_by c.args.choice.now) (asked_by c.args.choice.now) _ refl; rising = rising_none _ _ _ (omega arith); finds = λ x e. (x, e, found_none (asked_by c.args.choice.now) _ _ _ refl); fits = λ x e h. (x, e, h); ready = record { open_ = c.new.ensures.begins.open_; within = omega (arith, c.new.ensures.begins.pending, c.first.ensures.index) }; few = omega arith }

pub returns-in_default-clause-told : goal.returns-in_default-clause-told
returns-in_default-clause-told g c = tells_known _ _ _ _ (record { place = c.first.ensures; read = omega (arith, c.new.ensures.begins.pending) }) c.new.ensures.begins.pieces _ _ _ c.input.invariant.walks

pub returns-then-count-walk-clause-told : goal.returns-then-count-walk-clause-told
returns-then-count-walk-clause-told g c = tells_known _ _ _ _ (record { place = c.first.ensures; read = omega (arith, c.new.ensures.begins.pending) }) c.new.ensures.begins.pieces _ _ _ c.input.invariant.walks

pub overflow_sub-walk : goal.overflow_sub-walk
overflow_sub-walk g c = omega (arith, c.input.invariant.few)

pub chunk-requires-clause-limit : goal.chunk-requires-clause-limit
chunk-requires-clause-limit g c = omega (arith, c.input.invariant.few, c.if-count-walk.false, length-take c.in-Ok.count c.read.new.buf)

pub returns-in_err-chunk-clause-told : goal.returns-in_err-chunk-clause-told
returns-in_err-chunk-clause-told g c =
    stops_known _ _ _ _ (record { place = c.first.ensures; read = omega (arith, c.new.ensures.begins.pending) }) c.new.ensures.begins.pieces _ _ _ _ _ _ _ c.input.invariant.walks
    c.in-Ok.ensures.bytes.0 (λ h. c.in-Ok.ensures.bytes.1 (c.in-Ok.ensures.bound.1 ∙ eqb-true _ 0 h) (omega (arith, c.read.auto.buf))) c.in_err-chunk.ensures.err

pub returns-then-count-eq0-clause-told : goal.returns-then-count-eq0-clause-told
returns-then-count-eq0-clause-told g c =
    tells_known _ _ _ _ (record { place = c.first.ensures; read = omega (arith, c.new.ensures.begins.pending) }) c.new.ensures.begins.pieces _ _ _
    (walks_from _ _ _ _ _ _ _ _ _ _ _ c.input.invariant.walks
    c.in-Ok.ensures.bytes.0 (λ h. c.in-Ok.ensures.bytes.1 (c.in-Ok.ensures.bound.1 ∙ eqb-true _ 0 h) (omega (arith, c.read.auto.buf))) c.in_ok-chunk.ensures.chunk.walks)

pub returns-then-count-eq0-clause-fates : goal.returns-then-count-eq0-clause-fates
returns-then-count-eq0-clause-fates g c = fated_then _ _ _ _ _ _ c.input.invariant.fates c.in_ok-chunk.ensures.fates

pub returns-in_err-chunk-clause-fates : goal.returns-in_err-chunk-clause-fates
returns-in_err-chunk-clause-fates g c = fated_then _ _ _ _ _ _ c.input.invariant.fates c.in_err-chunk.ensures.fates

pub returns-in_default-clause-rising : goal.returns-in_default-clause-rising
returns-in_default-clause-rising g c = (c.input.walk.place.index, c.input.invariant.rising)

pub returns-then-count-walk-clause-rising : goal.returns-then-count-walk-clause-rising
returns-then-count-walk-clause-rising g c = (c.input.walk.place.index, c.input.invariant.rising)

pub returns-then-count-eq0-clause-rising : goal.returns-then-count-eq0-clause-rising
returns-then-count-eq0-clause-rising g c = (c.chunk.new.self.place.index, rising_then _ _ _ _ _ _ c.input.invariant.rising c.in_ok-chunk.ensures.rising)

pub returns-in_err-chunk-clause-rising : goal.returns-in_err-chunk-clause-rising
returns-in_err-chunk-clause-rising g c =
    let e = c.in_err-chunk.ensures.rising in
    (e.0, rising_then _ _ _ _ _ _ c.input.invariant.rising e.1)

pub returns-then-count-eq0-clause-lines : goal.returns-then-count-eq0-clause-lines
returns-then-count-eq0-clause-lines g c = finished_lines _ _ _ _ _ (lines_then _ _ _ _ _ _ c.input.invariant.lines c.in_ok-chunk.ensures.lines) c.finish.ensures.lines

pub input-preserved : goal.input-preserved
input-preserved g c =
    let chunk = c.in_ok-chunk.ensures.chunk in
    record {
      walks = walks_from _ _ _ _ _ _ _ _ _ _ _ c.input.invariant.walks
          c.in-Ok.ensures.bytes.0 (λ h. c.in-Ok.ensures.bytes.1 (c.in-Ok.ensures.bound.1 ∙ eqb-true _ 0 h) (omega (arith, c.read.auto.buf))) chunk.walks;
      finds = λ x e.
          let now = c.input.invariant.finds x e in
          let next = consumed _ _ _ now.0 c.in-Ok.ensures.bytes.0 now.1 in (
            next.0,
            next.1,
            tells_read (asked_by c.args.choice.now) (asked_by c.input.choice) _ (walk_state c.input.walk) (walk_state c.chunk.new.self) _ _ _ _ _ _ c.input.invariant.fates.0 next.2 now.2
                (c.in_ok-chunk.ensures.finds next.0 (λ end. at_end _ next.0 next.1 (c.in-Ok.ensures.bytes.1 (c.in-Ok.ensures.bound.1 ∙ eqb-true _ 0 end) (omega (arith, c.read.auto.buf))))),
          );
      fits = λ x e h.
          let now = c.input.invariant.fits x e h in
          let next = consumed _ _ _ now.0 c.in-Ok.ensures.bytes.0 now.1 in (
            next.0,
            next.1,
            c.in_ok-chunk.ensures.fits next.0 (λ end. at_end _ next.0 next.1 (c.in-Ok.ensures.bytes.1 (c.in-Ok.ensures.bound.1 ∙ eqb-true _ 0 end) (omega (arith, c.read.auto.buf))))
                (subst (λ y. FitsAhead (walk_state c.input.walk) (choice_left g.L.Read.remaining c.input.choice) y) next.2 now.2),
          );
      lines = lines_then _ _ _ _ _ _ c.input.invariant.lines c.in_ok-chunk.ensures.lines;
      fates = fated_then _ _ _ _ _ _ c.input.invariant.fates c.in_ok-chunk.ensures.fates;
      rising = rising_then _ _ _ _ _ _ c.input.invariant.rising c.in_ok-chunk.ensures.rising;
      ready = record { open_ = chunk.more (ne_eqb (length (take c.in-Ok.count c.read.new.buf)) 0 (omega (arith, c.in-Ok.ensures.bound.1, c.if-count-eq0.false))); within = chunk.walks.within c.input.invariant.ready.within };
      few = omega (arith, chunk.walks.read, c.if-count-walk.false, c.in-Ok.ensures.bound.1, c.input.invariant.few);
    }

pub returns-in_err-chunk-clause-fits : goal.returns-in_err-chunk-clause-fits
returns-in_err-chunk-clause-fits g c = λ x e h.
    let now = c.input.invariant.fits x e (ahead_new c.first.result.index (decoder_view c.new.result).state.pending (decoder_view c.new.result).state.pieces _ (choice_left g.L.Read.remaining c.args.choice.now) c.first.ensures.index c.new.ensures.begins.pieces x h) in
    let next = consumed _ _ _ now.0 c.in-Ok.ensures.bytes.0 now.1 in
    if_err _ _ c.from_residual.ensures.1 (c.in_err-chunk.ensures.fits next.0 (λ end. at_end _ next.0 next.1 (c.in-Ok.ensures.bytes.1 (c.in-Ok.ensures.bound.1 ∙ eqb-true _ 0 end) (omega (arith, c.read.auto.buf))))
    (subst (λ y. FitsAhead (walk_state c.input.walk) (choice_left g.L.Read.remaining c.input.choice) y) next.2 now.2))

pub returns-then-count-eq0-clause-fits : goal.returns-then-count-eq0-clause-fits
returns-then-count-eq0-clause-fits g c = λ x e h.
    let now = c.input.invariant.fits x e (ahead_new c.first.result.index (decoder_view c.new.result).state.pending (decoder_view c.new.result).state.pieces _ (choice_left g.L.Read.remaining c.args.choice.now) c.first.ensures.index c.new.ensures.begins.pieces x h) in
    let next = consumed _ _ _ now.0 c.in-Ok.ensures.bytes.0 now.1 in
    let ended = eq-eqb (length (take c.in-Ok.count c.read.new.buf)) 0 (omega (arith, c.in-Ok.ensures.bound.1, c.if-count-eq0.true)) in
    let none = at_end _ next.0 next.1 (c.in-Ok.ensures.bytes.1 (c.in-Ok.ensures.bound.1 ∙ eqb-true _ 0 ended) (omega (arith, c.read.auto.buf))) in
    if_ok _ (c.finish.ensures.fits (ends_ahead (walk_state c.chunk.new.self) (choice_left g.L.Read.remaining c.chunk.new.choice) next.0 none (c.in_ok-chunk.ensures.chunk.end ended)
    (c.in_ok-chunk.ensures.fits next.0 (λ end. none) (subst (λ y. FitsAhead (walk_state c.input.walk) (choice_left g.L.Read.remaining c.input.choice) y) next.2 now.2))))

pub returns-then-count-eq0-clause-finds : goal.returns-then-count-eq0-clause-finds
returns-then-count-eq0-clause-finds g c = λ x e.
    let now = c.input.invariant.finds x e in
    let next = consumed _ _ _ now.0 c.in-Ok.ensures.bytes.0 now.1 in
    let ended = eq-eqb (length (take c.in-Ok.count c.read.new.buf)) 0 (omega (arith, c.in-Ok.ensures.bound.1, c.if-count-eq0.true)) in
    let none = at_end _ next.0 next.1 (c.in-Ok.ensures.bytes.1 (c.in-Ok.ensures.bound.1 ∙ eqb-true _ 0 ended) (omega (arith, c.read.auto.buf))) in
    if_ok_anyway _ _ (tells_all (asked_by c.args.choice.now) c.first.result.index (decoder_view c.new.result).state.pending (decoder_view c.new.result).state.pieces _ (walk_state c.chunk.new.self) _ _ c.first.ensures.index c.new.ensures.begins.pieces x next.0 none (c.in_ok-chunk.ensures.chunk.end ended)
    (tells_read (asked_by c.args.choice.now) (asked_by c.input.choice) _ (walk_state c.input.walk) (walk_state c.chunk.new.self) _ _ _ _ _ _ c.input.invariant.fates.0 next.2 now.2 (c.in_ok-chunk.ensures.finds next.0 (λ end. none))))
