use Rattle.std.proofs.Common.{◌∙◌, ◌+◌, ap, append-nil, arith, refl, sym}
use Rattle.std.specs.List.{concat}
use Rattle.std.proofs.KnownBytes.{Appends-nil}
use Rattle.recode_log.specs.Counted.{passed_of}
use Rattle.recode_log.specs.laws.Calls.{concat_one, passed_failed}
use Rattle.recode_log.specs.laws.Counts.{offers_failed, offers_none, offers_took, offers_took_none, took_none}
use Rattle.recode_log.proofs.LineLemmas.{appends_kept, appends_more, appends_none, passed_more, passed_none, room_left, some_left, taken_within}
use Rattle.recode_log.proofs.deliver.deliver.Goals as goal
use Rattle.recode_log.proofs.deliver.deliver.Goals.{in_default-via-in-Ok+else-taken-gt0, in_default-via-in_default}

pub loop-at-init : goal.loop-at-init
loop-at-init g c = record {
  within = omega arith;
  appended = Appends-nil _;
  passed = sym (append-nil _);
  count = refl;
  offers = offers_none _ _;
  untouched = λ h. refl;
}

pub loop-at-preserved : goal.loop-at-preserved
loop-at-preserved g c = record {
  within = taken_within _ _ _ c.loop-at.invariant.within c.in-Ok.ensures.bound;
  appended = appends_more _ _ _ _ _ _ c.loop-at.invariant.appended c.in-Ok.ensures.bytes;
  passed = passed_more _ _ _ _ _ _ c.loop-at.invariant.passed (concat_one _ _ _ _ c.in-Ok.ensures.call);
  count = c.in-Ok.ensures.taken c.if-taken-gt0.true ∙ c.loop-at.invariant.count;
  offers = offers_took _ _ _ _ _ c.loop-at.invariant.offers c.loop-at.invariant.passed _ _ c.in-Ok.ensures.call (room_left _ _ c.loop-at.invariant.within) c.if-taken-gt0.true c.in-Ok.ensures.bound (c.in-Ok.ensures.taken c.if-taken-gt0.true);
  untouched = λ h. absurd (omega arith);
}

pub returns-in_default-clause-err : goal.returns-in_default-clause-err
returns-in_default-clause-err g c = elim c.in_default.branch [
  | in_default-via-in-Ok+else-taken-gt0 w ↦ (
    c.loop-at.at,
    c.loop-at-test.true,
    appends_none _ _ _ _ _ _ w.if-taken-gt0.false c.loop-at.invariant.appended w.in-Ok.ensures.bytes,
    w.in-Ok.ensures.none_taken (omega (arith, w.if-taken-gt0.false)) (some_left _ _ c.loop-at-test.true) ∙ ap (λ n. n + 1) c.loop-at.invariant.count,
    passed_none (passed_of c.args.writer.now) (passed_of c.loop-at.writer) (passed_of c.write.new.self) _ _ _ w.if-taken-gt0.false c.loop-at.invariant.passed (concat_one _ _ _ _ w.in-Ok.ensures.call),
  )
  | in_default-via-in_default w ↦ (
    c.loop-at.at,
    c.loop-at-test.true,
    appends_kept _ _ _ _ c.loop-at.invariant.appended w.in_default.ensures.bytes,
    w.in_default.ensures.err ∙ ap (λ n. n + 1) c.loop-at.invariant.count,
    ap concat (passed_failed _ _ _ w.in_default.ensures.call) ∙ c.loop-at.invariant.passed,
  )
]

pub returns-in_default-clause-failed : goal.returns-in_default-clause-failed
returns-in_default-clause-failed g c = elim c.in_default.branch [
  | in_default-via-in-Ok+else-taken-gt0 w ↦ record {
    earlier = _;
    last = _;
    ends = w.in-Ok.ensures.call;
    failed = took_none _ _ _ w.if-taken-gt0.false (some_left _ _ c.loop-at-test.true);
  }
  | in_default-via-in_default w ↦ record { earlier = _; last = _; ends = w.in_default.ensures.call; failed = refl }
]

pub returns-in_default-clause-offers : goal.returns-in_default-clause-offers
returns-in_default-clause-offers g c =
    let i = c.loop-at.invariant in
    let room = room_left _ _ i.within in
    let some = some_left _ _ c.loop-at-test.true in
    elim c.in_default.branch [
      | in_default-via-in-Ok+else-taken-gt0 w ↦
          offers_took_none _ _ _ _ _ i.offers i.passed _ _ w.in-Ok.ensures.call room w.if-taken-gt0.false some (w.in-Ok.ensures.none_taken (omega (arith, w.if-taken-gt0.false)) some)
      | in_default-via-in_default w ↦ offers_failed _ _ _ _ _ i.offers i.passed _ w.in_default.ensures.call room some w.in_default.ensures.err
    ]
