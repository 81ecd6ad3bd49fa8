use Rattle.std.proofs.Common.{◌-◌, ◌≤◌, length, refl, sym, ◌∙◌, ap, arith, rules}
use Rattle.std.proofs.lemmas.List.{length-take-le}
use Rattle.encoding_front.proofs.ReferenceLemmas.{going_none, too_few, behind_turn, input_empty, length_new, length_turn, output_full, reference_reached, still_same, take_into, turn_on}
use Rattle.encoding_front.proofs.replacing.encode_replacing.Goals as goal

pub returns-then-dst-kept-clause-call : goal.returns-then-dst-kept-clause-call
returns-then-dst-kept-clause-call g c = too_few _ _ _ _ _ (omega arith) c.outcome.ensures

pub turns-init : goal.turns-init
turns-init g c = record {
  within = omega arith;
  part = omega (arith, c.kept_back-kept.ensures);
  size = refl;
  behind = refl;
  source = refl;
  same = refl;
  going = going_none _ _ _ _ _;
  fresh = λ h. (refl, refl, refl);
}

pub returns-in-InputEmpty-clause-wrote : goal.returns-in-InputEmpty-clause-wrote
returns-in-InputEmpty-clause-wrote g c =
    let e = c.encode_turn-result.ensures in
    let i = c.turns.invariant in
    record {
      room = search rules;
      behind = behind_turn _ _ _ _ _ (omega (arith, i.within, i.part)) e.wrote.room i.behind e.wrote.behind;
    }

pub returns-in-OutputFull-clause-wrote : goal.returns-in-OutputFull-clause-wrote
returns-in-OutputFull-clause-wrote g c =
    let e = c.encode_turn-result.ensures in
    let i = c.turns.invariant in
    record {
      room = search rules;
      behind = behind_turn _ _ _ _ _ (omega (arith, i.within, i.part)) e.wrote.room i.behind e.wrote.behind;
    }

pub returns-then-end-written-clause-wrote : goal.returns-then-end-written-clause-wrote
returns-then-end-written-clause-wrote g c =
    let e = c.encode_turn-result.ensures in
    let i = c.turns.invariant in
    record {
      room = search rules;
      behind = behind_turn _ _ _ _ _ (omega (arith, i.within, i.part)) e.wrote.room i.behind e.wrote.behind;
    }

pub returns-in-InputEmpty-clause-call : goal.returns-in-InputEmpty-clause-call
returns-in-InputEmpty-clause-call g c =
    let e = c.encode_turn-result.ensures in
    let i = c.turns.invariant in
    let within : c.turns.written ≤ length c.turns.dst = omega (arith, i.within, i.part) in
    let size = length_turn c.turns.dst c.encode_turn-result.new.dst c.turns.written within c.encode_turn-result.auto.dst in
    input_empty c.args.encoder.now c.turns.encoder c.encode_turn-result.new.encoder _ _ _ _ _ _ _ _ _ _ _ _ (omega (arith, size, c.kept_back-kept.ensures, i.size)) (omega (arith, size, c.kept_back-kept.ensures, i.size, c.if-dst-kept.false)) i.same i.going
    e.turn c.in-InputEmpty.is (take_into _ _ _ _ _ within e.wrote.room)
    (ap (λ n. length c.args.dst.now - c.kept_back-kept.result - n) (sym (length-take-le c.turns.written c.turns.dst within))) (omega (arith, length-take-le c.turns.written c.turns.dst within, i.within))

pub returns-in-OutputFull-clause-call : goal.returns-in-OutputFull-clause-call
returns-in-OutputFull-clause-call g c =
    let e = c.encode_turn-result.ensures in
    let i = c.turns.invariant in
    let within : c.turns.written ≤ length c.turns.dst = omega (arith, i.within, i.part) in
    let size = length_turn c.turns.dst c.encode_turn-result.new.dst c.turns.written within c.encode_turn-result.auto.dst in
    output_full c.args.encoder.now c.turns.encoder c.encode_turn-result.new.encoder _ _ _ _ _ _ _ _ _ _ _ _ (omega (arith, size, c.kept_back-kept.ensures, i.size)) (omega (arith, size, c.kept_back-kept.ensures, i.size, c.if-dst-kept.false)) i.same i.going
    e.turn c.in-OutputFull.is (take_into _ _ _ _ _ within e.wrote.room)
    (ap (λ n. length c.args.dst.now - c.kept_back-kept.result - n) (sym (length-take-le c.turns.written c.turns.dst within))) (omega (arith, length-take-le c.turns.written c.turns.dst within, i.within))

pub returns-then-end-written-clause-call : goal.returns-then-end-written-clause-call
returns-then-end-written-clause-call g c =
    let e = c.encode_turn-result.ensures in
    let i = c.turns.invariant in
    let within : c.turns.written ≤ length c.turns.dst = omega (arith, i.within, i.part) in
    let size = length_turn c.turns.dst c.encode_turn-result.new.dst c.turns.written within c.encode_turn-result.auto.dst in
    let length_is = length_new c.turns.written (length c.turns.dst - c.turns.written) c.encode_turn-result.result.1 c.turns.dst c.encode_turn-result.new.dst within e.wrote.room in
    reference_reached c.args.encoder.now c.turns.encoder c.encode_turn-result.new.encoder _ _ _ _ _ _ _ _ _ _ _ _ _ _ (omega (arith, size, c.kept_back-kept.ensures, i.size)) (omega (arith, size, c.kept_back-kept.ensures, i.size, c.if-dst-kept.false)) i.same i.going
    e.turn c.in-Unmappable.is (take_into _ _ _ _ _ within e.wrote.room)
    c.outcome-then-end-written.ensures (omega (arith, length_is, c.if-end-written.true))
    (ap (λ n. length c.args.dst.now - c.kept_back-kept.result - n) (sym (length-take-le c.turns.written c.turns.dst within))) (omega (arith, length-take-le c.turns.written c.turns.dst within, i.within))

pub turns-preserved : goal.turns-preserved
turns-preserved g c =
    let e = c.encode_turn-result.ensures in
    let i = c.turns.invariant in
    let within : c.turns.written ≤ length c.turns.dst = omega (arith, i.within, i.part) in
    let size = length_turn c.turns.dst c.encode_turn-result.new.dst c.turns.written within c.encode_turn-result.auto.dst in
    let length_is = length_new c.turns.written (length c.turns.dst - c.turns.written) c.encode_turn-result.result.1 c.turns.dst c.encode_turn-result.new.dst within e.wrote.room in
    record {
      within = omega (arith, c.if-end-written.false);
      part = omega (arith, size, i.part);
      size = size ∙ i.size;
      behind = behind_turn _ _ _ _ _ within e.wrote.room i.behind e.wrote.behind;
      source = e.source ∙ i.source;
      same = still_same c.args.encoder.now c.turns.encoder c.encode_turn-result.new.encoder _ _ _ _ _ _ i.same e.turn;
      going = turn_on c.args.encoder.now c.turns.encoder c.encode_turn-result.new.encoder _ _ _ _ _ _ _ _ _ _ _ _ i.same i.going e.turn c.in-Unmappable.is (take_into _ _ _ _ _ within e.wrote.room) (omega (arith, length_is, c.if-end-written.false));
      fresh = λ h. absurd (cc);
    }
