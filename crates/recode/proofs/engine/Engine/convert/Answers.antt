use Rattle.std.proofs.Common.{◌+◌, ◌++◌, ◌-◌, ◌*◌, append-nil, drop, length, map, refl, rules, sym, take, arith}
use Rattle.std.proofs.lemmas.List.{drop-drop, take_rest}
use Rattle.encoding_mem.specs.Items.{Byte}
use Rattle.recode.specs.Policy.{reference_form}
use Rattle.recode.specs.calls.EngineView.{standing}
use borrow.Rule.Slice.PartMut.{put_mid}
use Rattle.encoding_mem.specs.calls.EncoderRule.{WritesBytes}
use Rattle.recode.specs.calls.Turns.{TakesTurns, stop_count, stop_items}
use Rattle.recode.specs.declared.job.Policy.{Policy}
use Rattle.recode.proofs.WriterLemmas.{lent_on, lent_start}
use Rattle.recode.proofs.TurnLemmas.{turns_more, turns_start, free_into, items_into, wrote_into}
use Rattle.recode.proofs.engine.Engine.convert.Given.{Over}
use Rattle.recode.proofs.engine.Engine.convert.Goals.{After-turn-stop}
use Rattle.recode.proofs.engine.Engine.convert.Goals as goal

pub turns-init : goal.turns-init
turns-init g c = search (rules, turns_start, lent_start)

-- the turns so far, and one more
after : (g : Over) (c : After-turn-stop g) (p : Policy)
    → TakesTurns (standing g.D.StreamDecoder.view g.E.RawEncoder.parts p c.args.self.now c.args.pivot.now) (standing g.D.StreamDecoder.view g.E.RawEncoder.parts p c.turn-stop.new.self c.turn-stop.new.pivot) c.args.last c.args.src.now (drop (c.turns.read + c.turn-stop.result.1) c.args.src.now)
    (map Byte (take (c.turns.written + c.turn-stop.result.2) (put_mid c.turns.written (length c.turns.dst - c.turns.written) c.turns.dst c.turn-stop.new.dst)) ++ stop_items (reference_form p) c.turn-stop.result.0)
    (3 * stop_count c.turn-stop.result.0) (2 * stop_count c.turn-stop.result.0)
after g c p =
    let i = c.turns.invariant in
    let t = c.turn-stop in
    rw (sym (items_into c.turns.written (length c.turns.dst - c.turns.written) t.result.2 c.turns.dst t.new.dst (stop_items (reference_form p) t.result.0) i.wrote.room t.ensures.wrote.room))
    (rw (sym (drop-drop t.result.1 c.turns.read c.args.src.now)) (turns_more _ _ (omega arith) (omega arith) (i.law p) (rw (take_rest c.args.src.now c.turns.read) at (t.ensures.law p))))

written : (g : Over) (c : After-turn-stop g) → WritesBytes c.args.dst.now (put_mid c.turns.written (length c.turns.dst - c.turns.written) c.turns.dst c.turn-stop.new.dst) (c.turns.written + c.turn-stop.result.2)
written g c = wrote_into c.args.dst.now c.turns.dst c.turn-stop.new.dst c.turns.written (length c.turns.dst - c.turns.written) c.turn-stop.result.2 refl (search rules) c.turns.invariant.wrote c.turn-stop.ensures.wrote

pub turns-preserved : goal.turns-preserved
turns-preserved g c =
    let at = (goal.at.turns-preserved g c).After-turn-stop in
    let t = c.turn-stop.ensures in
    record {
      law = λ p. rw (append-nil (map Byte _)) at (rw c.in_default.is at (after g at p));
      ready = rw (sym (drop-drop c.turn-stop.result.1 c.turns.read c.args.src.now)) (rw (take_rest c.args.src.now c.turns.read) at (t.goes_on c.in_default.is));
      within = search rules;
      wrote = written g at;
      holds = t.holds;
      lent = lent_on c.turns.invariant.lent t.lent;
      codecs = λ j h. t.codecs j (c.turns.invariant.codecs j h);
    }

pub turns-smaller : goal.turns-smaller
turns-smaller g c =
    let t = c.turn-stop in
    let fewer = rw (take_rest c.args.src.now c.turns.read) at (t.ensures.fewer c.in_default.is) in
    rw (sym (drop-drop t.result.1 c.turns.read c.args.src.now)) fewer

pub returns-in-Some-clause-law : goal.returns-in-Some-clause-law
returns-in-Some-clause-law g c = λ p. rw c.in-Some.is at (after g (goal.at.returns-in-Some-clause-law g c).After-turn-stop p)

pub returns-in-Some-clause-wrote : goal.returns-in-Some-clause-wrote
returns-in-Some-clause-wrote g c = written g (goal.at.returns-in-Some-clause-wrote g c).After-turn-stop

pub returns-in-Some-clause-ends : goal.returns-in-Some-clause-ends
returns-in-Some-clause-ends g c = λ p.
    let t = c.turn-stop in
    let ends = rw (take_rest c.args.src.now c.turns.read, c.in-Some.is) at (t.ensures.ends p) in
    rw (sym (drop-drop t.result.1 c.turns.read c.args.src.now), sym (free_into c.turns.dst t.new.dst c.turns.written (length c.turns.dst - c.turns.written) t.result.2 c.turns.invariant.wrote.room refl (search rules))) ends
