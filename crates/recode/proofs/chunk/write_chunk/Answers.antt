use Rattle.std.proofs.Common.{None, Ok, ℕ, ◌-◌, ◌^◌, ◌≤◌, ◌<◌, List, ◌++◌, ◌∙◌, [], arith, length, length-append, length-take-le, map, refl, rules, sym, take}
use Rattle.std.proofs.lemmas.List.{length-map, take_rest}
use Rattle.encoding_mem.specs.Items.{Byte}
use Rattle.recode.specs.Converter.{found_items}
use Rattle.recode.specs.Policy.{reference_form}
use Rattle.recode.specs.calls.EngineView.{standing}
use Rattle.recode.specs.calls.Writers.{AreReady, HandsOnUnder, HoldNothing, Writers, writers}
use Rattle.recode_log.specs.Counted.{failures_of}
use Rattle.recode_log.specs.declared.ports.Ports.{Ports}
use Rattle.recode.proofs.OrderLemmas.{ports_fault, ports_told}
use Rattle.recode.specs.declared.converter.ConverterResult.TheVariants.{Found}
use Rattle.recode.specs.declared.engine.Engine.{Engine}
use Rattle.recode.specs.declared.job.Policy.{Policy}
use Rattle.recode.specs.laws.Items.{spared_append}
use Rattle.recode.proofs.WriterLemmas.{hands_fault, hands_held, hands_ready, hands_then, hands_under, holding_more, lent_on, lent_start, told_then}
use Rattle.recode.proofs.ShellLemmas.{between_none, found_some, holds_none, ok_of, pumps_bytes, pumps_counts, pumps_done, pumps_held, pumps_more, pumps_start, pumps_stuck, pumps_under, ready_start, smaller_by, sound_start, spared_only}
use Rattle.recode.proofs.chunk.write_chunk.Given.{Over}
use Rattle.recode.proofs.chunk.write_chunk.Goals.{After-convert-result}
use Rattle.recode.proofs.chunk.write_chunk.Goals as goal

-- the writers at the start, for which nothing is held
abbrev first : {R W L : Type 0} → List ℕ → Ports R W L → Writers R W L
first buffer ports = record { buffer = buffer; line = None; held = 0; ports = ports }

nothing : {R W L : Type 0} (buffer : List ℕ) (ports : Ports R W L) → HoldNothing (first buffer ports)
nothing buffer ports = record { line = refl; bytes = refl }

ready : {R W L : Type 0} (buffer : List ℕ) (ports : Ports R W L) → failures_of ports.writer.now < 2 ^ 64 - 1 → failures_of ports.log.now < 2 ^ 64 - 1 → 4 ≤ length buffer → AreReady (first buffer ports)
ready buffer ports output log room = record { output = output; log = log; room = room; within = omega arith; line = tt }

-- what a call of the engine wrote is held, with what was passed on until then
held : (g : Over) (c : After-convert-result g) → HandsOnUnder {T = Unit {0}} c.args.policy g.W.Write.contents g.L.Write.contents (writers c.make_room.new.self c.calls.buffer c.make_room.new.ports)
    (holding_more (writers c.make_room.new.self c.calls.buffer c.make_room.new.ports) c.convert-result.new.dst c.convert-result.result.2) (map Byte (take c.convert-result.result.2 c.convert-result.new.dst)) (Ok tt)
held g c = hands_held _ _ (hands_ready (hands_ready (ready _ _ c.requires.writers.1 c.requires.writers.2 c.requires.writers.0) c.calls.invariant.pumps.hands) c.in_ok-make_room.ensures.hands) (search rules) c.convert-result.ensures.wrote.room

pub calls-init : goal.calls-init
calls-init g c =
    let view = g.D.StreamDecoder.view in
    let parts = g.E.RawEncoder.parts in
    let r = c.requires in
    let start : Engine g.row.D.Denot g.row.E.Denot = record c.args.engine.now { from = 0; to = 0 } in
    let c0 = standing view parts c.args.policy start c.args.pivot.now in
    let empty = between_none c.args.pivot.now in
    let sound = sound_start c0 r.none empty r.ready.sound in
    let first_ready = ready c.args.buffer.now c.args.ports.now r.writers.1 r.writers.2 r.writers.0 in
    search (rules, pumps_start, first_ready, sound, ready_start, empty, holds_none, lent_start)

pub returns-in_err-make_room-clause-err : goal.returns-in_err-make_room-clause-err
returns-in_err-make_room-clause-err g c =
    rw (sym c.is_empty-last.ensures)
    (pumps_stuck c.calls.invariant.pumps (hands_fault [] c.from_residual.ensures.1 (hands_under c.in_err-make_room.ensures.hands)) c.requires.none (between_none c.args.pivot.now) (nothing _ _))

pub returns-in_err-make_room-clause-failures : goal.returns-in_err-make_room-clause-failures
returns-in_err-make_room-clause-failures g c = ports_fault (pumps_counts c.calls.invariant.pumps (hands_fault [] c.from_residual.ensures.1 (hands_under c.in_err-make_room.ensures.hands)))

pub returns-in_err-make_room-clause-buffer : goal.returns-in_err-make_room-clause-buffer
returns-in_err-make_room-clause-buffer g c = (pumps_counts c.calls.invariant.pumps (hands_fault [] c.from_residual.ensures.1 (hands_under c.in_err-make_room.ensures.hands))).same.room

pub returns-in_err-make_room-clause-told : goal.returns-in_err-make_room-clause-told
returns-in_err-make_room-clause-told g c = ports_told (told_then _ _ _ c.calls.invariant.pumps.hands.told c.in_err-make_room.ensures.hands.told)

pub returns-in-InputEmpty-clause-chunk : goal.returns-in-InputEmpty-clause-chunk
returns-in-InputEmpty-clause-chunk g c =
    let i = c.calls.invariant in
    let room = hands_under c.in_ok-make_room.ensures.hands in
    let k = c.convert-result in
    let p = c.args.policy in
    let ends = rw c.in-InputEmpty.is at (k.ensures.ends p) in
    let all = rw ends.0 at (pumps_bytes (take k.result.2 k.new.dst) (pumps_held i.pumps room) (held g (goal.at.returns-in-InputEmpty-clause-chunk g c).After-convert-result) (rw c.in-InputEmpty.is at (k.ensures.law p))) in
    rw (sym c.is_empty-last.ensures)
    (pumps_done c.requires.none (between_none c.args.pivot.now) ends.1 ends.2 refl (nothing _ _) ends.3 all (hands_under c.deliver_held.ensures.hands) c.deliver_held.ensures.none)

pub returns-in-InputEmpty-clause-none : goal.returns-in-InputEmpty-clause-none
returns-in-InputEmpty-clause-none g c = ok_of c.deliver_held.result (rw c.in-InputEmpty.is at (c.convert-result.ensures.ends Policy.Decimal)).1

pub returns-in-InputEmpty-clause-err : goal.returns-in-InputEmpty-clause-err
returns-in-InputEmpty-clause-err g c =
    let k = c.convert-result in
    let room = pumps_held c.calls.invariant.pumps (hands_under c.in_ok-make_room.ensures.hands) in
    let law = rw c.in-InputEmpty.is at (k.ensures.law c.args.policy) in
    let all = pumps_bytes (take k.result.2 k.new.dst) room (held g (goal.at.returns-in-InputEmpty-clause-err g c).After-convert-result) law in
    rw (sym c.is_empty-last.ensures) (pumps_stuck all (hands_under c.deliver_held.ensures.hands) c.requires.none (between_none c.args.pivot.now) (nothing _ _))

pub returns-in-InputEmpty-clause-failures : goal.returns-in-InputEmpty-clause-failures
returns-in-InputEmpty-clause-failures g c =
    let room = pumps_held c.calls.invariant.pumps (hands_under c.in_ok-make_room.ensures.hands) in
    ports_fault (pumps_counts room (hands_then (λ q is. spared_only q (take c.convert-result.result.2 c.convert-result.new.dst)) (held g (goal.at.returns-in-InputEmpty-clause-failures g c).After-convert-result) (hands_under c.deliver_held.ensures.hands)))

pub returns-in-InputEmpty-clause-buffer : goal.returns-in-InputEmpty-clause-buffer
returns-in-InputEmpty-clause-buffer g c =
    let room = pumps_held c.calls.invariant.pumps (hands_under c.in_ok-make_room.ensures.hands) in
    (pumps_counts room (hands_then (λ q is. spared_only q (take c.convert-result.result.2 c.convert-result.new.dst)) (held g (goal.at.returns-in-InputEmpty-clause-buffer g c).After-convert-result) (hands_under c.deliver_held.ensures.hands))).same.room

pub returns-in-InputEmpty-clause-told : goal.returns-in-InputEmpty-clause-told
returns-in-InputEmpty-clause-told g c =
    let now = held g (goal.at.returns-in-InputEmpty-clause-told g c).After-convert-result in
    ports_told (told_then _ _ _ (told_then _ _ _ (told_then _ _ _ c.calls.invariant.pumps.hands.told c.in_ok-make_room.ensures.hands.told) now.told) c.deliver_held.ensures.hands.told)

pub returns-in-InputEmpty-clause-target : goal.returns-in-InputEmpty-clause-target
returns-in-InputEmpty-clause-target g c = (c.convert-result.ensures.law c.args.policy).target ∙ c.calls.invariant.pumps.turns.target

pub calls-smaller-in-OutputFull : goal.calls-smaller-in-OutputFull
calls-smaller-in-OutputFull g c =
    let k = c.convert-result in
    let bytes = take k.result.2 k.new.dst in
    let full = rw c.in-OutputFull.is at (k.ensures.ends Policy.Decimal) in
    let law = rw c.in-OutputFull.is at (k.ensures.law Policy.Decimal) in
    let some : 0 < length (map Byte bytes ++ []) =
    omega (arith, full.0, c.in_ok-make_room.ensures.room, k.ensures.wrote.room, length-append (map Byte bytes) [], length-map bytes Byte, length-take-le k.result.2 k.new.dst k.ensures.wrote.room) in
    rw (take_rest c.calls.rest.now k.result.1) (smaller_by law some)

pub calls-preserved-in-OutputFull : goal.calls-preserved-in-OutputFull
calls-preserved-in-OutputFull g c =
    let i = c.calls.invariant in
    let room = hands_under c.in_ok-make_room.ensures.hands in
    let k = c.convert-result in
    record {
      pumps = rw (take_rest c.calls.rest.now k.result.1) (pumps_bytes (take k.result.2 k.new.dst) (pumps_held i.pumps room) (held g (goal.at.calls-preserved-in-OutputFull g c).After-convert-result) (rw c.in-OutputFull.is at (k.ensures.law c.args.policy)));
      ready = rw (take_rest c.calls.rest.now k.result.1) (rw c.in-OutputFull.is at (k.ensures.ends Policy.Decimal)).1;
      holds = k.ensures.holds;
      lent = lent_on i.lent k.ensures.lent;
    }

pub take_found-requires-clause-valid : goal.take_found-requires-clause-valid
take_found-requires-clause-valid g c = (rw c.in-Found.is at (c.convert-result.ensures.ends Policy.Decimal)).0

pub calls-smaller : goal.calls-smaller
calls-smaller g c =
    let k = c.convert-result in
    rw (take_rest c.calls.rest.now k.result.1) (smaller_by (rw c.in-Found.is at (k.ensures.law Policy.Decimal)) (found_some (reference_form Policy.Decimal) (take k.result.2 k.new.dst) c.in-Found.line))

pub calls-preserved : goal.calls-preserved
calls-preserved g c =
    let i = c.calls.invariant in
    let room = hands_under c.in_ok-make_room.ensures.hands in
    let k = c.convert-result in
    let p = c.args.policy in
    let bytes = take k.result.2 k.new.dst in
    let f = c.in_ok-take_found-in-Found.ensures in
    let found = found_items (reference_form p) (Found c.in-Found.line) in
    let spared = spared_append p (map Byte bytes) found (spared_only p bytes) f.spared in
    record {
      pumps = rw (take_rest c.calls.rest.now k.result.1) (pumps_more (pumps_held i.pumps room) (hands_then (λ q is. spared_only q bytes) (held g (goal.at.calls-preserved g c).After-convert-result) f.hands) spared (rw c.in-Found.is at (k.ensures.law p)));
      ready = rw (take_rest c.calls.rest.now k.result.1) (rw c.in-Found.is at (k.ensures.ends Policy.Decimal)).1;
      holds = k.ensures.holds;
      lent = lent_on i.lent k.ensures.lent;
    }

pub returns-in_err-take_found-in-Found-clause-err : goal.returns-in_err-take_found-in-Found-clause-err
returns-in_err-take_found-in-Found-clause-err g c =
    let i = c.calls.invariant in
    let room = hands_under c.in_ok-make_room.ensures.hands in
    let k = c.convert-result in
    let p = c.args.policy in
    let bytes = take k.result.2 k.new.dst in
    let e = c.in_err-take_found-in-Found in
    let passed = hands_fault [] c.from_residual-in_err-take_found-in-Found.ensures.1 (hands_then (λ q is. spared_only q bytes) (held g (goal.at.returns-in_err-take_found-in-Found-clause-err g c).After-convert-result) e.ensures.hands) in
    rw (sym c.is_empty-last.ensures) (pumps_under (pumps_held i.pumps room) passed (rw c.in-Found.is at (k.ensures.law p)) c.requires.none (between_none c.args.pivot.now) (nothing _ _))

pub returns-in_err-take_found-in-Found-clause-failures : goal.returns-in_err-take_found-in-Found-clause-failures
returns-in_err-take_found-in-Found-clause-failures g c =
    let room = pumps_held c.calls.invariant.pumps (hands_under c.in_ok-make_room.ensures.hands) in
    let now = held g (goal.at.returns-in_err-take_found-in-Found-clause-failures g c).After-convert-result in
    ports_fault (pumps_counts room (hands_fault [] c.from_residual-in_err-take_found-in-Found.ensures.1 (hands_then (λ q is. spared_only q (take c.convert-result.result.2 c.convert-result.new.dst)) now c.in_err-take_found-in-Found.ensures.hands)))

pub returns-in_err-take_found-in-Found-clause-buffer : goal.returns-in_err-take_found-in-Found-clause-buffer
returns-in_err-take_found-in-Found-clause-buffer g c =
    let room = pumps_held c.calls.invariant.pumps (hands_under c.in_ok-make_room.ensures.hands) in
    let now = held g (goal.at.returns-in_err-take_found-in-Found-clause-buffer g c).After-convert-result in
    (pumps_counts room (hands_fault [] c.from_residual-in_err-take_found-in-Found.ensures.1 (hands_then (λ q is. spared_only q (take c.convert-result.result.2 c.convert-result.new.dst)) now c.in_err-take_found-in-Found.ensures.hands))).same.room

pub returns-in_err-take_found-in-Found-clause-target : goal.returns-in_err-take_found-in-Found-clause-target
returns-in_err-take_found-in-Found-clause-target g c = (c.convert-result.ensures.law c.args.policy).target ∙ c.calls.invariant.pumps.turns.target

pub returns-in_err-take_found-in-Found-clause-told : goal.returns-in_err-take_found-in-Found-clause-told
returns-in_err-take_found-in-Found-clause-told g c =
    let now = held g (goal.at.returns-in_err-take_found-in-Found-clause-told g c).After-convert-result in
    ports_told (told_then _ _ _ (told_then _ _ _ (told_then _ _ _ c.calls.invariant.pumps.hands.told c.in_ok-make_room.ensures.hands.told) now.told) c.in_err-take_found-in-Found.ensures.hands.told)
