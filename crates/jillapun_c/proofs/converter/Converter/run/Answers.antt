use Rattle.std.proofs.Common.{◌≡◌, ◌⊎◌, ◌∙◌, inl, inr, sym}
use Rattle.std.proofs.lemmas.List.{take_rest}
use Rattle.recode_log.specs.declared.line.LogLine.{LogLine}
use Rattle.recode.specs.declared.converter.ConverterResult.{ConverterResult}
use Rattle.recode.specs.declared.converter.ConverterResult.TheVariants.{Found, InputEmpty, OutputFull}
use Rattle.jillapun_c.specs.Converters.{step_view}
use Rattle.jillapun_c.proofs.ConverterRunLemmas.{RunsTo, all_converted, iterated, iterates, smaller, started}
use Rattle.jillapun_c.proofs.converter.Converter.run.Goals as goal

pub turns-init : goal.turns-init
turns-init c = started (step_view c.args.self.now) (step_view c.hand_out.new.self) c.args.last c.args.src.now c.args.dst.now c.hand_out.new.dst c.args.losses.now c.hand_out.new.losses c.hand_out.new.progress c.requires c.hand_out.ensures

not_empty : (r : ConverterResult) → (r ≡ OutputFull) ⊎ ((line : LogLine) × (r ≡ Found line)) → r ≡ InputEmpty → ⊥
not_empty r other is = elim other [ inl full ↦ cc (sym is ∙ full) | inr found ↦ cc (sym is ∙ found.1) ]

pub turns-smaller : goal.turns-smaller
turns-smaller c = elim (smaller (step_view c.turns.self) (step_view c.turn-result.new.self) (step_view c.hand_out-in-turns.new.self) c.args.last c.args.src.now c.turns.dst c.turn-result.new.dst c.hand_out-in-turns.new.dst c.turns.losses c.hand_out-in-turns.new.losses
    c.turn-result.result.1 c.turn-result.result.2 c.turn-result.result.0 c.turns.progress c.hand_out-in-turns.new.progress
    (iterates _ _ _ _ _ _ _ _ _ _ _ _ _ _ _ _ (take_rest c.args.src.now c.turns.progress.read) (c.is_ready.ensures.0 c.turns-test.true) c.turn-result.ensures.turns c.turn-result.ensures.within c.hand_out-in-turns.ensures)) [
      | inl none ↦ absurd (not_empty c.turn-result.result.0 c.in-OutputFull.is none.0)
      | inr less ↦ less
    ]

pub turns-preserved : goal.turns-preserved
turns-preserved c = iterated (step_view c.args.self.now) (step_view c.turns.self) (step_view c.turn-result.new.self) (step_view c.hand_out-in-turns.new.self) c.args.last c.args.src.now c.args.dst.now c.turns.dst c.turn-result.new.dst c.hand_out-in-turns.new.dst
    c.args.losses.now c.turns.losses c.hand_out-in-turns.new.losses c.turn-result.result.1 c.turn-result.result.2 c.turn-result.result.0 c.turns.progress c.hand_out-in-turns.new.progress c.turns.invariant
    (iterates _ _ _ _ _ _ _ _ _ _ _ _ _ _ _ _ (take_rest c.args.src.now c.turns.progress.read) (c.is_ready.ensures.0 c.turns-test.true) c.turn-result.ensures.turns c.turn-result.ensures.within c.hand_out-in-turns.ensures)

runs_to : (c : goal.In-InputEmpty) → RunsTo (step_view c.args.self.now) (step_view c.hand_out-in-turns.new.self) c.args.last c.args.src.now c.args.dst.now c.hand_out-in-turns.new.dst c.args.losses.now c.hand_out-in-turns.new.losses c.hand_out-in-turns.new.progress
runs_to c = iterated (step_view c.args.self.now) (step_view c.turns.self) (step_view c.turn-result.new.self) (step_view c.hand_out-in-turns.new.self) c.args.last c.args.src.now c.args.dst.now c.turns.dst c.turn-result.new.dst c.hand_out-in-turns.new.dst
    c.args.losses.now c.turns.losses c.hand_out-in-turns.new.losses c.turn-result.result.1 c.turn-result.result.2 c.turn-result.result.0 c.turns.progress c.hand_out-in-turns.new.progress c.turns.invariant
    (iterates _ _ _ _ _ _ _ _ _ _ _ _ _ _ _ _ (take_rest c.args.src.now c.turns.progress.read) (c.is_ready.ensures.0 c.turns-test.true) c.turn-result.ensures.turns c.turn-result.ensures.within c.hand_out-in-turns.ensures)

pub returns-in-InputEmpty-clause-carries : goal.returns-in-InputEmpty-clause-carries
returns-in-InputEmpty-clause-carries c = (runs_to c).carried

pub returns-in-InputEmpty-clause-output : goal.returns-in-InputEmpty-clause-output
returns-in-InputEmpty-clause-output c = (runs_to c).output

pub returns-in-InputEmpty-clause-lost : goal.returns-in-InputEmpty-clause-lost
returns-in-InputEmpty-clause-lost c = (runs_to c).lost

pub returns-in-InputEmpty-clause-fewer : goal.returns-in-InputEmpty-clause-fewer
returns-in-InputEmpty-clause-fewer c = (runs_to c).fewer

pub returns-in-InputEmpty-clause-converts : goal.returns-in-InputEmpty-clause-converts
returns-in-InputEmpty-clause-converts c = all_converted (step_view c.args.self.now) (step_view c.turns.self) (step_view c.turn-result.new.self) (step_view c.hand_out-in-turns.new.self) c.args.last c.args.src.now c.args.dst.now c.turns.dst c.turn-result.new.dst
    c.hand_out-in-turns.new.dst c.args.losses.now c.turns.losses c.hand_out-in-turns.new.losses c.turn-result.result.1 c.turn-result.result.2 c.turn-result.result.0 c.turns.progress c.hand_out-in-turns.new.progress
    c.in-InputEmpty.is c.turns.invariant
    (iterates _ _ _ _ _ _ _ _ _ _ _ _ _ _ _ _ (take_rest c.args.src.now c.turns.progress.read) (c.is_ready.ensures.0 c.turns-test.true) c.turn-result.ensures.turns c.turn-result.ensures.within c.hand_out-in-turns.ensures)

pub returns-in-InputEmpty-clause-lists : goal.returns-in-InputEmpty-clause-lists
returns-in-InputEmpty-clause-lists c = (runs_to c).lists
