use Rattle.std.proofs.Common.{◌∙◌, arith, sym}
use Rattle.std.proofs.lemmas.Bool.Decides.{nat_tests}
use Rattle.jillapun_c.specs.Converters.{step_view}
use Rattle.jillapun_c.proofs.ConverterTurnLemmas.{turned}
use Rattle.jillapun_c.proofs.converter.Converter.turn.Goals as goal
use Rattle.jillapun_c.proofs.converter.Converter.turn.Goals.{then-last, else-last}

pub returns-clause-turns : goal.returns-clause-turns
returns-clause-turns c = turned (step_view c.args.self.now) (step_view c.convert_into-result.new.self) (step_view c.take_end.new.self) c.args.last c.if-last.convert_into _ c.args.src.now c.allowed-count.result c.convert_into-result.result.1
    c.args.dst.now c.convert_into-result.new.dst c.args.at c.convert_into-result.result.2 c.convert_into-result.result.0 (record {
      ready = c.requires.ready;
      within = c.convert_into-result.ensures.within;
      most = c.allowed-count.ensures.most;
      whole = λ is. (
        grind (arith, nat_tests),
        elim c.if-last.branch [ then-last w ↦ w.convert_into-is ∙ is ∙ sym w.if-last.true | else-last w ↦ w.convert_into-is ],
      );
      part = λ is. (
        grind (arith, nat_tests, c.allowed-count.ensures.within),
        elim c.if-last.branch [ then-last w ↦ w.convert_into-is ∙ is | else-last w ↦ w.convert_into-is ∙ w.if-last.false ],
      );
      into = c.convert_into-result.ensures.into;
    }) c.take_end.ensures
