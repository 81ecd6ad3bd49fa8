use Rattle.std.proofs.Common.{rules}
use Rattle.jillapun_c.specs.Converters.{step_view}
use Rattle.jillapun_c.proofs.ConverterRunLemmas.{IsToRead, converts_handed, joins, reads_within}
use Rattle.jillapun_c.proofs.converter.step.convert_step.Goals as goal

to_read : (c : goal.After-converter-1) → IsToRead (step_view c.args.converter.now) c.args.src.now c.args.last c.readable-last.result.0.now c.readable-last.result.1
to_read c = record { ended = c.readable-last.ensures.ended; open_ = c.readable-last.ensures.open }

pub returns-clause-converts : goal.returns-clause-converts
returns-clause-converts c = record {
  read = reads_within _ _ _ _ _ _ (to_read c) c.run.ensures.read;
  output = c.run.ensures.output;
  lost = c.run.ensures.lost;
  converts = converts_handed (step_view c.args.converter.now) (step_view c.run.new.self) _ c.args.src.now c.readable-last.result.0.now c.run.new.dst c.args.last c.readable-last.result.1 c.run.new.losses c.run.result (to_read c) c.run.ensures.converts;
  tells = record { empty = c.tell-status.ensures.empty; held = c.tell-status.ensures.held };
  finished = search rules;
}

pub returns-clause-joins : goal.returns-clause-joins
returns-clause-joins c =
    joins c.stops_at_first_loss.ensures.fault (step_view c.args.converter.now) (step_view c.run.new.self) _ c.args.src.now c.readable-last.result.0.now c.run.new.dst c.args.last c.readable-last.result.1 c.run.new.losses c.run.result
    c.tell-status.result.1 c.tell-status.result.0 (to_read c) c.run.ensures.carries c.tell-status.ensures
