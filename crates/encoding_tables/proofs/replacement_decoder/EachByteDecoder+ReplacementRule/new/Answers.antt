use Rattle.std.proofs.Common.{◌∙◌}
use Rattle.encoding_tables.specs.laws.Replacement.{all_left}
use Rattle.encoding_tables.proofs.replacement_decoder.EachByteDecoder+ReplacementRule.new.Goals as goal

pub returns-clause-fresh : goal.returns-clause-fresh
returns-clause-fresh c = record {
  pending = c.of_rule.ensures.fresh.pending;
  pieces = c.of_rule.ensures.fresh.pieces ∙ (λ i x. all_left x i);
  room = c.of_rule.ensures.fresh.room;
}
