use Rattle.std.proofs.Common.{◌∙◌}
use Rattle.encoding_front.specs.calls.DecoderViews.{decoder_view}
use Rattle.encoding_front.specs.contracts.decoder.DecoderStreamDecoder.TheImpl as decoder
use Rattle.encoding_front.specs.laws.RoomRules.{asked_by_rule, rule_saved}
use Rattle.encoding_front.proofs.decoder.Decoder.room_rule.Goals as goal

pub returns-clause-rule : goal.returns-clause-rule
returns-clause-rule c = c.room_rule.ensures ∙ rule_saved c.saved.result (decoder_view c.args.self.now) c.saved.ensures.saves

pub returns-clause-asked : goal.returns-clause-asked
returns-clause-asked c k n =
    rw (c.room_rule.ensures ∙ rule_saved c.saved.result (decoder_view c.args.self.now) c.saved.ensures.saves)
    (asked_by_rule (decoder_view c.args.self.now) (decoder.ghosts.opened c.args.self.now) k n)
