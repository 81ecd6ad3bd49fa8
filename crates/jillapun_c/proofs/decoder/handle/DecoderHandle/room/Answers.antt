use Rattle.std.proofs.Common.{sym, ◌∙◌}
use Rattle.encoding_front.specs.laws.RoomRules.{rule_saved}
use Rattle.jillapun_c.proofs.HeldDecoderLemmas.{asked, closed_answer, finished_answer}
use Rattle.jillapun_c.proofs.decoder.handle.DecoderHandle.room.Goals as goal

pub returns-in_default-clause-tells : goal.returns-in_default-clause-tells
returns-in_default-clause-tells c = closed_answer c.args.self.now _ (sym c.in_default.ensures)

pub returns-then-saved-clause-tells : goal.returns-then-saved-clause-tells
returns-then-saved-clause-tells c = finished_answer c.args.self.now c.in-Some.saved _ (sym c.in-Some.ensures) c.if-saved.true

pub returns-clause-tells : goal.returns-clause-tells
returns-clause-tells c = rw c.unwrap_or.ensures
    (asked c.args.self.now c.in-Some.saved c.args.count c.args.n c.room_rule-rule.result c.max_buffer_length.result (sym c.in-Some.ensures) c.if-saved.false (λ v saves. c.room_rule-rule.ensures ∙ rule_saved c.in-Some.saved v saves) c.max_buffer_length.ensures)
