use Rattle.std.proofs.Common.{sym, ◌∙◌}
use Rattle.encoding_tables.proofs.SingleByteLemmas.{latin1_up_to}
use Rattle.encoding_tables.proofs.single_byte_decoder.SingleByteRule.latin1_len.Goals as goal

pub returns-in-Some : goal.returns-in-Some
returns-in-Some c = latin1_up_to c.args.self.now.flat c.args.self.now.scalars c.args.bytes.now _ (sym c.first_other.ensures ∙ c.in-Some.is)

pub returns-in-None : goal.returns-in-None
returns-in-None c = latin1_up_to c.args.self.now.flat c.args.self.now.scalars c.args.bytes.now _ (sym c.first_other.ensures ∙ c.in-None.is)
