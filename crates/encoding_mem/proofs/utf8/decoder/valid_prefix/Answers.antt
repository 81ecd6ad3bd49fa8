use Rattle.std.proofs.Common.{length, ap, sym, ◌∙◌}
use Rattle.std.proofs.lemmas.Str.{utf8_valid_len-IsUtf8}
use Rattle.encoding_mem.proofs.utf8.decoder.valid_prefix.Goals as goal

pub returns-in-Ok-clause-longest : goal.returns-in-Ok-clause-longest
returns-in-Ok-clause-longest c = ap length c.in-Ok.ensures.cases.0 ∙ sym (utf8_valid_len-IsUtf8 c.args.bytes.now c.in-Ok.ensures.cases.1)
