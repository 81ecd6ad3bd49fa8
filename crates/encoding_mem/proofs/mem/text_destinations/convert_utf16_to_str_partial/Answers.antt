use Rattle.std.proofs.Common.{◌∙◌, ap, take, arith}
use Rattle.std.specs.Char.Utf16.{utf16_lossy_chars}
use Rattle.encoding_mem.specs.calls.TextDestination.{cleared}
use Rattle.encoding_mem.proofs.DestinationLemmas.{take_low, units_are_scalars}
use Rattle.encoding_mem.proofs.mem.text_destinations.convert_utf16_to_str_partial.Goals as goal

pub returns-clause-text : goal.returns-clause-text
returns-clause-text c = c.clear_behind.ensures.prefix ∙ c.convert_utf16_to_utf8_partial-read.ensures.text

pub returns-clause-behind : goal.returns-clause-behind
returns-clause-behind c = c.clear_behind.ensures.behind ∙ ap cleared c.convert_utf16_to_utf8_partial-read.ensures.behind

pub returns-clause-utf8 : goal.returns-clause-utf8
returns-clause-utf8 c =
    let f = c.convert_utf16_to_utf8_partial-read in
    c.clear_behind.ensures.utf8 (utf16_lossy_chars (take f.result.0 c.args.src.now)) c.args.dst.now
    (units_are_scalars (take f.result.0 c.args.src.now) (take_low 0x1_0000 f.result.0 c.args.src.now (omega arith) (λ k. omega (arith, c.type_inv.src k))))
    c.requires f.ensures.text f.ensures.behind
