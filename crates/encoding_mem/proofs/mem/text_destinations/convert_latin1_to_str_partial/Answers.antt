use Rattle.std.proofs.Common.{◌∙◌, ap, take, arith}
use Rattle.encoding_mem.specs.calls.TextDestination.{cleared}
use Rattle.encoding_mem.proofs.DestinationLemmas.{take_low, bytes_are_scalars}
use Rattle.encoding_mem.proofs.mem.text_destinations.convert_latin1_to_str_partial.Goals as goal

pub returns-clause-text : goal.returns-clause-text
returns-clause-text c = c.clear_behind.ensures.prefix ∙ c.convert_latin1_to_utf8_partial-read.ensures.text

pub returns-clause-behind : goal.returns-clause-behind
returns-clause-behind c = c.clear_behind.ensures.behind ∙ ap cleared c.convert_latin1_to_utf8_partial-read.ensures.behind

pub returns-clause-utf8 : goal.returns-clause-utf8
returns-clause-utf8 c =
    let f = c.convert_latin1_to_utf8_partial-read in
    c.clear_behind.ensures.utf8 (take f.result.0 c.args.src.now) c.args.dst.now
    (bytes_are_scalars (take f.result.0 c.args.src.now) (take_low 256 f.result.0 c.args.src.now (omega arith) (λ k. omega (arith, c.type_inv.src k))))
    c.requires f.ensures.text f.ensures.behind
