use Rattle.std.proofs.Common.{◌∙◌, ap, sym}
use Rattle.std.specs.Str.{chars}
use Rattle.encoding_mem.proofs.TextUnitsLemmas.{goes_on, next_in_units}
use Rattle.encoding_mem.proofs.mem.text_units.put_next.Goals as goal

pub unreachable-requires : goal.unreachable-requires
unreachable-requires c =
    goes_on c.args.text.now c.args.at c.utf8.text c.requires.so_far.boundary c.requires.inside (ap chars (sym c.range_from.ensures.value) ∙ c.in-None.ensures.chars)

pub returns-clause-further : goal.returns-clause-further
returns-clause-further c =
    let p = c.put_char_units.ensures in
    next_in_units c.args.text.now c.args.at c.args.dst.now c.args.to c.in-Some.c _ c.put_char_units.new.dst c.len_utf8.result c.put_char_units.result c.utf8.text c.requires.so_far
    (sym c.range_from.ensures.value ∙ c.in-Some.ensures.bytes) c.len_utf8.ensures.value p.end p.prefix p.size
