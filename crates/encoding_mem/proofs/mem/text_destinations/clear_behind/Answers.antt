use Rattle.encoding_mem.proofs.DestinationLemmas.{put_prefix, cleared_behind, text_stays}
use Rattle.std.proofs.Common.{refl, ◌∙◌}
use Rattle.encoding_mem.proofs.mem.text_destinations.clear_behind.Goals as goal

pub returns-clause-prefix : goal.returns-clause-prefix
returns-clause-prefix c = put_prefix c.args.written c.args.dst.now c.clear_prefix.new.bytes c.requires

pub returns-clause-behind : goal.returns-clause-behind
returns-clause-behind c = cleared_behind c.args.written c.args.dst.now c.clear_prefix.new.bytes c.args.dst.now c.requires c.clear_prefix.ensures refl

pub returns-clause-utf8 : goal.returns-clause-utf8
returns-clause-utf8 c = λ text before are was prefix same.
    text_stays text before _ c.args.written are was
    (put_prefix c.args.written c.args.dst.now c.clear_prefix.new.bytes c.requires ∙ prefix)
    (cleared_behind c.args.written c.args.dst.now c.clear_prefix.new.bytes before c.requires c.clear_prefix.ensures same)
