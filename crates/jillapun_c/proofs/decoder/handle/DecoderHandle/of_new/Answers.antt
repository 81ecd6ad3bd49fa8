use Rattle.std.proofs.Common.{refl}
use Rattle.jillapun_c.specs.HeldTables.{held_lists}
use Rattle.jillapun_c.proofs.HeldDecoderLemmas.{held_by, sound_by}
use Rattle.jillapun_c.proofs.decoder.handle.DecoderHandle.of_new.Goals as goal

pub returns : goal.returns
returns c =
    let tables = c.args.tables.tables in
    let new = c.new.ensures.new (held_lists tables) c.requires.accepted c.requires.ready in
    record { view = new.view; holds = held_by tables c.of.result c.new.result new.view c.of.ensures new.saves new.is_new.made; over = refl; is_new = new.is_new }

pub invariant_of-result : goal.invariant_of-result
invariant_of-result c =
    let tables = c.args.tables.tables in
    let new = c.new.ensures.new (held_lists tables) c.requires.accepted c.requires.ready in
    record { sound = sound_by tables c.of.result new.view (held_by tables c.of.result c.new.result new.view c.of.ensures new.saves new.is_new.made) }
