use Rattle.std.proofs.Common.{subst, sym, take}
use Rattle.jillapun_c.specs.ConverterWords.{IsSoundConverter}
use Rattle.jillapun_c.specs.HeldTables.{held_lists}
use Rattle.jillapun_c.specs.declared.tables_handle.TablesHandle.{TablesHandle}
use Rattle.jillapun_c.proofs.tests.converter.copies_go_on_alone.Goals as goal

pub invariant_of-copy : goal.invariant_of-copy
invariant_of-copy g c =
    let h = c.jillapun_converter_step.new.converter in
    let text = take h.text_len h.text in
    record { fits = h.fits; sound = subst (λ (t : TablesHandle). IsSoundConverter (held_lists t.tables) h.words text) (sym c.copied.ensures) h.sound }
