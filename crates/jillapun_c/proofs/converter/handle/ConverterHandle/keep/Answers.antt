use Rattle.std.proofs.Common.{◌≡◌, true-eqb, length, subst, sym, take, List, ℕ}
use Rattle.jillapun_c.specs.ConverterWords.{HoldsConverter, SavesStep}
use Rattle.jillapun_c.specs.Converters.{step_view}
use Rattle.jillapun_c.specs.HeldTables.{held_lists}
use Rattle.jillapun_c.proofs.HeldConverterLemmas.{held_by, none_first, put_first, sound_by}
use Rattle.jillapun_c.proofs.converter.handle.ConverterHandle.keep.Goals.{After-of-self, else-not-is_empty, then-not-is_empty}
use Rattle.jillapun_c.proofs.converter.handle.ConverterHandle.keep.Goals as goal

-- the text that waits stands at the start of the handle's bytes
kept : (c : After-of-self) → take (length c.saved.result.1.now) c.if-not-is_empty.self.1.1.1.1.0 ≡ c.saved.result.1.now
kept c = elim c.if-not-is_empty.branch [
  | then-not-is_empty w ↦ rw w.self-is (put_first c.saved.result.1.now w.copy_from_slice.new.self _ w.copy_from_slice.ensures.after)
  | else-not-is_empty w ↦ none_first c.saved.result.1.now c.if-not-is_empty.self.1.1.1.1.0 (true-eqb _ 0 w.if-not-is_empty.ensures)
]

held : (c : After-of-self)
    → HoldsConverter (held_lists c.args.tables.tables) c.of-self.result (take (length c.saved.result.1.now) c.if-not-is_empty.self.1.1.1.1.0) (step_view c.args.converter.now)
held c =
    let v = step_view c.args.converter.now in
    held_by (held_lists c.args.tables.tables) c.of-self.result _ c.saved.result.0 v c.requires c.of-self.ensures
    (subst (λ (x : List ℕ). SavesStep c.saved.result.0 x v) (sym (kept c)) c.saved.ensures)

pub invariant_of-self : goal.invariant_of-self
invariant_of-self c = record {
  fits = c.saved.ensures.stream.sound.waits.small;
  sound = sound_by (held_lists c.args.tables.tables) c.of-self.result _ (step_view c.args.converter.now) (held c);
}

pub returns : goal.returns
returns c = held (goal.at.returns c).After-of-self
