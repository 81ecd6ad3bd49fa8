use Rattle.std.proofs.Common.{arith, ap, ◌≡◌, ℕ, List, min, subst, sym, take, ◌∙◌}
use Rattle.encoding_tables.specs.IndexLists.{IndexLists}
use Rattle.recode.specs.SavedConverters.{CanGoOnFrom}
use Rattle.jillapun_c.specs.ConverterCalls.{MakesStep}
use Rattle.jillapun_c.specs.ConverterWords.{SavesStep}
use Rattle.jillapun_c.specs.Converters.{StepView, step_view}
use Rattle.jillapun_c.specs.declared.converter.handle.ConverterHandle.{ConverterHandle}
use Rattle.jillapun_c.specs.HeldTables.{held_lists}
use Rattle.jillapun_c.proofs.HeldConverterLemmas.{goes_on_from, held_by, one_held}
use Rattle.jillapun_c.proofs.converter.step.go_on.Goals as goal

-- no more waits than the bound
all_waits : (h : ConverterHandle) (n : ℕ) → n ≡ min h.text_len 1024 → take n h.text ≡ take h.text_len h.text
all_waits h n is = ap (λ k. take k h.text) (omega (arith, h.fits, is))

pub resumed-held-requires : goal.resumed-held-requires
resumed-held-requires c =
    let h = c.args.converter.now in
    let text = take h.text_len h.text in
    subst (λ (l : IndexLists). CanGoOnFrom l c.args.saved.stream (take c.min.result h.text)) (sym c.requires.tables) (subst (λ (t : List ℕ). CanGoOnFrom (held_lists h.tables.tables) c.args.saved.stream t) (sym (all_waits h c.min.result c.min.ensures)) (goes_on_from (held_lists h.tables.tables) h.words text c.args.saved h.sound c.requires.saved))

pub returns : goal.returns
returns c v holds =
    let h = c.args.converter.now in
    let text = take h.text_len h.text in
    let lists = held_lists h.tables.tables in
    let own = step_view c.resumed-held.result in
    let did = c.convert_step-status in
    subst (λ (x : StepView). MakesStep x c.keep.new.self c.args.src.now c.args.last c.args.dst.now did.new.dst c.args.losses.now did.new.losses did.new.progress did.new.report did.result)
    (one_held lists h.words text own v (held_by lists h.words text c.args.saved own (sym c.requires.tables ∙ sym c.resumed-held.ensures.lists) c.requires.saved (subst (λ (t : List ℕ). SavesStep c.args.saved t own) (all_waits h c.min.result c.min.ensures) c.resumed-held.ensures.saves)) holds)
    (record { converter = step_view did.new.converter; holds = c.keep.ensures; converts = did.ensures.converts; joins = did.ensures.joins })
