-- The converter that a handle holds, as its calls see it.
use Rattle.std.proofs.Common.{◌≡◌, ◌++◌, ℕ, List, [], ◌∷◌, arith, length, refl, true, false, Some, sym, ◌∙◌, ap, subst, take}
use Rattle.std.proofs.Math.Seq.{take-append_seam}
use Rattle.std.proofs.Math.Logic.{∥∥₁_elim, ∥∥₁_map}
use Rattle.std.proofs.Props.{props}
use Rattle.encoding_tables.specs.IndexLists.{IndexLists}
use Rattle.recode.specs.Converter.{ConverterView}
use Rattle.recode.specs.SavedConverters.{CanGoOnFrom, SavesConverter}
use Rattle.recode.specs.laws.SavedConverters.{one_converter}
use Rattle.jillapun_c.proofs.EncodingNumberLemmas.{same_some}
use Rattle.jillapun_c.specs.ConverterCalls.{IsIdle}
use Rattle.jillapun_c.specs.ConverterWords.{HoldsConverter, IsSoundConverter, SavesStep, saved_step_in}
use Rattle.jillapun_c.specs.Converters.{StepView}
use Rattle.jillapun_c.specs.HeldTables.{held_lists}
use Rattle.jillapun_c.specs.declared.converter.handle.ConverterHandle.{ConverterHandle}
use Rattle.jillapun_c.specs.declared.converter.words.ConverterWords.{ConverterWords}
use Rattle.jillapun_c.specs.declared.converter.words.SavedStep.{SavedStep}

-- ---- what a handle holds

-- the words say what was saved of the converter that is held
pub saves_held : (lists : IndexLists) (words : ConverterWords) (text : List ℕ) (w : SavedStep) (v : StepView) → saved_step_in words ≡ Some w → HoldsConverter lists words text v → SavesStep w text v
saves_held lists words text w v is holds = subst (λ (x : SavedStep). SavesStep x text v) (same_some holds.saved w (sym holds.is ∙ is)) holds.saves

-- and a converter is held whose words these are
pub held_by : (lists : IndexLists) (words : ConverterWords) (text : List ℕ) (w : SavedStep) (v : StepView) → lists ≡ v.stream.lists → saved_step_in words ≡ Some w → SavesStep w text v → HoldsConverter lists words text v
held_by lists words text w v lists_are is saves = record { lists_are = lists_are; saved = w; is = is; saves = saves }

pub sound_by : (lists : IndexLists) (words : ConverterWords) (text : List ℕ) (v : StepView) → HoldsConverter lists words text v → IsSoundConverter lists words text
sound_by lists words text v holds w is = ∣ (v, holds) ∣₁

-- there is one at most
one_step : (w : SavedStep) (text : List ℕ) (v u : StepView) → v.stream.lists ≡ u.stream.lists → SavesStep w text v → SavesStep w text u → v ≡ u
one_step w text v u lists h k =
    h.is ∙ ap (λ (s : ConverterView). record v { stream = s; held = take w.held_len w.held; loss = w.loss; stage = w.stage; is_finished = w.is_finished })
    (one_converter w.stream text v.stream u.stream lists h.stream k.stream) ∙ sym k.is

pub one_held : (lists : IndexLists) (words : ConverterWords) (text : List ℕ) (v u : StepView) → HoldsConverter lists words text v → HoldsConverter lists words text u → v ≡ u
one_held lists words text v u h k =
    one_step k.saved text v u (sym h.lists_are ∙ k.lists_are) (saves_held lists words text k.saved v k.is h) k.saves

-- what it keeps can go on over its tables
pub goes_on_from : (lists : IndexLists) (words : ConverterWords) (text : List ℕ) (w : SavedStep) → IsSoundConverter lists words text → saved_step_in words ≡ Some w → CanGoOnFrom lists w.stream text
goes_on_from lists words text w sound is = ∥∥₁_map {B = (v : ConverterView) × (v.lists ≡ lists) × SavesConverter w.stream text v} (sound w is) (λ k. (
  k.0.stream,
  sym k.1.lists_are,
  (saves_held lists words text w k.0 is k.1).stream,
))

-- a converter that goes on is none whose end was reported
pub not_idle : {X : Type 0} (h : ConverterHandle) (w : SavedStep) → saved_step_in h.words ≡ Some w → w.is_finished ≡ false → IsIdle h → X
not_idle h w is live idle = absurd (∥∥₁_elim (h.sound w is) (hlevel props) (λ k.
    let ended : w.is_finished ≡ true = ap (λ (v : StepView). v.is_finished) (sym (saves_held (held_lists h.tables.tables) h.words (take h.text_len h.text) w k.0 is k.1).is) ∙ idle k.0 k.1 in
    cc))

-- ---- the text that waits

-- a text that was put at the start of some bytes stands there
pub put_first : (text put rest : List ℕ) → put ≡ text → take (length text) (put ++ rest) ≡ text
put_first text put rest is = rw is (take-append_seam text rest)

-- and so does one that is empty
pub none_first : (text bytes : List ℕ) → length text ≡ 0 → take (length text) bytes ≡ text
none_first [] bytes none = refl
none_first (x ∷ xs) bytes none = absurd (omega (arith, none))
