-- What conversions of two parts gave, joined, is what that of the whole gives.
use Rattle.std.proofs.Common.{◌≡◌, ◌↔◌, ◌&&◌, IsTrue, Bool, true, false, ℕ, ◌+◌, ◌≤◌, List, ◌++◌, length, refl, sym, ap, subst, ◌∙◌, arith, length-append}
use Rattle.recode.specs.Devices.{IsOf}
use Rattle.recode.specs.Job.{Faithful, RunsThrough, input_text, log_of, output_of}
use Rattle.recode.specs.Parts.{later}
use Rattle.recode.specs.declared.job.Job.{Job}
use Rattle.recode_parts.specs.Joins.{JoinsLog, MovesLines}
use Rattle.test_examples.specs.SessionSteps.{GaveAll}

-- a verdict on two parts is true if both are
both_true : (a b s : Bool) → s ≡ (a && b) → IsTrue s ↔ (IsTrue a × IsTrue b)
both_true true b s e = (λ h. (refl, sym e ∙ h), λ k. e ∙ k.1)
both_true false b s e = (λ h. absurd (never (sym e ∙ h)), λ k. absurd (never k.0))
  where
    never : false ≡ true → ⊥
    never h = cc

module _ (j : Job) (x y : List ℕ) (o l o' l' : List ℕ) (k k' : ℕ) (f f' : Bool) (one : GaveAll j x o l k f) (other : GaveAll (later j x) y o' l' k' f') where
  -- the lines that were moved are those of the second log
  pub moves_second : (n : ℕ) (reads reads' : List (List ℕ)) (log log' : List ℕ) → (joins : JoinsLog n k reads reads' log log') → n ≡ length x → IsOf reads reads' l'
      → MovesLines (length x) (length (input_text j x)) (log_of (later j x) y) joins.moved
  moves_second n reads reads' log log' joins size of =
      let part : joins.part ≡ log_of (later j x) y = of.whole joins.part joins.given ∙ other.logged in
      subst (λ (z : List ℕ). MovesLines (length x) (length (input_text j x)) z joins.moved) part
      (subst (λ (z : ℕ). MovesLines (length x) z joins.part joins.moved) one.counted (subst (λ (z : ℕ). MovesLines z k joins.part joins.moved) size joins.lines))

  pub gave_parts : (output log moved : List ℕ) (characters : ℕ) (faithful : Bool)
      → length (x ++ y) ≤ j.limit
      → RunsThrough j (x ++ y) ↔ (RunsThrough j x × RunsThrough (later j x) y)
      → input_text j (x ++ y) ≡ input_text j x ++ input_text (later j x) y
      → output_of j (x ++ y) ≡ output_of j x ++ output_of (later j x) y
      → log_of j (x ++ y) ≡ log_of j x ++ moved
      → Faithful j (x ++ y) ↔ (Faithful j x × Faithful (later j x) y)
      → output ≡ o ++ o' → log ≡ l ++ moved → characters ≡ k + k' → faithful ≡ (f && f')
      → GaveAll j (x ++ y) output log characters faithful
  gave_parts output log moved characters faithful within through text out lines verdict output_is log_is characters_are faithful_is =
      let both = both_true f f' faithful faithful_is in
      record {
        within = within;
        unstopped = through.1 (one.unstopped, other.unstopped);
        written = output_is ∙ ap (λ z. z ++ o') one.written ∙ ap (λ z. output_of j x ++ z) other.written ∙ sym out;
        logged = log_is ∙ ap (λ z. z ++ moved) one.logged ∙ sym lines;
        counted = omega (arith, characters_are, one.counted, other.counted, ap length text, length-append (input_text j x) (input_text (later j x) y));
        verdict = (
          λ h. let each = both.0 h in verdict.1 (one.verdict.0 each.0, other.verdict.0 each.1),
          λ h. let each = verdict.0 h in both.1 (one.verdict.1 each.0, other.verdict.1 each.1),
        );
      }
