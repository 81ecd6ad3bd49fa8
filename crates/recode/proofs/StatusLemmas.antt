-- What each exit status of the program says.
use Rattle.std.proofs.Common.{◌≡◌, ◌≢◌, ◌⊎◌, ◌≤◌, ℕ, Bool, true, false, List, Option, Result, Ok, Err, inl, inr, refl, arith}
use Rattle.std.specs.Prelude.{if◌then◌else◌}
use Rattle.recode.specs.Conversion.{status_of}
use Rattle.recode.specs.Devices.{PortsView}
use Rattle.recode.specs.Program.{AnswersProgram, FailsToStart, FileTexts, RefusesWords, RunsJob, StatusSays, TellsText}
use Rattle.recode.specs.declared.job.Fault.{Fault}
use Rattle.recode.specs.declared.job.Report.{Report}

either : (b : Bool) (n : ℕ) → n ≡ (if b then 0 else 1) → (n ≡ 0) ⊎ (n ≡ 1)
either true n is = inl is
either false n is = inr is

-- a conversion has one of three statuses
three_are : (r : Result Report Fault) → (status_of r ≡ 0) ⊎ ((status_of r ≡ 1) ⊎ (status_of r ≡ 4))
three_are (Ok p) = elim (either p.faithful (status_of (Ok p)) refl) [ inl is ↦ inl is | inr is ↦ inr (inl is) ]
three_are (Err f) = inr (inr refl)

record IsOneOf (status : ℕ) : Type 0 where
  pub known : status ≤ 4
  pub not_two : status ≢ 2
  pub not_three : status ≢ 3

one_of : (r : Result Report Fault) (status : ℕ) → status ≡ status_of r → IsOneOf status
one_of r status is = elim (three_are r) [
  | inl zero ↦ record { known = omega (arith, is, zero); not_two = λ h. omega (arith, is, zero, h); not_three = λ h. omega (arith, is, zero, h) }
  | inr (inl one) ↦ record { known = omega (arith, is, one); not_two = λ h. omega (arith, is, one, h); not_three = λ h. omega (arith, is, one, h) }
  | inr (inr four) ↦ record { known = omega (arith, is, four); not_two = λ h. omega (arith, is, four, h); not_three = λ h. omega (arith, is, four, h) }
]

module _ {R W L : Type 0} (holds : FileTexts) (remaining : R → Option (List ℕ)) (contents : W → Option (List ℕ)) (logged : L → Option (List ℕ)) (before after : PortsView R W L) (words : List (List ℕ)) (status : ℕ) where
  of_refusal : RefusesWords before after words status → StatusSays holds before after words status
  of_refusal k = record {
    zero = λ is. absurd (omega (arith, is, k.answered));
    one = λ is. absurd (omega (arith, is, k.answered));
    two = λ is. k;
    three = λ is. absurd (omega (arith, is, k.answered));
    four = λ is. absurd (omega (arith, is, k.answered));
    known = omega (arith, k.answered);
  }

  of_start : FailsToStart before after status → StatusSays holds before after words status
  of_start k = record {
    zero = λ is. absurd (omega (arith, is, k.answered));
    one = λ is. absurd (omega (arith, is, k.answered));
    two = λ is. absurd (omega (arith, is, k.answered));
    three = λ is. k;
    four = λ is. absurd (omega (arith, is, k.answered));
    known = omega (arith, k.answered);
  }

  of_text : TellsText before after words status → StatusSays holds before after words status
  of_text k = record {
    zero = λ is. inl k;
    one = λ is. absurd (omega (arith, is, k.answered));
    two = λ is. absurd (omega (arith, is, k.answered));
    three = λ is. absurd (omega (arith, is, k.answered));
    four = λ is. absurd (omega (arith, is, k.answered));
    known = omega (arith, k.answered);
  }

  of_run : RunsJob holds remaining contents logged before after words status → StatusSays holds before after words status
  of_run k =
      let c = k.converted.conversion in
      let one_of_three = one_of c.came_to status c.answered in
      record {
        zero = λ is.
            let all = k.converted.converts (λ four. omega (arith, is, four)) in
            inr (record { w = k.w; meant = k.meant; j = k.j; job = k.job; files = k.files; done = (all.input, record { given = all.given; wrote = all.whole }, all.faithful is) });
        one = λ is.
            let all = k.converted.converts (λ four. omega (arith, is, four)) in
            record { w = k.w; meant = k.meant; j = k.j; job = k.job; files = k.files; done = (all.input, record { given = all.given; wrote = all.whole }, all.lossy is) };
        two = λ is. absurd (one_of_three.not_two is);
        three = λ is. absurd (one_of_three.not_three is);
        four = λ is. record { w = k.w; meant = k.meant; j = k.j; job = k.job; files = k.files; done = k.converted.faults is };
        known = one_of_three.known;
      }

  pub says : AnswersProgram holds remaining contents logged before after words status → StatusSays holds before after words status
  says (inl k) = of_refusal k
  says (inr (inl k)) = of_start k
  says (inr (inr (inl k))) = of_text k
  says (inr (inr (inr k))) = of_run k
