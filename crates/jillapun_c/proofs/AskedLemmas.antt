-- A call that goes on, and one that ends before it does.
use Rattle.std.proofs.Common.{◌≡◌, ℕ, inl, inr}
use Rattle.encoding_tables.specs.IndexLists.{IndexLists}
use Rattle.recode.specs.declared.job.Job.{Job}
use Rattle.jillapun_c.specs.Asked.{EndsAtOnce, IfKnown, IsAskedFor}

pub refused : (tables t : IndexLists) (from to mark policy limit status : ℕ) (Then : Job → Type 0)
    → tables ≡ t → EndsAtOnce t from to mark policy limit status → IfKnown tables from to mark policy limit Then status
refused tables t from to mark policy limit status Then is h = rw is (ends h)
  where
    ends : EndsAtOnce t from to mark policy limit status → IfKnown t from to mark policy limit Then status
    ends (inl n) = inl (record { job = n.job; named = n.named; goes_on = elim n.goes_on [ inl never ↦ absurd never.1 | inr missing ↦ inr missing ] })
    ends (inr unknown) = inr unknown

pub goes_on : (tables t : IndexLists) (from to mark policy limit status : ℕ) (j : Job) (Then : Job → Type 0)
    → tables ≡ t → IsAskedFor t from to mark policy limit j → Then j → IfKnown tables from to mark policy limit Then status
goes_on tables t from to mark policy limit status j Then is asked then = rw is (inl (record { job = j; named = asked.named; goes_on = inl (asked.valid, then) }))
