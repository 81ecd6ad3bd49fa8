-- What the numbers of a call ask for.
use Rattle.std.specs.Prelude.{◌≡◌, ◌⊎◌, ℕ, ◌^◌, min, [], ◌∷◌, Option, Some, IsSome, slice_get}
use Rattle.encoding_tables.specs.IndexLists.{IndexLists}
use Rattle.recode.specs.Job.{IsValidJob}
use Rattle.recode.specs.declared.job.Job.{Job}
use Rattle.recode.specs.declared.job.Policy.{Policy}
use Rattle.jillapun_c.specs.EncodingNumbers.{encoding_at, mark_at}
use Rattle.jillapun_c.specs.declared.status.TheConstants.{NOT_READY, UNKNOWN}

-- the policy with that number, if there is one
abbrev pub policy_at : ℕ → Option Policy
policy_at number = slice_get (Policy.Decimal ∷ Policy.Hexadecimal ∷ Policy.Stop ∷ []) number

-- each number stands for something
pub record AreKnown (from to mark policy : ℕ) : Type 0 where
  pub is_from : IsSome (encoding_at from)
  pub is_to : IsSome (encoding_at to)
  pub is_mark : IsSome (mark_at mark)
  pub is_policy : IsSome (policy_at policy)

-- the job that the numbers of a call name, over these tables; a limit above 2^48 bytes counts as that
pub record NamesJob (tables : IndexLists) (from to mark policy limit : ℕ) (j : Job) : Type 0 where
  pub has_tables : j.tables.now ≡ tables
  pub has_from : encoding_at from ≡ Some j.from
  pub has_to : encoding_at to ≡ Some j.to
  pub has_mark : mark_at mark ≡ Some j.mark
  pub has_policy : policy_at policy ≡ Some j.policy
  pub has_limit : j.limit ≡ min limit (2 ^ 48)

-- and it is valid
pub record IsAskedFor (tables : IndexLists) (from to mark policy limit : ℕ) (j : Job) : Type 0 where
  pub named : NamesJob tables from to mark policy limit j
  pub valid : IsValidJob j

-- the job that the numbers of a call name is valid, and so the call goes on, or an index is missing
pub record NamesJobThen (tables : IndexLists) (from to mark policy limit : ℕ) (Then : Job → Type 0) (status : ℕ) : Type 0 where
  pub job : Job
  pub named : NamesJob tables from to mark policy limit job
  pub goes_on : (IsValidJob job × Then job) ⊎ ((¬ (IsValidJob job)) × (status ≡ NOT_READY))

-- The first of these that holds decides the status: a number stands for nothing, an index is missing; else the call goes
-- on with the job that its numbers name.
abbrev pub IfKnown : IndexLists → (from to mark policy limit : ℕ) → (Then : Job → Type 0) → (status : ℕ) → Type 0
IfKnown tables from to mark policy limit Then status =
    NamesJobThen tables from to mark policy limit Then status ⊎ ((¬ (AreKnown from to mark policy)) × (status ≡ UNKNOWN))

-- a call ends with this status before it goes on, over these tables
abbrev pub EndsAtOnce : IndexLists → (from to mark policy limit status : ℕ) → Type 0
EndsAtOnce tables from to mark policy limit status = IfKnown tables from to mark policy limit (λ j. ⊥) status
