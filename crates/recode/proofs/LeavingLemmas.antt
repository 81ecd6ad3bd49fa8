-- What each kind of fault leaves, from what is said of all.
use Rattle.std.proofs.Common.{◌≡◌, ℕ, List, [], ◌++◌, inl, inr, refl, subst, true}
use Rattle.std.specs.List.{concat}
use Rattle.recode.specs.Devices.{Devices}
use Rattle.recode.specs.Job.{trace}
use Rattle.recode.specs.Latency.{TookCertain}
use Rattle.recode.specs.Leavings.{FaultLeaves, LeftBy}
use Rattle.recode.specs.Session.{Fails, at_end, input_of}
use Rattle.recode.specs.TaggedByte.{IsPrefix, tagged}
use Rattle.recode.specs.WrittenItems.{StopsAtLoss}
use Rattle.recode.specs.declared.job.Fault.{Fault}
use Rattle.recode.specs.declared.job.Fault.TheVariants.{Read, Write, Log, TooLong, Unmappable}
use Rattle.recode.specs.declared.job.Job.{Job}
use Rattle.recode.proofs.LossLemmas.{stops_policy}
use Rattle.recode.proofs.ReadLemmas.{input_all}

module _ (before after : Devices) (j : Job) where
  leaves_of : (f : Fault) (k : Fails before after j f) → LeftBy f j k.reads k.taken
  leaves_of Read k = subst (λ x. TookCertain j x k.taken) (input_all Read k.reads (λ is. cc)) (k.latest (inl refl))
  leaves_of Write k = λ r h. subst (λ x. IsPrefix k.taken (tagged (trace j (x ++ r)))) (input_all Write k.reads (λ is. cc)) (k.prefix r h)
  leaves_of Log k = λ r h. subst (λ x. IsPrefix k.taken (tagged (trace j (x ++ r)))) (input_all Log k.reads (λ is. cc)) (k.prefix r h)
  leaves_of TooLong k = (k.latest (inr refl), k.limited refl)
  leaves_of (Unmappable index scalar) k =
      let all : input_of (Unmappable index scalar) k.reads ≡ concat k.reads = input_all (Unmappable index scalar) k.reads (λ is. cc) in
      let stops = λ (r : List ℕ) (h : at_end k.reads ≡ true → r ≡ []). subst (λ x. StopsAtLoss index scalar k.taken (trace j (x ++ r))) all (k.stopped r h index scalar refl) in
      let one = stops [] (λ h. refl) in
      record { policy = stops_policy j (concat k.reads ++ []) one.items index scalar one.last; stopped = stops }

  pub fault_leaves : (f : Fault) → Fails before after j f → FaultLeaves before after j f
  fault_leaves f k = record { reads = k.reads; given = k.given; taken = k.taken; wrote = k.wrote; leaves = leaves_of f k }
