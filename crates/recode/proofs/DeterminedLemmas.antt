-- What a run that a fault ended says that there is, is determined: what was read, and what was taken in one order.
use Rattle.std.proofs.Common.{◌≡◌, List, [], ◌∷◌, ◌++◌, refl, sym, ◌∙◌, ap, append-nil, inl, inr}
use Rattle.std.proofs.lemmas.List.{append_cancel_left}
use Rattle.recode.specs.Devices.{Devices}
use Rattle.recode.specs.Job.{trace}
use Rattle.recode.specs.Session.{Fails, input_of}
use Rattle.recode.specs.TaggedByte.{TaggedByte, log_bytes, output_bytes, tagged}
use Rattle.recode.specs.declared.job.Fault.{Fault}
use Rattle.recode.specs.declared.job.Job.{Job}
use Rattle.recode.specs.laws.Items.{log_bytes-append, output_bytes-append}
use Rattle.recode.proofs.CertainLemmas.{prefixes_of}
use Rattle.recode.proofs.StepLemmas.{none_tagged}

-- bytes that are behind some are none, if both have the same of each device
none_behind : (a c rest : List TaggedByte) → a ≡ c ++ rest → output_bytes a ≡ output_bytes c → log_bytes a ≡ log_bytes c → rest ≡ []
none_behind a c rest is output log =
    none_tagged rest
    (append_cancel_left (output_bytes c) (output_bytes rest) [] (sym (output_bytes-append c rest) ∙ sym (ap output_bytes is) ∙ output ∙ sym (append-nil (output_bytes c))))
    (append_cancel_left (log_bytes c) (log_bytes rest) [] (sym (log_bytes-append c rest) ∙ sym (ap log_bytes is) ∙ log ∙ sym (append-nil (log_bytes c))))

module _ (before after : Devices) (j : Job) (f : Fault) (p q : Fails before after j f) where
  pub same_reads : p.reads ≡ q.reads
  same_reads = append_cancel_left before.reads p.reads q.reads (sym p.given ∙ q.given)

  same_output : output_bytes p.taken ≡ output_bytes q.taken
  same_output = append_cancel_left before.written.output (output_bytes p.taken) (output_bytes q.taken) (sym p.wrote.output ∙ q.wrote.output)

  same_log : log_bytes p.taken ≡ log_bytes q.taken
  same_log = append_cancel_left before.written.log (log_bytes p.taken) (log_bytes q.taken) (sym p.wrote.lined ∙ q.wrote.lined)

  pub same_taken : p.taken ≡ q.taken
  same_taken =
      let a = p.prefix [] (λ _. refl) in
      let b = q.prefix [] (λ _. refl) in
      elim (prefixes_of p.taken a.0 q.taken b.0 (sym a.1 ∙ ap (λ reads. tagged (trace j (input_of f reads ++ []))) same_reads ∙ b.1)) [
        | inl k ↦ k.1 ∙ ap (λ l. q.taken ++ l) (none_behind p.taken q.taken k.0 k.1 same_output same_log) ∙ append-nil q.taken
        | inr k ↦ let none : k.0 ∷ k.1 ≡ [] = none_behind q.taken p.taken (k.0 ∷ k.1) k.2 (sym same_output) (sym same_log) in absurd (cc)
      ]
