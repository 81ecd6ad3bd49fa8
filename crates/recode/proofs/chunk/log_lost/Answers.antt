use Rattle.std.proofs.Common.{◌≡◌, ◌++◌, ◌∙◌, ap, map, rules, subst, sym}
use Rattle.encoding_mem.specs.Coding.{reference_bytes}
use Rattle.encoding_mem.specs.Items.{Byte}
use Rattle.recode.specs.Policy.{reference_form}
use Rattle.recode.specs.calls.Held.{held_items}
use Rattle.recode.specs.calls.Writers.{HandsOnUnder, writers, writers_view}
use Rattle.recode.specs.declared.job.Policy.{Policy}
use Rattle.recode.proofs.WriterLemmas.{form_of, hands_fault, hands_then, hands_under, stops_as, view_none}
use Rattle.recode.proofs.TraceLemmas.{handed_on}
use Rattle.recode.proofs.chunk.log_lost.Goals as goal

pub returns-in_err-log_line-clause-hands : goal.returns-in_err-log_line-clause-hands
returns-in_err-log_line-clause-hands g c =
    let bytes = reference_bytes (reference_form c.args.policy) c.args.scalar in
    hands_fault (map Byte bytes) c.from_residual.ensures.1 (hands_under c.in_err-log_line.ensures.hands)

pub returns-in_err-form-clause-hands : goal.returns-in_err-form-clause-hands
returns-in_err-form-clause-hands g c =
    let e = c.in_ok-log_line.ensures in
    let bytes = map Byte (reference_bytes (reference_form c.args.policy) c.args.scalar) in
    let none = ap held_items (view_none (writers c.log_line.new.self c.args.buffer.now c.log_line.new.ports) e.none) in
    record {
      ok = search rules;
      err = λ p is. handed_on _ _ _ c.from_residual-in_err-form.ensures.1
          (λ more. stops_as _ (writers_view (writers c.log_line.new.self c.args.buffer.now c.log_line.new.ports)) p _ c.args.index c.args.scalar (bytes ++ more) c.in_err-form.ensures.err.1 (is ∙ (form_of _).0 c.in_err-form.ensures.err.0) e.hands.ok none);
      failures = record { writer = search rules; log = search rules; not_reader = search rules; not_other = search rules; output_calls = search rules; log_calls = search rules; journal = search rules; same = search rules; last = handed_on _ _ _ c.from_residual-in_err-form.ensures.1 (rw c.in_err-form.ensures.err.1 tt) };
      told = e.hands.told;
    }

pub returns-clause-hands : goal.returns-clause-hands
returns-clause-hands g c =
    hands_then (λ p is stops. absurd (let stop : c.args.policy ≡ Policy.Stop = sym is ∙ stops in let none = rw stop at c.in_ok-form.ensures.ok in cc)) (hands_under c.in_ok-log_line.ensures.hands)
    (subst (λ form. HandsOnUnder c.args.policy g.W.Write.contents g.L.Write.contents (writers c.log_line.new.self c.args.buffer.now c.log_line.new.ports) (writers c.put_reference.new.self c.put_reference.new.buffer c.put_reference.new.ports) (map Byte (reference_bytes form c.args.scalar)) c.put_reference.result)
    ((form_of _).1 _ c.in_ok-form.ensures.ok) (hands_under c.put_reference.ensures.hands))
