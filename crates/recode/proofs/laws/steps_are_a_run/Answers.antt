use Rattle.std.proofs.Common.{arith}
use Rattle.recode.proofs.LatencyLemmas.{new_settled}
use Rattle.recode.proofs.StepLemmas.{completes, counts_text, fails, goes_on_start, goes_on_more, goes_on_finish, goes_on_stop, keeps_pace}
use Rattle.recode.proofs.laws.steps_are_a_run.Goals as goal

pub returns : goal.returns
returns c = record {
  begins = λ t j v b. goes_on_start t j.limit v.state (omega (arith, b.read)) (new_settled v j b);
  goes_on = goes_on_more;
  completes = λ t t1 t2 j v w s p valid b ran f. completes t t2 j v w p valid b (goes_on_finish t t1 t2 j.limit v.state s w.state ran f);
  characters = λ t t1 t2 j v s w x b ran f given. counts_text t t2 j v w b (goes_on_finish t t1 t2 j.limit v.state s w ran f) x given;
  fails = λ t t1 t2 j v s f valid b ran stops. fails t t2 j v f valid b (goes_on_stop t t1 t2 j.limit v.state s f ran stops);
  so_far = λ t t1 j v s valid b ran. keeps_pace t t1 j v s valid b ran;
}
