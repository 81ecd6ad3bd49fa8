use Rattle.std.proofs.lemmas.Bool.Decides.{Decides-eqb}
use Rattle.std.proofs.lemmas.Slice.Eq.{strip_prefix_is}
use Rattle.jillapun_c.proofs.WholeLemmas.{left_more}
use Rattle.jillapun_c.proofs.whole.decoding.left_behind.Goals as goal

pub returns : goal.returns
returns c all before is_left =
    left_more all before c.args.made.now c.in_ok-bytes.field-0 c.strip_prefix.result (rw c.in_ok-bytes.was at is_left) (strip_prefix_is Decides-eqb c.in_ok-bytes.field-0.now c.args.made.now c.strip_prefix.result c.strip_prefix.ensures.cases)
