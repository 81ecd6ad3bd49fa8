use Rattle.std.proofs.Common.{rules, ◌+◌, sym, ◌∙◌, arith}
use Rattle.encoding_mem.proofs.CharacterLemmas.{all_counted, counted_few, more_counted}
use Rattle.encoding_mem.proofs.mem.character_counts.count_beginnings.Goals as goal

pub overflow_add-count : goal.overflow_add-count
overflow_add-count c =
    let few = counted_few c.args.bytes.now c.vectors.at 64 c.vectors.count c.beginnings_in-count.result (omega (arith, c.vectors-test.true, c.vectors.invariant.within)) c.vectors.invariant.counted c.beginnings_in-count.ensures in search rules

pub vectors-preserved : goal.vectors-preserved
vectors-preserved c = record {
  within = omega (arith, c.vectors-test.true, c.vectors.invariant.within);
  counted = (λ i. c.vectors.invariant.counted i + c.beginnings_in-count.ensures i) ∙ sym (more_counted c.args.bytes.now c.vectors.at 64);
}

pub returns : goal.returns
returns c = (λ i. c.vectors.invariant.counted i + c.count_singly.ensures i) ∙ all_counted c.args.bytes.now c.vectors.at
