use Rattle.std.proofs.Common.{ℕ, ◌-◌, ◌+◌, ◌<◌, ◌∙◌, IsTrue, length, get_or, refl, sym, arith}
use borrow.Author.Tests.{true-eqb}
use Rattle.encoding_mem.specs.Latin1Bytes.{is_latin1_pair}
use Rattle.encoding_mem.proofs.Latin1BytesLemmas.{next_block, next_head, none_latin1, one_more, text_of_pairs, whole_pairs}
use Rattle.encoding_mem.proofs.mem.latin1_bytes.is_latin1_text.Goals as goal

pub returns-then-is_empty : goal.returns-then-is_empty
returns-then-is_empty c = λ _. none_latin1 c.args.bytes.now (true-eqb _ 0 c.if-is_empty.ensures)

pub wide-preserved : goal.wide-preserved
wide-preserved c = record {
  within = omega (arith, c.wide-test.true);
  pairs = next_block is_latin1_pair c.args.bytes.now c.wide.at 32 c.wide.invariant.pairs (c.if-not-are_latin1_pairs.ensures refl);
}

pub returns-then-are_latin1_pairs : goal.returns-then-are_latin1_pairs
returns-then-are_latin1_pairs c = λ yes.
    let bytes = c.args.bytes.now in
    let before = λ (j : ℕ) (e : j < (length bytes - 1) - 32). c.wide.invariant.pairs j (omega (arith, e, c.wide-test.false)) in
    let each = next_block is_latin1_pair bytes ((length bytes - 1) - 32) 32 before (c.if-are_latin1_pairs.ensures refl) in
    text_of_pairs bytes
    (whole_pairs bytes (length bytes - 1) (omega (arith, c.if-bytes-gt-BLOCK.true)) (λ k early. each k (omega (arith, early, c.if-bytes-gt-BLOCK.true))) (sym c.is_latin1_pair-then-are_latin1_pairs.ensures ∙ yes))
    (next_head 0 (get_or bytes 0 0) (sym c.if-not-is_latin1_pair.ensures) (omega arith))

pub bytes-preserved : goal.bytes-preserved
bytes-preserved c =
    let bytes = c.args.bytes.now in
    record {
      within = omega (arith, c.bytes-test.true);
      pairs = one_more (λ k. IsTrue (is_latin1_pair (get_or bytes k 0) (get_or bytes (k + 1) 0))) c.bytes.at c.bytes.invariant.pairs (sym c.if-not-is_latin1_pair-2.ensures);
    }

pub returns : goal.returns
returns c = λ yes.
    let bytes = c.args.bytes.now in
    text_of_pairs bytes
    (whole_pairs bytes c.bytes.at (omega (arith, c.bytes-test.false, c.bytes.invariant.within)) c.bytes.invariant.pairs (sym c.is_latin1_pair-2.ensures ∙ yes))
    (next_head 0 (get_or bytes 0 0) (sym c.if-not-is_latin1_pair.ensures) (omega arith))
