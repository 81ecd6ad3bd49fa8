use Rattle.std.proofs.Common.{arith, refl, rules}
use Rattle.recode.proofs.VerdictLemmas.{new_can_tell, new_verdict}
use Rattle.recode.proofs.engine.Engine+Decoder+VariantEncoder.new.Goals as goal

pub returns-clause-ready : goal.returns-clause-ready
returns-clause-ready c = record {
  open_ = search rules;
  sound = record { index = omega (arith, c.new.ensures.begins.pending); bad = omega arith; lost = omega arith };
  tells = rw (c.new-2.ensures.coding, c.new-2.ensures.set) (new_can_tell c.args.job c.requires _ (rw c.output_encoding.ensures at c.new-3.ensures.begins) _ c.keeps_characters.ensures);
}

pub returns-clause-begins : goal.returns-clause-begins
returns-clause-begins c = record {
  job = refl;
  open_ = refl;
  source = c.new.ensures.begins.source;
  coding = c.new-2.ensures.coding;
  policy = refl;
  read = refl;
  bad = refl;
  lost = refl;
  index = refl;
  calls = refl;
  set = c.new-2.ensures.set;
  pending = c.new.ensures.begins.pending;
  pieces = c.new.ensures.begins.pieces;
  owes_trace = λ x. rw (c.new.ensures.begins.pending, c.new.ensures.begins.pieces x, c.new-2.ensures.coding, c.new-2.ensures.set) refl;
  verdict = λ x. rw (c.new-2.ensures.coding, c.new-2.ensures.set) (new_verdict c.args.job c.requires _ (rw c.output_encoding.ensures at c.new-3.ensures.begins) _ c.keeps_characters.ensures x _ (c.new.ensures.begins.pieces x));
}
