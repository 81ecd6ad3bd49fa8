use Rattle.std.proofs.Common.{arith, refl}
use Rattle.encoding_mem.proofs.Utf16Lemmas.{none_mended, mend_one, leave_one, all_mended, mended_utf16}
use Rattle.encoding_mem.proofs.mem.validity.ensure_utf16_validity.Goals as goal
use Rattle.encoding_mem.proofs.mem.validity.ensure_utf16_validity.Goals.{then-is_lone_surrogate, else-is_lone_surrogate}

pub units-init : goal.units-init
units-init c = record {
  same_length = refl;
  mended = none_mended c.args.units.now c.utf16_valid_up_to-at.result c.utf16_valid_up_to-at.ensures;
}

pub units-preserved : goal.units-preserved
units-preserved c = elim c.if-is_lone_surrogate.branch [
  | then-is_lone_surrogate w ↦ record {
    same_length = cc;
    mended = rw w.units-is (mend_one c.args.units.now c.units.units c.units.at c.units-test.true c.units.invariant.mended (w.if-is_lone_surrogate.ensures.0 refl));
  }
  | else-is_lone_surrogate w ↦ record {
    same_length = cc;
    mended = rw w.units-is (leave_one c.args.units.now c.units.units c.units.at c.units.invariant.mended (λ lone. let yes = w.if-is_lone_surrogate.ensures.1 lone in cc));
  }
]

pub returns-clause-mended : goal.returns-clause-mended
returns-clause-mended c = all_mended c.args.units.now c.units.units c.units.at c.units.invariant.same_length (omega arith) c.units.invariant.mended

pub returns-clause-valid : goal.returns-clause-valid
returns-clause-valid c = mended_utf16 c.args.units.now c.units.units
    (all_mended c.args.units.now c.units.units c.units.at c.units.invariant.same_length (omega arith) c.units.invariant.mended)
