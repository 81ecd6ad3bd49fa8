use Rattle.std.proofs.Common.{◌-◌, ◌∙◌, length, sym, ap, arith}
use Rattle.std.specs.List.{list_any}
use Rattle.std.proofs.lemmas.List.{take_all}
use Rattle.encoding_mem.specs.Bidi.{is_bidi_unit}
use Rattle.encoding_mem.proofs.BidiLemmas.{any_in_block, none_in_block, none_before, any_in_rest, low_start}
use Rattle.encoding_mem.proofs.mem.bidi.any_unit_bidi.Goals as goal

pub wide-init : goal.wide-init
wide-init c = let e = c.vectors_of_units_below-at.ensures in record { within = e.within; none = low_start c.args.units.now c.vectors_of_units_below-at.result e.below }

pub returns-then-at-units : goal.returns-then-at-units
returns-then-at-units c = sym (ap (list_any is_bidi_unit) (sym (take_all c.wide.at c.args.units.now (omega (arith, c.if-at-units.true)))) ∙ c.wide.invariant.none)

pub returns-then-any_bidi_in : goal.returns-then-any_bidi_in
returns-then-any_bidi_in c = any_in_block is_bidi_unit c.args.units.now c.wide.at _ c.if-any_bidi_in.ensures

pub wide-preserved : goal.wide-preserved
wide-preserved c = record {
  within = omega (arith, c.wide-test.true, c.wide.invariant.within);
  none = none_in_block is_bidi_unit c.args.units.now c.wide.at 16 c.wide.invariant.within c.wide.invariant.none c.if-any_bidi_in.ensures;
}

pub returns-then-units-ge-BLOCK : goal.returns-then-units-ge-BLOCK
returns-then-units-ge-BLOCK c =
    let units = c.args.units.now in
    any_in_rest is_bidi_unit units (length units - 16) _ (none_before is_bidi_unit units (length units - 16) c.wide.at (omega (arith, c.wide-test.false)) c.wide.invariant.none) c.any_bidi_in_rest.ensures

pub returns : goal.returns
returns c = any_in_rest is_bidi_unit c.args.units.now c.wide.at _ c.wide.invariant.none c.any_bidi_in_rest-2.ensures
