use Rattle.std.proofs.Common.{◌∙◌, ◌∷◌, ◌≡◌, [], take, get_or, ap, arith}
use Rattle.encoding_mem.specs.Conversions.{units_in_utf8}
use Rattle.encoding_mem.proofs.LongestPrefixLemmas.{adds_prefix, adds_behind}
use Rattle.encoding_mem.proofs.PlainUnitsLemmas.{plain_at}
use Rattle.encoding_mem.proofs.UnitWritingLemmas.{none_written, more_written, written_boundary, written_units}
use Rattle.encoding_mem.proofs.mem.plain_units.put_each.Goals as goal

pub units-init : goal.units-init
units-init c = record {
  within = omega arith;
  few = omega arith;
  many = omega arith;
  so_far = none_written c.args.units.now c.args.dst.now;
}

pub units-preserved : goal.units-preserved
units-preserved c =
    let us = c.args.units.now in
    let i = c.units.invariant in
    let p = c.put_unit-written.ensures in
    let n = c.put_unit-written.result in
    let ys = c.put_unit-written.new.dst in
    record {
      within = omega (arith, c.units-test.true);
      few = omega (arith, i.few, p.few);
      many = omega (arith, i.many, p.some);
      so_far =
          more_written us c.args.dst.now c.units.read c.units.dst c.units.written ys (get_or us c.units.read 0 ∷ []) 1 n i.so_far
          (omega (arith, c.units-test.true, c.requires.units)) c.put_unit-written.auto.dst (omega (arith, p.adds.within, c.put_unit-written.auto.dst))
          (plain_at us c.units.read (omega (arith, c.units-test.true, c.requires.units)) (omega (arith, c.requires.low c.units.read c.units-test.true)))
          (adds_prefix _ _ ys n p.adds) (adds_behind _ _ ys n p.adds);
    }

pub returns-clause-boundary : goal.returns-clause-boundary
returns-clause-boundary c =
    let all : c.units.read ≡ c.args.count = omega (arith, c.units-test.false, c.units.invariant.within) in
    rw (← all) (written_boundary c.args.units.now c.args.dst.now c.units.read c.units.dst c.units.written c.units.invariant.so_far)

pub returns-clause-text : goal.returns-clause-text
returns-clause-text c =
    let all : c.units.read ≡ c.args.count = omega (arith, c.units-test.false, c.units.invariant.within) in
    written_units c.args.units.now c.args.dst.now c.units.read c.units.dst c.units.written c.units.invariant.so_far ∙ ap (λ n. units_in_utf8 (take n c.args.units.now)) all
