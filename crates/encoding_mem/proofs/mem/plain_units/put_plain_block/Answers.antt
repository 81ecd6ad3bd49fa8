use Rattle.std.proofs.Common.{◌≡◌, ◌∙◌, ◌+◌, ◌-◌, [], take, get_or, ap, subst, arith}
use Rattle.encoding_mem.proofs.PlainUnitsLemmas.{IsQuad, quad_few, quad_put, last_put}
use Rattle.encoding_mem.proofs.UnitWritingLemmas.{written_boundary, written_units}
use Rattle.encoding_mem.specs.Conversions.{IsUnitBoundary, units_in_utf8}
use Rattle.encoding_mem.proofs.mem.plain_units.put_plain_block.Goals as goal

pub units-preserved : goal.units-preserved
units-preserved c =
    let us = c.args.units.now in
    let read = c.units.read in
    let i = c.units.invariant in
    let quad = get_or c.quads.quads read [] in
    let q : IsQuad (get_or us read 0) quad = c.quads.invariant.each read (omega (arith, c.quads-test.false, c.units-test.true)) in
    let low = c.requires.plain read (omega (arith, c.units-test.true)) in
    let width : c.units.written + 4 - c.units.written ≡ 4 = omega arith in
    record {
      within = omega (arith, c.units-test.true);
      few = omega (arith, i.few, quad_few (get_or us read 0) quad q (omega (arith, low)));
      so_far = rw (width, c.copy_from_slice.ensures.after) (quad_put us c.args.dst.now read c.units.dst c.units.written quad i.so_far
          (omega (arith, c.requires.units, c.units-test.true)) low q (omega (arith, i.few, c.units-test.true, i.so_far.same, c.requires.room)));
    }

pub returns-clause-boundary : goal.returns-clause-boundary
returns-clause-boundary c =
    let e = c.put_each-written.ensures in
    let all : c.units.read + 3 ≡ 32 = omega (arith, c.units-test.false, c.units.invariant.within) in
    let put = last_put c.args.units.now c.args.dst.now c.units.read c.units.dst c.units.written c.put_each-written.new.dst c.put_each-written.result c.units.invariant.so_far
    (omega (arith, c.units.invariant.within, c.requires.units)) e.boundary c.put_each-written.auto.dst e.fits e.many e.text e.behind in
    subst (λ n. IsUnitBoundary c.args.units.now n) all (written_boundary c.args.units.now c.args.dst.now (c.units.read + 3) _ _ put)

pub returns-clause-text : goal.returns-clause-text
returns-clause-text c =
    let e = c.put_each-written.ensures in
    let all : c.units.read + 3 ≡ 32 = omega (arith, c.units-test.false, c.units.invariant.within) in
    let put = last_put c.args.units.now c.args.dst.now c.units.read c.units.dst c.units.written c.put_each-written.new.dst c.put_each-written.result c.units.invariant.so_far
    (omega (arith, c.units.invariant.within, c.requires.units)) e.boundary c.put_each-written.auto.dst e.fits e.many e.text e.behind in
    written_units c.args.units.now c.args.dst.now (c.units.read + 3) _ _ put ∙ ap (λ n. units_in_utf8 (take n c.args.units.now)) all

pub returns-clause-behind : goal.returns-clause-behind
returns-clause-behind c =
    let e = c.put_each-written.ensures in
    (last_put c.args.units.now c.args.dst.now c.units.read c.units.dst c.units.written c.put_each-written.new.dst c.put_each-written.result c.units.invariant.so_far
    (omega (arith, c.units.invariant.within, c.requires.units)) e.boundary c.put_each-written.auto.dst e.fits e.many e.text e.behind).behind
