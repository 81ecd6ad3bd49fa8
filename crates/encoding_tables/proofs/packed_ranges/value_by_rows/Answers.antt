use Rattle.std.proofs.Common.{◌+◌, ◌-◌, sym, arith, inl, inr}
use Rattle.std.specs.Char.{InScalarRange}
use Rattle.encoding_tables.specs.laws.Ranges.{row_is_scalar}
use Rattle.encoding_tables.proofs.RangeLemmas.{rows_rise}
use Rattle.encoding_tables.proofs.packed_ranges.value_by_rows.Goals as goal

pub last_row-requires-clause-rising : goal.last_row-requires-clause-rising
last_row-requires-clause-rising c = rows_rise c.args.rows.now c.requires

pub overflow_sub-pointer : goal.overflow_sub-pointer
overflow_sub-pointer c = (row_is_scalar c.args.rows.now c.args.pointer (c.in-Some.first, c.in-Some.code) c.requires (sym c.if-not-is_valid_pointer.ensures) (sym c.in-Some.ensures)).0

pub overflow_add-code : goal.overflow_add-code
overflow_add-code c =
    let fits : InScalarRange (c.in-Some.code + (c.args.pointer - c.in-Some.first)) = (row_is_scalar c.args.rows.now c.args.pointer (c.in-Some.first, c.in-Some.code) c.requires (sym c.if-not-is_valid_pointer.ensures) (sym c.in-Some.ensures)).1 in
    elim fits [ inl low ↦ omega arith | inr high ↦ omega (arith, high.1) ]

pub scalar_of-requires : goal.scalar_of-requires
scalar_of-requires c = (row_is_scalar c.args.rows.now c.args.pointer (c.in-Some.first, c.in-Some.code) c.requires (sym c.if-not-is_valid_pointer.ensures) (sym c.in-Some.ensures)).1
