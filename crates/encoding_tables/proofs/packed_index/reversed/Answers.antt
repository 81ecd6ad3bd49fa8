use Rattle.std.proofs.Common.{◌-◌, ◌∙◌, arith, ℕ}
use Rattle.std.proofs.lemmas.List.{get_or_default}
use Rattle.encoding_tables.specs.calls.SortedRows.{row_at}
use Rattle.encoding_tables.proofs.CountLemmas.{place_found, place_is_there, turn_placed, placed_are_reversed, placed_have_directory}
use Rattle.encoding_tables.proofs.packed_index.reversed.Goals as goal

pub overflow_sub-place : goal.overflow_sub-place
overflow_sub-place c =
    let inside = c.rows.invariant.entries (c.rows.at - 1) (omega (arith, c.rows-test.true, c.rows.invariant.within)) in
    let read = λ (d : ℕ). c.index.ensures ∙ get_or_default c.rows.begins.items (row_at c.args.rows.now (c.rows.at - 1)).1 c.index.result.now d (omega (arith, inside)) in
    omega (arith, place_found c.args.rows.now c.rows.at c.index.result.now c.rows.begins.items c.rows.pairs.items (omega (arith, c.rows-test.true)) c.rows.invariant read)

pub index_mut-requires-in-rows : goal.index_mut-requires-in-rows
index_mut-requires-in-rows c =
    let inside = c.rows.invariant.entries (c.rows.at - 1) (omega (arith, c.rows-test.true, c.rows.invariant.within)) in
    let read = λ (d : ℕ). c.index.ensures ∙ get_or_default c.rows.begins.items (row_at c.args.rows.now (c.rows.at - 1)).1 c.index.result.now d (omega (arith, inside)) in
    omega (arith, place_is_there c.args.rows.now c.rows.at c.index.result.now c.rows.begins.items c.rows.pairs.items (omega (arith, c.rows-test.true)) c.rows.invariant read, c.rows.pairs.ok.0)

pub rows-preserved : goal.rows-preserved
rows-preserved c =
    let inside = c.rows.invariant.entries (c.rows.at - 1) (omega (arith, c.rows-test.true, c.rows.invariant.within)) in
    let read = λ (d : ℕ). c.index.ensures ∙ get_or_default c.rows.begins.items (row_at c.args.rows.now (c.rows.at - 1)).1 c.index.result.now d (omega (arith, inside)) in
    turn_placed c.args.rows.now c.rows.at c.index.result.now c.rows.begins.items c.rows.pairs.items (omega (arith, c.rows-test.true)) c.rows.invariant read

pub with_directory-requires-clause-rising : goal.with_directory-requires-clause-rising
with_directory-requires-clause-rising c = (placed_are_reversed c.args.rows.now c.rows.at c.rows.begins.items c.rows.pairs.items c.requires.rise (omega (arith, c.rows-test.false)) c.rows.invariant).rise

pub with_directory-requires-clause-directory : goal.with_directory-requires-clause-directory
with_directory-requires-clause-directory c = placed_have_directory c.args.rows.now c.rows.at c.rows.begins.items c.rows.pairs.items c.requires.rise (omega (arith, c.rows-test.false)) c.rows.invariant

pub returns : goal.returns
returns c = rw c.with_directory.ensures (placed_are_reversed c.args.rows.now c.rows.at c.rows.begins.items c.rows.pairs.items c.requires.rise (omega (arith, c.rows-test.false)) c.rows.invariant)
