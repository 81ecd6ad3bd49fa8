use Rattle.std.proofs.Common.{◌≡◌, ◌+◌, ◌∙◌, ap, drop}
use Rattle.std.proofs.lemmas.List.{take_rest}
use Rattle.encoding_tables.specs.Ranges.{end_by}
use Rattle.encoding_tables.proofs.RangeLemmas.{run_small}
use Rattle.encoding_tables.proofs.packed_ranges.runs_of.Goals as goal

pub push_runs-requires : goal.push_runs-requires
push_runs-requires c = λ high.
    let end : c.end_by.result ≡ end_by (drop (c.loop-index.index + 1) c.args.rows.now) = c.end_by.ensures ∙ ap end_by (take_rest c.args.rows.now (c.loop-index.index + 1)) in
    run_small c.args.rows.now c.requires c.loop-index.index c.loop-index-test.true (rw end at high)
