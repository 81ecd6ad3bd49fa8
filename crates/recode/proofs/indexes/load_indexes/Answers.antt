use Rattle.std.proofs.Common.{◌<◌, ◌∙◌, arith, drop, get_or, length, suc, sym, take, ◌++◌, ap, drop-cons}
use Rattle.std.proofs.lemmas.Result.{err_from_is_err_and}
use Rattle.encoding_tables.specs.FileNames.{file_name_of}
use Rattle.std.proofs.lemmas.List.{take_more, take-append-drop}
use Rattle.encoding_tables.specs.declared.index_kind.IndexKind.{IndexKind}
use Rattle.encoding_front.specs.Encodings.{AreThere}
use Rattle.recode.specs.laws.KeptIndexes.{there_kept}
use Rattle.recode.proofs.LoadLemmas.{adds_first, adds_more, adds_only_more, there_at, there_more}
use Rattle.recode.proofs.indexes.load_indexes.Goals as goal

pub loop-kind-preserved : goal.loop-kind-preserved
loop-kind-preserved g c =
    let kinds = c.needs-kinds.result.now in
    let within : c.loop-kind.kind-index < length kinds = omega (arith, c.loop-kind-test.true, c.loop-kind.auto.kind-index-end) in
    record {
      there = rw (take_more kinds c.loop-kind.kind-index IndexKind.Ibm866 within)
          (there_more c.load_index.new.tables _ _ (there_kept c.loop-kind.tables c.load_index.new.tables _ c.load_index.ensures.files.kept c.loop-kind.invariant.there)
          c.in_ok-load_index.ensures.there);
      added = rw (take_more kinds c.loop-kind.kind-index IndexKind.Ibm866 within)
          (adds_only_more _ c.loop-kind.tables c.load_index.new.tables _ _ c.loop-kind.invariant.added c.load_index.ensures.added);
      once = λ all.
          c.load_index.ensures.once (there_at c.loop-kind.tables kinds c.loop-kind.kind-index within (there_kept c.args.tables.now c.loop-kind.tables kinds c.loop-kind.invariant.files.kept all)) ∙ c.loop-kind.invariant.once all;
      files = adds_more (g.S.IndexSource.holds c.args.source.now) (g.S.IndexSource.holds c.loop-kind.source) (g.S.IndexSource.holds c.load_index.new.source) c.args.dir.now c.args.tables.now c.loop-kind.tables
          c.load_index.new.tables c.loop-kind.invariant.files c.load_index.ensures.files;
    }

pub returns-in_err-load_index-clause-files : goal.returns-in_err-load_index-clause-files
returns-in_err-load_index-clause-files g c =
    adds_more (g.S.IndexSource.holds c.args.source.now) (g.S.IndexSource.holds c.loop-kind.source) (g.S.IndexSource.holds c.load_index.new.source) c.args.dir.now c.args.tables.now c.loop-kind.tables
    c.load_index.new.tables c.loop-kind.invariant.files c.load_index.ensures.files

pub returns-in_err-load_index-clause-once : goal.returns-in_err-load_index-clause-once
returns-in_err-load_index-clause-once g c = λ ready.
    let kinds = c.needs-kinds.result.now in
    let within : c.loop-kind.kind-index < length kinds = omega (arith, c.loop-kind-test.true, c.loop-kind.auto.kind-index-end) in
    let all : AreThere c.args.tables.now kinds = rw c.needs-kinds.ensures ready in
    c.load_index.ensures.once (there_at c.loop-kind.tables kinds c.loop-kind.kind-index within (there_kept c.args.tables.now c.loop-kind.tables kinds c.loop-kind.invariant.files.kept all)) ∙ c.loop-kind.invariant.once all

pub returns-clause-once : goal.returns-clause-once
returns-clause-once g c = λ ready. c.loop-kind.invariant.once (rw c.needs-kinds.ensures ready)

pub returns-in_err-load_index-clause-lacking : goal.returns-in_err-load_index-clause-lacking
returns-in_err-load_index-clause-lacking g c =
    let kinds = c.needs-kinds.result.now in
    let within : c.loop-kind.kind-index < length kinds = omega (arith, c.loop-kind-test.true, c.loop-kind.auto.kind-index-end) in
    let fault = err_from_is_err_and c.from_residual.result c.from_residual.ensures.1 in
    let kind : IndexKind = get_or kinds c.loop-kind.kind-index IndexKind.Ibm866 in
    let err = c.in_err-load_index.ensures in
    rw (fault.1, fault.2) record {
      before = take c.loop-kind.kind-index kinds;
      kind = kind;
      after = drop (suc c.loop-kind.kind-index) kinds;
      needed = sym c.needs-kinds.ensures ∙ sym (take-append-drop c.loop-kind.kind-index kinds)
          ∙ ap (λ rest. take c.loop-kind.kind-index kinds ++ rest) (drop-cons kinds c.loop-kind.kind-index IndexKind.Ibm866 within);
      there = rw err.unchanged c.loop-kind.invariant.there;
      lacking = err.lacking;
      added = rw err.unchanged c.loop-kind.invariant.added;
      why = rw (← c.loop-kind.invariant.files.same c.args.dir.now (file_name_of kind)) err.why;
    }

pub returns-in_err-load_index-clause-added : goal.returns-in_err-load_index-clause-added
returns-in_err-load_index-clause-added g c =
    rw (← c.needs-kinds.ensures) (rw c.in_err-load_index.ensures.unchanged (adds_first _ c.loop-kind.tables c.loop-kind.kind-index c.needs-kinds.result.now c.loop-kind.invariant.added))

pub returns-clause-added : goal.returns-clause-added
returns-clause-added g c =
    rw (← c.needs-kinds.ensures) (adds_first _ c.loop-kind.tables c.loop-kind.kind-index c.needs-kinds.result.now c.loop-kind.invariant.added)
