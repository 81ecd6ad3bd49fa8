use Rattle.std.proofs.Common.{◌∙◌, refl}
use Rattle.encoding_mem.proofs.TextUnitsLemmas.{none_in_units, loosely_behind, still_behind}
use Rattle.encoding_mem.proofs.mem.utf8_conversions.convert_str_to_utf16.Goals as goal

pub runs-init : goal.runs-init
runs-init c = record {
  so_far = none_in_units c.args.src.now c.args.dst.now c.utf8.src c.requires;
  size = refl;
  behind = refl;
}

pub runs-preserved-in-1 : goal.runs-preserved-in-1
runs-preserved-in-1 c =
    let e = c.put_ascii.ensures in
    record {
      so_far = e.further;
      size = c.put_ascii.auto.dst ∙ c.runs.invariant.size;
      behind =
          loosely_behind c.args.src.now c.runs.read c.put_ascii.result.0 c.runs.written c.put_ascii.result.1 c.put_ascii.new.dst c.runs.dst c.args.dst.now
          e.some e.further.boundary.0 e.dense e.behind c.runs.invariant.behind;
    }

pub runs-preserved-in-2 : goal.runs-preserved-in-2
runs-preserved-in-2 c =
    let e = c.put_run.ensures in
    record {
      so_far = e.further;
      size = c.put_run.auto.dst ∙ c.runs.invariant.size;
      behind =
          still_behind c.args.src.now c.runs.read c.put_run.result.0 c.runs.written c.put_run.result.1 c.put_run.new.dst c.runs.dst c.args.dst.now
          e.some e.further.boundary.0 e.dense e.behind c.runs.invariant.behind;
    }

pub runs-preserved-in-3 : goal.runs-preserved-in-3
runs-preserved-in-3 c =
    let e = c.put_run-in-3.ensures in
    record {
      so_far = e.further;
      size = c.put_run-in-3.auto.dst ∙ c.runs.invariant.size;
      behind =
          still_behind c.args.src.now c.runs.read c.put_run-in-3.result.0 c.runs.written c.put_run-in-3.result.1 c.put_run-in-3.new.dst c.runs.dst c.args.dst.now
          e.some e.further.boundary.0 e.dense e.behind c.runs.invariant.behind;
    }

pub runs-preserved : goal.runs-preserved
runs-preserved c =
    let e = c.put_next.ensures in
    record {
      so_far = e.further;
      size = c.put_next.auto.dst ∙ c.runs.invariant.size;
      behind =
          still_behind c.args.src.now c.runs.read c.put_next.result.0 c.runs.written c.put_next.result.1 c.put_next.new.dst c.runs.dst c.args.dst.now
          e.some e.further.boundary.0 e.dense e.behind c.runs.invariant.behind;
    }
