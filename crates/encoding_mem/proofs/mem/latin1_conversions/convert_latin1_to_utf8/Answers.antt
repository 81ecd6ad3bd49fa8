use Rattle.std.proofs.Common.{◌+◌, ◌-◌, length}
use borrow.Rule.Slice.PartMut.{put_mid}
use Rattle.encoding_mem.proofs.Latin1WritingLemmas.{latin1_run_written, latin1_high_written}
use Rattle.encoding_mem.proofs.mem.latin1_conversions.convert_latin1_to_utf8.Goals as goal

pub runs-preserved : goal.runs-preserved
runs-preserved c =
    let e = c.copy_ascii_run-run.ensures in
    latin1_run_written c.args.src.now c.args.dst.now c.runs.read c.runs.dst c.runs.written c.copy_ascii_run-run.new.dst c.copy_ascii_run-run.result c.runs.invariant c.requires
    e.within c.copy_ascii_run-run.auto.dst e.low e.copied e.behind

pub runs-preserved-then-read-src : goal.runs-preserved-then-read-src
runs-preserved-then-read-src c =
    let e = c.copy_ascii_run-run.ensures in
    let run = c.copy_ascii_run-run.result in
    let mid = put_mid c.runs.written (length c.runs.dst - c.runs.written) c.runs.dst c.copy_ascii_run-run.new.dst in
    let w = latin1_run_written c.args.src.now c.args.dst.now c.runs.read c.runs.dst c.runs.written c.copy_ascii_run-run.new.dst run c.runs.invariant c.requires
    e.within c.copy_ascii_run-run.auto.dst e.low e.copied e.behind in
    latin1_high_written c.args.src.now c.args.dst.now (c.runs.read + run) mid (c.runs.written + run) c.put_two_bytes.new.dst w c.requires c.if-read-src.true c.put_two_bytes.auto.dst c.put_two_bytes.ensures
