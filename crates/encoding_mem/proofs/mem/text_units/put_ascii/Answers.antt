use Rattle.std.proofs.Common.{◌+◌, ◌-◌, ◌/◌, length, arith}
use Rattle.encoding_mem.proofs.TextUnitsLemmas.{run_in_units, vector_in_units}
use Rattle.encoding_mem.proofs.UnitCopyLemmas.{further}
use Rattle.encoding_mem.proofs.mem.text_units.put_ascii.Goals as goal

pub returns-then-is_long_run-clause-further : goal.returns-then-is_long_run-clause-further
returns-then-is_long_run-clause-further c =
    let r = c.first_byte_from-run in
    let e = c.convert_latin1_to_utf16.ensures in
    let put = run_in_units c.args.text.now c.as_bytes-bytes.result.now c.args.at r.result c.args.to c.args.dst.now c.convert_latin1_to_utf16.new.dst c.utf8.text c.requires.so_far c.as_bytes-bytes.ensures.value
    r.ensures.within r.ensures.below c.convert_latin1_to_utf16.auto.dst e.units e.behind in
    put.0

pub returns-then-is_long_run-clause-behind : goal.returns-then-is_long_run-clause-behind
returns-then-is_long_run-clause-behind c =
    let r = c.first_byte_from-run in
    let e = c.convert_latin1_to_utf16.ensures in
    let put = run_in_units c.args.text.now c.as_bytes-bytes.result.now c.args.at r.result c.args.to c.args.dst.now c.convert_latin1_to_utf16.new.dst c.utf8.text c.requires.so_far c.as_bytes-bytes.ensures.value
    r.ensures.within r.ensures.below c.convert_latin1_to_utf16.auto.dst e.units e.behind in
    further _ c.args.dst.now (c.args.to + r.result) (c.args.to + r.result + (length c.args.text.now - (c.args.at + r.result)) / 3) (omega arith) put.1

pub returns-then-bytes-at-clause-further : goal.returns-then-bytes-at-clause-further
returns-then-bytes-at-clause-further c =
    let e = c.widen_lanes-run.ensures in
    let put = vector_in_units c.args.text.now c.as_bytes-bytes.result.now c.args.at c.widen_lanes-run.result c.args.to c.args.dst.now c.widen_lanes-run.new.dst c.utf8.text c.requires.so_far c.as_bytes-bytes.ensures.value
    (omega (arith, c.if-bytes-at.true)) e.within e.low c.widen_lanes-run.auto.dst e.copied e.behind in
    put.0

pub returns-then-bytes-at-clause-behind : goal.returns-then-bytes-at-clause-behind
returns-then-bytes-at-clause-behind c =
    let e = c.widen_lanes-run.ensures in
    let put = vector_in_units c.args.text.now c.as_bytes-bytes.result.now c.args.at c.widen_lanes-run.result c.args.to c.args.dst.now c.widen_lanes-run.new.dst c.utf8.text c.requires.so_far c.as_bytes-bytes.ensures.value
    (omega (arith, c.if-bytes-at.true)) e.within e.low c.widen_lanes-run.auto.dst e.copied e.behind in
    put.1

pub returns-clause-behind : goal.returns-clause-behind
returns-clause-behind c =
    let p = c.put_run in
    further p.new.dst c.args.dst.now p.result.1 (p.result.1 + (length c.args.text.now - p.result.0) / 3) (omega arith) p.ensures.behind
