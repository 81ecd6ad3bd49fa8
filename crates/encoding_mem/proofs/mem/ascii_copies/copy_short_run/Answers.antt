use Rattle.std.proofs.Common.{◌∙◌, take, sym, ap, arith}
use Rattle.std.proofs.lemmas.List.{take-take}
use Rattle.encoding_mem.proofs.AsciiLemmas.{ascii_at_least}
use Rattle.encoding_mem.proofs.UnitCopyLemmas.{further}
use Rattle.encoding_mem.proofs.mem.ascii_copies.copy_short_run.Goals as goal

pub returns-then-src-clause-behind : goal.returns-then-src-clause-behind
returns-then-src-clause-behind c n end = further c.copy_ascii_to_ascii.new.dst c.args.dst.now c.copy_ascii_to_ascii.result n (omega arith) c.copy_ascii_to_ascii.ensures.behind

pub returns-then-run-lt-BYTE_LANES-clause-copied : goal.returns-then-run-lt-BYTE_LANES-clause-copied
returns-then-run-lt-BYTE_LANES-clause-copied c =
    let e = c.copy_lanes-run.ensures in
    let run = c.copy_lanes-run.result in
    sym (take-take run 16 c.copy_lanes-run.new.dst e.within) ∙ ap (take run) e.copied ∙ take-take run 16 c.args.src.now e.within

pub returns-then-run-lt-BYTE_LANES-clause-behind : goal.returns-then-run-lt-BYTE_LANES-clause-behind
returns-then-run-lt-BYTE_LANES-clause-behind c n end = further c.copy_lanes-run.new.dst c.args.dst.now 16 n (omega (arith, c.if-src.false)) c.copy_lanes-run.ensures.behind

pub returns-clause-behind : goal.returns-clause-behind
returns-clause-behind c n end =
    let run = c.copy_ascii_to_ascii-2.result in
    let e = c.copy_lanes-run.ensures in
    let whole = ascii_at_least c.args.src.now run 16 c.copy_ascii_to_ascii-2.ensures.prefix (omega (arith, c.if-src.false)) (λ k inside. e.low k (omega (arith, c.if-run-lt-BYTE_LANES.false))) in
    further c.copy_ascii_to_ascii-2.new.dst c.copy_lanes-run.new.dst run n (omega arith) c.copy_ascii_to_ascii-2.ensures.behind
    ∙ further c.copy_lanes-run.new.dst c.args.dst.now 16 n (omega (arith, whole)) e.behind
