use Rattle.std.proofs.Common.{◌≡◌, ◌+◌, ◌-◌, take, drop, get_or, ap, arith}
use Rattle.std.proofs.lemmas.Str.{len_utf8_bounds}
use Rattle.encoding_mem.proofs.Latin1WritingLemmas.{high_is_two, latin1_byte_put, latin1_longest, latin1_part_put}
use Rattle.encoding_mem.proofs.mem.latin1_conversions.convert_latin1_to_utf8_partial.Goals as goal
use Rattle.encoding_mem.proofs.mem.latin1_conversions.convert_latin1_to_utf8_partial.Goals.{else-read-src-via-then-read-src+then-written-dst+else-src-read-lt128, else-read-src-via-then-read-src+else-written-dst, else-read-src-via-else-read-src}

pub parts-preserved : goal.parts-preserved
parts-preserved c =
    let i = c.parts.invariant in
    let src = c.args.src.now in
    let sure = c.min-sure.result in
    let e = c.convert_latin1_to_utf8-written.ensures in
    let same : (c.parts.read + sure) - c.parts.read ≡ sure = omega arith in
    latin1_part_put src c.args.dst.now c.parts.read c.parts.dst c.parts.written c.convert_latin1_to_utf8-written.new.dst (take ((c.parts.read + sure) - c.parts.read) (drop c.parts.read src)) sure c.convert_latin1_to_utf8-written.result i
    (omega (arith, c.min-sure.ensures, i.within)) (ap (λ m. take m (drop c.parts.read src)) same) c.convert_latin1_to_utf8-written.auto.dst e.fits e.text e.behind

pub returns-then-src-read-lt128-clause-longest : goal.returns-then-src-read-lt128-clause-longest
returns-then-src-read-lt128-clause-longest c =
    let i = c.parts.invariant in
    let w = latin1_byte_put c.args.src.now c.args.dst.now c.parts.read c.parts.dst c.parts.written i c.if-read-src.true c.if-src-read-lt128.true c.if-written-dst.true in
    latin1_longest c.args.src.now c.args.dst.now (c.parts.read + 1) _ (c.parts.written + 1) w
    (λ more. omega (arith, w.size, i.size, c.min-sure.ensures, c.if-sure-eq0.true, c.if-read-src.true, (len_utf8_bounds (get_or c.args.src.now (c.parts.read + 1) 0)).0))

pub returns-then-src-read-lt128-clause-text : goal.returns-then-src-read-lt128-clause-text
returns-then-src-read-lt128-clause-text c =
    (latin1_byte_put c.args.src.now c.args.dst.now c.parts.read c.parts.dst c.parts.written c.parts.invariant c.if-read-src.true c.if-src-read-lt128.true c.if-written-dst.true).bytes

pub returns-clause-longest : goal.returns-clause-longest
returns-clause-longest c =
    let i = c.parts.invariant in
    let next = get_or c.args.src.now c.parts.read 0 in
    latin1_longest c.args.src.now c.args.dst.now c.parts.read c.parts.dst c.parts.written i
    (λ more. elim c.else-read-src.branch [
      | else-read-src-via-then-read-src+then-written-dst+else-src-read-lt128 w ↦
          omega (arith, c.min-sure.ensures, c.if-sure-eq0.true, more, high_is_two next w.if-src-read-lt128.false)
      | else-read-src-via-then-read-src+else-written-dst w ↦ omega (arith, w.if-written-dst.false, (len_utf8_bounds next).0)
      | else-read-src-via-else-read-src w ↦ absurd (omega (arith, more, w.if-read-src.false))
    ])
