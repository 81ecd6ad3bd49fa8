use Rattle.std.proofs.Common.{◌∙◌, ◌≤◌, arith}
use Rattle.encoding_mem.specs.laws.Utf8.{encode_two, encode_three, encode_four}
use Rattle.encoding_mem.specs.laws.Writing.{adds_more}
use Rattle.encoding_mem.proofs.codec.utf8_sink.Utf8SinkSink.put.Goals as goal
use Rattle.encoding_mem.proofs.codec.utf8_sink.Utf8SinkSink.put.Goals.{else-code-ge2048-via-then-code-ge2048+else-code-lt65536, else-code-ge2048-via-else-code-ge2048}

pub returns-then-code-lt65536-clause-writes : goal.returns-then-code-lt65536-clause-writes
returns-then-code-lt65536-clause-writes c =
    let a = c.put_byte.ensures in
    let b = c.put_byte-then-code-lt65536.ensures in
    let d = c.put_byte-then-code-lt65536-2.ensures in (
      d.same_reference ∙ b.same_reference ∙ a.same_reference,
      rw (encode_three c.args.c c.if-code-ge2048.true c.if-code-lt65536.true) (adds_more _ _ _ _ _ _ _ _ (adds_more _ _ _ _ _ _ _ _ a.adds b.adds) d.adds),
    )

pub returns-then-code-lt2048-clause-writes : goal.returns-then-code-lt2048-clause-writes
returns-then-code-lt2048-clause-writes c =
    let a = c.put_bytes.ensures in
    (a.same_reference, rw (encode_two c.args.c c.if-code-lt128.false c.if-code-lt2048.true) a.adds)

pub returns-else-code-lt2048-clause-writes : goal.returns-else-code-lt2048-clause-writes
returns-else-code-lt2048-clause-writes c =
    let high : 65536 ≤ c.args.c = elim c.else-code-ge2048.branch [
      | else-code-ge2048-via-then-code-ge2048+else-code-lt65536 w ↦ w.if-code-lt65536.false
      | else-code-ge2048-via-else-code-ge2048 w ↦ omega (arith, w.if-code-ge2048.false, c.if-code-lt2048.false)
    ] in
    let a = c.put_bytes-else-code-lt2048.ensures in
    (a.same_reference, rw (encode_four c.args.c high) a.adds)
