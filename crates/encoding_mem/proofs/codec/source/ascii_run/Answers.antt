use Rattle.std.proofs.Common.{◌∙◌, sym, ap, subst, drop, length, arith, ◌++◌, length-take}
use Rattle.std.specs.Str.{IsAscii, IsUtf8, IsCharBoundary}
use Rattle.std.proofs.lemmas.List.{take-append-drop}
use Rattle.std.proofs.lemmas.Str.{IsUtf8-drop}
use Rattle.encoding_mem.proofs.AsciiRunLemmas.{run_longest, run_boundary, run_chars, run_some, run_is}
use Rattle.encoding_mem.proofs.codec.source.ascii_run.Goals as goal

pub split_at-requires : goal.split_at-requires
split_at-requires c =
    let is = run_is c.args.text.now _ _ _ c.as_bytes.ensures.value (omega (arith, c.min.ensures)) c.ascii_prefix-run.ensures.prefix in
    run_boundary _ _ _ c.utf8.text (omega (arith, ap length is, length-take (length c.ascii_prefix-run.result.now) c.args.text.now)) is c.ascii_prefix-run.ensures.ascii

pub returns-clause-chars : goal.returns-clause-chars
returns-clause-chars c =
    let n = length c.ascii_prefix-run.result.now in
    let is = run_is c.args.text.now _ _ _ c.as_bytes.ensures.value (omega (arith, c.min.ensures)) c.ascii_prefix-run.ensures.prefix in
    let whole = sym (take-append-drop n c.args.text.now) ∙ ap (λ l. l ++ drop n c.args.text.now) (sym c.split_at.ensures.front) ∙ ap (λ l. c.split_at.result.0.now ++ l) (sym c.split_at.ensures.back) in
    run_chars _ _ _ whole (subst IsAscii (is ∙ sym c.split_at.ensures.front) c.ascii_prefix-run.ensures.ascii)

pub returns-clause-boundary : goal.returns-clause-boundary
returns-clause-boundary c =
    let is = run_is c.args.text.now _ _ _ c.as_bytes.ensures.value (omega (arith, c.min.ensures)) c.ascii_prefix-run.ensures.prefix in
    subst (IsCharBoundary c.args.text.now) (ap length (is ∙ sym c.split_at.ensures.front))
    (run_boundary _ _ _ c.utf8.text (omega (arith, ap length is, length-take (length c.ascii_prefix-run.result.now) c.args.text.now)) is c.ascii_prefix-run.ensures.ascii)

pub returns-clause-some : goal.returns-clause-some
returns-clause-some c = λ first rest at low some.
    let is = run_is c.args.text.now _ _ _ c.as_bytes.ensures.value (omega (arith, c.min.ensures)) c.ascii_prefix-run.ensures.prefix in
    let more = run_some c.args.text.now c.as_bytes.result.now c.args.most c.min.result (length c.ascii_prefix-run.result.now) first rest c.utf8.text c.as_bytes.ensures.value c.min.ensures some c.ascii_prefix-run.ensures.longest at low in
    omega (arith, more, ap length (is ∙ sym c.split_at.ensures.front))

pub returns-clause-longest : goal.returns-clause-longest
returns-clause-longest c = λ short first more begins.
    let n = length c.ascii_prefix-run.result.now in
    let is = run_is c.args.text.now _ _ _ c.as_bytes.ensures.value (omega (arith, c.min.ensures)) c.ascii_prefix-run.ensures.prefix in
    let cut = run_boundary _ _ _ c.utf8.text (omega (arith, ap length is, length-take n c.args.text.now)) is c.ascii_prefix-run.ensures.ascii in
    let rest_utf8 = subst IsUtf8 (sym c.split_at.ensures.back) (IsUtf8-drop c.args.text.now n c.utf8.text cut) in
    run_longest c.args.text.now c.as_bytes.result.now c.split_at.result.1.now c.args.most c.min.result n first more rest_utf8 c.as_bytes.ensures.value c.min.ensures
    (omega (arith, short, ap length (is ∙ sym c.split_at.ensures.front))) c.split_at.ensures.back c.ascii_prefix-run.ensures.longest begins
