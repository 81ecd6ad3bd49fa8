use Rattle.std.proofs.Common.{◌≡◌, ◌∙◌, ◌++◌, ◌+◌, [], take, drop, refl, sym, ap, subst, arith, length-drop}
use Rattle.std.specs.Str.{chars}
use Rattle.std.proofs.lemmas.List.{append-nil, drop_all}
use Rattle.std.proofs.lemmas.Str.{chars-nil}
use Rattle.encoding_mem.specs.Latin1.{AllLatin1}
use Rattle.encoding_mem.proofs.NarrowLemmas.{run_narrowed, high_next, two_next, two_narrowed}
use Rattle.encoding_mem.proofs.mem.latin1_conversions.narrow_text.Goals as goal

pub runs-preserved : goal.runs-preserved
runs-preserved c =
    let run = c.copy_short_run-run in
    run_narrowed c.as_bytes-bytes.result.now c.args.dst.now c.runs.read c.runs.dst c.runs.written run.new.dst run.result c.runs.invariant
    (omega (arith, c.requires.room, c.as_bytes-bytes.ensures.len)) run.ensures.prefix run.auto.dst run.ensures.copied (run.ensures.behind _ refl)

pub bounds-bytes-read-then-read-bytes : goal.bounds-bytes-read-then-read-bytes
bounds-bytes-read-then-read-bytes c =
    let run = c.copy_short_run-run in
    let text = c.as_bytes-bytes.result.now in
    let w = run_narrowed text c.args.dst.now c.runs.read c.runs.dst c.runs.written run.new.dst run.result c.runs.invariant
    (omega (arith, c.requires.room, c.as_bytes-bytes.ensures.len)) run.ensures.prefix run.auto.dst run.ensures.copied (run.ensures.behind _ refl) in
    let two = two_next text c.args.dst.now (c.runs.read + run.result) _ (c.runs.written + run.result) w
    (subst (λ l. AllLatin1 (chars l)) (sym c.as_bytes-bytes.ensures.value) c.requires.latin1) c.if-read-bytes.true (high_next text c.runs.read run.result run.ensures.prefix c.if-read-bytes.true) in
    omega (arith, two.long, length-drop (c.runs.read + run.result) text)

pub runs-preserved-then-read-bytes : goal.runs-preserved-then-read-bytes
runs-preserved-then-read-bytes c =
    let run = c.copy_short_run-run in
    let text = c.as_bytes-bytes.result.now in
    let w = run_narrowed text c.args.dst.now c.runs.read c.runs.dst c.runs.written run.new.dst run.result c.runs.invariant
    (omega (arith, c.requires.room, c.as_bytes-bytes.ensures.len)) run.ensures.prefix run.auto.dst run.ensures.copied (run.ensures.behind _ refl) in
    let two = two_next text c.args.dst.now (c.runs.read + run.result) _ (c.runs.written + run.result) w
    (subst (λ l. AllLatin1 (chars l)) (sym c.as_bytes-bytes.ensures.value) c.requires.latin1) c.if-read-bytes.true (high_next text c.runs.read run.result run.ensures.prefix c.if-read-bytes.true) in
    two_narrowed text c.args.dst.now (c.runs.read + run.result) _ (c.runs.written + run.result) w (omega (arith, c.requires.room, c.as_bytes-bytes.ensures.len)) two

pub returns-clause-bytes : goal.returns-clause-bytes
returns-clause-bytes c =
    let i = c.runs.invariant in
    let text = c.as_bytes-bytes.result.now in
    let none : chars (drop c.runs.read text) ≡ [] = ap chars (drop_all c.runs.read text (omega (arith, c.runs-test.false))) ∙ chars-nil in
    sym (append-nil (take c.runs.written c.runs.dst)) ∙ ap (λ l. take c.runs.written c.runs.dst ++ l) (sym none) ∙ sym i.whole ∙ ap chars c.as_bytes-bytes.ensures.value
