use Rattle.std.proofs.Common.{◌∙◌, length, sym, ap, subst}
use Rattle.std.specs.Str.{IsAscii}
use Rattle.std.proofs.lemmas.Str.{chars-IsAscii}
use Rattle.encoding_mem.proofs.LongestPrefixLemmas.{whole_run}
use Rattle.encoding_mem.proofs.mem.latin1_texts.encode_latin1_lossy.Goals as goal

pub returns-then-run-text-clause-bytes : goal.returns-then-run-text-clause-bytes
returns-then-run-text-clause-bytes c =
    let e = c.ascii_prefix-run.ensures in
    let value = c.as_bytes.ensures.value in
    let is = whole_run c.ascii_prefix-run.result.now c.as_bytes.result.now e.prefix (c.if-run-text.true ∙ ap length (sym value)) ∙ value in
    c.as_bytes-then-run-text.ensures.value ∙ is ∙ sym (chars-IsAscii c.args.text.now (subst IsAscii is e.ascii))
