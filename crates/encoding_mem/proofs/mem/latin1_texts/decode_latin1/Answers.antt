use Rattle.std.proofs.Common.{◌≤◌, ◌-◌, ◌∙◌, length, take, drop, sym, ap, subst, arith}
use Rattle.std.specs.Str.{IsAscii}
use Rattle.std.proofs.lemmas.List.{take_rest}
use Rattle.std.proofs.lemmas.Str.{encodes-IsAscii}
use Rattle.encoding_mem.proofs.DestinationLemmas.{bytes_are_scalars}
use Rattle.encoding_mem.proofs.Latin1WritingLemmas.{decoded}
use Rattle.encoding_mem.proofs.LongestPrefixLemmas.{whole_run}
use Rattle.encoding_mem.proofs.mem.latin1_texts.decode_latin1.Goals as goal

pub returns-then-run-bytes-clause-text : goal.returns-then-run-bytes-clause-text
returns-then-run-bytes-clause-text c =
    let e = c.ascii_prefix-run.ensures in
    let is = whole_run c.ascii_prefix-run.result.now c.args.bytes.now e.prefix c.if-run-bytes.true in
    is ∙ sym (encodes-IsAscii c.args.bytes.now (subst IsAscii is e.ascii))

pub from_utf8_unchecked-requires : goal.from_utf8_unchecked-requires
from_utf8_unchecked-requires c =
    let p = c.put_both-written in
    let src = c.args.bytes.now in
    let run = c.ascii_prefix-run.result.now in
    let e = c.ascii_prefix-run.ensures in
    let room : p.result ≤ c.in_ok-text.text.len = omega (arith, p.ensures.fits, p.auto.dst, c.deref_mut.ensures.len) in
    let text = decoded src run (take (length src - length run) (drop (length run) src)) p.new.dst (drop (length p.new.dst) c.in_ok-text.text.items) c.truncate.new.self.items p.result c.in_ok-text.text.len
    e.prefix e.ascii (take_rest src (length run)) c.truncate.ensures.items room p.ensures.fits p.ensures.text in
    (src, (bytes_are_scalars src (λ k. omega (arith, c.type_inv.bytes k)), sym text))

pub returns-clause-text : goal.returns-clause-text
returns-clause-text c =
    let p = c.put_both-written in
    let src = c.args.bytes.now in
    let run = c.ascii_prefix-run.result.now in
    let e = c.ascii_prefix-run.ensures in
    let room : p.result ≤ c.in_ok-text.text.len = omega (arith, p.ensures.fits, p.auto.dst, c.deref_mut.ensures.len) in
    let text = decoded src run (take (length src - length run) (drop (length run) src)) p.new.dst (drop (length p.new.dst) c.in_ok-text.text.items) c.truncate.new.self.items p.result c.in_ok-text.text.len
    e.prefix e.ascii (take_rest src (length run)) c.truncate.ensures.items room p.ensures.fits p.ensures.text in
    ap (λ v. v.items) c.from_utf8_unchecked.ensures.value ∙ text
