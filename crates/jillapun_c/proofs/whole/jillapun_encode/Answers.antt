use Rattle.std.proofs.Common.{sym, ◌∙◌, refl}
use Rattle.jillapun_c.specs.HeldTables.{held_lists}
use Rattle.jillapun_c.proofs.WholeLemmas.{encodes_if_ready}
use Rattle.jillapun_c.proofs.whole.jillapun_encode.Goals as goal

pub returns-clause-encodes : goal.returns-clause-encodes
returns-clause-encodes c utf8 =
    let e = c.encode_whole-has_lost in
    let begins = rw c.lent.ensures.lists at c.new-encoder.ensures.state in
    let ready = rw c.output_encoding.ensures at (c.if-not-are_ready.ensures.ready.0 refl) in
    rw c.status.ensures (encodes_if_ready (held_lists c.args.tables.tables) c.args.encoding c.in-Some.encoding c.new-encoder.result c.args.text.now c.args.dst.now e.new.dst e.result.0 e.result.1
    (sym c.encoding_of.ensures ∙ c.in-Some.is) ready begins (rw c.from_utf8_unchecked-text.ensures at e.ensures.filled) (rw c.from_utf8_unchecked-text.ensures at e.ensures.lost))
