use Rattle.std.proofs.Common.{[], arith, nat_le, not}
use Rattle.std.proofs.lemmas.List.Sums.{prefix_len-le-length}
use Rattle.encoding_tables.proofs.Utf16RunLemmas.{plain_room, plain_run, plain_run_room}
use Rattle.encoding_tables.proofs.utf16_decoder.Utf16RuleDecoderRule.units_at.Goals as goal

pub returns-then-bytes-clause-room : goal.returns-then-bytes-clause-room
returns-then-bytes-clause-room g c = plain_room [] (λ k. omega arith)

pub returns-clause-few : goal.returns-clause-few
returns-clause-few g c =
    omega (arith, c.units_below.ensures, c.units_in-units.ensures.whole, prefix_len-le-length (λ u. not (nat_le 0xD800 u)) c.units_in-units.result)

pub returns-clause-units : goal.returns-clause-units
returns-clause-units g c =
    let e = c.units_in-units.ensures in
    plain_run g.E.ByteOrder.big_endian c.units_in-units.result c.args.bytes.now c.units_below.result c.units_below.ensures e.whole (omega (arith, c.if-bytes.false)) e.units

pub returns-clause-room : goal.returns-clause-room
returns-clause-room g c = plain_run_room c.units_in-units.result c.units_below.result c.units_below.ensures
