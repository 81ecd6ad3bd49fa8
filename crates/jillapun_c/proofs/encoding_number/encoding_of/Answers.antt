use Rattle.std.proofs.Common.{sym}
use Rattle.std.proofs.lemmas.Option.{slice_get-get_or, slice_get_past}
use Rattle.encoding_front.specs.EncodingTable.{encodings}
use Rattle.jillapun_c.proofs.encoding_number.encoding_of.Goals as goal

pub returns-then-number-ge40 : goal.returns-then-number-ge40
returns-then-number-ge40 c = sym (slice_get_past encodings c.args.number c.if-number-ge40.true)

pub returns : goal.returns
returns c = sym (slice_get-get_or encodings c.args.number _ c.if-number-ge40.false)
