use Rattle.std.proofs.Common.{arith}
use Rattle.std.proofs.lemmas.List.FromFn.{get_or-map-range_with_len}
use Rattle.encoding_index.specs.laws.Digits.{hex_or_none}
use Rattle.encoding_index.proofs.line.hex_value.Goals as goal

pub returns : goal.returns
returns c = get_or-map-range_with_len hex_or_none 0 256 c.args.b c.args.b 0 (omega (arith, c.ranges.b.fits)) (omega arith)
