use Rattle.encoding_front.specs.calls.DecoderViews.{decoder_view}
use Rattle.jillapun_c.proofs.HeldDecoderLemmas.{latin1_told, not_opened}
use Rattle.jillapun_c.proofs.decoder.queries.jillapun_decoder_latin1_byte_compatible_up_to.Goals as goal

pub returns-in-Err-clause-tells : goal.returns-in-Err-clause-tells
returns-in-Err-clause-tells c = not_opened c.args.decoder.now c.in-Err.status _ c.in-Err.ensures

pub returns-clause-tells : goal.returns-clause-tells
returns-clause-tells c = rw c.unwrap_or.ensures (latin1_told c.args.decoder.now (decoder_view c.in-Ok.opened) c.args.bytes.now c.latin1_byte_compatible_up_to.result c.in-Ok.ensures c.latin1_byte_compatible_up_to.ensures)
