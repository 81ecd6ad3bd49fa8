use Rattle.std.proofs.Common.{refl}
use Rattle.encoding_front.specs.calls.DecoderViews.{decoder_view}
use Rattle.jillapun_c.specs.HeldTables.{held_lists}
use Rattle.jillapun_c.proofs.HeldDecoderLemmas.{decoded_up_to_fault, not_opened}
use Rattle.jillapun_c.proofs.decoder.utf8.jillapun_decoder_decode_to_utf8_without_replacement.Goals as goal

pub returns-in-Err-clause-decodes : goal.returns-in-Err-clause-decodes
returns-in-Err-clause-decodes c = not_opened c.args.decoder.now c.in-Err.status _ c.in-Err.ensures

pub keep-requires : goal.keep-requires
keep-requires c = c.decode_to_utf8_without_replacement-outcome.ensures.call.made (held_lists c.args.decoder.now.tables.tables) c.in-Ok.ensures.made

pub returns-clause-decodes : goal.returns-clause-decodes
returns-clause-decodes c =
    let call = c.decode_to_utf8_without_replacement-outcome in
    decoded_up_to_fault c.args.decoder.now c.keep.new.self (decoder_view c.in-Ok.opened) (decoder_view call.new.self) _ _ _ _ _ _ _ call.result.0
    c.in-Ok.ensures c.keep.ensures.holds c.part_outcome_of-outcome.ensures refl call.ensures.call call.ensures.enough
