use Rattle.std.proofs.Common.{refl}
use Rattle.encoding_front.specs.calls.DecoderViews.{decoder_view}
use Rattle.jillapun_c.specs.HeldTables.{held_lists}
use Rattle.jillapun_c.proofs.HeldDecoderLemmas.{decoded, not_opened}
use Rattle.jillapun_c.proofs.decoder.utf16.jillapun_decoder_decode_to_utf16.Goals as goal

pub returns-in-Err-clause-decodes : goal.returns-in-Err-clause-decodes
returns-in-Err-clause-decodes c = not_opened c.args.decoder.now c.in-Err.status _ c.in-Err.ensures

pub keep-requires : goal.keep-requires
keep-requires c = c.decode_to_utf16-outcome.ensures.call.made (held_lists c.args.decoder.now.tables.tables) c.in-Ok.ensures.made

pub returns-clause-decodes : goal.returns-clause-decodes
returns-clause-decodes c =
    decoded c.args.decoder.now c.keep.new.self (decoder_view c.in-Ok.opened) (decoder_view c.decode_to_utf16-outcome.new.self) _ _ _ _ _ _ _ c.decode_to_utf16-outcome.result.0
    c.in-Ok.ensures c.keep.ensures.holds c.outcome_of.ensures (refl, refl) c.decode_to_utf16-outcome.ensures.call c.decode_to_utf16-outcome.ensures.enough
