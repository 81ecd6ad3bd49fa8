use Rattle.std.proofs.Common.{sym, ◌∙◌, ap}
use Rattle.encoding_front.specs.EncodingTable.{number_of}
use Rattle.jillapun_c.proofs.HeldDecoderLemmas.{saves_held}
use Rattle.jillapun_c.proofs.decoder.queries.jillapun_decoder_encoding.Goals as goal

pub returns-in-Some-clause-encoding : goal.returns-in-Some-clause-encoding
returns-in-Some-clause-encoding c v holds =
    c.number_of.ensures.number ∙ ap number_of (sym (saves_held c.args.decoder.now c.in-Some.saved v (sym c.in-Some.ensures) holds).in_force)
