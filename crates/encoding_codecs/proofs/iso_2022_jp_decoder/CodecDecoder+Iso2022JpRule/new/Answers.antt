use Rattle.std.specs.Prelude.{[]}
use Rattle.std.specs.Option.{unwrap_or}
use Rattle.std.proofs.Common.{ap, sym, ◌∙◌}
use Rattle.encoding_codecs.specs.Iso2022Jp.{pieces_iso_2022_jp}
use Rattle.encoding_codecs.specs.calls.Iso2022JpModes.{resumed_iso_2022_jp}
use Rattle.encoding_codecs.proofs.iso_2022_jp_decoder.CodecDecoder+Iso2022JpRule.new.Goals as goal

pub returns-clause-fresh : goal.returns-clause-fresh
returns-clause-fresh c = record {
  pending = c.of_rule.ensures.fresh.pending;
  pieces = c.of_rule.ensures.fresh.pieces ∙ ap (λ o. pieces_iso_2022_jp (unwrap_or o [])) (sym c.flat.ensures.entries);
  room = c.of_rule.ensures.fresh.room;
}

pub returns-clause-resumed : goal.returns-clause-resumed
returns-clause-resumed c = c.of_rule.ensures.resumed ∙ ap (λ o. resumed_iso_2022_jp (unwrap_or o [])) (sym c.flat.ensures.entries)
