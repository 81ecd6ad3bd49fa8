use Rattle.std.proofs.Common.{◌≡◌, refl, ◌∙◌, ap}
use Rattle.encoding_mem.specs.calls.Decoding.{IsFreshDecoder}
use Rattle.encoding_tables.specs.IndexLists.{IndexLists}
use Rattle.encoding_front.specs.Codecs.{codec_of}
use Rattle.encoding_front.specs.EncodingTable.{codec_kind_of}
use Rattle.encoding_front.specs.calls.CodecBounds.{decoded_length_of_codec_kind}
use Rattle.encoding_front.specs.calls.Latin1Prefix.{latin1_rule_of_codec_kind}
use Rattle.encoding_front.specs.calls.Resumed.{resumed_of_codec_kind}
use Rattle.encoding_front.specs.calls.VariantDecoders.{IsNewIn, resumed_of, rule_of, state_of}
use Rattle.encoding_front.specs.declared.codec_kind.CodecKind.{CodecKind}
use Rattle.encoding_front.specs.declared.encoding.Encoding.{Encoding}
use Rattle.encoding_front.specs.declared.variant_decoder.VariantDecoder.{VariantDecoder}
use Rattle.encoding_front.proofs.variant_decoder.VariantDecoder.over.Goals as goal

-- a new decoder of a codec is one of a new stream in each encoding of its kind
new_in : (t : IndexLists) (e : Encoding) (d : VariantDecoder) (k : CodecKind) → k ≡ codec_kind_of e → IsFreshDecoder (state_of d) (codec_of t k).pieces (decoded_length_of_codec_kind k)
    → rule_of d ≡ latin1_rule_of_codec_kind k → resumed_of d ≡ resumed_of_codec_kind t k → IsNewIn t e d
new_in t e d k is fresh rule resumed = record {
  pending = fresh.pending;
  pieces = fresh.pieces ∙ ap (λ (k : CodecKind). (codec_of t k).pieces) is;
  room = fresh.room ∙ ap decoded_length_of_codec_kind is;
  rule = rule ∙ ap latin1_rule_of_codec_kind is;
  resumed = resumed ∙ ap (resumed_of_codec_kind t) is;
}

pub returns-in-Big5 : goal.returns-in-Big5
returns-in-Big5 c = new_in c.args.tables.now c.args.encoding _ _ c.in-Big5.ensures.codec_kind c.new-in-Big5.ensures.fresh refl c.new-in-Big5.ensures.resumed

pub returns-in-EucKr : goal.returns-in-EucKr
returns-in-EucKr c = new_in c.args.tables.now c.args.encoding _ _ c.in-EucKr.ensures.codec_kind c.new-in-EucKr.ensures.fresh refl c.new-in-EucKr.ensures.resumed

pub returns-in-EucJp : goal.returns-in-EucJp
returns-in-EucJp c = new_in c.args.tables.now c.args.encoding _ _ c.in-EucJp.ensures.codec_kind c.new-in-EucJp.ensures.fresh refl c.new-in-EucJp.ensures.resumed

pub returns-in-ShiftJis : goal.returns-in-ShiftJis
returns-in-ShiftJis c = new_in c.args.tables.now c.args.encoding _ _ c.in-ShiftJis.ensures.codec_kind c.new-in-ShiftJis.ensures.fresh refl c.new-in-ShiftJis.ensures.resumed

pub returns-in-Gb18030 : goal.returns-in-Gb18030
returns-in-Gb18030 c = new_in c.args.tables.now c.args.encoding _ _ c.in-Gb18030.ensures.codec_kind c.new-in-Gb18030.ensures.fresh refl c.new-in-Gb18030.ensures.resumed

pub returns-in-Utf8 : goal.returns-in-Utf8
returns-in-Utf8 c = c.without_tables.ensures c.args.tables.now
