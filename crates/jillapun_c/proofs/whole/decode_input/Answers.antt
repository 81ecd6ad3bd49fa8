use Rattle.std.proofs.Common.{sym, ◌∙◌, refl, subst}
use Rattle.std.proofs.lemmas.List.{take_rest}
use Rattle.encoding_tables.specs.IndexLists.{IndexLists}
use Rattle.encoding_front.specs.calls.DecoderViews.{decoder_view}
use Rattle.encoding_front.specs.calls.Stream.{IsNewDecoder}
use Rattle.jillapun_c.specs.HeldTables.{held_lists}
use Rattle.jillapun_c.proofs.WholeLemmas.{has_decoded, has_not_decoded}
use Rattle.jillapun_c.proofs.whole.decode_input.Goals as goal

pub returns-in_default-decode_whole-clause-decodes : goal.returns-in_default-decode_whole-clause-decodes
returns-in_default-decode_whole-clause-decodes c =
    let view = decoder_view c.new-decoder.result in
    let begins = subst (λ (t : IndexLists). IsNewDecoder view t c.in-Some-mark_of.mark c.in-Some.encoding) c.lent.ensures.lists c.new-decoder.ensures.begins in
    has_not_decoded (held_lists c.args.tables.tables) c.args.encoding c.args.mark c.in-Some.encoding c.in-Some-mark_of.mark view c.args.replaces c.args.src.now
    (sym c.encoding_of.ensures ∙ c.in-Some.is) (sym c.mark_of.ensures ∙ c.in-Some-mark_of.is) (c.if-not-are_ready.ensures.ready.0 refl) begins (λ replaces. let there = c.in_default-decode_whole.ensures.replaced replaces in cc) c.in_default-decode_whole.ensures.made

pub returns-clause-decodes : goal.returns-clause-decodes
returns-clause-decodes c =
    let view = decoder_view c.new-decoder.result in
    let begins = subst (λ (t : IndexLists). IsNewDecoder view t c.in-Some-mark_of.mark c.in-Some.encoding) c.lent.ensures.lists c.new-decoder.ensures.begins in
    has_decoded (held_lists c.args.tables.tables) c.args.encoding c.args.mark c.in-Some.encoding c.in-Some-mark_of.mark view c.args.src.now _ c.args.dst.now c.decode_whole.new.dst c.source_of-source.result c.number_of.result c.in-Some-decode_whole.whole
    (sym c.encoding_of.ensures ∙ c.in-Some.is) (sym c.mark_of.ensures ∙ c.in-Some-mark_of.is) (c.if-not-are_ready.ensures.ready.0 refl) c.if-not-are_ready.ensures.accepted begins c.source_of-source.ensures.source (take_rest c.args.src.now c.source_of-source.result.1) c.number_of.ensures.number c.in-Some-decode_whole.ensures.made
