use Rattle.std.proofs.Common.{refl, arith, ◌∙◌}
use Rattle.encoding_codecs.proofs.Iso2022JpPieceLemmas.{neutral_is, reads_from_start}
use Rattle.encoding_codecs.proofs.iso_2022_jp_decoder.CodecDecoder+Iso2022JpRule.in_neutral_state.Goals as goal

pub returns-in_default : goal.returns-in_default
returns-in_default c =
    let rule = c.rule.result.now in
    let reads = c.rule.ensures in
    (λ no. cc, λ h. absurd (c.in_default.not-Ascii (neutral_is _ rule.jis0208.flat rule.mode reads.0 reads.2 (reads.1 ∙ h.none) h)))

pub returns-in-Ascii : goal.returns-in-Ascii
returns-in-Ascii c =
    let rule = c.rule.result.now in
    let reads = c.rule.ensures in
    (λ yes. reads_from_start _ rule.jis0208.flat rule.mode reads.0 reads.2 reads.1 (omega (arith, c.pending_len.ensures, c.if-pending_len-eq0.true)) c.in-Ascii.is, λ h. refl)
