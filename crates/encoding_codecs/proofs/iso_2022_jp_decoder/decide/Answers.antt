use Rattle.std.proofs.Common.{rules, ◌∙◌, ◌≡◌, ◌&&◌, false}
use Rattle.std.specs.Prelude.{not}
use Rattle.encoding_codecs.specs.laws.Iso2022JpDecide.{is_jis_lead}
use Rattle.encoding_codecs.proofs.Iso2022JpPieceLemmas.{char_decides}
use Rattle.encoding_codecs.proofs.iso_2022_jp_decoder.decide.Goals.{else-not-last-via-then-not-last+else-is_lead, else-not-last-via-else-not-last}
use Rattle.encoding_codecs.proofs.iso_2022_jp_decoder.decide.Goals as goal

pub returns-else-not-last : goal.returns-else-not-last
returns-else-not-last c =
    let goes : (not c.args.last && is_jis_lead c.args.mode c.args.bytes.now) ≡ false = elim c.else-not-last.branch [
      | else-not-last-via-then-not-last+else-is_lead w ↦ search rules
      | else-not-last-via-else-not-last w ↦ search rules
    ] in
    c.char_first_piece.ensures ∙ char_decides c.args.jis0208.now c.args.mode c.args.bytes.now c.args.last (search rules) (search rules) goes
