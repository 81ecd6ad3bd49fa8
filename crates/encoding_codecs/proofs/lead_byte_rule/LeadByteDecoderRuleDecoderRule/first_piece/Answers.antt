use Rattle.std.proofs.Common.{rules, arith, ◌≡◌, ℕ, ◌-◌, ◌<◌, ◌≤◌, Bool, List, [], ◌∷◌, length, take, drop, slice_index, suc, sym, ap, ◌∙◌, subst}
use Rattle.std.proofs.lemmas.List.{take_all}
use Rattle.std.proofs.lemmas.Bool.{le-ltb}
use Rattle.encoding_codecs.specs.declared.lead_byte_rule.FirstByte.{FirstByte}
use Rattle.encoding_codecs.specs.declared.lead_byte_rule.FirstByte.TheVariants.{Lead}
use Rattle.encoding_mem.specs.Pieces.{pieces_by}
use Rattle.encoding_mem.specs.calls.DecoderRule.{TellsFirstPiece}
use Rattle.encoding_mem.specs.declared.codec.first_piece.FirstPiece.{FirstPiece}
use Rattle.encoding_mem.specs.declared.codec.first_piece.FirstPiece.TheVariants.{One, Malformed}
use Rattle.encoding_codecs.specs.TwoByte.{first_piece_by_lead}
use Rattle.encoding_codecs.specs.laws.TwoByte.{rule_first_piece}
use Rattle.encoding_codecs.specs.laws.TwoByteDecide.{decide_by_lead}
use Rattle.encoding_codecs.proofs.lead_byte_rule.LeadByteDecoderRuleDecoderRule.first_piece.Goals as goal

leads : (first : ℕ → FirstByte) (decide : ℕ → List ℕ → Bool → FirstPiece) (x : List ℕ) (last : Bool)
    → 0 < length x → 0x80 ≤ slice_index x 0 → first (slice_index x 0) ≡ Lead
    → decide_by_lead first decide x last ≡ decide (slice_index x 0) (take (length x - 1) (drop 1 x)) last
leads first decide [] last some high is = absurd (omega (arith, some))
leads first decide (a ∷ x) last some high is = rw (le-ltb a 0x80 high) (rw is (sym (ap (λ y. decide a y last) (take_all (suc (length x) - 1) x (omega arith)))))

pub returns-in-len1-up-clause-piece : goal.returns-in-len1-up-clause-piece
returns-in-len1-up-clause-piece g c =
    let s = c.args.self.now.encoding in
    let rule = g.T.LeadByteRule.rule s in
    let P = pieces_by (first_piece_by_lead rule.first rule.after) in
    let shown : decide_by_lead rule.first rule.decide c.args.bytes.now c.args.last ≡ One _ 1 = search rules in
    subst (λ (F : FirstPiece). TellsFirstPiece P P c.args.bytes.now c.args.last F) shown (rule_first_piece rule.first rule.after rule.decide (g.T.LeadByteRule.laws s) c.args.bytes.now c.args.last c.requires)

pub returns-in-Alone-clause-piece : goal.returns-in-Alone-clause-piece
returns-in-Alone-clause-piece g c =
    let s = c.args.self.now.encoding in
    let rule = g.T.LeadByteRule.rule s in
    let P = pieces_by (first_piece_by_lead rule.first rule.after) in
    let shown : decide_by_lead rule.first rule.decide c.args.bytes.now c.args.last ≡ One c.in-Alone.c 1 = search rules in
    subst (λ (F : FirstPiece). TellsFirstPiece P P c.args.bytes.now c.args.last F) shown (rule_first_piece rule.first rule.after rule.decide (g.T.LeadByteRule.laws s) c.args.bytes.now c.args.last c.requires)

pub returns-in-Lead-clause-piece : goal.returns-in-Lead-clause-piece
returns-in-Lead-clause-piece g c =
    let s = c.args.self.now.encoding in
    let rule = g.T.LeadByteRule.rule s in
    let P = pieces_by (first_piece_by_lead rule.first rule.after) in
    let shown : decide_by_lead rule.first rule.decide c.args.bytes.now c.args.last ≡ c.after_lead.result = leads rule.first rule.decide c.args.bytes.now c.args.last (search rules) (search rules) (search rules) ∙ sym c.after_lead.ensures in
    subst (λ (F : FirstPiece). TellsFirstPiece P P c.args.bytes.now c.args.last F) shown (rule_first_piece rule.first rule.after rule.decide (g.T.LeadByteRule.laws s) c.args.bytes.now c.args.last c.requires)

pub returns-in-Unused-clause-piece : goal.returns-in-Unused-clause-piece
returns-in-Unused-clause-piece g c =
    let s = c.args.self.now.encoding in
    let rule = g.T.LeadByteRule.rule s in
    let P = pieces_by (first_piece_by_lead rule.first rule.after) in
    let shown : decide_by_lead rule.first rule.decide c.args.bytes.now c.args.last ≡ Malformed 1 = search rules in
    subst (λ (F : FirstPiece). TellsFirstPiece P P c.args.bytes.now c.args.last F) shown (rule_first_piece rule.first rule.after rule.decide (g.T.LeadByteRule.laws s) c.args.bytes.now c.args.last c.requires)
