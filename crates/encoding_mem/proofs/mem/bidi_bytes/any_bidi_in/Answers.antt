use Rattle.std.proofs.Common.{◌∙◌, sym, arith}
use Rattle.encoding_mem.proofs.BidiBytesLemmas.{test_none, test_some, no_leads}
use Rattle.encoding_mem.proofs.mem.bidi_bytes.any_bidi_in.Goals as goal

pub loop-i-preserved : goal.loop-i-preserved
loop-i-preserved c =
    let i = c.loop-i.invariant in
    record {
      none = λ no. test_none c.args.bytes.now c.loop-i.i c.loop-i.any c.is_bidi_bytes-any.result no c.is_bidi_bytes-any.ensures i.none;
      some = λ yes. test_some c.args.bytes.now c.loop-i.i c.loop-i.any c.is_bidi_bytes-any.result yes c.is_bidi_bytes-any.ensures i.some;
    }

pub returns-then-not-any_bidi_lead-clause-none : goal.returns-then-not-any_bidi_lead-clause-none
returns-then-not-any_bidi_lead-clause-none c = λ none k inside.
    no_leads c.args.bytes.now 16 (λ j. omega (arith, c.type_inv.bytes j)) (omega (arith, c.requires)) (sym c.any_bidi_lead.ensures ∙ c.if-not-any_bidi_lead.true) k inside
