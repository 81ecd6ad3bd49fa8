use Rattle.std.proofs.Common.{ℕ, ◌≡◌, ◌-◌, ◌+◌, ◌<◌, ◌∙◌, false, length, refl, sym, arith}
use Rattle.encoding_mem.specs.BidiBytes.{is_bidi_at}
use Rattle.encoding_mem.proofs.BidiBytesLemmas.{block_none, block_some}
use Rattle.encoding_mem.proofs.Latin1BytesLemmas.{one_more}
use Rattle.encoding_mem.proofs.mem.bidi_bytes.any_bidi_at.Goals as goal

pub wide-preserved : goal.wide-preserved
wide-preserved c = record {
  within = omega (arith, c.wide-test.true, c.wide.invariant.within);
  none = block_none c.args.bytes.now c.wide.at 16 c.wide.invariant.none (c.if-any_bidi_in.ensures.none refl);
}

pub returns-then-any_bidi_in-clause-some : goal.returns-then-any_bidi_in-clause-some
returns-then-any_bidi_in-clause-some c = λ yes. block_some c.args.bytes.now c.wide.at (c.if-any_bidi_in.ensures.some refl)

pub returns-then-any_bidi_in-2-clause-some : goal.returns-then-any_bidi_in-2-clause-some
returns-then-any_bidi_in-2-clause-some c = λ yes. block_some c.args.bytes.now ((length c.args.bytes.now - 2) - 16) (c.if-any_bidi_in-2.ensures.some refl)

pub returns-else-is_bidi_at-clause-none : goal.returns-else-is_bidi_at-clause-none
returns-else-is_bidi_at-clause-none c = λ no k less.
    let bytes = c.args.bytes.now in
    let P = λ (j : ℕ). is_bidi_at bytes j ≡ false in
    let before = λ (j : ℕ) (e : j < (length bytes - 2) - 16). c.wide.invariant.none j (omega (arith, e, c.wide-test.false)) in
    let block = block_none bytes ((length bytes - 2) - 16) 16 before (c.if-any_bidi_in-2.ensures.none refl) in
    let early = λ (j : ℕ) (e : j < length bytes - 2). block j (omega (arith, e, c.requires)) in
    one_more P ((length bytes - 2) + 1) (one_more P (length bytes - 2) early (sym c.if-is_bidi_at.ensures)) (sym c.is_bidi_at-else-is_bidi_at.ensures ∙ no) k (omega (arith, less, c.requires))
