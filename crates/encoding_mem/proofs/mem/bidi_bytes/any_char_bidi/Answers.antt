use Rattle.std.proofs.Common.{ℕ, ◌≡◌, ◌<◌, false, IsTrue, length, subst, arith}
use Rattle.encoding_mem.specs.BidiBytes.{is_bidi_at}
use Rattle.encoding_mem.proofs.BidiBytesLemmas.{agree}
use Rattle.encoding_mem.proofs.mem.bidi_bytes.any_char_bidi.Goals as goal

pub returns : goal.returns
returns c =
    let is = c.as_bytes.ensures.value in
    let e = c.any_bidi_at.ensures in
    agree c.args.text.now c.any_bidi_at.result c.utf8.text (λ k. omega (arith, c.type_inv.text k))
    (λ no. subst (λ l. (k : ℕ) → k < length l → is_bidi_at l k ≡ false) is (e.none no))
    (λ yes. subst (λ l. (k : ℕ) × IsTrue (is_bidi_at l k)) is (e.some yes))
