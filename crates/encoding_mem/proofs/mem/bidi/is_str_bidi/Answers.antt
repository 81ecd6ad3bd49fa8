use Rattle.std.proofs.Common.{ℕ, ◌<◌, ◌≤◌, length, get_or, subst, arith}
use Rattle.encoding_mem.proofs.BidiLemmas.{text_bidi}
use Rattle.encoding_mem.proofs.mem.bidi.is_str_bidi.Goals as goal

pub returns : goal.returns
returns c =
    let n = c.first_byte_from.result in
    let is = c.as_bytes.ensures.value in
    let low = subst (λ l. (k : ℕ) → k < n → get_or l k 0 < 0xD6) is c.first_byte_from.ensures.below in
    let ends = subst (λ l. n < length l → 0xD6 ≤ get_or l n 0) is c.first_byte_from.ensures.ends in
    text_bidi c.args.text.now c.split_at.result.1.now n c.any_char_bidi.result c.utf8.text (omega (arith, c.as_bytes.ensures.len, c.first_byte_from.ensures.within)) low ends c.split_at.ensures.back c.any_char_bidi.ensures
