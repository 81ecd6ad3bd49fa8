use Rattle.std.proofs.Common.{sym, subst, inl, inr, refl}
use Rattle.std.specs.Str.{chars}
use Rattle.encoding_mem.specs.Bidi.{HasBidi}
use Rattle.encoding_mem.proofs.BidiLemmas.{ascii_has_none, latin1_bytes_none}
use Rattle.encoding_mem.proofs.mem.bidi.is_utf8_bidi.Goals as goal

pub returns-then-is_ascii : goal.returns-then-is_ascii
returns-then-is_ascii c = (λ yes. absurd (cc), λ bidi. absurd (ascii_has_none c.args.bytes.now (c.if-is_ascii.ensures.0 refl) bidi))

pub returns-then-is_latin1_text : goal.returns-then-is_latin1_text
returns-then-is_latin1_text c = (λ yes. absurd (cc), λ bidi. absurd (latin1_bytes_none c.args.bytes.now (c.if-is_latin1_text.ensures refl) bidi))

pub returns-in-Ok : goal.returns-in-Ok
returns-in-Ok c =
    let same = c.in-Ok.ensures.cases.0 in
    let utf8 = c.in-Ok.ensures.cases.1 in
    let answer = c.is_str_bidi.ensures in (
      λ yes. inr (subst (λ l. HasBidi (chars l)) same (answer.0 yes)),
      λ bidi. elim bidi [ inl broken ↦ absurd (broken utf8) | inr some ↦ answer.1 (subst (λ l. HasBidi (chars l)) (sym same) some) ],
    )
