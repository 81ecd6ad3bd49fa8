use Rattle.std.proofs.Common.{sym, subst, inl, inr, refl}
use Rattle.std.specs.Str.{chars}
use Rattle.encoding_mem.specs.Bidi.{HasBidi}
use Rattle.encoding_mem.proofs.BidiLemmas.{ascii_has_none, latin1_bytes_none}
use Rattle.encoding_mem.proofs.Latin1Lemmas.{latin1_from_ascii}
use Rattle.encoding_mem.proofs.mem.bidi.check_utf8_for_latin1_and_bidi.Goals as goal

pub returns-then-is_ascii-clause-latin1 : goal.returns-then-is_ascii-clause-latin1
returns-then-is_ascii-clause-latin1 c = (λ is. latin1_from_ascii c.args.bytes.now (c.if-is_ascii.ensures.0 refl), λ text. refl)

pub returns-then-is_ascii-clause-bidi : goal.returns-then-is_ascii-clause-bidi
returns-then-is_ascii-clause-bidi c = (λ is. absurd (cc), λ bidi. absurd (ascii_has_none c.args.bytes.now (c.if-is_ascii.ensures.0 refl) bidi))

pub returns-then-is_latin1_text-clause-latin1 : goal.returns-then-is_latin1_text-clause-latin1
returns-then-is_latin1_text-clause-latin1 c = (λ is. c.if-is_latin1_text.ensures refl, λ text. refl)

pub returns-then-is_latin1_text-clause-bidi : goal.returns-then-is_latin1_text-clause-bidi
returns-then-is_latin1_text-clause-bidi c = (λ is. absurd (cc), λ bidi. absurd (latin1_bytes_none c.args.bytes.now (c.if-is_latin1_text.ensures refl) bidi))

pub returns-in-Ok-clause-bidi : goal.returns-in-Ok-clause-bidi
returns-in-Ok-clause-bidi c =
    let same = c.in-Ok.ensures.cases.0 in
    let utf8 = c.in-Ok.ensures.cases.1 in
    let answer = c.check_str_for_latin1_and_bidi.ensures.bidi in (
      λ is. inr (subst (λ l. HasBidi (chars l)) same (answer.0 is)),
      λ bidi. elim bidi [ inl broken ↦ absurd (broken utf8) | inr some ↦ answer.1 (subst (λ l. HasBidi (chars l)) (sym same) some) ],
    )
