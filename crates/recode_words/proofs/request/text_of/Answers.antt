use Rattle.std.proofs.Common.{◌-◌, ◌∙◌, [], ◌∷◌, length, sym, take}
use Rattle.std.proofs.lemmas.Bool.Decides.{Decides-eqb}
use Rattle.std.proofs.lemmas.Slice.Eq.{ends_is}
use Rattle.recode_words.proofs.request.text_of.Goals as goal

pub returns-then-ends_with : goal.returns-then-ends_with
returns-then-ends_with c =
    let bytes = c.as_bytes.result.now in
    (take (length bytes - 1) bytes, sym c.as_bytes.ensures.value ∙ (ends_is Decides-eqb bytes (10 ∷ []) c.ends_with.result c.ends_with.ensures.value).0 c.if-ends_with.true)
