use Rattle.std.proofs.Common.{arith, ◌≡◌, ◌∙◌, ◌+◌, ap, sym, map-id, ◌∷◌, [], ◌++◌, length, chars}
use Rattle.std.proofs.lemmas.List.{length-append, append_assoc}
use Rattle.std.proofs.lemmas.Iterator.{YieldsList-from_chars}
use Rattle.std.proofs.lemmas.Iterator.Consumers.{YieldsList-end}
use Rattle.recode_places.proofs.place.Place.pass_text.Goals as goal

pub loop-c-preserved : goal.loop-c-preserved
loop-c-preserved c =
    let i = c.loop-c.invariant in (
      omega (arith, i.0, c.pass.ensures.index, length-append c.loop-c.yielded (c.in-Some.c ∷ [])),
      λ t p. rw (← append_assoc t c.loop-c.yielded (c.in-Some.c ∷ [])) (c.pass.ensures.place (t ++ c.loop-c.yielded) (i.1 t p)),
    )

pub returns-clause-place : goal.returns-clause-place
returns-clause-place c =
    let done = YieldsList-end (YieldsList-from_chars c.args.text.now c.utf8.text cc) c.loop-c.yielded _ c.loop-c.yielded_by _ _ c.in-None.is c.next.ensures.steps in
    let all : c.loop-c.yielded ≡ chars c.args.text.now = sym (map-id c.loop-c.yielded) ∙ done.0 in
    λ t p. rw (← all) (c.loop-c.invariant.1 t p)

pub returns-clause-index : goal.returns-clause-index
returns-clause-index c =
    let done = YieldsList-end (YieldsList-from_chars c.args.text.now c.utf8.text cc) c.loop-c.yielded _ c.loop-c.yielded_by _ _ c.in-None.is c.next.ensures.steps in
    let all : c.loop-c.yielded ≡ chars c.args.text.now = sym (map-id c.loop-c.yielded) ∙ done.0 in
    c.loop-c.invariant.0 ∙ ap (λ cs. c.args.self.now.index + length cs) all
