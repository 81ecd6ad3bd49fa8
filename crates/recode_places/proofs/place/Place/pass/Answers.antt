use Rattle.std.proofs.Common.{arith, ◌∷◌, []}
use Rattle.std.proofs.lemmas.List.{length-append}
use Rattle.recode_places.proofs.PlaceLemmas.{feeds-next, after-next}
use Rattle.recode_places.proofs.place.Place.pass.Goals as goal

pub returns-then-c-eq10-clause-place : goal.returns-then-c-eq10-clause-place
returns-then-c-eq10-clause-place c = λ t p. record {
  index = omega (arith, p.index, length-append t (c.args.c ∷ []));
  line = grind (arith, p.line, feeds-next t c.args.c, c.if-c-eq10.true);
  column = grind (arith, after-next t c.args.c, c.if-c-eq10.true);
}

pub returns-else-c-eq10-clause-place : goal.returns-else-c-eq10-clause-place
returns-else-c-eq10-clause-place c = λ t p. record {
  index = omega (arith, p.index, length-append t (c.args.c ∷ []));
  line = grind (arith, p.line, feeds-next t c.args.c, c.if-c-eq10.false);
  column = grind (arith, p.column, after-next t c.args.c, c.if-c-eq10.false);
}
