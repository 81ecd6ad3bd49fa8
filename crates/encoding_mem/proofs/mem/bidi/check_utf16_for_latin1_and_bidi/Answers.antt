use Rattle.std.proofs.Common.{refl, arith}
use Rattle.std.proofs.lemmas.List.{take_rest}
use Rattle.encoding_mem.proofs.BidiLemmas.{units_bidi}
use Rattle.encoding_mem.proofs.mem.bidi.check_utf16_for_latin1_and_bidi.Goals as goal

pub returns-then-any_unit_bidi-clause-bidi : goal.returns-then-any_unit_bidi-clause-bidi
returns-then-any_unit_bidi-clause-bidi c =
    let low = c.first_unit_from-low.ensures.below in
    let answer = units_bidi c.args.units.now _ c.first_unit_from-low.result c.any_unit_bidi.result (λ k early. omega (arith, low k early)) (take_rest c.args.units.now c.first_unit_from-low.result) c.any_unit_bidi.ensures in
    (λ yes. answer.0 c.if-any_unit_bidi.true, λ some. refl)

pub returns-else-any_unit_bidi-clause-bidi : goal.returns-else-any_unit_bidi-clause-bidi
returns-else-any_unit_bidi-clause-bidi c =
    let low = c.first_unit_from-low.ensures.below in
    let answer = units_bidi c.args.units.now _ c.first_unit_from-low.result c.any_unit_bidi.result (λ k early. omega (arith, low k early)) (take_rest c.args.units.now c.first_unit_from-low.result) c.any_unit_bidi.ensures in
    (λ yes. absurd (cc), λ some. let found = answer.1 some in absurd (cc))
