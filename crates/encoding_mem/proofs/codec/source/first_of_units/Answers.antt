use Rattle.std.proofs.Common.{◌∷◌, drop, sym, ◌∙◌, ap, arith, inl, inr}
use borrow.Author.Tests.{true-eqb, false-eqb}
use Rattle.std.specs.Char.Utf16.{utf16_lossy_chars}
use Rattle.encoding_mem.proofs.Utf16Lemmas.{no_second, no_units, plain_unit, lone_unit, pair_of_units}
use Rattle.encoding_mem.proofs.codec.source.first_of_units.Goals as goal
use Rattle.encoding_mem.proofs.codec.source.first_of_units.Goals.{then-u-lt55296-via-then-u-lt55296, then-u-lt55296-via-else-u-lt55296+then-u-ge57344, else-v-ge56320-via-then-v-ge56320+else-v-lt57344, else-v-ge56320-via-else-v-ge56320, else-u-lt56320-via-then-u-lt56320+else-units-ge2, else-u-lt56320-via-else-u-lt56320}

pub returns-then-is_empty-clause-value : goal.returns-then-is_empty-clause-value
returns-then-is_empty-clause-value c = no_units c.args.units.now (true-eqb _ 0 c.if-is_empty.ensures)

pub returns-then-u-lt55296-clause-value : goal.returns-then-u-lt55296-clause-value
returns-then-u-lt55296-clause-value c =
    plain_unit c.args.units.now (omega (arith, false-eqb _ 0 c.if-is_empty.ensures))
    (elim c.then-u-lt55296.branch [ then-u-lt55296-via-then-u-lt55296 w ↦ inl w.if-u-lt55296.true | then-u-lt55296-via-else-u-lt55296+then-u-ge57344 w ↦ inr w.if-u-ge57344.true ])
    ∙ ap (λ x. x ∷ utf16_lossy_chars (drop 1 c.args.units.now)) (sym c.scalar_of.ensures)

pub returns-then-v-lt57344-clause-value : goal.returns-then-v-lt57344-clause-value
returns-then-v-lt57344-clause-value c =
    pair_of_units c.args.units.now (omega arith) (c.if-u-lt55296.false, c.if-u-lt56320.true, c.if-v-ge56320.true, c.if-v-lt57344.true)
    ∙ ap (λ x. x ∷ utf16_lossy_chars (drop 2 c.args.units.now)) (sym c.scalar_of-then-v-lt57344.ensures)

pub returns-else-v-ge56320-clause-value : goal.returns-else-v-ge56320-clause-value
returns-else-v-ge56320-clause-value c =
    lone_unit c.args.units.now (omega (arith, false-eqb _ 0 c.if-is_empty.ensures)) c.if-u-lt55296.false c.if-u-ge57344.false
    (λ p. elim c.else-v-ge56320.branch [ else-v-ge56320-via-then-v-ge56320+else-v-lt57344 w ↦ absurd (omega arith) | else-v-ge56320-via-else-v-ge56320 w ↦ absurd (omega arith) ])

pub returns-else-u-lt56320-clause-value : goal.returns-else-u-lt56320-clause-value
returns-else-u-lt56320-clause-value c =
    lone_unit c.args.units.now (omega (arith, false-eqb _ 0 c.if-is_empty.ensures)) c.if-u-lt55296.false c.if-u-ge57344.false
    (λ p. elim c.else-u-lt56320.branch [ else-u-lt56320-via-then-u-lt56320+else-units-ge2 w ↦ absurd (omega (arith, no_second c.args.units.now (omega arith))) | else-u-lt56320-via-else-u-lt56320 w ↦ absurd (omega arith) ])
