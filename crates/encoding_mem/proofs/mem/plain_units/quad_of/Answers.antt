use Rattle.std.proofs.Common.{◌∙◌, arith}
use Rattle.encoding_mem.proofs.PlainUnitsLemmas.{quad_one, quad_two, quad_three}
use Rattle.encoding_mem.proofs.mem.plain_units.quad_of.Goals as goal
use Rattle.encoding_mem.proofs.mem.plain_units.quad_of.Goals.{then-is_two, else-is_two, then-is_three, else-is_three, then-is_three-2, else-is_three-2}

pub returns-clause-bytes : goal.returns-clause-bytes
returns-clause-bytes c = elim c.if-is_three.branch [
  | then-is_three w ↦ elim c.if-is_three-2.branch [
    | then-is_three-2 v ↦ quad_three c.args.unit c.if-is_three.lead c.if-is_three-2.middle _ w.if-is_three.true (omega (arith, c.requires)) w.lead-is v.middle-is
    | else-is_three-2 v ↦ absurd (omega (arith, w.if-is_three.true, v.if-is_three-2.false))
  ]
  | else-is_three w ↦ elim c.if-is_three-2.branch [
    | then-is_three-2 v ↦ absurd (omega (arith, w.if-is_three.false, v.if-is_three-2.true))
    | else-is_three-2 v ↦ elim c.if-is_two.branch [
      | then-is_two x ↦ quad_two c.args.unit c.if-is_three.lead c.if-is_three-2.middle _ _ x.if-is_two.true w.if-is_three.false (w.lead-is ∙ x.short-is) v.middle-is
      | else-is_two x ↦ quad_one c.args.unit c.if-is_three.lead _ _ _ x.if-is_two.false (w.lead-is ∙ x.short-is)
    ]
  ]
]
