use Rattle.std.proofs.Common.{arith, ◌∙◌, ◌≤◌, length}
use Rattle.encoding_front.proofs.ReferenceLemmas.{digits_fit}
use Rattle.encoding_front.proofs.reference.write_reference.Goals as goal

pub put_parts-requires : goal.put_parts-requires
put_parts-requires c =
    let fits : length c.as_bytes.result.now ≤ 7 = digits_fit _ _ (omega (arith, c.from-number.ensures)) (c.as_bytes.ensures.value ∙ c.format.ensures.text) in
    omega arith
