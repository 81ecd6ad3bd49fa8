use Rattle.std.proofs.Common.{◌≡◌, ℕ, ◌+◌, List, arith, rules, ap, sym, ◌∙◌}
use Rattle.std.specs.Str.{chars}
use Rattle.encoding_mem.specs.Coding.{Coding, lost_count}
use Rattle.encoding_mem.specs.laws.ReadBack.{none_lost}
use Rattle.encoding_front.specs.Encodings.{coding_of}
use Rattle.encoding_front.specs.calls.Encoder.{coding_in}
use Rattle.encoding_front.specs.laws.Calls.{one_reported, wrote_mapped}
use Rattle.test_examples.proofs.lost_characters.count_lost.Goals as goal

pub returns-in-InputEmpty : goal.returns-in-InputEmpty
returns-in-InputEmpty c =
    let call = c.encode_from_utf8_without_replacement-result.ensures.call in
    let none = none_lost (coding_in c.turns.encoder) (chars c.turns.rest.now) (wrote_mapped _ _ _ _ _ _ _ call c.in-InputEmpty.is).1 in
    let same = ap (λ (e : Coding). lost_count e (chars c.turns.rest.now)) c.turns.invariant.coding in
    omega (arith, c.turns.invariant.counted, sym same ∙ none)

pub turns-preserved : goal.turns-preserved
turns-preserved c =
    let call = c.encode_from_utf8_without_replacement-result.ensures.call in
    let one = one_reported _ _ _ _ _ _ _ _ _ call c.in-Unmappable.is in
    let up : c.in_ok-lost-in-Unmappable.lost ≡ c.turns.lost + 1 = c.in_ok-lost-in-Unmappable.ensures.1 in
    let cut = ap (λ (r : List ℕ). lost_count (coding_of c.args.tables.now c.args.encoding) (chars r)) c.range_from-rest.ensures.value in
    record {
      utf8 = search rules;
      coding = ap coding_in call.same ∙ c.turns.invariant.coding;
      counted = omega (arith, up, cut, c.turns.invariant.counted, rw c.turns.invariant.coding at one);
    }
