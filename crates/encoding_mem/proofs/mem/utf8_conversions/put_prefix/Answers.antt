use Rattle.std.proofs.Common.{◌≡◌, ◌-◌, ◌∙◌, take, refl, subst, sym, ap, arith}
use Rattle.std.specs.Str.{IsCharBoundary}
use Rattle.std.proofs.lemmas.Str.{IsCharBoundary-start}
use Rattle.encoding_mem.specs.Conversions.{text_in_utf16}
use Rattle.encoding_mem.specs.calls.Writing.{Adds, encode_utf16_all}
use Rattle.encoding_mem.proofs.Utf8TextLemmas.{part_boundary, first_alone, adds_start, adds_part}
use Rattle.encoding_mem.proofs.mem.utf8_conversions.put_prefix.Goals as goal

pub parts-init : goal.parts-init
parts-init c = record {
  boundary = IsCharBoundary-start _ c.utf8.text;
  same = refl;
  adds = adds_start c.args.text.now _ _ c.args.sink.now.within;
}

pub parts-preserved-then-sure-gt0 : goal.parts-preserved-then-sure-gt0
parts-preserved-then-sure-gt0 c =
    let i = c.parts.invariant in
    let n = c.floor_char_boundary-sure.result in
    let at = c.range_from-rest.ensures.value in
    let w = c.put_text.ensures.writes in
    let old = c.parts.sink in
    let s = c.put_text.new.self in
    let all : n - 0 ≡ n = omega arith in
    let part = c.range.ensures.value ∙ ap (λ k. take k c.range_from-rest.result.now) all in
    let wrote : Adds old.units.now old.written (text_in_utf16 (take n c.range_from-rest.result.now)) s.units.now s.written =
    subst (λ t. Adds old.units.now old.written (text_in_utf16 t) s.units.now s.written) part w.1 in
    record {
      boundary = part_boundary _ _ _ _ i.boundary at c.floor_char_boundary-sure.ensures.boundary;
      same = w.0 ∙ i.same;
      adds = adds_part c.args.text.now _ _ _ _ _ _ _ c.parts.read n c.utf8.text i.boundary at i.adds wrote;
    }

pub parts-preserved : goal.parts-preserved
parts-preserved c =
    let i = c.parts.invariant in
    let f = c.in-Some.ensures in
    let at = c.range_from-rest.ensures.value in
    let rest = c.range_from-rest.result.now in
    let w = c.put.ensures.writes in
    let old = c.parts.sink in
    let s = c.put.new.self in
    let len = c.len_utf8-read.ensures.value in
    let n = c.len_utf8-read.result in
    let b = subst (IsCharBoundary rest) (sym len) f.boundary in
    let wrote : Adds old.units.now old.written (text_in_utf16 (take n rest)) s.units.now s.written =
    subst (λ cs. Adds old.units.now old.written (encode_utf16_all cs) s.units.now s.written) (sym (first_alone rest _ c.in-Some.c n c.range_from-rest.utf8 f.bytes len b)) w.1 in
    record {
      boundary = part_boundary _ _ _ _ i.boundary at b;
      same = w.0 ∙ i.same;
      adds = adds_part c.args.text.now _ _ _ _ _ _ _ c.parts.read n c.utf8.text i.boundary at i.adds wrote;
    }
