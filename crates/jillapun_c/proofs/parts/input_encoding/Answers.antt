use Rattle.std.proofs.Common.{◌≡◌, ℕ, Option, ap, sym, ◌∙◌, List}
use Rattle.encoding_front.specs.Encodings.{mark_at_start}
use Rattle.encoding_front.specs.Marks.{source_of, takes_mark_of}
use Rattle.encoding_front.specs.declared.encoding.Encoding.{Encoding}
use Rattle.encoding_front.specs.declared.mark.Mark.{Mark}
use Rattle.encoding_front.specs.laws.Parts.{source_by_mark, source_if}
use Rattle.jillapun_c.proofs.parts.input_encoding.Goals as goal

-- the encoding, by the mark that is found
by_found : (mark : Mark) (e : Encoding) (x : List ℕ) (found : Option (Encoding × ℕ)) → found ≡ mark_at_start x → source_if (takes_mark_of mark e) e found ≡ (source_of mark e x).0
by_found mark e x found is = ap (source_if (takes_mark_of mark e) e) is ∙ sym (source_by_mark mark e x)

pub returns-then-takes : goal.returns-then-takes
returns-then-takes c =
    let found = rw c.in-Some.is at (by_found c.args.mark c.args.from c.args.first.now c.for_bom.result c.for_bom.ensures) in
    rw (sym c.takes.ensures ∙ c.if-takes.true) at found

pub returns-else-takes : goal.returns-else-takes
returns-else-takes c =
    let found = rw c.in-Some.is at (by_found c.args.mark c.args.from c.args.first.now c.for_bom.result c.for_bom.ensures) in
    rw (sym c.takes.ensures ∙ c.if-takes.false) at found

pub returns-in-None : goal.returns-in-None
returns-in-None c = rw c.in-None.is at (by_found c.args.mark c.args.from c.args.first.now c.for_bom.result c.for_bom.ensures)
