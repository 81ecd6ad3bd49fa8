use Rattle.std.proofs.Common.{◌∙◌, ◌∷◌, [], ◌-◌, length, sym, ap, arith}
use Rattle.std.specs.Char.Utf16.{utf16_lossy_chars}
use Rattle.std.proofs.lemmas.List.{take_rest}
use Rattle.encoding_mem.proofs.LongestPrefixLemmas.{adds_prefix, adds_behind}
use Rattle.encoding_mem.proofs.UnitPrefixLemmas.{written_text}
use Rattle.encoding_mem.proofs.UnitWritingLemmas.{none_written, past_part, rest_length, more_written, units_written, reads_to_end, reads_to_char, is_longest, few_bytes}
use Rattle.encoding_mem.proofs.mem.utf16_conversions.convert_utf16_to_utf8_partial.Goals as goal
use Rattle.encoding_mem.proofs.mem.utf16_conversions.convert_utf16_to_utf8_partial.Goals.{then-src-read, else-src-read}

pub wide-init : goal.wide-init
wide-init c = none_written c.args.src.now c.args.dst.now

pub wide-preserved : goal.wide-preserved
wide-preserved c =
    let p = c.put_block-units in
    units_written c.args.src.now c.args.dst.now c.wide.read c.wide.dst c.wide.written p.new.dst p.result.0 p.result.1 c.wide.invariant
    p.ensures.within p.ensures.boundary p.auto.dst p.ensures.fits p.ensures.text p.ensures.behind

pub lanes-preserved : goal.lanes-preserved
lanes-preserved c =
    let p = c.put_lanes-units in
    units_written c.args.src.now c.args.dst.now c.lanes.read c.lanes.dst c.lanes.written p.new.dst p.result.0 p.result.1 c.lanes.invariant
    p.ensures.within p.ensures.boundary p.auto.dst p.ensures.fits p.ensures.text p.ensures.behind

pub characters-init : goal.characters-init
characters-init c = elim c.if-src-read.branch [
  | then-src-read w ↦
      let p = w.put_chars-units in
      rw (w.read-is, w.dst-is, w.written-is)
      (units_written c.args.src.now c.args.dst.now c.lanes.read c.lanes.dst c.lanes.written p.new.dst p.result.0 p.result.1 c.lanes.invariant
      p.ensures.within p.ensures.boundary p.auto.dst p.ensures.fits p.ensures.text p.ensures.behind)
  | else-src-read w ↦ rw (w.read-is, w.dst-is, w.written-is) c.lanes.invariant
]

pub characters-preserved : goal.characters-preserved
characters-preserved c =
    let i = c.characters.invariant in
    let us = c.args.src.now in
    let e = c.in-Some.ensures in
    let n = c.in-Some.count in
    let char = c.in-Some.c in
    let p = c.put_char-written.ensures in
    let k = c.put_char-written.result in
    let ys = c.put_char-written.new.dst in
    more_written us c.args.dst.now c.characters.read c.characters.dst c.characters.written ys (char ∷ []) n k i
    (omega (arith, e.within, rest_length us c.characters.read, i.within)) c.put_char-written.auto.dst (omega (arith, p.within, c.put_char-written.auto.dst)) (past_part us (char ∷ []) c.characters.read n e.value)
    (adds_prefix _ _ ys k p) (adds_behind _ _ ys k p)

pub returns-then-dst-written-3-clause-longest : goal.returns-then-dst-written-3-clause-longest
returns-then-dst-written-3-clause-longest c =
    let i = c.characters.invariant in
    let us = c.args.src.now in
    let at = ap utf16_lossy_chars (sym (take_rest us c.characters.read)) ∙ c.in-Some.ensures.value in
    is_longest us c.args.dst.now c.characters.read c.characters.dst c.characters.written i
    (reads_to_char us c.args.dst.now c.characters.read c.characters.dst c.characters.written c.in-Some.c _ i at (omega (arith, c.if-dst-written-3.true, c.len_utf8.ensures.value)))

pub returns-then-dst-written-3-clause-text : goal.returns-then-dst-written-3-clause-text
returns-then-dst-written-3-clause-text c =
    let i = c.characters.invariant in
    let us = c.args.src.now in
    let at = ap utf16_lossy_chars (sym (take_rest us c.characters.read)) ∙ c.in-Some.ensures.value in
    written_text us _ c.characters.read (length c.characters.dst - c.characters.written)
    (reads_to_char us c.args.dst.now c.characters.read c.characters.dst c.characters.written c.in-Some.c _ i at (omega (arith, c.if-dst-written-3.true, c.len_utf8.ensures.value)))

pub returns-in_default-clause-longest : goal.returns-in_default-clause-longest
returns-in_default-clause-longest c =
    let i = c.characters.invariant in
    let us = c.args.src.now in
    let none = ap utf16_lossy_chars (sym (take_rest us c.characters.read)) ∙ c.in_default.ensures.value in
    is_longest us c.args.dst.now c.characters.read c.characters.dst c.characters.written i
    (reads_to_end us c.args.dst.now c.characters.read c.characters.dst c.characters.written i none)

pub returns-in_default-clause-text : goal.returns-in_default-clause-text
returns-in_default-clause-text c =
    let i = c.characters.invariant in
    let us = c.args.src.now in
    let none = ap utf16_lossy_chars (sym (take_rest us c.characters.read)) ∙ c.in_default.ensures.value in
    written_text us _ c.characters.read (length c.characters.dst - c.characters.written)
    (reads_to_end us c.args.dst.now c.characters.read c.characters.dst c.characters.written i none)

pub returns-then-dst-written-3-clause-few : goal.returns-then-dst-written-3-clause-few
returns-then-dst-written-3-clause-few c =
    let i = c.characters.invariant in
    few_bytes c.args.src.now c.characters.dst c.characters.read c.characters.written (λ k. omega (arith, c.type_inv.src k)) i.within i.room (returns-then-dst-written-3-clause-text c)

pub returns-in_default-clause-few : goal.returns-in_default-clause-few
returns-in_default-clause-few c =
    let i = c.characters.invariant in
    few_bytes c.args.src.now c.characters.dst c.characters.read c.characters.written (λ k. omega (arith, c.type_inv.src k)) i.within i.room (returns-in_default-clause-text c)
