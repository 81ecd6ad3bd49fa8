use Rattle.std.proofs.Common.{◌∙◌, ◌≡◌, ap, length, sym, arith}
use Rattle.std.proofs.lemmas.Str.{len_utf8_bounds}
use Rattle.std.specs.Char.{len_utf8}
use Rattle.encoding_mem.proofs.TextUnitsLemmas.{char_at, lead_size, char_within, one_unit, two_unit, three_unit}
use Rattle.encoding_mem.proofs.mem.text_units.unit_at.Goals as goal

pub returns-then-size-eq1 : goal.returns-then-size-eq1
returns-then-size-eq1 c = λ char rest is.
    let size : len_utf8 char ≡ 1 = sym (lead_size c.args.text.now c.args.at char rest is) ∙ c.requires.size ∙ c.if-size-eq1.true in
    rw c.as_bytes-bytes.ensures.value (one_unit c.args.text.now c.args.at char rest is size)

pub bounds-bytes-at-2 : goal.bounds-bytes-at-2
bounds-bytes-at-2 c =
    let text = c.args.text.now in
    let first = char_at text c.args.at c.utf8.text c.requires.boundary c.requires.inside in
    let size = lead_size text c.args.at first.char first.rest first.bytes in
    let within = char_within text c.args.at first.char first.rest first.bytes c.requires.inside in
    omega (arith, size, within, c.requires.size, c.if-size-eq1.false, len_utf8_bounds first.char, ap length c.as_bytes-bytes.ensures.value)

pub returns-then-size-eq2 : goal.returns-then-size-eq2
returns-then-size-eq2 c = λ char rest is.
    let size : len_utf8 char ≡ 2 = sym (lead_size c.args.text.now c.args.at char rest is) ∙ c.requires.size ∙ c.if-size-eq2.true in
    rw c.as_bytes-bytes.ensures.value (two_unit c.args.text.now c.args.at char rest is size)

pub bounds-bytes-at-3 : goal.bounds-bytes-at-3
bounds-bytes-at-3 c =
    let text = c.args.text.now in
    let first = char_at text c.args.at c.utf8.text c.requires.boundary c.requires.inside in
    let size = lead_size text c.args.at first.char first.rest first.bytes in
    let within = char_within text c.args.at first.char first.rest first.bytes c.requires.inside in
    omega (arith, size, within, c.requires.size, c.if-size-eq1.false, c.if-size-eq2.false, len_utf8_bounds first.char, ap length c.as_bytes-bytes.ensures.value)

pub returns : goal.returns
returns c = λ char rest is.
    let size : len_utf8 char ≡ 3 = omega (arith, lead_size c.args.text.now c.args.at char rest is, c.requires.size, c.requires.small, c.if-size-eq1.false, c.if-size-eq2.false, len_utf8_bounds char) in
    rw c.as_bytes-bytes.ensures.value (three_unit c.args.text.now c.args.at char rest is size)
