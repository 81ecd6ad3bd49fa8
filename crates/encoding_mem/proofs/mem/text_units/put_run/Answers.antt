use Rattle.std.proofs.Common.{rules, ◌≡◌, ◌+◌, ◌<◌, length, get_or, ap, arith}
use Rattle.std.proofs.lemmas.List.{drop-set-lt}
use Rattle.std.specs.Char.{len_utf8}
use Rattle.encoding_mem.specs.calls.TextUnits.{size_from_lead}
use Rattle.encoding_mem.proofs.LongestPrefixLemmas.{behind_more}
use Rattle.encoding_mem.proofs.TextUnitsLemmas.{char_at, lead_size, unit_in_units, unit_range}
use Rattle.encoding_mem.proofs.mem.text_units.put_run.Goals as goal

pub characters-preserved : goal.characters-preserved
characters-preserved c =
    let i = c.characters.invariant in
    let text = c.args.text.now in
    let read = c.characters.read in
    let inside : read < length text = c.characters-test.true in
    let first = char_at text read c.utf8.text i.so_far.boundary inside in
    let lead = lead_size text read first.char first.rest first.bytes in
    let size : len_utf8 first.char ≡ c.args.size = omega (arith, lead, c.size_of_lead.ensures, c.if-size_of_lead-size.true, ap (λ l. size_from_lead (get_or l read 0)) c.as_bytes.ensures.value) in
    let unit = c.unit_at.ensures first.char first.rest first.bytes in
    let more = unit_in_units text read c.characters.dst c.characters.written first.char first.rest c.utf8.text i.so_far first.bytes inside (unit_range first.char (omega (arith, size, c.requires.small))) in
    record {
      later = omega (arith, i.later);
      after = omega (arith, i.after);
      dense = omega (arith, i.dense, c.requires.small);
      so_far = rw (← size, unit) more;
      size = search rules;
      behind = behind_more c.characters.written 1 _ c.characters.dst c.args.dst.now (drop-set-lt (c.characters.written + 1) c.characters.dst c.characters.written c.unit_at.result (omega arith)) i.behind;
    }
