use Rattle.std.proofs.Common.{◌≤◌, ◌+◌, ◌-◌, ◌∷◌, [], length, take, drop, arith}
use Rattle.encoding_mem.proofs.LongestPrefixLemmas.{adds_prefix, adds_behind}
use Rattle.encoding_mem.proofs.PlainUnitsLemmas.{ascii_written, bytes_of_units, char_bytes, has_character, one_written, room_for_char}
use Rattle.encoding_mem.proofs.UnitWritingLemmas.{more_written, past_part, rest_length, few_written, written_boundary, written_units}
use Rattle.encoding_mem.proofs.mem.plain_units.put_chars.Goals as goal

pub characters-init : goal.characters-init
characters-init c = record {
  many = omega arith;
  so_far = ascii_written c.args.units.now c.args.dst.now c.args.run (omega (arith, c.requires.units, c.requires.run)) (omega (arith, c.requires.room, c.requires.run)) c.requires.ascii c.requires.put;
}

pub bounds-dst-written : goal.bounds-dst-written
bounds-dst-written c =
    let i = c.characters.invariant.so_far in
    let few = few_written c.args.units.now c.args.dst.now c.characters.read c.characters.dst c.characters.written (λ k. omega (arith, c.type_inv.units k)) i in
    omega (arith, few, i.size, c.requires.room, c.characters-test.true)

pub characters-preserved-then-unit-lt128 : goal.characters-preserved-then-unit-lt128
characters-preserved-then-unit-lt128 c = record {
  many = omega (arith, c.characters.invariant.many);
  so_far =
      one_written c.args.units.now c.args.dst.now c.characters.read c.characters.dst c.characters.written c.characters.invariant.so_far
      (omega (arith, c.characters-test.true, c.requires.units)) c.if-unit-lt128.true (bounds-dst-written c);
}

pub put_char-written-requires : goal.put_char-written-requires
put_char-written-requires c =
    let i = c.characters.invariant.so_far in
    let us = c.args.units.now in
    let few = few_written us c.args.dst.now c.characters.read c.characters.dst c.characters.written (λ k. omega (arith, c.type_inv.units k)) i in
    let size = bytes_of_units c.in-Some.first.0 c.in-Some.first.1 c.in-Some.ensures.size in
    let inside : c.characters.read + c.in-Some.first.1 ≤ length us = omega (arith, c.in-Some.ensures.within, rest_length us c.characters.read, i.within) in
    let fits = room_for_char (length us) c.args.end (length c.args.dst.now) c.characters.read c.characters.written c.in-Some.first.1 _ c.characters-test.true inside size.0 size.1 few c.requires.room c.requires.more_room in
    omega (arith, fits, rest_length c.characters.dst c.characters.written, i.size)

pub characters-preserved : goal.characters-preserved
characters-preserved c =
    let i = c.characters.invariant in
    let us = c.args.units.now in
    let e = c.in-Some.ensures in
    let n = c.in-Some.first.1 in
    let char = c.in-Some.first.0 in
    let p = c.put_char-written.ensures in
    let k = c.put_char-written.result in
    let ys = c.put_char-written.new.dst in
    record {
      many = omega (arith, i.many, p.counted, (bytes_of_units char n e.size).2, char_bytes char);
      so_far =
          more_written us c.args.dst.now c.characters.read c.characters.dst c.characters.written ys (char ∷ []) n k i.so_far
          (omega (arith, e.within, rest_length us c.characters.read, i.so_far.within)) c.put_char-written.auto.dst (omega (arith, p.within, c.put_char-written.auto.dst)) (past_part us (char ∷ []) c.characters.read n e.value)
          (adds_prefix _ _ ys k p) (adds_behind _ _ ys k p);
    }

pub unreachable-requires : goal.unreachable-requires
unreachable-requires c =
    let us = c.args.units.now in
    has_character (take (length us - c.characters.read) (drop c.characters.read us))
    (omega (arith, rest_length us c.characters.read, c.characters-test.true, c.requires.units)) c.in-None.ensures.value

pub returns-clause-boundary : goal.returns-clause-boundary
returns-clause-boundary c = written_boundary c.args.units.now c.args.dst.now c.characters.read c.characters.dst c.characters.written c.characters.invariant.so_far

pub returns-clause-text : goal.returns-clause-text
returns-clause-text c = written_units c.args.units.now c.args.dst.now c.characters.read c.characters.dst c.characters.written c.characters.invariant.so_far
