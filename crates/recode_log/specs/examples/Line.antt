-- Worked rows of `specs/Line.antt`.
use Rattle.std.proofs.Common.{◌≡◌, ◌+◌, ◌^◌, ap, arith, codes, length, refl}
use Rattle.std.specs.Fmt.{digits}
use Rattle.std.specs.List.{slice_index_or}
use Rattle.recode_log.specs.Line.{IsValid, line_bytes}
use Rattle.recode_log.specs.declared.line.LogLine.TheVariants.{Bad, Lost}

-- the line `bad 0 3`, of three malformed bytes at the start of an input
line_bytes-malformed_first : line_bytes (Bad 0 3) ≡ codes "bad 0 3\n"
unfolding digits
line_bytes-malformed_first = refl

-- the line `bad 6 1`, of one malformed byte with six bytes before it
line_bytes-malformed : line_bytes (Bad 6 1) ≡ codes "bad 6 1\n"
unfolding digits
line_bytes-malformed = refl

-- the longest valid line of malformed bytes: four of them at the greatest offset, 2^48
line_bytes-malformed_longest : line_bytes (Bad 281474976710656 4) ≡ codes "bad 281474976710656 4\n"
unfolding digits
line_bytes-malformed_longest = refl

-- the line `lost 1 128169`, of a lost U+1F4A9 with one character before it
line_bytes-lost : line_bytes (Lost 1 128169) ≡ codes "lost 1 128169\n"
unfolding digits
line_bytes-lost = refl

-- the longest valid line of a lost character: U+10FFFF at the greatest index, 2^48
line_bytes-lost_longest : line_bytes (Lost 281474976710656 1114111) ≡ codes "lost 281474976710656 1114111\n"
unfolding digits
line_bytes-lost_longest = refl

-- refuted: a line has its length before its offset
line_bytes-changed : line_bytes (Bad 6 1) ≡ codes "bad 1 6\n" → ⊥
unfolding digits
line_bytes-changed e = omega (arith, ap (λ l. slice_index_or l 4 0) e)

-- refuted: an offset has a leading zero
line_bytes-leading_zero : line_bytes (Bad 6 1) ≡ codes "bad 06 1\n" → ⊥
unfolding digits
line_bytes-leading_zero e = omega (arith, ap length e)

-- refuted: a line ends without its line feed
line_bytes-cut : line_bytes (Bad 6 1) ≡ codes "bad 6 1" → ⊥
unfolding digits
line_bytes-cut e = omega (arith, ap length e)

-- refuted: a malformed sequence of five bytes is valid
is_valid-five : IsValid (Bad 6 5) → ⊥
is_valid-five h = omega (arith, h.2)

-- refuted: so is one of no bytes
is_valid-none : IsValid (Bad 6 0) → ⊥
is_valid-none h = omega (arith, h.1)

-- refuted: so is an index one above the greatest
is_valid-far : IsValid (Lost (2 ^ 48 + 1) 0x41) → ⊥
is_valid-far h = omega (arith, h)
