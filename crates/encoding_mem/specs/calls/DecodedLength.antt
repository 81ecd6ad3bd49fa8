-- Room that is enough for the text of so many bytes.
use Rattle.std.specs.Prelude.{ℕ, ◌+◌, ◌*◌, ◌/◌, ◌^◌, nat_lt, Bool, true, false, if◌then◌else◌, Option, Some, None}
use Rattle.std.specs.Char.{len_utf8}
use Rattle.encoding_mem.specs.calls.Writing.{len_utf16}
use Rattle.encoding_mem.specs.declared.codec.room.OutputUnit.{OutputUnit}
use Rattle.encoding_mem.specs.declared.codec.room.OutputUnit.TheVariants.{Units, Bytes, Replaced}
use Rattle.encoding_mem.specs.declared.codec.room.Bound.{Bound}
use Rattle.encoding_mem.specs.declared.codec.room.DecodedLength.{DecodedLength}

-- whether an output unit is of 16 bits: room is counted in units of UTF-16, not in bytes of UTF-8
abbrev pub is_units : OutputUnit → Bool
is_units Units = true
is_units Bytes = false
is_units Replaced = false

-- whether room in an output unit includes what follows a malformed sequence: in all but `Bytes`
abbrev pub counts_past_malformed : OutputUnit → Bool
counts_past_malformed Units = true
counts_past_malformed Bytes = false
counts_past_malformed Replaced = true

-- the room that a character takes: its units of UTF-16, or its bytes of UTF-8
abbrev pub cost_in : (is_units : Bool) → ℕ → ℕ
cost_in is_units c = if is_units then len_utf16 c else len_utf8 c

-- the room that U+FFFD takes: 1 unit of UTF-16, or 3 bytes of UTF-8
abbrev pub replacement_len : (is_units : Bool) → ℕ
replacement_len is_units = if is_units then 1 else 3

-- the room for any character, or for two below U+0800: 2 units of UTF-16, or 4 bytes of UTF-8
abbrev pub two_in : (is_units : Bool) → ℕ
two_in is_units = if is_units then 2 else 4

-- the room needed at a malformed sequence: its U+FFFD's, and what is needed after it if the count
-- goes on
abbrev pub left_after : (counts : Bool) (replacement more : ℕ) → ℕ
left_after counts replacement more = if counts then replacement + more else replacement

-- the bound that a decoded length has in an output unit: units, bytes, or bytes with each U+FFFD
abbrev pub bound_of : DecodedLength → OutputUnit → Bound
bound_of room Units = room.units
bound_of room Bytes = room.bytes
bound_of room Replaced = room.replaced

-- the length that room is computed from: m bytes, or, in pairs, half of them, rounded up
abbrev pub counted : (in_pairs : Bool) → ℕ → ℕ
counted in_pairs m = if in_pairs then (m + 1) / 2 else m

-- the room that a bound comes to for a length n: its factor times n, plus its extra
abbrev pub bound_at : Bound → ℕ → ℕ
bound_at l n = l.factor * n + l.extra

-- the room that is enough for the text of m bytes, by a decoded length, in an output unit
abbrev pub decoded_length : DecodedLength → OutputUnit → ℕ → ℕ
decoded_length room count m = bound_at (bound_of room count) (counted room.in_pairs m)

-- a number, if it is below 2^64 and so fits a usize, else none
abbrev pub checked : ℕ → Option ℕ
checked n = if nat_lt n (2 ^ 64) then Some n else None

-- what a length query for m bytes returns: the room, or none if that or m (m + 1 in pairs) passes
-- a usize
abbrev pub queried : DecodedLength → OutputUnit → ℕ → Option ℕ
queried room count m = if nat_lt (if room.in_pairs then m + 1 else m) (2 ^ 64) then checked (decoded_length room count m) else None

-- the bound on room that is `factor` times a length, plus `extra`
abbrev pub linear_bound : (factor extra : ℕ) → Bound
linear_bound factor extra = record { factor = factor; extra = extra }

-- the decoded length by single bytes, not pairs, with bounds for units of UTF-16, for bytes of
-- UTF-8, and for bytes with U+FFFD for each malformed sequence
abbrev pub of_bytes : (units bytes replaced : Bound) → DecodedLength
of_bytes units bytes replaced = record { in_pairs = false; units = units; bytes = bytes; replaced = replaced }

-- room for the text of n bytes of UTF-8: n + 1 units, or n + 3 bytes, or 3n + 3 bytes if each
-- malformed sequence is written as U+FFFD
abbrev pub decoded_length_utf8 : DecodedLength
decoded_length_utf8 = of_bytes (linear_bound 1 1) (linear_bound 1 3) (linear_bound 3 3)

-- room for the text of n bytes, at one byte a character: n units of UTF-16, or 3n bytes of UTF-8
abbrev pub decoded_length_single_byte : DecodedLength
decoded_length_single_byte = of_bytes (linear_bound 1 0) (linear_bound 3 0) (linear_bound 3 0)

-- room for the text of n bytes of a legacy multi-byte encoding: n + 1 units, or 3n + 1 bytes
abbrev pub decoded_length_multibyte : DecodedLength
decoded_length_multibyte = of_bytes (linear_bound 1 1) (linear_bound 3 1) (linear_bound 3 1)

-- room for the text of n pairs of UTF-16 bytes, an odd byte a pair: n + 1 units, or 3n + 1 bytes
abbrev pub decoded_length_utf16 : DecodedLength
decoded_length_utf16 = record { in_pairs = true; units = linear_bound 1 1; bytes = linear_bound 3 1; replaced = linear_bound 3 1 }

-- room for the text of bytes in replacement, which is one U+FFFD at most: 1 unit, or 3 bytes
abbrev pub decoded_length_replacement : DecodedLength
decoded_length_replacement = of_bytes (linear_bound 0 1) (linear_bound 0 3) (linear_bound 0 3)
