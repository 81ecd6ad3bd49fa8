-- Room that is enough for what a text is encoded to.
use Rattle.std.specs.Prelude.{ℕ, ◌+◌, ◌*◌, ◌≤◌, Bool, if◌then◌else◌, length}
use Rattle.encoding_mem.specs.Coding.{Coding, mapped_bytes}
use Rattle.encoding_mem.specs.calls.DecodedLength.{cost_in, linear_bound}
use Rattle.encoding_mem.specs.declared.codec.form.EscapeState.{EscapeState}
use Rattle.encoding_mem.specs.declared.codec.form.EscapeState.TheVariants.{Ascii}
use Rattle.encoding_mem.specs.declared.codec.room.Bound.{Bound}
use Rattle.encoding_mem.specs.declared.codec.room.EncodedLength.{EncodedLength}

-- the bound of an encoded length by a text's units of UTF-16, or by its bytes of UTF-8
abbrev pub bound_for : EncodedLength → (is_units : Bool) → Bound
bound_for room is_units = if is_units then room.units else room.bytes

-- No character, with its escape, has more bytes than the bound's factor for each of its units of
-- UTF-16 (or bytes of UTF-8), and no last escape has more bytes than the bound's extra.
pub record IsBoundFor (e : Coding) (is_units : Bool) (l : Bound) : Type 0 where
  pub each : (s : EscapeState) (c : ℕ) → length (e.escape s (e.set s c)) + length (mapped_bytes (e.form c)) ≤ l.factor * cost_in is_units c
  pub last : (s : EscapeState) → length (e.escape s Ascii) ≤ l.extra

-- an encoded length, by a text's units and by its bytes, is enough for what a target writes,
-- references apart
abbrev pub IsRoomFor : Coding → EncodedLength → Type 0
IsRoomFor e room = (is_units : Bool) → IsBoundFor e is_units (bound_for room is_units)

-- room for a text in UTF-8: 3n bytes for n units of UTF-16, or n bytes for n bytes of UTF-8
abbrev pub encoded_length_utf8 : EncodedLength
encoded_length_utf8 = record { units = linear_bound 3 0; bytes = linear_bound 1 0 }

-- room for a text at one byte a character: n bytes for n units of UTF-16, or for n bytes of UTF-8,
-- references apart
abbrev pub encoded_length_single_byte : EncodedLength
encoded_length_single_byte = record { units = linear_bound 1 0; bytes = linear_bound 1 0 }

-- room for a text at one byte for ASCII and two at most for all else: 2n bytes for n units of
-- UTF-16, or n + 1 for n bytes of UTF-8, references apart
abbrev pub encoded_length_two_byte : EncodedLength
encoded_length_two_byte = record { units = linear_bound 2 0; bytes = linear_bound 1 1 }

-- room for a text in gb18030: 4n bytes for n units of UTF-16, or 2n + 2 for n bytes of UTF-8,
-- references apart
abbrev pub encoded_length_gb18030 : EncodedLength
encoded_length_gb18030 = record { units = linear_bound 4 0; bytes = linear_bound 2 2 }

-- room for a text in ISO-2022-JP: 5n + 3 bytes for n units of UTF-16, or 4n + 3 for n bytes of
-- UTF-8, references apart
abbrev pub encoded_length_iso_2022_jp : EncodedLength
encoded_length_iso_2022_jp = record { units = linear_bound 5 3; bytes = linear_bound 4 3 }
