-- How much room gb18030 and GBK need, with the extended range (gb18030) or without it (GBK).
use Rattle.std.specs.Prelude.{ℕ, Bool, if◌then◌else◌}
use Rattle.encoding_mem.specs.calls.EncodedLength.{encoded_length_gb18030, encoded_length_two_byte}
use Rattle.encoding_mem.specs.declared.codec.room.EncodedLength.{EncodedLength}

-- the most bytes of a character: 4 in gb18030, 2 in GBK
abbrev pub gb18030_need : Bool → ℕ
gb18030_need extended = if extended then 4 else 2

-- the room in bytes that is enough for a text in gb18030 or in GBK, by its length in units of
-- UTF-16 or in bytes of UTF-8, references apart
abbrev pub gb18030_encoded_length : Bool → EncodedLength
gb18030_encoded_length extended = if extended then encoded_length_gb18030 else encoded_length_two_byte
