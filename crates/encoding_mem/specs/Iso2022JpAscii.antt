-- Bytes that ISO-2022-JP reads as the ASCII characters that they are, in its first state: it has no byte
-- from 80 on there, 0E and 0F are errors, and 1B begins an escape.
use Rattle.std.specs.Prelude.{ℕ, ◌<◌, ◌≢◌, List, slice_index}

-- ISO-2022-JP, in its state ASCII, reads a byte as itself: below 80 hex, but not 0E, 0F or 1B
abbrev pub IsIso2022JpAsciiByte : ℕ → Type 0
IsIso2022JpAsciiByte b = (b < 0x80) × (b ≢ 0x0E) × (b ≢ 0x0F) × (b ≢ 0x1B)

-- ISO-2022-JP, in its state ASCII, reads each of some bytes as itself (`IsIso2022JpAsciiByte`)
abbrev pub IsIso2022JpAscii : List ℕ → Type 0
IsIso2022JpAscii bytes = (i : ℕ) → IsIso2022JpAsciiByte (slice_index bytes i)
