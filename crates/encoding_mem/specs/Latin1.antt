-- Text whose characters have the codes of ISO-8859-1, U+0000 to U+00FF.
use Rattle.std.specs.Prelude.{ℕ, ◌≤◌, List, slice_index}
use Rattle.std.specs.Str.{IsUtf8, chars}

-- each of some characters, or of some units of UTF-16, is at most U+00FF
abbrev pub AllLatin1 : List ℕ → Type 0
AllLatin1 cs = (i : ℕ) → slice_index cs i ≤ 0xFF

-- bytes are UTF-8, of characters up to U+00FF only
abbrev pub IsLatin1Text : List ℕ → Type 0
IsLatin1Text bytes = IsUtf8 bytes × AllLatin1 (chars bytes)
