-- Surrogates in units of 16 bits. What is beyond the end is no surrogate.
use Rattle.std.specs.Prelude.{ℕ, ◌≡◌, ◌+◌, ◌⊎◌, List, length, slice_index}
use Rattle.std.specs.Int.{IsInRange}

-- a unit is a high surrogate, the first of a surrogate pair: D800 to DBFF
abbrev pub IsHighSurrogate : ℕ → Type 0
IsHighSurrogate u = IsInRange 0xD800 0xDBFF u

-- a unit is a low surrogate, the second of a surrogate pair: DC00 to DFFF
abbrev pub IsLowSurrogate : ℕ → Type 0
IsLowSurrogate u = IsInRange 0xDC00 0xDFFF u

-- two units are one character: the first is a high surrogate, the second a low one
abbrev pub IsSurrogatePair : ℕ → ℕ → Type 0
IsSurrogatePair u v = IsHighSurrogate u × IsLowSurrogate v

-- the unit at an offset is a surrogate with no partner: a high one that no low one follows, or a
-- low one that follows no high one
abbrev pub IsLoneSurrogate : List ℕ → ℕ → Type 0
IsLoneSurrogate units i = (IsHighSurrogate (slice_index units i) × (¬ IsLowSurrogate (slice_index units (i + 1))))
    ⊎ (IsLowSurrogate (slice_index units i) × ((k : ℕ) → k + 1 ≡ i → ¬ IsHighSurrogate (slice_index units k)))

-- units are well-formed UTF-16: no surrogate is without its partner
abbrev pub IsUtf16 : List ℕ → Type 0
IsUtf16 units = (i : ℕ) → ¬ IsLoneSurrogate units i

-- each lone surrogate among some units has become U+FFFD, and all other units stayed
pub record IsMended (old new : List ℕ) : Type 0 where
  pub same_length : length new ≡ length old
  pub lone : (i : ℕ) → IsLoneSurrogate old i → slice_index new i ≡ 0xFFFD
  pub others : (i : ℕ) → ¬ (IsLoneSurrogate old i) → slice_index new i ≡ slice_index old i
