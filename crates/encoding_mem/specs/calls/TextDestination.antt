-- A text destination: bytes that are UTF-8 before and after a call.
use Rattle.std.specs.Prelude.{◌≡◌, ℕ, ◌≤◌, List, [], ◌∷◌, ◌++◌, length, drop, if◌then◌else◌}
use Rattle.std.specs.Int.{is_in_range}

-- bytes after a text that was put over another: the continuation bytes at their start, left of a
-- character that was cut, become 00, and all others stay
abbrev pub cleared : List ℕ → List ℕ
cleared [] = []
cleared (b ∷ bytes) = if is_in_range 0x80 0xBF b then 0 ∷ cleared bytes else b ∷ bytes

-- a text of so many bytes was put over the start of a buffer, and the bytes after it stay, but for
-- continuation bytes right after it, which become 00 (`cleared`)
pub record Overwrites (old text new : List ℕ) (written : ℕ) : Type 0 where
  pub counted : written ≡ length text
  pub within : written ≤ length old
  pub list : new ≡ text ++ cleared (drop written old)
