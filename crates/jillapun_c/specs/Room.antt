-- What a call leaves in the room that the caller lends it.
use Rattle.std.specs.Prelude.{◌≡◌, ◌⊎◌, ℕ, ◌<◌, ◌≤◌, true, false, List, [], ◌++◌, length, take, drop}
use Rattle.std.specs.Str.{IsUtf8}
use Rattle.encoding_mem.specs.calls.TextDestination.{cleared}
use Rattle.jillapun_c.specs.declared.filled.Filled.{Filled}
use Rattle.jillapun_c.specs.declared.status.TheConstants.{REFUSED}

-- a text of so many elements was put at the start of the room, and nothing after them has changed
pub record IsPut (old text new : List ℕ) (written : ℕ) : Type 0 where
  pub fits : written ≤ length new
  pub is : take written new ≡ text
  pub behind : drop written new ≡ drop written old

-- bytes after a text that was put over another: the rest of a character that was cut, at most three bytes that go on
-- with one, becomes 00, and all others stay
abbrev pub rest_cleared : List ℕ → List ℕ
rest_cleared bytes = cleared (take 3 bytes) ++ drop 3 bytes

-- A text of so many bytes was put at the start of the room, and the whole is UTF-8 if it was before: after them, the
-- rest of a character that was overwritten in part is cleared, and nothing else has changed.
pub record TextIsPut (old text new : List ℕ) (written : ℕ) : Type 0 where
  pub fits : written ≤ length new
  pub is : take written new ≡ text
  pub behind : drop written new ≡ rest_cleared (drop written old)
  pub utf8 : IsUtf8 old → IsUtf8 new

-- nothing in the room has changed, and the length that is returned is SIZE_MAX
abbrev pub IsUnwritten : (old new : List ℕ) → ℕ → Type 0
IsUnwritten old new returned = (returned ≡ REFUSED) × (new ≡ old)

-- nothing in the room has changed, since it is too short, and the length that is returned is the one that is wanted
abbrev pub WantsRoom : (wanted : ℕ) (old new : List ℕ) → ℕ → Type 0
WantsRoom wanted old new returned = (returned ≡ wanted) × (new ≡ old)

-- so many elements were put at the start of a room, and nothing after them has changed
pub record IsFilled {X : Type 0} (old new : List X) (count : ℕ) : Type 0 where
  pub fits : count ≤ length new
  pub after : drop count new ≡ drop count old

-- As many of some elements as fit were put into a room that was filled up to a place; it is filled up to another then,
-- and nothing after that has changed.
pub record FillsRoom {X : Type 0} (held held' old new : List X) (at to : ℕ) : Type 0 where
  pub from : at ≤ to
  pub fits : to ≤ length new
  pub is : take at old ++ held ≡ take to new ++ held'
  pub after : drop to new ≡ drop to old
  pub full : (held' ≡ []) ⊎ (to ≡ length new)

-- a length is reported: as SIZE_MAX, if it is that or more
abbrev pub IsReported : (size reported : ℕ) → Type 0
IsReported size reported = (reported ≡ size) ⊎ ((reported ≡ REFUSED) × (REFUSED ≤ size))

-- a room begins with the first part of something, and is as it was behind that
pub record BeginsWithPart {X : Type 0} (all old new : List X) : Type 0 where
  pub front : List X
  pub rest : List X
  pub parts : all ≡ front ++ rest
  pub fits : length front ≤ length new
  pub is : take (length front) new ≡ front
  pub behind : drop (length front) new ≡ drop (length front) old

-- Of something that is made part by part, the first part was put at the start of a room, as it is said how far: all of
-- it, unless it is longer than the room.
pub record HoldsFront {X : Type 0} (made old new : List X) (filled : Filled) : Type 0 where
  pub rest : List X
  pub parts : made ≡ take filled.put new ++ rest
  pub fits : filled.put ≤ length new
  pub behind : drop filled.put new ≡ drop filled.put old
  pub length_is : IsReported (length made) filled.length
  pub whole : filled.is_whole ≡ true → (rest ≡ []) × (filled.length ≡ filled.put)
  pub cut : filled.is_whole ≡ false → length old < length made
