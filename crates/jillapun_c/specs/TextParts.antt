-- What a call of an encoder looks at of a text in UTF-8, and how it says that more follows.
use Rattle.std.specs.Prelude.{◌≡◌, ◌≢◌, ℕ, ◌+◌, ◌*◌, ◌≤◌, ◌==◌, ◌⊎◌, Bool, true, false, if◌then◌else◌, List, [], length, take}
use Rattle.encoding_mem.specs.Conversions.{text_prefix}
use Rattle.encoding_front.specs.Encodings.{output_encoding_of}
use Rattle.encoding_front.specs.declared.encoding.Encoding.{Encoding}
use Rattle.jillapun_c.specs.declared.encoder_progress.EncoderProgress.{EncoderProgress}
use Rattle.jillapun_c.specs.declared.status.TheConstants.{INPUT_EMPTY, OUTPUT_FULL}

-- the most bytes of a text that a call reads into so much room, if no character ends it: those that are written in UTF-8;
-- else four for each byte of room, since a character takes a byte at least
abbrev pub most_read_into : (output : Encoding) → (room : ℕ) → ℕ
most_read_into Encoding.Utf8 room = room
most_read_into _ room = 4 * room

-- the most bytes of a text that a call of an encoder reads into so much room, if no character ends it
abbrev pub most_read : Encoding → (room : ℕ) → ℕ
most_read e room = most_read_into (output_encoding_of e) room

-- A call that reads at most so many bytes of a text looks at all of the text, or at four bytes more at least, of which
-- one character begins that it does not read, and at seven more at most.
pub record IsLookedAt (most : ℕ) (text : List ℕ) (looked : ℕ) : Type 0 where
  pub within : looked ≤ length text
  pub enough : (looked ≡ length text) ⊎ (most + 4 ≤ looked)
  pub few : looked ≤ most + 7

-- a text begins with a malformed sequence
abbrev pub BeginsMalformed : List ℕ → Type 0
BeginsMalformed text = (text ≢ []) × (text_prefix text ≡ [])

-- A call that reads at most so many bytes of a text, which does not begin with a malformed sequence, encodes this part
-- of it: what is UTF-8 of the bytes that it looks at; and whether the part is the whole of it.
pub record IsFirstPart (most : ℕ) (text part : List ℕ) (is_whole : Bool) : Type 0 where
  pub begins : ¬ (BeginsMalformed text)
  pub looked : ℕ
  pub looks : IsLookedAt most text looked
  pub is : part ≡ text_prefix (take looked text)
  pub whole : is_whole ≡ (length part == length text)

-- the number of the outcome of a call as it is reported: not that nothing is left to do, if more of the text follows
abbrev pub told_outcome : (is_whole : Bool) → ℕ → ℕ
told_outcome true outcome = outcome
told_outcome false outcome = if outcome == INPUT_EMPTY then OUTPUT_FULL else outcome

-- what a call did is reported, with its outcome as it is reported of the whole of a text, or of what more follows
abbrev pub IsToldOfPart : (is_whole : Bool) → EncoderProgress → (EncoderProgress → Type 0) → Type 0
IsToldOfPart is_whole progress Did = (outcome : ℕ) × Did (record progress { outcome = outcome }) × (progress.outcome ≡ told_outcome is_whole outcome)
