-- An encoder as contracts know it, and one call of it: what it wrote, the set that it left, and why it ended.
use Rattle.std.specs.Prelude.{◌≡◌, ℕ, ◌<◌, ◌≤◌, Bool, List, [], ◌∷◌, ◌++◌, length, drop, ◌⊎◌}
use Rattle.std.specs.Char.{encode_utf8}
use Rattle.std.specs.Str.{IsAscii, encode_utf8_all}
use Rattle.encoding_mem.specs.Coding.{Coding, mapped_bytes}
use Rattle.encoding_mem.specs.calls.EncoderCalls.{EncodeEndsWith, Encodes}
use Rattle.encoding_mem.specs.declared.codec.form.Form.TheVariants.{Mapped}
use Rattle.encoding_mem.specs.declared.codec.form.EscapeState.{EscapeState}
use Rattle.encoding_mem.specs.declared.codec.form.EscapeState.TheVariants.{Ascii}
use Rattle.encoding_mem.specs.declared.codec.encoder_result.EncoderResult.{EncoderResult}
use Rattle.encoding_mem.specs.declared.codec.encoder_result.EncoderResult.TheVariants.{InputEmpty, OutputFull, Unmappable}
use Rattle.encoding_mem.specs.declared.codec.room.EncodedLength.{EncodedLength}

-- An encoder, as its callers know it: its need (the most bytes of an escape or a character), what
-- it makes of text (`Coding`), the set in force, and its encoded length.
pub record EncoderParts : Type 0 where
  pub need : ℕ
  pub coding : Coding
  pub set : EscapeState
  pub limits : EncodedLength

-- an encoder has ASCII as the set in force, and a given need, target and encoded length
pub record IsFreshEncoder (e : EncoderParts) (most : ℕ) (target : Coding) (enough : EncodedLength) : Type 0 where
  pub coding : e.coding ≡ target
  pub set : e.set ≡ Ascii
  pub need : e.need ≡ most
  pub limits : e.limits ≡ enough

-- the text that is left of a source, its bytes or its units, from an offset on
abbrev pub left : (List ℕ → List ℕ) → List ℕ → ℕ → List ℕ
left text all offset = text (drop offset all)

-- in a given set a target writes each ASCII character as its own byte, and the set stays
abbrev pub CopiesAscii : Coding → EscapeState → Type 0
CopiesAscii e s = (c : ℕ) → c < 0x80 → (e.set s c ≡ s) × (e.form c ≡ Mapped (c ∷ []))

-- in a given set a target writes each scalar as its bytes in UTF-8, and the set stays
abbrev pub CopiesUtf8 : Coding → EscapeState → Type 0
CopiesUtf8 e s = (c : ℕ) → (e.set s c ≡ s) × (e.form c ≡ Mapped (encode_utf8 c))

-- what was written is a prefix of a text in UTF-8, and the rest is what follows it in the text
pub record IsCopied (text written rest : List ℕ) : Type 0 where
  pub prefix : List ℕ
  pub taken : text ≡ prefix ++ rest
  pub put : written ≡ encode_utf8_all prefix

-- a run of ASCII was taken from the start of a text, and put after what was written
pub record IsRun (text rest written written' : List ℕ) : Type 0 where
  pub run : List ℕ
  pub ascii : IsAscii run
  pub taken : text ≡ run ++ rest
  pub put : written' ≡ written ++ run

-- the set after an encoder's call is the set before it, one that some scalar chose, or ASCII
abbrev pub Moves : Coding → EscapeState → EscapeState → Type 0
Moves e s s' = (s' ≡ s) ⊎ (((q : EscapeState) × (c : ℕ) × (s' ≡ e.set q c)) ⊎ (s' ≡ Ascii))

-- if an encoder's call lacks room, what comes next does not fit: the next escape, or, if the set
-- of the next scalar is in force, its bytes
abbrev pub Tight : Coding → EncoderResult → EscapeState → List ℕ → ℕ → Type 0
Tight e InputEmpty s rest room = Unit {0}
Tight e (Unmappable c) s rest room = Unit {0}
Tight e OutputFull s [] room = room < length (e.escape s Ascii)
Tight e OutputFull s (c ∷ rest) room = (room < length (e.escape s (e.set s c))) ⊎ ((e.set s c ≡ s) × (room < length (mapped_bytes (e.form c))))

-- so many bytes were written at the start of a buffer, and the bytes after them stayed
pub record WritesBytes (old new : List ℕ) (written : ℕ) : Type 0 where
  pub room : written ≤ length new
  pub behind : drop written new ≡ drop written old

-- One call of an encoder on a text, of which the rest is left: only its set changed, which bytes
-- it wrote (`Encodes`), and why it ended (`EncodeEndsWith`, `Tight`), by the room free then.
pub record EncoderCall (before after : EncoderParts) (last : Bool) (outcome : EncoderResult) (text written rest : List ℕ) (room : ℕ) : Type 0 where
  pub same : after ≡ record before { set = after.set }
  pub law : Encodes before.coding last outcome before.set text written after.set rest
  pub ends : EncodeEndsWith before.need last outcome after.set rest room
  pub tight : Tight before.coding outcome after.set rest room
