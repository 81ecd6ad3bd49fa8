-- What a call of an encoder does.
use Rattle.std.specs.Prelude.{◌≡◌, ℕ, ◌+◌, ◌-◌, ◌<◌, Bool, true, false, List, [], ◌∷◌, ◌++◌, length, map, ◌⊎◌, ◌≢◌, if◌then◌else◌}
use Rattle.std.specs.Bool.{MatchBool}
use Rattle.encoding_mem.specs.Coding.{Coding, open_from, whole_from, bytes_from, last_set, reference_bytes, AllMapped}
use Rattle.encoding_mem.specs.Items.{Item, Byte, LostAt, whole_items}
use Rattle.encoding_mem.specs.declared.codec.reference.Reference.{Reference}
use Rattle.encoding_mem.specs.declared.codec.form.Form.TheVariants.{Unmapped}
use Rattle.encoding_mem.specs.declared.codec.form.EscapeState.{EscapeState}
use Rattle.encoding_mem.specs.declared.codec.form.EscapeState.TheVariants.{Ascii}
use Rattle.encoding_mem.specs.declared.codec.encoder_result.EncoderResult.{EncoderResult}
use Rattle.encoding_mem.specs.declared.codec.encoder_result.EncoderResult.TheVariants.{InputEmpty, OutputFull, Unmappable}

-- a text has a next character, and after one given set it is written in another given one
abbrev pub IsSetOfNext : Coding → EscapeState → (next : List ℕ) → EscapeState → Type 0
IsSetOfNext e q [] s' = ⊥
IsSetOfNext e q (c ∷ t) s' = s' ≡ e.set q c

-- What is left of a text that follows what an encoder's call wrote: nothing, in ASCII if it was the
-- last; for lack of room all, perhaps in its set; or all after a first, unmappable character.
abbrev pub Leaves : Coding → Bool → EncoderResult → EscapeState → (next rest : List ℕ) → EscapeState → Type 0
Leaves e last InputEmpty q next rest s' = (next ≡ []) × (rest ≡ []) × (s' ≡ (if last then Ascii else q))
Leaves e last OutputFull q next rest s' = (next ≡ rest) × ((s' ≡ q) ⊎ IsSetOfNext e q next s')
Leaves e last (Unmappable m) q next rest s' = (c : ℕ) × (next ≡ c ∷ rest) × (e.form c ≡ Unmapped m) × (s' ≡ e.set q c)

-- An encoder's call wrote the escapes and bytes of the first characters of a text, each of which
-- has bytes, then the escape to the set that it leaves; the rest is as its result says (`Leaves`).
pub record Encodes (e : Coding) (last : Bool) (outcome : EncoderResult) (s : EscapeState) (text written : List ℕ) (s' : EscapeState) (rest : List ℕ) : Type 0 where
  pub before : List ℕ
  pub next : List ℕ
  pub split : text ≡ before ++ next
  pub mapped : AllMapped e before
  pub bytes : written ≡ bytes_from e s before ++ e.escape (last_set e s before) s'
  pub leaves : Leaves e last outcome (last_set e s before) next rest s'

-- why an encoder's call ended: no text is left (in ASCII, if it is the last); or fewer than `need`
-- bytes are free, and text or the last escape is left; or at an unmappable character
abbrev pub EncodeEndsWith : ℕ → Bool → EncoderResult → EscapeState → List ℕ → ℕ → Type 0
EncodeEndsWith need last InputEmpty s' rest room = (rest ≡ []) × (last ≡ true → s' ≡ Ascii)
EncodeEndsWith need last OutputFull s' rest room = (room < need) × ((0 < length rest) ⊎ ((last ≡ true) × (s' ≢ Ascii)))
EncodeEndsWith need last (Unmappable c) s' rest room = Unit {0}

-- the items that a caller adds for an encoder's result, after n characters: if the last of them is
-- unmappable, its note as lost and the bytes of its reference
abbrev pub reported_item : Reference → ℕ → EncoderResult → List Item
reported_item ref n InputEmpty = []
reported_item ref n OutputFull = []
reported_item ref n (Unmappable c) = LostAt (n - 1) c ∷ map Byte (reference_bytes ref c)

-- each character that an encoder's call read has bytes, but for a last one that its result reports
abbrev pub Reads : Coding → EncoderResult → List ℕ → Type 0
Reads e InputEmpty prefix = AllMapped e prefix
Reads e OutputFull prefix = AllMapped e prefix
Reads e (Unmappable c) prefix = (before : List ℕ) × (d : ℕ) × (prefix ≡ before ++ d ∷ []) × AllMapped e before × (e.form d ≡ Unmapped c)

-- an encoder's call was not the last one, or it ended at an unmappable character
abbrev pub TextGoesOn : Bool → EncoderResult → Type 0
TextGoesOn last InputEmpty = last ≡ false
TextGoesOn last OutputFull = last ≡ false
TextGoesOn last (Unmappable c) = Unit {0}

-- From any index on, the items of a text are the bytes that an encoder's call wrote, those that its
-- result asks for, and the items of the rest. What it read has bytes, but for one character
-- reported. If more may follow, the rest ends in the set that the text ends in.
pub record EncodesItems (ref : Reference) (e : Coding) (last : Bool) (outcome : EncoderResult) (s : EscapeState) (text written : List ℕ) (s' : EscapeState) (rest : List ℕ) : Type 0 where
  pub prefix : List ℕ
  pub split : text ≡ prefix ++ rest
  pub reads : Reads e outcome prefix
  pub items : (i : ℕ) → whole_items ref e last s i text
      ≡ map Byte written ++ (reported_item ref (i + length prefix) outcome ++ whole_items ref e last s' (i + length prefix) rest)
  pub sets : TextGoesOn last outcome → last_set e s text ≡ last_set e s' rest

-- Of the text t from the set s the bytes w are written, and rest from the set s' is still to be
-- written, whatever follows.
abbrev pub WritesPart : Reference → Coding → EscapeState → List ℕ → List ℕ → EscapeState → List ℕ → Type 0
WritesPart ref e s t w s' rest = (r : List ℕ) → open_from ref e s (t ++ r) ≡ w ++ open_from ref e s' (rest ++ r)

-- What the text t is written as from the set s is a call's bytes w, a reference that it asks for,
-- and what the rest is written as from the set s': whatever follows, if the call is not the last.
abbrev pub AccountsForText : Reference → Coding → Bool → EncoderResult → EscapeState → List ℕ → List ℕ → EscapeState → List ℕ → Type 0
AccountsForText ref e last (Unmappable c) s t w s' rest = WritesPart ref e s t (w ++ reference_bytes ref c) s' rest
AccountsForText ref e last InputEmpty s t w s' rest = MatchBool last (whole_from ref e s t ≡ w ++ whole_from ref e s' rest) (WritesPart ref e s t w s' rest)
AccountsForText ref e last OutputFull s t w s' rest = MatchBool last (whole_from ref e s t ≡ w ++ whole_from ref e s' rest) (WritesPart ref e s t w s' rest)
