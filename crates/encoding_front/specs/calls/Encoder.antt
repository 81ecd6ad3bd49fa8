-- What an encoder is to its callers, and what its calls do (the Encoding Standard, sections 4.1 and 6).
use Rattle.std.specs.Prelude.{◌≡◌, ℕ, ◌+◌, ◌-◌, ◌<◌, ◌≤◌, Bool, true, false, List, [], ◌∷◌, ◌++◌, length, IsTrue, ◌↔◌, ◌⊎◌, ◌≢◌, Option}
use Rattle.std.specs.Bool.{MatchBool}
use Rattle.std.specs.Str.{IsCharBoundary}
use Rattle.encoding_mem.specs.declared.codec.reference.Reference.TheVariants.{Decimal}
use Rattle.encoding_mem.specs.Coding.{Coding, IsMapped, last_set, lost_count, open_from, reference_bytes, spelled, whole_from}
use Rattle.encoding_mem.specs.calls.EncoderCalls.{WritesPart, AccountsForText}
use Rattle.encoding_mem.specs.calls.DecodedLength.{checked, bound_at}
use Rattle.encoding_mem.specs.calls.EncoderRule.{EncoderCall, EncoderParts, Moves, Tight}
use Rattle.encoding_mem.specs.calls.EncodedLength.{bound_for}
use Rattle.encoding_mem.specs.declared.codec.encoder_result.EncoderResult.{EncoderResult}
use Rattle.encoding_mem.specs.declared.codec.form.EscapeState.{EscapeState}
use Rattle.encoding_mem.specs.declared.codec.form.EscapeState.TheVariants.{Ascii}
use Rattle.encoding_tables.specs.IndexLists.{IndexLists}
use Rattle.encoding_front.specs.EncodingTable.{codec_kind_of}
use Rattle.encoding_front.specs.Encodings.{coding_of, output_encoding_of}
use Rattle.encoding_front.specs.calls.CodecBounds.{need_of, encoded_length_of}
use Rattle.encoding_front.specs.declared.coder_result.CoderResult.{CoderResult}
use Rattle.encoding_front.specs.declared.encoding.Encoding.{Encoding}
use Rattle.encoding_front.specs.declared.codec_kind.CodecKind.{CodecKind}

-- the indexes that it reads, its output encoding, and the set in force
pub record EncoderState : Type 0 where
  pub tables : IndexLists
  pub encoding : Encoding
  pub set : EscapeState

-- the coding by which an encoder in some state writes: that of its output encoding, by its indexes
abbrev pub coding_in : EncoderState → Coding
coding_in x = coding_of x.tables x.encoding

-- the state of an encoder of a new stream, in ASCII
abbrev pub new_state : IndexLists → Encoding → EncoderState
new_state t e = record { tables = t; encoding = output_encoding_of e; set = Ascii }

-- what its codec is
abbrev pub parts_in : EncoderState → EncoderParts
parts_in x = record { need = need_of x.encoding; coding = coding_in x; set = x.set; limits = encoded_length_of x.encoding }

-- the parts are those of an encoding's codec, by its indexes, in whatever set
abbrev pub IsCodecOf : IndexLists → Encoding → EncoderParts → Type 0
IsCodecOf t e p = p ≡ parts_in (record { tables = t; encoding = e; set = p.set })

-- A call without replacement on a text, of an encoder that was x and is x': room is what is free after what is written.
pub record Encoded (x : EncoderState) (last : Bool) (answer : EncoderResult) (text written : List ℕ) (x' : EncoderState) (rest : List ℕ) (room : ℕ) : Type 0 where
  pub same : x' ≡ record x { set = x'.set }
  pub codec : EncoderCall (parts_in x) (parts_in x') last answer text written rest room
  pub bytes : AccountsForText Decimal (coding_in x) last answer x.set text written x'.set rest
  pub moves : Moves (coding_in x) x.set x'.set

-- so much of a text was read, which ends between characters
pub record ReadsText (text : List ℕ) (read : ℕ) : Type 0 where
  pub within : read ≤ length text
  pub boundary : IsCharBoundary text read

-- how many bytes are kept back for a reference, of which the longest is `&#1114111;`: 0 in UTF-8,
-- else 10
abbrev pub kept_by_codec_kind : CodecKind → ℕ
kept_by_codec_kind CodecKind.Utf8 = 0
kept_by_codec_kind _ = 10

-- how many last bytes of a destination are kept back for a reference: 10, or 0 if output is UTF-8
abbrev pub kept_back : Encoding → ℕ
kept_back e = kept_by_codec_kind (codec_kind_of (output_encoding_of e))

-- enough bytes of room for what n bytes of UTF-8 or n units are encoded to, without references
abbrev pub room_without_reference : Encoding → (is_units : Bool) → ℕ → ℕ
room_without_reference e is_units n = bound_at (bound_for (encoded_length_of e) is_units) n

-- enough bytes of room for n bytes or units without references, and those kept back for one
abbrev pub room_with_reference : Encoding → (is_units : Bool) → ℕ → ℕ
room_with_reference e is_units n = room_without_reference e is_units n + kept_back e

-- what the length query without replacement returns: enough bytes of room, or none from 2^64 on
abbrev pub queried_room : Encoding → (is_units : Bool) → ℕ → Option ℕ
queried_room e is_units n = checked (room_without_reference e is_units n)

-- what the length query with replacement returns: enough bytes, those kept back for a reference
-- included, if no reference is written, or none from 2^64 on
abbrev pub queried_with_kept : Encoding → (is_units : Bool) → ℕ → Option ℕ
queried_with_kept e is_units n = checked (room_with_reference e is_units n)

-- How a call with replacement ends: whether something is left to do.
abbrev pub ReplacingEndsWith : Bool → CoderResult → EscapeState → List ℕ → Type 0
ReplacingEndsWith last CoderResult.InputEmpty s rest = (rest ≡ []) × (last ≡ true → s ≡ Ascii)
ReplacingEndsWith last CoderResult.OutputFull s rest = (0 < length rest) ⊎ ((last ≡ true) × (s ≢ Ascii))

-- What is written for a text ends with a reference that begins at `end` or before it.
pub record EndsWithReference (e : Coding) (s : EscapeState) (prefix written : List ℕ) (end : ℕ) : Type 0 where
  pub before : List ℕ
  pub lost : ℕ
  pub is : prefix ≡ before ++ lost ∷ []
  pub unmapped : ¬ (IsMapped (e.form lost))
  pub whole : written ≡ open_from Decimal e s prefix
  pub begins : length written ≤ end + length (spelled Decimal (e.form lost))

-- What a text is written as from a set: what it stands for, with references, and the escape to the set that is then in
-- force.
abbrev pub Puts : Coding → EscapeState → (text written : List ℕ) → EscapeState → Type 0
Puts e s text written s' = written ≡ open_from Decimal e s text ++ e.escape (last_set e s text) s'

-- A call with replacement on a text, into size bytes, the last of which are kept back. What is written is what the text
-- that was read stands for, with references, and after it no more than the escape to the set that is then in force;
-- lost says whether there is a reference. If it is full before the kept bytes, what comes next does not fit before them.
-- Only a reference reaches into the kept bytes, and if one ends there, or where they begin, nothing more is read or
-- written.
pub record Replaces (x : EncoderState) (last : Bool) (outcome : CoderResult) (text written : List ℕ) (x' : EncoderState) (rest : List ℕ) (lost : Bool) (size : ℕ) : Type 0 where
  pub same : x' ≡ record x { set = x'.set }
  pub prefix : List ℕ
  pub split : text ≡ prefix ++ rest
  pub put : Puts (coding_in x) x.set prefix written x'.set
  pub bytes : MatchBool last (whole_from Decimal (coding_in x) x.set text ≡ written ++ whole_from Decimal (coding_in x) x'.set rest)
      (WritesPart Decimal (coding_in x) x.set text written x'.set rest)
  pub sets : last ≡ false → last_set (coding_in x) x.set text ≡ last_set (coding_in x) x'.set rest
  pub moves : Moves (coding_in x) x.set x'.set
  pub told : IsTrue lost ↔ (0 < lost_count (coding_in x) prefix)
  pub ends : ReplacingEndsWith last outcome x'.set rest
  pub full : outcome ≡ CoderResult.OutputFull → size - kept_back x.encoding - length written < need_of x.encoding
  pub tight : outcome ≡ CoderResult.OutputFull → length written < size - kept_back x.encoding
      → Tight (coding_in x) EncoderResult.OutputFull x'.set rest (size - kept_back x.encoding - length written)
  pub kept : size - kept_back x.encoding < length written → EndsWithReference (coding_in x) x.set prefix written (size - kept_back x.encoding)
  pub few : size < kept_back x.encoding → (prefix ≡ []) × (written ≡ [])
  pub stops : (before : List ℕ) (c : ℕ) (after : List ℕ) → prefix ≡ before ++ c ∷ after → ¬ (IsMapped ((coding_in x).form c))
      → size - kept_back x.encoding ≤ length (open_from Decimal (coding_in x) x.set (before ++ c ∷ [])) → (after ≡ []) × (written ≡ open_from Decimal (coding_in x) x.set prefix)

-- what a call without replacement asks its caller to write
abbrev pub referred : EncoderResult → List ℕ
referred EncoderResult.InputEmpty = []
referred EncoderResult.OutputFull = []
referred (EncoderResult.Unmappable c) = reference_bytes Decimal c

-- A call without replacement into `end` bytes, and after its bytes the reference that it asks for.
pub record Turned (x : EncoderState) (last : Bool) (answer : EncoderResult) (text written : List ℕ) (x' : EncoderState) (rest : List ℕ) (end : ℕ) : Type 0 where
  pub called : List ℕ
  pub all : written ≡ called ++ referred answer
  pub fits : length called ≤ end
  pub call : Encoded x last answer text called x' rest (end - length called)
