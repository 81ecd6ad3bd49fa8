-- A decoder of a stream, as its callers know it.
use Rattle.std.specs.Prelude.{◌≡◌, ℕ, ◌+◌, ◌||◌, ◌&&◌, nat_lt, Bool, true, false, if◌then◌else◌, IsTrue, Option, None, Some, List, [], ◌∷◌, ◌++◌, length}
use Rattle.encoding_mem.specs.calls.Decoding.{DecoderState}
use Rattle.encoding_mem.specs.calls.Resuming.{Reading}
use Rattle.encoding_mem.specs.calls.DecodedLength.{queried, decoded_length_utf8, decoded_length_utf16}
use Rattle.encoding_mem.specs.declared.codec.decoder_result.DecoderResult.{DecoderResult}
use Rattle.encoding_mem.specs.declared.codec.decoder_result.DecoderResult.TheVariants.{InputEmpty, OutputFull, Malformed}
use Rattle.encoding_mem.specs.declared.codec.room.OutputUnit.{OutputUnit}
use Rattle.encoding_mem.specs.declared.codec.room.DecodedLength.{DecodedLength}
use Rattle.encoding_tables.specs.IndexLists.{IndexLists}
use Rattle.encoding_front.specs.Encodings.{IsReady, pieces_of}
use Rattle.encoding_front.specs.calls.CodecBounds.{decoded_length_of}
use Rattle.encoding_front.specs.calls.Latin1Prefix.{latin1_rule, IsAtRest, IsLatin1Prefix}
use Rattle.encoding_front.specs.calls.Resumed.{resumed_in}
use Rattle.encoding_front.specs.Marks.{marked_pieces, source_of}
use Rattle.encoding_front.specs.calls.Seeking.{can_be, find_mark, is_sought, sought_by, sought_encoding, sought_pieces}
use Rattle.encoding_front.specs.declared.encoding.Encoding.{Encoding}
use Rattle.encoding_front.specs.declared.mark.Mark.{Mark}
use Rattle.encoding_front.specs.declared.seeking.ByteOrderMark.TheVariants.{Utf8, Utf16Be, Utf16Le}
use Rattle.encoding_front.specs.declared.seeking.BomMatch.{BomMatch}
use Rattle.encoding_front.specs.declared.seeking.BomSet.{BomSet}

-- What the room that is enough depends on: the marks that are looked for, the bytes that are held meanwhile, and the
-- room of the encoding in force with the bytes that are pending there.
pub record Opening : Type 0 where
  pub sought : BomSet
  pub held : List ℕ
  pub room : DecodedLength
  pub pending : ℕ

-- the greater of two numbers, if there are both
abbrev pub greater : Option ℕ → Option ℕ → Option ℕ
greater None n = None
greater (Some m) None = None
greater (Some m) (Some n) = Some (if nat_lt m n then n else m)

-- the second number, or, if the test holds, the greater of both, which is none if one is missing
abbrev pub greater_if : Bool → (other own : Option ℕ) → Option ℕ
greater_if t other own = if t then greater own other else own

-- bytes that are held count as two
abbrev pub ahead : List ℕ → ℕ
ahead [] = 0
ahead (b ∷ held) = 2

-- The room that is enough for n more bytes: the greatest among those of the encodings that the input may still turn
-- out to be in.
abbrev pub room_asked : Opening → OutputUnit → ℕ → Option ℕ
room_asked o k n =
    greater_if (can_be o.sought o.held Utf16Be || can_be o.sought o.held Utf16Le) (queried decoded_length_utf16 k (n + ahead o.held))
    (greater_if (can_be o.sought o.held Utf8) (queried decoded_length_utf8 k (n + ahead o.held))
    (queried o.room k (o.pending + (n + ahead o.held))))

-- whether a call of a decoder returned `InputEmpty`: all bytes that it was handed are read
abbrev pub is_input_empty : DecoderResult → Bool
is_input_empty InputEmpty = true
is_input_empty OutputFull = false
is_input_empty (Malformed a b) = false

-- whether a call ends the stream: it is the last, and it returned `InputEmpty`
abbrev pub finishes : (last : Bool) → DecoderResult → Bool
finishes last outcome = last && is_input_empty outcome

-- A decoder: the pieces of what is to come, the encoding that an input which goes on so turns out to be in, what the
-- room that is enough depends on, the state of the decoder of the encoding in force, without marks and without what is
-- held, how that one reads if a mode, by its number, and pending bytes are resumed, and whether it came to its end.
pub record DecoderView : Type 0 where
  pub state : DecoderState
  pub source : List ℕ → Encoding
  pub opening : Opening
  pub own : DecoderState
  pub resumed : ℕ → List ℕ → Reading
  pub finished : Bool

-- The pieces of what is to come are those of what is held and of what follows, in the encoding in force or after a
-- mark. What is held is a prefix of a mark, if one is sought. So it is with the encoding that the input turns out to
-- be in, and the room is that of the one in force.
pub record IsOpenedBy (v : DecoderView) : Type 0 where
  pub pieces : (x : List ℕ) → v.state.pieces x ≡ sought_pieces v.opening.sought v.own.pieces (v.opening.held ++ x)
  pub pending : v.state.pending ≡ v.opening.pending + length v.opening.held
  pub own_pending : v.opening.pending ≡ v.own.pending
  pub own_room : v.opening.room ≡ v.own.room
  pub prefix : IsTrue (is_sought v.opening.sought) → find_mark v.opening.sought v.opening.held ≡ BomMatch.Prefix
  pub fresh : IsTrue (is_sought v.opening.sought) → v.own.pending ≡ 0
  pub named : (x : List ℕ) → v.source x ≡ sought_encoding v.opening.sought (v.source []) (v.opening.held ++ x)
  pub room : v.opening.room ≡ decoded_length_of (v.source [])

-- no mark is sought any more, and nothing is held
abbrev pub SeeksNoMark : Opening → Type 0
SeeksNoMark o = (is_sought o.sought ≡ false) × (o.held ≡ [])

-- how far bytes are their characters in Latin1: it is known if marks are settled, and the decoder of the encoding in
-- force is at rest
abbrev pub TellsLatin1Prefix : DecoderView → List ℕ → Option ℕ → Type 0
TellsLatin1Prefix v bytes None = ¬ (SeeksNoMark v.opening × IsAtRest (latin1_rule (v.source [])) v.own)
TellsLatin1Prefix v bytes (Some n) = SeeksNoMark v.opening × IsAtRest (latin1_rule (v.source [])) v.own × IsLatin1Prefix (latin1_rule (v.source [])) v.own.pieces bytes n

-- A decoder was made from these indexes: those of the encoding in force are there, and it reads by them, also after it
-- is resumed.
pub record IsMadeFrom (t : IndexLists) (v : DecoderView) : Type 0 where
  pub ready : IsReady t (v.source [])
  pub reads : v.resumed ≡ resumed_in t (v.source [])

-- one that has read nothing
pub record IsNewDecoder (v : DecoderView) (t : IndexLists) (mark : Mark) (e : Encoding) : Type 0 where
  pub pieces : (x : List ℕ) → v.state.pieces x ≡ marked_pieces t mark e x
  pub pending : v.state.pending ≡ 0
  pub source : (x : List ℕ) → v.source x ≡ (source_of mark e x).0
  pub opening : v.opening ≡ record { sought = sought_by mark e; held = []; room = decoded_length_of e; pending = 0 }
  pub own : v.own.pieces ≡ pieces_of t e
  pub made : IsMadeFrom t v
  pub open_ : v.finished ≡ false
