-- What a call makes of a whole input, or of a whole text.
use Rattle.std.specs.Prelude.{◌≡◌, ◌≢◌, ◌↔◌, ◌⊎◌, ℕ, ◌+◌, ◌<◌, ◌≤◌, Bool, true, false, IsTrue, if◌then◌else◌, List, [], ◌++◌, length, take, drop, Option, None, Some, MatchOption, encode_utf8_all}
use Rattle.std.specs.Borrow.{Bor}
use Rattle.std.specs.Str.{IsUtf8, chars}
use Rattle.encoding_mem.specs.Coding.{lost_count, output}
use Rattle.encoding_mem.specs.Piece.{Piece, malformed_count, text}
use Rattle.encoding_mem.specs.calls.Writing.{Adds}
use Rattle.encoding_mem.specs.declared.codec.decoder_result.DecoderResult.{DecoderResult}
use Rattle.encoding_mem.specs.declared.codec.reference.Reference.TheVariants.{Decimal}
use Rattle.encoding_tables.specs.IndexLists.{AreAcceptedTables, IndexLists}
use Rattle.encoding_front.specs.EncodingTable.{number_of}
use Rattle.encoding_front.specs.Encodings.{IsReady, coding_of, output_encoding_of}
use Rattle.encoding_front.specs.Marks.{marked_pieces, source_of}
use Rattle.encoding_front.specs.calls.OneShot.{IsDecoded}
use Rattle.encoding_front.specs.calls.Stream.{DecoderView}
use Rattle.encoding_front.specs.declared.encoding.Encoding.{Encoding}
use Rattle.encoding_front.specs.declared.mark.Mark.{Mark}
use Rattle.jillapun_c.specs.EncodingNumbers.{encoding_at, mark_at}
use Rattle.jillapun_c.specs.Openings.{IfReady}
use Rattle.jillapun_c.specs.Room.{HoldsFront, IsPut, IsReported}
use Rattle.jillapun_c.specs.declared.decoded.Decoded.{Decoded}
use Rattle.jillapun_c.specs.declared.filled.Filled.{Filled}
use Rattle.jillapun_c.specs.declared.status.TheConstants.{OK, LOSSY, UNKNOWN, NOT_WELL_FORMED, ROOM}
use Rattle.jillapun_c.specs.declared.whole.decoding.Whole.{Whole}
use Rattle.jillapun_c.specs.declared.whole.decoding.Part.{Part}
use Rattle.jillapun_c.specs.declared.whole.decoding.End.{End}
use Rattle.jillapun_c.specs.declared.whole.decoding.End.TheVariants.{Ended, Malformed, More}

-- the status of a call that made all of its output
abbrev pub verdict_of : (is_lossy : Bool) → ℕ
verdict_of is_lossy = if is_lossy then LOSSY else OK

-- The room begins with the output, and the status says whether something was lost. Puts says what becomes of the rest
-- of the room: it stays, or is a text again.
pub record FitsInto (Puts : (old output new : List ℕ) (written : ℕ) → Type 0) (output old new : List ℕ) (is_lossy : Bool) (written status : ℕ) : Type 0 where
  pub put : Puts old output new written
  pub length_is : written ≡ length output
  pub told : status ≡ verdict_of is_lossy

-- the room is shorter than the output, and begins with the first part of it, as far as it was made there
pub record IsTooLong (Puts : (old output new : List ℕ) (written : ℕ) → Type 0) (output old new : List ℕ) (written status : ℕ) : Type 0 where
  pub longer : length old < length output
  pub front : List ℕ
  pub rest : List ℕ
  pub parts : output ≡ front ++ rest
  pub put : Puts old front new (length front)
  pub length_is : IsReported (length output) written
  pub told : status ≡ ROOM

-- the output is put into the room, or is too long for it
abbrev pub PutsIfRoom : (Puts : (old output new : List ℕ) (written : ℕ) → Type 0) (output old new : List ℕ) (is_lossy : Bool) (written status : ℕ) → Type 0
PutsIfRoom Puts output old new is_lossy written status = FitsInto Puts output old new is_lossy written status ⊎ IsTooLong Puts output old new written status

-- What is reported of an input that was decoded, beside the length of its text: the encoding, by the mark that is taken
-- or else the one that was asked for; how long the mark is; and whether the text is the bytes that follow it.
pub record TellsOfInput (mark : Mark) (e : Encoding) (src text : List ℕ) (decoded : Decoded) : Type 0 where
  pub encoding_is : decoded.encoding ≡ number_of (source_of mark e src).0
  pub mark_len_is : decoded.mark_len ≡ (source_of mark e src).1
  pub own : IsTrue decoded.is_own ↔ (text ≡ drop decoded.mark_len src)

-- the text of the input is put into the room, and reported on
pub record DecodesWhole (Puts : (old output new : List ℕ) (written : ℕ) → Type 0) (tables : IndexLists) (e : Encoding) (mark : Mark) (src old new : List ℕ) (told : Decoded) (status : ℕ) : Type 0 where
  pub text : List ℕ
  pub had_errors : Bool
  pub decoded : IsDecoded tables mark e src text had_errors
  pub put : PutsIfRoom Puts text old new had_errors told.written status
  pub told_of : TellsOfInput mark e src text told

-- a call goes on, if each number stands for something, and each index that the encoding needs is there
abbrev pub IfCanDecode : IndexLists → (encoding mark : ℕ) (Then : Encoding → Mark → Type 0) (status : ℕ) → Type 0
IfCanDecode t encoding mark Then status = MatchOption (encoding_at encoding) (status ≡ UNKNOWN) (λ e. MatchOption (mark_at mark) (status ≡ UNKNOWN) (λ m. IfReady t e (Then e m) status))

-- an input is decoded, if what is asked for is there
abbrev pub DecodesIfReady : (Puts : (old output new : List ℕ) (written : ℕ) → Type 0) → IndexLists → (encoding mark : ℕ) (src old new : List ℕ) (told : Decoded) (status : ℕ) → Type 0
DecodesIfReady Puts t encoding mark src old new told status = IfCanDecode t encoding mark (λ e m. DecodesWhole Puts t e m src old new told status) status

-- an input is decoded, if nothing in it is malformed, and else the status says that something is
abbrev pub DecodesWellFormed : IndexLists → (src old new : List ℕ) (told : Decoded) (status : ℕ) → Encoding → Mark → Type 0
DecodesWellFormed t src old new told status e mark =
    let malformed = malformed_count (marked_pieces t mark e src) in
    ((malformed ≡ 0) × DecodesWhole IsPut t e mark src old new told status) ⊎ ((0 < malformed) × (status ≡ NOT_WELL_FORMED))

-- bytes begin with a text of so many
pub record BeginsWithText (bytes : List ℕ) (size : ℕ) : Type 0 where
  pub within : size ≤ length bytes
  pub utf8 : IsUtf8 (take size bytes)

-- ---- part by part

-- the status of a call that made all of an output: whether it was put into the room, and whether something was lost
abbrev pub filled_status : Filled → (is_lossy : Bool) → ℕ
filled_status filled is_lossy = if filled.is_whole then verdict_of is_lossy else ROOM

-- what is left of some bytes if they begin with those that were made; none if they do not
abbrev pub HasLeft : (bytes made : List ℕ) → Option (Bor (List ℕ)) → Type 0
HasLeft bytes made None = (x : List ℕ) → bytes ≢ made ++ x
HasLeft bytes made (Some left) = bytes ≡ made ++ left.now

-- how a call of a decoder ended
abbrev pub end_of : DecoderResult → End
end_of DecoderResult.InputEmpty = Ended
end_of DecoderResult.OutputFull = More
end_of (DecoderResult.Malformed a b) = Malformed

-- whether it ended at a malformed sequence
abbrev pub is_malformed : End → Bool
is_malformed Ended = false
is_malformed More = false
is_malformed Malformed = true

-- One call of a decoder whose input ends with these bytes: the pieces that it took, and whether one of them is
-- malformed; the text of these, unless it stopped there; and why it ended.
pub record DecodesPart (v v' : DecoderView) (src old new : List ℕ) (part : Part) : Type 0 where
  pub taken : List Piece
  pub pieces : v.state.pieces src ≡ taken ++ v'.state.pieces (drop part.read src)
  pub had : IsTrue part.had_errors ↔ (0 < malformed_count taken)
  pub within : part.read ≤ length src
  pub fits : part.written ≤ length new
  pub writes : part.end ≢ Malformed → Adds old 0 (encode_utf8_all (text taken)) new part.written
  pub ended : part.end ≡ Ended → v'.state.pieces (drop part.read src) ≡ []
  pub full : part.end ≡ More → length new < part.written + 4
  pub open_ : part.end ≡ More → v'.finished ≡ false
  pub malformed : part.end ≡ Malformed → 0 < malformed_count taken

-- The text of these pieces was put into a room as far as it fits, up to the end of a piece. It is known whether one of
-- them is malformed, and whether the text is these bytes.
pub record TextIsMade (ps : List Piece) (own old new : List ℕ) (whole : Whole) : Type 0 where
  pub filled : HoldsFront (encode_utf8_all (text ps)) old new whole.filled
  pub front : List Piece
  pub after : List Piece
  pub parts : ps ≡ front ++ after
  pub is : take whole.filled.put new ≡ encode_utf8_all (text front)
  pub had : IsTrue whole.had_errors ↔ (0 < malformed_count ps)
  pub own_is : IsTrue whole.is_own ↔ (encode_utf8_all (text ps) ≡ own)

-- An input was decoded, each number stands for something, and each index that the encoding needs is there: what its
-- text came to, and what is reported of it.
pub record HasDecoded (t : IndexLists) (encoding mark : ℕ) (src old new : List ℕ) (told : Decoded) (whole : Whole) : Type 0 where
  pub e : Encoding
  pub m : Mark
  pub encoding_is : encoding_at encoding ≡ Some e
  pub mark_is : mark_at mark ≡ Some m
  pub ready : IsReady t e
  pub accepted : AreAcceptedTables t
  pub made : TextIsMade (marked_pieces t m e src) (drop (source_of m e src).1 src) old new whole
  pub length_is : told.written ≡ whole.filled.length
  pub told_of : TellsOfInput m e src (encode_utf8_all (text (marked_pieces t m e src))) told

-- an input was not decoded: something that is asked for is not there, or a sequence is malformed that is not replaced
abbrev pub HasNotDecoded : IndexLists → (encoding mark : ℕ) (replaces : Bool) (src : List ℕ) (status : ℕ) → Type 0
HasNotDecoded t encoding mark replaces src status =
    IfCanDecode t encoding mark (λ e m. (replaces ≡ false) × (0 < malformed_count (marked_pieces t m e src)) × (status ≡ NOT_WELL_FORMED)) status

-- the bytes of the text, with the decimal reference of each character without bytes, are put into the room
pub record EncodesWhole (tables : IndexLists) (e : Encoding) (text old new : List ℕ) (written status : ℕ) : Type 0 where
  pub had_unmappable : Bool
  pub lost : IsTrue had_unmappable ↔ (0 < lost_count (coding_of tables e) (chars text))
  pub put : PutsIfRoom IsPut (output Decimal (coding_of tables e) (chars text)) old new had_unmappable written status

-- a text is encoded, if there is an encoding with that number, and each index that its output encoding needs is there
abbrev pub EncodesIfReady : IndexLists → (encoding : ℕ) (text old new : List ℕ) (written status : ℕ) → Type 0
EncodesIfReady t encoding text old new written status =
    MatchOption (encoding_at encoding) (status ≡ UNKNOWN) (λ e. IfReady t (output_encoding_of e) (EncodesWhole t e text old new written status) status)
