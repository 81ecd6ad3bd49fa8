-- What a conversion produces, in its order: bytes of the output, and between them notes for the log.
use Rattle.std.specs.Prelude.{ℕ, ◌+◌, Bool, List, [], ◌∷◌, ◌++◌, length, map, if◌then◌else◌}
use Rattle.encoding_mem.specs.Piece.{Piece, well_formed, malformed}
use Rattle.encoding_mem.specs.Coding.{Coding, reference_bytes, last_set}
use Rattle.encoding_mem.specs.declared.codec.reference.Reference.{Reference}
use Rattle.encoding_mem.specs.declared.codec.form.Form.{Form}
use Rattle.encoding_mem.specs.declared.codec.form.Form.TheVariants.{Mapped, Unmapped}
use Rattle.encoding_mem.specs.declared.codec.form.EscapeState.{EscapeState}
use Rattle.encoding_mem.specs.declared.codec.form.EscapeState.TheVariants.{Ascii}

-- what a conversion produces: a byte of the output; the note of a malformed sequence, by offset
-- and length in bytes; the note of a lost character, by its index and the scalar reported
pub data Item : Type 0 where
  Byte : ℕ → Item
  MalformedAt : (offset size : ℕ) → Item
  LostAt : (index scalar : ℕ) → Item

-- the bytes of the output among some items, in their order
abbrev pub item_bytes : List Item → List ℕ
item_bytes [] = []
item_bytes (Byte b ∷ t) = b ∷ item_bytes t
item_bytes (MalformedAt offset size ∷ t) = item_bytes t
item_bytes (LostAt index scalar ∷ t) = item_bytes t

-- the items of the form of the character with a given index: its bytes, or, if it has none, its
-- note as lost and the bytes of its reference
abbrev pub form_items : Reference → ℕ → Form → List Item
form_items ref i (Mapped bs) = map Byte bs
form_items ref i (Unmapped c) = LostAt i c ∷ map Byte (reference_bytes ref c)

-- the items of a text, from an index and a set in force on, if more may follow: for each scalar
-- its escape, its note if it is lost, and its bytes or reference
abbrev pub open_items : Reference → Coding → EscapeState → ℕ → List ℕ → List Item
open_items ref e s i [] = []
open_items ref e s i (c ∷ t) = map Byte (e.escape s (e.set s c)) ++ (form_items ref i (e.form c) ++ open_items ref e (e.set s c) (i + 1) t)

-- the items of the escape to ASCII, from a set in force, with which an output ends
abbrev pub closing : Coding → EscapeState → List Item
closing e s = map Byte (e.escape s Ascii)

-- the items of a text, from an index and a set in force on, with the escape to ASCII at its end if
-- it is the last
abbrev pub whole_items : Reference → Coding → Bool → EscapeState → ℕ → List ℕ → List Item
whole_items ref e last s i t = open_items ref e s i t ++ (if last then closing e (last_set e s t) else [])

-- The items of an input's last pieces, from an offset, an index and a set on: each malformed
-- piece's note; each scalar's escape, note if lost, and bytes or reference; the escape to ASCII.
abbrev pub trace_from : Reference → Coding → EscapeState → (offset i : ℕ) → List Piece → List Item
trace_from ref e s offset i [] = closing e s
trace_from ref e s offset i (well_formed n cs ∷ ps) =
    open_items ref e s i cs ++ trace_from ref e (last_set e s cs) (offset + n) (i + length cs) ps
trace_from ref e s offset i (malformed n ∷ ps) =
    MalformedAt offset n ∷ (open_items ref e s i (0xFFFD ∷ []) ++ trace_from ref e (e.set s 0xFFFD) (offset + n) (i + 1) ps)
