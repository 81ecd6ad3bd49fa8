-- Worked rows of `specs/Marks.antt`.
use Rattle.std.specs.Prelude.{◌≡◌, None, [], ◌∷◌, ◌++◌, refl, replicate}
use Rattle.encoding_mem.specs.Piece.{well_formed, malformed}
use Rattle.encoding_tables.specs.IndexLists.{IndexLists}
use Rattle.encoding_tables.specs.examples.IndexLists.{alone}
use Rattle.encoding_tables.specs.declared.index_kind.IndexKind.{IndexKind}
use Rattle.encoding_front.specs.declared.encoding.Encoding.{Encoding}
use Rattle.encoding_front.specs.declared.mark.Mark.TheVariants.{Sniff, Remove, Keep}
use Rattle.encoding_front.specs.Marks.{source_of, marked_pieces, marked_text}
use Rattle.encoding_mem.specs.Pieces.{pieces_in}

sniffed : source_of Sniff Encoding.Windows1252 (0xEF ∷ 0xBB ∷ 0xBF ∷ 0x41 ∷ []) ≡ (Encoding.Utf8, 3)
sniffed = refl

sniffed_units : source_of Sniff Encoding.Utf8 (0xFF ∷ 0xFE ∷ []) ≡ (Encoding.Utf16Le, 2)
sniffed_units = refl

sniffed_none : source_of Sniff Encoding.Utf8 (0xEF ∷ 0xBB ∷ []) ≡ (Encoding.Utf8, 0)
sniffed_none = refl

removed : source_of Remove Encoding.Utf16Be (0xFE ∷ 0xFF ∷ 0x00 ∷ 0x41 ∷ []) ≡ (Encoding.Utf16Be, 2)
removed = refl

another_is_text : source_of Remove Encoding.Windows1252 (0xEF ∷ 0xBB ∷ 0xBF ∷ []) ≡ (Encoding.Windows1252, 0)
another_is_text = refl

kept : source_of Keep Encoding.Utf8 (0xEF ∷ 0xBB ∷ 0xBF ∷ []) ≡ (Encoding.Utf8, 0)
kept = refl

-- the mark of UTF-8 is a piece of 3 bytes with no text; the malformed sequence at 6 stands after it and U+20AC
after_the_mark : (t : IndexLists) → marked_pieces t Sniff Encoding.Windows1252 (0xEF ∷ 0xBB ∷ 0xBF ∷ 0xE2 ∷ 0x82 ∷ 0xAC ∷ 0x80 ∷ [])
    ≡ well_formed 3 [] ∷ well_formed 3 (0x20AC ∷ []) ∷ malformed 1 ∷ []
unfolding pieces_in
after_the_mark t = refl

text_after_the_mark : (t : IndexLists) → marked_text t Sniff Encoding.Windows1257 (0xEF ∷ 0xBB ∷ 0xBF ∷ 0xE2 ∷ 0x82 ∷ 0xAC ∷ 0x80 ∷ 0xC3 ∷ 0xA4 ∷ [])
    ≡ 0x20AC ∷ 0xFFFD ∷ 0xE4 ∷ []
unfolding pieces_in
text_after_the_mark t = refl

-- a mark is text if it is kept, and a second one always is
kept_mark : (t : IndexLists) → marked_text t Keep Encoding.Utf8 (0xEF ∷ 0xBB ∷ 0xBF ∷ 0x41 ∷ []) ≡ 0xFEFF ∷ 0x41 ∷ []
unfolding pieces_in
kept_mark t = refl

removed_mark : (t : IndexLists) → marked_text t Remove Encoding.Utf8 (0xEF ∷ 0xBB ∷ 0xBF ∷ 0xEF ∷ 0xBB ∷ 0xBF ∷ 0x41 ∷ []) ≡ 0xFEFF ∷ 0x41 ∷ []
unfolding pieces_in
removed_mark t = refl

-- the marks of UTF-16 are pieces of 2 bytes
marks_of_two : (t : IndexLists) → (marked_pieces t Sniff Encoding.Utf8 (0xFE ∷ 0xFF ∷ 0x00 ∷ 0x41 ∷ []) ≡ well_formed 2 [] ∷ well_formed 2 (0x41 ∷ []) ∷ [])
    × (marked_pieces t Sniff Encoding.Utf8 (0xFF ∷ 0xFE ∷ 0x41 ∷ 0x00 ∷ []) ≡ well_formed 2 [] ∷ well_formed 2 (0x41 ∷ []) ∷ [])
unfolding pieces_in
marks_of_two t = (refl, refl)

-- the mark of another encoding is not removed: UTF-16LE reads FE FF as U+FFFE
mark_of_another : (t : IndexLists) → marked_pieces t Remove Encoding.Utf16Le (0xFE ∷ 0xFF ∷ []) ≡ well_formed 2 (0xFFFE ∷ []) ∷ []
unfolding pieces_in
mark_of_another t = refl

empty_input : (t : IndexLists) → marked_pieces t Sniff Encoding.Utf8 [] ≡ []
unfolding pieces_in
empty_input t = refl

-- an index of windows-1252 with U+00BB at 59 and U+00EF at 111: EF BB is no mark
unfoldable windows_1252 : IndexLists
windows_1252 = record { flats = alone IndexKind.Windows1252 (replicate 59 0 ++ (0xBB ∷ (replicate 51 0 ++ (0xEF ∷ replicate 16 0)))); rows = None }

prefix_of_a_mark : marked_pieces windows_1252 Sniff Encoding.Windows1252 (0xEF ∷ 0xBB ∷ []) ≡ well_formed 1 (0xEF ∷ []) ∷ well_formed 1 (0xBB ∷ []) ∷ []
unfolding windows_1252 pieces_in
prefix_of_a_mark = refl

-- an index of windows-1257 with U+201A at 2, U+00A4 at 36, U+00AC at 44, U+00BB at 59, U+00E6 at 63, U+0106 at 67,
-- U+0101 at 98 and U+013C at 111: the mark of UTF-8 is text if only an own mark is removed
unfoldable windows_1257 : IndexLists
windows_1257 = record { flats = alone IndexKind.Windows1257 (0 ∷ 0 ∷ 0x201A ∷ (replicate 33 0 ++ (0xA4 ∷ (replicate 7 0 ++ (0xAC ∷ (replicate 14 0 ++ (0xBB ∷ (replicate 3 0 ++ (0xE6 ∷ (replicate 3 0 ++ (0x106 ∷ (replicate 30 0 ++ (0x101 ∷ (replicate 12 0 ++ (0x13C ∷ replicate 16 0))))))))))))))); rows = None }

mark_as_text : marked_text windows_1257 Remove Encoding.Windows1257 (0xEF ∷ 0xBB ∷ 0xBF ∷ 0xE2 ∷ 0x82 ∷ 0xAC ∷ 0xC3 ∷ 0xA4 ∷ [])
    ≡ 0x13C ∷ 0xBB ∷ 0xE6 ∷ 0x101 ∷ 0x201A ∷ 0xAC ∷ 0x106 ∷ 0xA4 ∷ []
unfolding windows_1257 pieces_in
mark_as_text = refl
