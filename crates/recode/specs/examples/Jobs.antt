-- Worked outputs and logs, with the targets windows-1252 and Shift_JIS.
use Rattle.std.specs.Prelude.{◌≡◌, ℕ, List, [], ◌∷◌, ◌++◌, replicate, codes, refl, map, None, Some, Bool, true, false, slice_index, ◌==◌}
use Rattle.std.specs.Char.{encode_utf8}
use Rattle.std.specs.Fmt.{digits}
use Rattle.encoding_mem.specs.declared.codec.reference.Reference.TheVariants.{Decimal}
use Rattle.encoding_mem.specs.Coding.{output}
use Rattle.encoding_mem.specs.Piece.{text, well_formed, malformed}
use Rattle.encoding_mem.specs.Pieces.{pieces_in}
use Rattle.encoding_mem.specs.Utf8.{pieces_utf8}
use Rattle.encoding_mem.specs.Utf8Coding.{utf8_coding}
use Rattle.encoding_tables.specs.SingleByte.{pieces_single_byte, single_byte_coding}
use Rattle.encoding_tables.specs.IndexLists.{IndexLists}
use Rattle.encoding_tables.specs.examples.IndexLists.{alone, no_flats}
use Rattle.encoding_tables.specs.declared.index_kind.IndexKind.{IndexKind}
use Rattle.encoding_front.specs.Encodings.{coding_of}
use Rattle.encoding_front.specs.declared.encoding.Encoding.{Encoding}
use Rattle.recode_log.specs.declared.line.LogLine.TheVariants.{Bad, Lost}
use Rattle.recode.specs.Conversion.{message_of}
use Rattle.recode.specs.Session.{IsReport}
use Rattle.recode.specs.Job.{log_lines, Faithful, input_pieces, log_of, output_of, source_in, trace, lines_up_to_loss}
use Rattle.std.proofs.Common.{ap}
use Rattle.encoding_mem.specs.Items.{Byte, MalformedAt, LostAt}
use Rattle.encoding_front.specs.declared.mark.Mark.{Mark}
use Rattle.encoding_front.specs.declared.mark.Mark.TheVariants.{Sniff, Remove, Keep}
use Rattle.recode.specs.declared.job.Fault.TheVariants.{Unmappable}
use Rattle.recode.specs.declared.job.Job.{Job}
use Rattle.recode.specs.declared.job.Policy.{Policy}
use Rattle.recode.specs.declared.job.Report.{Report}

-- U+20AC at pointer 0, U+00E9 at 105
two : List ℕ
two = 0x20AC ∷ (replicate 104 0 ++ (0xE9 ∷ replicate 22 0))

kept : output Decimal (single_byte_coding two) (text (pieces_utf8 (0x41 ∷ 0xE2 ∷ 0x82 ∷ 0xAC ∷ 0xC3 ∷ 0xA9 ∷ []))) ≡ 0x41 ∷ 0x80 ∷ 0xE9 ∷ []
unfolding pieces_in two
kept = refl

nothing_lost : log_lines (single_byte_coding two) 0 0 (pieces_utf8 (0x41 ∷ 0xE2 ∷ 0x82 ∷ 0xAC ∷ 0xC3 ∷ 0xA9 ∷ [])) ≡ []
unfolding pieces_in two
nothing_lost = refl

references : output Decimal (single_byte_coding two) (text (pieces_utf8 (0xC3 ∷ 0xA8 ∷ 0xFF ∷ []))) ≡ codes "&#232;&#65533;"
unfolding pieces_in two digits
references = refl

lost_and_malformed : log_lines (single_byte_coding two) 0 0 (pieces_utf8 (0xC3 ∷ 0xA8 ∷ 0xFF ∷ [])) ≡ Lost 0 232 ∷ Bad 2 1 ∷ Lost 1 65533 ∷ []
unfolding pieces_in two
lost_and_malformed = refl

from_single_byte : output Decimal utf8_coding (text (pieces_single_byte two (0x80 ∷ 0x81 ∷ 0xE9 ∷ []))) ≡ 0xE2 ∷ 0x82 ∷ 0xAC ∷ 0xEF ∷ 0xBF ∷ 0xBD ∷ 0xC3 ∷ 0xA9 ∷ []
unfolding pieces_in two encode_utf8
from_single_byte = refl

byte_without_character : log_lines utf8_coding 0 0 (pieces_single_byte two (0x80 ∷ 0x81 ∷ 0xE9 ∷ [])) ≡ Bad 1 1 ∷ []
unfolding pieces_in two
byte_without_character = refl

-- a fold: U+00A5 is written as 5C, which reads back as U+005C, and has no line
folded : (t : IndexLists) → output Decimal (coding_of t Encoding.ShiftJis) (text (pieces_utf8 (0xC2 ∷ 0xA5 ∷ []))) ≡ 0x5C ∷ []
unfolding pieces_in
folded t = refl

a_fold_is_not_told : (t : IndexLists) → log_lines (coding_of t Encoding.ShiftJis) 0 0 (pieces_utf8 (0xC2 ∷ 0xA5 ∷ [])) ≡ []
unfolding pieces_in
a_fold_is_not_told t = refl

-- ---- whole jobs

-- A job with these tables and encodings; any job says where the tables stand, and its limit.
abbrev job : Job → IndexLists → (from to : Encoding) → Mark → Job
job j t from to mark = record j { from = from; to = to; mark = mark; policy = Policy.Decimal; tables = record j.tables { now = t } }

-- for this input these bytes are written, and these lines
abbrev Gives : Job → (input written lines : List ℕ) → Type 0
Gives j input written lines = (output_of j input ≡ written) × (log_of j input ≡ lines)

-- No index; of jis0208 U+30CF at 422; of Big5 U+5341 at 5287 and 5512; of EUC-KR U+AC00 at 9026; of gb18030 U+4E04 at 1
-- and ranges that give U+10000 to 189000; of windows-1252 U+00BB at 59 and U+00EF at 111.
unfoldable no_tables : IndexLists
no_tables = record { flats = no_flats; rows = None }

unfoldable ha : IndexLists
ha = record { flats = alone IndexKind.Jis0208 (replicate 422 0 ++ (0x30CF ∷ [])); rows = None }

unfoldable ten : IndexLists
ten = record { flats = alone IndexKind.Big5 (replicate 5287 0 ++ (0x5341 ∷ (replicate 224 0 ++ (0x5341 ∷ [])))); rows = None }

unfoldable korean : IndexLists
korean = record { flats = alone IndexKind.EucKr (replicate 9026 0 ++ (0xAC00 ∷ [])); rows = None }

unfoldable chinese : IndexLists
chinese = record { flats = alone IndexKind.Gb18030 (0 ∷ 0x4E04 ∷ []); rows = Some ((189000, 0x10000) ∷ []) }

unfoldable windows_1252 : IndexLists
windows_1252 = record { flats = alone IndexKind.Windows1252 (replicate 59 0 ++ (0xBB ∷ (replicate 51 0 ++ (0xEF ∷ replicate 16 0)))); rows = None }

-- UTF-8 to UTF-8: a surrogate is three malformed sequences of one byte
surrogate : (j : Job) → Gives (job j no_tables Encoding.Utf8 Encoding.Utf8 Keep) (0x61 ∷ 0xED ∷ 0xA0 ∷ 0x80 ∷ 0x5A ∷ []) (0x61 ∷ 0xEF ∷ 0xBF ∷ 0xBD ∷ 0xEF ∷ 0xBF ∷ 0xBD ∷ 0xEF ∷ 0xBF ∷ 0xBD ∷ 0x5A ∷ []) (codes "bad 1 1\nbad 2 1\nbad 3 1\n")
unfolding pieces_in encode_utf8 digits
surrogate j = (refl, refl)

-- the byte order mark is kept, or taken
kept_mark : (j : Job) → Gives (job j no_tables Encoding.Utf8 Encoding.Utf8 Keep) (0xEF ∷ 0xBB ∷ 0xBF ∷ 0x41 ∷ []) (0xEF ∷ 0xBB ∷ 0xBF ∷ 0x41 ∷ []) ([])
unfolding pieces_in encode_utf8
kept_mark j = (refl, refl)

removed_mark : (j : Job) → Gives (job j no_tables Encoding.Utf8 Encoding.Utf8 Remove) (0xEF ∷ 0xBB ∷ 0xBF ∷ 0x41 ∷ []) (0x41 ∷ []) ([])
unfolding pieces_in encode_utf8
removed_mark j = (refl, refl)

-- the offset of a malformed sequence counts the bytes of the mark
sniffed_mark : (j : Job) → Gives (job j no_tables Encoding.Windows1252 Encoding.Utf8 Sniff) (0xEF ∷ 0xBB ∷ 0xBF ∷ 0xE2 ∷ 0x82 ∷ 0xAC ∷ 0x80 ∷ []) (0xE2 ∷ 0x82 ∷ 0xAC ∷ 0xEF ∷ 0xBF ∷ 0xBD ∷ []) (codes "bad 6 1\n")
unfolding pieces_in encode_utf8 digits
sniffed_mark j = (refl, refl)

-- EF BB is no mark: U+00EF and U+00BB of windows-1252
prefix_of_a_mark : (j : Job) → Gives (job j windows_1252 Encoding.Windows1252 Encoding.Utf8 Sniff) (0xEF ∷ 0xBB ∷ []) (0xC3 ∷ 0xAF ∷ 0xC2 ∷ 0xBB ∷ []) ([])
unfolding pieces_in encode_utf8 windows_1252
prefix_of_a_mark j = (refl, refl)

-- U+FFFD for a malformed sequence has no bytes in Shift_JIS: a line for each
malformed_and_lost : (j : Job) → Gives (job j no_tables Encoding.Utf8 Encoding.ShiftJis Sniff) (0xFF ∷ []) (codes "&#65533;") (codes "bad 0 1\nlost 0 65533\n")
unfolding pieces_in no_tables digits
malformed_and_lost j = (refl, refl)

-- U+00A5 is written as 5C, and no line says so
yen_sign : (j : Job) → Gives (job j no_tables Encoding.Utf8 Encoding.ShiftJis Sniff) (0xC2 ∷ 0xA5 ∷ []) (0x5C ∷ []) ([])
unfolding pieces_in
yen_sign j = (refl, refl)

-- U+30CF, at 422, from Shift_JIS to ISO-2022-JP: alone, and twice
one_pair : (j : Job) → Gives (job j ha Encoding.ShiftJis Encoding.Iso2022Jp Sniff) (0x41 ∷ 0x83 ∷ 0x6E ∷ 0x42 ∷ []) (0x41 ∷ 0x1B ∷ 0x24 ∷ 0x42 ∷ 0x25 ∷ 0x4F ∷ 0x1B ∷ 0x28 ∷ 0x42 ∷ 0x42 ∷ []) ([])
unfolding pieces_in ha
one_pair j = (refl, refl)

two_pairs : (j : Job) → Gives (job j ha Encoding.ShiftJis Encoding.Iso2022Jp Sniff) (0x83 ∷ 0x6E ∷ 0x83 ∷ 0x6E ∷ []) (0x1B ∷ 0x24 ∷ 0x42 ∷ 0x25 ∷ 0x4F ∷ 0x25 ∷ 0x4F ∷ 0x1B ∷ 0x28 ∷ 0x42 ∷ []) ([])
unfolding pieces_in ha
two_pairs j = (refl, refl)

-- U+1F4A9 in windows-1253
pile_of_poo : (j : Job) → Gives (job j no_tables Encoding.Utf8 Encoding.Windows1253 Sniff) (0xF0 ∷ 0x9F ∷ 0x92 ∷ 0xA9 ∷ []) (0x26 ∷ 0x23 ∷ 0x31 ∷ 0x32 ∷ 0x38 ∷ 0x31 ∷ 0x36 ∷ 0x39 ∷ 0x3B ∷ []) (codes "lost 0 128169\n")
unfolding pieces_in no_tables digits
pile_of_poo j = (refl, refl)

-- in ISO-2022-JP: a control, reported as U+FFFD; U+1F4A9 after a pair, in ASCII; and after U+00A5, in Roman
lost_control : (j : Job) → Gives (job j ha Encoding.Utf8 Encoding.Iso2022Jp Sniff) (0x0E ∷ []) (codes "&#65533;") (codes "lost 0 65533\n")
unfolding pieces_in ha digits
lost_control j = (refl, refl)

lost_behind_a_pair : (j : Job) → Gives (job j ha Encoding.Utf8 Encoding.Iso2022Jp Sniff) (0xE3 ∷ 0x83 ∷ 0x8F ∷ 0xF0 ∷ 0x9F ∷ 0x92 ∷ 0xA9 ∷ []) (0x1B ∷ 0x24 ∷ 0x42 ∷ 0x25 ∷ 0x4F ∷ 0x1B ∷ 0x28 ∷ 0x42 ∷ codes "&#128169;") (codes "lost 1 128169\n")
unfolding pieces_in ha digits
lost_behind_a_pair j = (refl, refl)

lost_behind_roman : (j : Job) → Gives (job j ha Encoding.Utf8 Encoding.Iso2022Jp Sniff) (0xC2 ∷ 0xA5 ∷ 0xF0 ∷ 0x9F ∷ 0x92 ∷ 0xA9 ∷ []) (0x1B ∷ 0x28 ∷ 0x4A ∷ 0x5C ∷ (codes "&#128169;" ++ (0x1B ∷ 0x28 ∷ 0x42 ∷ []))) (codes "lost 1 128169\n")
unfolding pieces_in ha digits
lost_behind_roman j = (refl, refl)

-- UTF-16LE: a high surrogate before another unit, and before the last byte
lone_surrogate : (j : Job) → Gives (job j no_tables Encoding.Utf16Le Encoding.Utf8 Sniff) (0x00 ∷ 0xD8 ∷ 0x00 ∷ 0x00 ∷ 0x00 ∷ 0x4E ∷ []) (0xEF ∷ 0xBF ∷ 0xBD ∷ 0x00 ∷ 0xE4 ∷ 0xB8 ∷ 0x80 ∷ []) (codes "bad 0 2\n")
unfolding pieces_in encode_utf8 digits
lone_surrogate j = (refl, refl)

surrogate_and_a_byte : (j : Job) → Gives (job j no_tables Encoding.Utf16Le Encoding.Utf8 Sniff) (0x00 ∷ 0xD8 ∷ 0x41 ∷ []) (0xEF ∷ 0xBF ∷ 0xBD ∷ []) (codes "bad 0 3\n")
unfolding pieces_in encode_utf8 digits
surrogate_and_a_byte j = (refl, refl)

half_a_unit : (j : Job) → Gives (job j no_tables Encoding.Utf16Le Encoding.Utf8 Remove) (0xFF ∷ []) (0xEF ∷ 0xBF ∷ 0xBD ∷ []) (codes "bad 0 1\n")
unfolding pieces_in encode_utf8 digits
half_a_unit j = (refl, refl)

-- gb18030: the last code point, a form of four bytes that breaks off, and U+E7C7
last_code_point : (j : Job) → Gives (job j chinese Encoding.Gb18030 Encoding.Utf8 Sniff) (0xE3 ∷ 0x32 ∷ 0x9A ∷ 0x35 ∷ []) (0xF4 ∷ 0x8F ∷ 0xBF ∷ 0xBF ∷ []) ([])
unfolding pieces_in encode_utf8 chinese
last_code_point j = (refl, refl)

broken_four_bytes : (j : Job) → Gives (job j chinese Encoding.Gb18030 Encoding.Utf8 Sniff) (0x81 ∷ 0x30 ∷ 0x81 ∷ 0x41 ∷ []) (0xEF ∷ 0xBF ∷ 0xBD ∷ 0x30 ∷ 0xE4 ∷ 0xB8 ∷ 0x84 ∷ []) (codes "bad 0 1\n")
unfolding pieces_in encode_utf8 chinese digits
broken_four_bytes j = (refl, refl)

fixed_pointer : (j : Job) → Gives (job j chinese Encoding.Utf8 Encoding.Gb18030 Sniff) (0xEE ∷ 0x9F ∷ 0x87 ∷ []) (0x81 ∷ 0x35 ∷ 0xF4 ∷ 0x37 ∷ []) ([])
unfolding pieces_in chinese
fixed_pointer j = (refl, refl)

-- GBK: U+20AC is 80, and U+E5E5 lost
euro_and_lost : (j : Job) → Gives (job j chinese Encoding.Utf8 Encoding.Gbk Sniff) (0xE2 ∷ 0x82 ∷ 0xAC ∷ 0xEE ∷ 0x97 ∷ 0xA5 ∷ []) (0x80 ∷ codes "&#58853;") (codes "lost 1 58853\n")
unfolding pieces_in chinese digits
euro_and_lost j = (refl, refl)

-- Big5: two characters by one pair; U+5341, at 5287 and 5512, by its last pointer
two_characters : (j : Job) → Gives (job j no_tables Encoding.Big5 Encoding.Utf8 Sniff) (0x88 ∷ 0x62 ∷ []) (0xC3 ∷ 0x8A ∷ 0xCC ∷ 0x84 ∷ []) ([])
unfolding pieces_in encode_utf8 no_tables
two_characters j = (refl, refl)

last_pointer : (j : Job) → Gives (job j ten Encoding.Utf8 Encoding.Big5 Sniff) (0xE5 ∷ 0x8D ∷ 0x81 ∷ []) (0xA4 ∷ 0x51 ∷ []) ([])
unfolding pieces_in ten
last_pointer j = (refl, refl)

-- each character of such a pair has an index of its own, and what follows it the next
lost_in_a_pair : (j : Job) → Gives (job j no_tables Encoding.Big5 Encoding.Windows1252 Sniff) (0x88 ∷ 0x62 ∷ 0xFF ∷ 0xC8 ∷ []) (codes "&#202;&#772;&#65533;&#65533;") (codes "lost 0 202\nlost 1 772\nbad 2 1\nlost 2 65533\nbad 3 1\nlost 3 65533\n")
unfolding pieces_in no_tables digits
lost_in_a_pair j = (refl, refl)

-- after a malformed sequence the index goes on by one, the offset by its length
lost_behind_malformed : (j : Job) → Gives (job j no_tables Encoding.Utf8 Encoding.Windows1252 Sniff) (0x41 ∷ 0xE2 ∷ 0x82 ∷ 0xC3 ∷ 0xA8 ∷ 0xC3 ∷ 0xA8 ∷ []) (0x41 ∷ codes "&#65533;&#232;&#232;") (codes "bad 1 2\nlost 1 65533\nlost 2 232\nlost 3 232\n")
unfolding pieces_in no_tables digits
lost_behind_malformed j = (refl, refl)

-- replacement: one malformed byte, and no text
replacement : (j : Job) → Gives (job j no_tables Encoding.Replacement Encoding.Utf8 Sniff) (0x41 ∷ 0x42 ∷ []) (0xEF ∷ 0xBF ∷ 0xBD ∷ []) (codes "bad 0 1\n")
unfolding pieces_in encode_utf8 digits
replacement j = (refl, refl)

-- EUC-JP, EUC-KR with U+AC00 at 9026, and x-user-defined
three_bytes_break_off : (j : Job) → Gives (job j no_tables Encoding.EucJp Encoding.Utf8 Sniff) (0x8F ∷ 0xA1 ∷ 0x41 ∷ 0x8E ∷ 0xB1 ∷ []) (0xEF ∷ 0xBF ∷ 0xBD ∷ 0x41 ∷ 0xEF ∷ 0xBD ∷ 0xB1 ∷ []) (codes "bad 0 2\n")
unfolding pieces_in encode_utf8 no_tables digits
three_bytes_break_off j = (refl, refl)

lead_before_ascii : (j : Job) → Gives (job j korean Encoding.EucKr Encoding.Utf8 Sniff) (0xB0 ∷ 0xA1 ∷ 0xB0 ∷ 0x41 ∷ []) (0xEA ∷ 0xB0 ∷ 0x80 ∷ 0xEF ∷ 0xBF ∷ 0xBD ∷ 0x41 ∷ []) (codes "bad 2 1\n")
unfolding pieces_in encode_utf8 korean digits
lead_before_ascii j = (refl, refl)

user_defined : (j : Job) → Gives (job j no_tables Encoding.XUserDefined Encoding.Utf8 Sniff) (0x80 ∷ []) (0xEF ∷ 0x9E ∷ 0x80 ∷ []) ([])
unfolding pieces_in encode_utf8
user_defined j = (refl, refl)

-- a prefix of a mark before ASCII is malformed UTF-8
prefix_of_a_mark_in_utf_8 : (j : Job) → Gives (job j no_tables Encoding.Utf8 Encoding.Utf8 Sniff) (0xEF ∷ 0xBB ∷ 0x41 ∷ []) (0xEF ∷ 0xBF ∷ 0xBD ∷ 0x41 ∷ []) (codes "bad 0 2\n")
unfolding pieces_in encode_utf8 digits
prefix_of_a_mark_in_utf_8 j = (refl, refl)

-- no bytes
empty_input : (j : Job) → Gives (job j no_tables Encoding.ShiftJis Encoding.Iso2022Jp Sniff) ([]) ([]) ([])
unfolding pieces_in
empty_input j = (refl, refl)

-- the mark says the encoding of the input, and is a piece of its own
encoding_of_input : (j : Job) → source_in (job j no_tables Encoding.Windows1252 Encoding.Utf8 Sniff) (0xEF ∷ 0xBB ∷ 0xBF ∷ 0xE2 ∷ 0x82 ∷ 0xAC ∷ 0x80 ∷ [])
    ≡ Encoding.Utf8
encoding_of_input j = refl

pieces_of_input : (j : Job) → input_pieces (job j no_tables Encoding.Windows1252 Encoding.Utf8 Sniff) (0xEF ∷ 0xBB ∷ 0xBF ∷ 0xE2 ∷ 0x82 ∷ 0xAC ∷ 0x80 ∷ [])
    ≡ well_formed 3 [] ∷ well_formed 3 (0x20AC ∷ []) ∷ malformed 1 ∷ []
unfolding pieces_in
pieces_of_input j = refl

-- ---- the order of bytes and lines

-- the line of a malformed sequence, that of its U+FFFD, and its reference
order_of_lines : (j : Job) → trace (job j no_tables Encoding.Utf8 Encoding.ShiftJis Sniff) (0x41 ∷ 0xFF ∷ [])
    ≡ Byte 0x41 ∷ MalformedAt 1 1 ∷ LostAt 1 65533 ∷ map Byte (codes "&#65533;")
unfolding pieces_in no_tables digits
order_of_lines j = refl

-- the escape before a reference comes before its line, and the last one after all
escape_before_the_line : (j : Job) → trace (job j ha Encoding.Utf8 Encoding.Iso2022Jp Sniff) (0xE3 ∷ 0x83 ∷ 0x8F ∷ 0xF0 ∷ 0x9F ∷ 0x92 ∷ 0xA9 ∷ [])
    ≡ map Byte (0x1B ∷ 0x24 ∷ 0x42 ∷ 0x25 ∷ 0x4F ∷ 0x1B ∷ 0x28 ∷ 0x42 ∷ []) ++ (LostAt 1 128169 ∷ map Byte (codes "&#128169;"))
unfolding pieces_in ha digits
escape_before_the_line j = refl

escape_at_the_end : (j : Job) → trace (job j ha Encoding.Utf8 Encoding.Iso2022Jp Sniff) (0xC2 ∷ 0xA5 ∷ 0xF0 ∷ 0x9F ∷ 0x92 ∷ 0xA9 ∷ [])
    ≡ map Byte (0x1B ∷ 0x28 ∷ 0x4A ∷ 0x5C ∷ []) ++ (LostAt 1 128169 ∷ (map Byte (codes "&#128169;") ++ map Byte (0x1B ∷ 0x28 ∷ 0x42 ∷ [])))
unfolding pieces_in ha digits
escape_at_the_end j = refl

-- the index after a malformed sequence, and in a pair of Big5
index_behind : (j : Job) → trace (job j no_tables Encoding.Big5 Encoding.Windows1252 Sniff) (0xFF ∷ 0x88 ∷ 0x62 ∷ [])
    ≡ MalformedAt 0 1 ∷ LostAt 0 65533 ∷ (map Byte (codes "&#65533;") ++ (LostAt 1 202 ∷ (map Byte (codes "&#202;") ++ (LostAt 2 772 ∷ map Byte (codes "&#772;")))))
unfolding pieces_in no_tables digits
index_behind j = refl

-- ---- the verdict

-- text that has its bytes in the target and reads back
faithful_text : (j : Job) → Faithful (job j no_tables Encoding.Utf8 Encoding.Utf8 Keep) (0x41 ∷ 0xC3 ∷ 0xA9 ∷ [])
unfolding pieces_in encode_utf8
faithful_text j = record { source = (tt, (tt, tt)); target = (tt, (tt, tt)); same = refl }

faithful_nothing : (j : Job) → Faithful (job j no_tables Encoding.Big5 Encoding.ShiftJis Sniff) []
unfolding pieces_in
faithful_nothing j = record { source = tt; target = tt; same = refl }

-- U+30CF by another pair of bytes
faithful_pair : (j : Job) → Faithful (job j ha Encoding.Utf8 Encoding.ShiftJis Sniff) (0x41 ∷ 0xE3 ∷ 0x83 ∷ 0x8F ∷ 0x42 ∷ [])
unfolding pieces_in ha
faithful_pair j = record { source = (tt, (tt, (tt, tt))); target = (tt, (tt, (tt, tt))); same = refl }

-- 5C reads back as U+005C, although the log is empty
begins_with_yen : List ℕ → Bool
begins_with_yen text = slice_index text 0 == 0xA5

unfaithful_yen_sign : (j : Job) → ¬ (Faithful (job j no_tables Encoding.Utf8 Encoding.ShiftJis Sniff) (0xC2 ∷ 0xA5 ∷ []))
unfolding pieces_in begins_with_yen
unfaithful_yen_sign j faithful = let same : false ≡ true = ap begins_with_yen faithful.same in absurd (cc same)

-- it is called faithful, since the log is empty
yen_sign_is_called_faithful : (j : Job) (p : Report) → IsReport (job j no_tables Encoding.Utf8 Encoding.ShiftJis Sniff) (0xC2 ∷ 0xA5 ∷ []) p → p.faithful ≡ true → ⊥
yen_sign_is_called_faithful j p h said = unfaithful_yen_sign j (h.faithful.0 said)

-- a mark that is kept is text, in the output too
faithful_mark : (j : Job) → Faithful (job j no_tables Encoding.Utf8 Encoding.Utf8 Keep) (0xEF ∷ 0xBB ∷ 0xBF ∷ 0x41 ∷ [])
unfolding pieces_in encode_utf8
faithful_mark j = record { source = (tt, (tt, tt)); target = (tt, (tt, tt)); same = refl }

-- the output is read back without its mark, and called unfaithful
mark_is_called_lost : (j : Job) (p : Report) → IsReport (job j no_tables Encoding.Utf8 Encoding.Utf8 Keep) (0xEF ∷ 0xBB ∷ 0xBF ∷ 0x41 ∷ []) p → p.faithful ≡ false → ⊥
mark_is_called_lost j p h said = let kept : p.faithful ≡ true = h.faithful.1 (faithful_mark j) in cc

-- a malformed sequence is not kept, although U+FFFD is
unfaithful_input : (j : Job) → ¬ (Faithful (job j no_tables Encoding.Utf8 Encoding.Utf8 Sniff) (0x61 ∷ 0xFF ∷ []))
unfolding pieces_in
unfaithful_input j faithful = faithful.source.1.0

-- U+E81E is FE 59, which an index without it does not read back, and one with U+E81E at 23775 does
unfaithful_private_use : (j : Job) → ¬ (Faithful (job j chinese Encoding.Utf8 Encoding.Gb18030 Sniff) (0xEE ∷ 0xA0 ∷ 0x9E ∷ []))
unfolding pieces_in chinese
unfaithful_private_use j faithful = faithful.target.0

unfoldable with_private_use : IndexLists
with_private_use = record { flats = alone IndexKind.Gb18030 (replicate 23775 0 ++ (0xE81E ∷ [])); rows = Some [] }

faithful_private_use : (j : Job) → Faithful (job j with_private_use Encoding.Utf8 Encoding.Gb18030 Sniff) (0xEE ∷ 0xA0 ∷ 0x9E ∷ [])
unfolding pieces_in with_private_use
faithful_private_use j = record { source = (tt, tt); target = (tt, tt); same = refl }

-- references in hexadecimal: the greatest number has six digits, and the line of the log is in decimal
abbrev in_hexadecimal : Job → Job
in_hexadecimal j = record j { policy = Policy.Hexadecimal }

hexadecimal_pile_of_poo : (j : Job) → Gives (in_hexadecimal (job j no_tables Encoding.Utf8 Encoding.Windows1253 Sniff)) (0xF0 ∷ 0x9F ∷ 0x92 ∷ 0xA9 ∷ []) (codes "&#x1F4A9;") (codes "lost 0 128169\n")
unfolding pieces_in no_tables digits
hexadecimal_pile_of_poo j = (refl, refl)

hexadecimal_greatest : (j : Job) → Gives (in_hexadecimal (job j no_tables Encoding.Utf8 Encoding.Windows1253 Sniff)) (0xF4 ∷ 0x8F ∷ 0xBF ∷ 0xBF ∷ []) (codes "&#x10FFFF;") (codes "lost 0 1114111\n")
unfolding pieces_in no_tables digits
hexadecimal_greatest j = (refl, refl)

hexadecimal_behind_a_pair : (j : Job) → Gives (in_hexadecimal (job j ha Encoding.Utf8 Encoding.Iso2022Jp Sniff)) (0xE3 ∷ 0x83 ∷ 0x8F ∷ 0x0E ∷ 0x41 ∷ []) (0x1B ∷ 0x24 ∷ 0x42 ∷ 0x25 ∷ 0x4F ∷ 0x1B ∷ 0x28 ∷ 0x42 ∷ (codes "&#xFFFD;" ++ (0x41 ∷ [])))
    (codes "lost 1 65533\n")
unfolding pieces_in ha digits
hexadecimal_behind_a_pair j = (refl, refl)

-- a stop: the text before the first character without bytes, the escape that would come before its reference, and its
-- line; a malformed sequence does not stop, but U+FFFD in its place does; without such a character all is as ever
abbrev stopping : Job → Job
stopping j = record j { policy = Policy.Stop }

stop_at_pile_of_poo : (j : Job) → Gives (stopping (job j no_tables Encoding.Utf8 Encoding.Windows1253 Sniff)) (0xF0 ∷ 0x9F ∷ 0x92 ∷ 0xA9 ∷ []) ([]) (codes "lost 0 128169\n")
unfolding pieces_in no_tables digits
stop_at_pile_of_poo j = (refl, refl)

stop_behind_a_pair : (j : Job) → Gives (stopping (job j ha Encoding.Utf8 Encoding.Iso2022Jp Sniff)) (0xE3 ∷ 0x83 ∷ 0x8F ∷ 0x0E ∷ 0x41 ∷ []) (0x1B ∷ 0x24 ∷ 0x42 ∷ 0x25 ∷ 0x4F ∷ 0x1B ∷ 0x28 ∷ 0x42 ∷ []) (codes "lost 1 65533\n")
unfolding pieces_in ha digits
stop_behind_a_pair j = (refl, refl)

stop_behind_roman : (j : Job) → Gives (stopping (job j ha Encoding.Utf8 Encoding.Iso2022Jp Sniff)) (0xC2 ∷ 0xA5 ∷ 0xF0 ∷ 0x9F ∷ 0x92 ∷ 0xA9 ∷ []) (0x1B ∷ 0x28 ∷ 0x4A ∷ 0x5C ∷ []) (codes "lost 1 128169\n")
unfolding pieces_in ha digits
stop_behind_roman j = (refl, refl)

stop_at_a_malformed_sequence : (j : Job) → Gives (stopping (job j no_tables Encoding.Utf8 Encoding.ShiftJis Sniff)) (0xFF ∷ []) ([]) (codes "bad 0 1\nlost 0 65533\n")
unfolding pieces_in no_tables digits
stop_at_a_malformed_sequence j = (refl, refl)

no_stop : (j : Job) → Gives (stopping (job j no_tables Encoding.Utf8 Encoding.Utf8 Keep)) (0x61 ∷ 0xED ∷ 0xA0 ∷ 0x80 ∷ 0x5A ∷ []) (0x61 ∷ 0xEF ∷ 0xBF ∷ 0xBD ∷ 0xEF ∷ 0xBF ∷ 0xBD ∷ 0xEF ∷ 0xBF ∷ 0xBD ∷ 0x5A ∷ []) (codes "bad 1 1\nbad 2 1\nbad 3 1\n")
unfolding pieces_in encode_utf8 digits
no_stop j = (refl, refl)

stop_at_the_end : (j : Job) → Gives (stopping (job j no_tables Encoding.Utf8 Encoding.Windows1252 Keep)) (0x41 ∷ 0xE2 ∷ 0x82 ∷ []) (0x41 ∷ []) (codes "bad 1 2\nlost 1 65533\n")
unfolding pieces_in no_tables digits
stop_at_the_end j = (refl, refl)

-- the escape comes before the line, and nothing after it
order_at_a_stop : (j : Job) → trace (stopping (job j ha Encoding.Utf8 Encoding.Iso2022Jp Sniff)) (0xE3 ∷ 0x83 ∷ 0x8F ∷ 0x0E ∷ 0x41 ∷ [])
    ≡ map Byte (0x1B ∷ 0x24 ∷ 0x42 ∷ 0x25 ∷ 0x4F ∷ 0x1B ∷ 0x28 ∷ 0x42 ∷ []) ++ (LostAt 1 65533 ∷ [])
unfolding pieces_in ha digits
order_at_a_stop j = refl

lines_up_to_a_stop : lines_up_to_loss (Bad 0 1 ∷ Lost 1 232 ∷ Bad 3 1 ∷ Lost 2 65533 ∷ []) ≡ Bad 0 1 ∷ Lost 1 232 ∷ []
lines_up_to_a_stop = refl

message_of_a_stop : message_of (Unmappable 1 128169) ≡ codes "recode: unmappable 1 128169\n"
unfolding digits
message_of_a_stop = refl

-- a reference reads back as its ASCII
unfaithful_reference : (j : Job) → ¬ (Faithful (job j no_tables Encoding.Utf8 Encoding.Windows1253 Sniff) (0xF0 ∷ 0x9F ∷ 0x92 ∷ 0xA9 ∷ []))
unfolding pieces_in no_tables digits
unfaithful_reference j faithful = let same : codes "&#128169;" ≡ 0x1F4A9 ∷ [] = faithful.same in absurd (cc same)
