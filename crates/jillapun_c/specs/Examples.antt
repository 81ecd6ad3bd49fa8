-- The numbers and the words of the definitions, worked.
use Rattle.std.proofs.Common.{◌≢◌, arith, inl, inr}
use Rattle.std.proofs.lemmas.List.Elements.{All-head, All-nil, All-push}
use Rattle.std.specs.Prelude.{◌≡◌, ℕ, Bool, true, false, None, Some, List, [], ◌∷◌, codes, refl}
use lib.Utf8.{encode}
use Rattle.std.specs.Fmt.{digits}
use Rattle.encoding_mem.specs.declared.codec.decoder_result.DecoderResult.TheVariants as decoded
use Rattle.encoding_mem.specs.declared.codec.form.EscapeState.TheVariants as set
use Rattle.encoding_index.specs.declared.fault.IndexFaultKind.TheVariants as fault
use Rattle.encoding_index.specs.declared.fault.LoadFault.TheVariants.{Text, Table}
use Rattle.encoding_index.specs.IndexText.{memory_fault}
use Rattle.encoding_tables.specs.declared.table_fault.TableFault.TheVariants as table
use Rattle.encoding_tables.specs.IndexLists.{IndexLists}
use Rattle.encoding_front.specs.declared.encoding.Encoding.{Encoding}
use Rattle.encoding_front.specs.declared.mark.Mark.{Mark}
use Rattle.recode_log.specs.declared.line.LogLine.TheVariants.{Bad, Lost}
use Rattle.recode.specs.declared.converter.ConverterResult.TheVariants.{Found, OutputFull}
use Rattle.recode.specs.declared.job.Policy.{Policy}
use Rattle.jillapun_c.specs.Asked.{policy_at}
use Rattle.jillapun_c.specs.ConverterTurns.{found_log, line_reference, stage_at}
use Rattle.jillapun_c.specs.ConverterWords.{saved_answer_in, saved_job_in, saved_stage_in, saved_step_in}
use Rattle.jillapun_c.specs.EncoderWords.{encoder_of}
use Rattle.jillapun_c.specs.EncodingNumbers.{encoding_at, mark_at, needed_file}
use Rattle.jillapun_c.specs.HeldDecoders.{saved_as, saved_in}
use Rattle.encoding_front.specs.Encodings.{no_lists}
use Rattle.jillapun_c.specs.IndexFiles.{HaveOwnNames, told_of}
use Rattle.jillapun_c.specs.Room.{HoldsFront, rest_cleared}
use Rattle.jillapun_c.specs.TextParts.{IsLookedAt, most_read, told_outcome}
use Rattle.jillapun_c.specs.Whole.{TellsOfInput, filled_status}
use Rattle.jillapun_c.specs.declared.decoder.words.DecoderWords.{DecoderWords}
use Rattle.jillapun_c.specs.declared.converter.Stage.TheVariants.{Open, Stopped}
use Rattle.jillapun_c.specs.declared.converter.words.ConverterWords.{ConverterWords}
use Rattle.jillapun_c.specs.declared.index_files.FileFault.TheVariants as told
use Rattle.jillapun_c.specs.declared.index_files.IndexFile.{IndexFile}
use Rattle.jillapun_c.specs.declared.converter.progress.TheConstants.ConverterProgress as converter_
use Rattle.jillapun_c.specs.declared.decoded.TheConstants.Decoded as decoded_
use Rattle.jillapun_c.specs.declared.encoder_progress.TheConstants.EncoderProgress as encoder_
use Rattle.jillapun_c.specs.declared.progress.TheConstants.Progress as decoder_
use Rattle.jillapun_c.specs.declared.report.TheConstants.Report as report_
use Rattle.jillapun_c.specs.declared.status.TheConstants.{OK, LOSSY, UNKNOWN, NOT_READY, BAD_INDEX, NO_MEMORY, CLOSED, IN_USE, FINISHED, NOT_UTF8, ROOM, GOES_ON, STOPPED, TOO_LONG, NOT_WELL_FORMED}
use Rattle.jillapun_c.specs.declared.status.TheConstants.{INPUT_EMPTY, OUTPUT_FULL, MALFORMED, UNMAPPABLE, BAD, LOST, LATIN1, LEFT_TO_RIGHT, BIDI}
use Rattle.jillapun_c.specs.declared.status.TheConstants.{SNIFF, REMOVE, KEEP, DECIMAL, HEXADECIMAL, STOP, NO_ENCODING}

-- the statuses, each with a number of its own
pub status_numbers : OK ∷ LOSSY ∷ UNKNOWN ∷ NOT_READY ∷ BAD_INDEX ∷ NO_MEMORY ∷ CLOSED ∷ IN_USE ∷ FINISHED ∷ NOT_UTF8 ∷ ROOM ∷ GOES_ON ∷ STOPPED ∷ TOO_LONG ∷ NOT_WELL_FORMED ∷ []
    ≡ 0 ∷ 1 ∷ 2 ∷ 3 ∷ 4 ∷ 5 ∷ 6 ∷ 7 ∷ 8 ∷ 9 ∷ 10 ∷ 11 ∷ 12 ∷ 13 ∷ 14 ∷ []
status_numbers = refl

-- the outcomes of a call, the entries of a list of losses, and what a text is for layout
pub outcome_numbers : INPUT_EMPTY ∷ OUTPUT_FULL ∷ MALFORMED ∷ UNMAPPABLE ∷ [] ≡ 0 ∷ 1 ∷ 2 ∷ 3 ∷ []
outcome_numbers = refl

pub loss_numbers : BAD ∷ LOST ∷ [] ≡ 0 ∷ 1 ∷ []
loss_numbers = refl

pub layout_numbers : LATIN1 ∷ LEFT_TO_RIGHT ∷ BIDI ∷ [] ≡ 0 ∷ 1 ∷ 2 ∷ []
layout_numbers = refl

-- the numbers of encodings: the first, the last, and none after it
pub first_encoding : encoding_at 0 ≡ Some Encoding.Big5
first_encoding = refl

pub utf8_is_25 : encoding_at 25 ≡ Some Encoding.Utf8
utf8_is_25 = refl

pub last_encoding : encoding_at 39 ≡ Some Encoding.XUserDefined
last_encoding = refl

pub no_encoding_behind : encoding_at 40 ≡ None
no_encoding_behind = refl

pub none_is_no_number : encoding_at NO_ENCODING ≡ None
none_is_no_number = refl

-- the numbers of what becomes of marks
pub sniffs : mark_at SNIFF ≡ Some Mark.Sniff
sniffs = refl

pub removes : mark_at REMOVE ≡ Some Mark.Remove
removes = refl

pub keeps : mark_at KEEP ≡ Some Mark.Keep
keeps = refl

-- the numbers of policies
pub in_decimal : policy_at DECIMAL ≡ Some Policy.Decimal
in_decimal = refl

pub in_hexadecimal : policy_at HEXADECIMAL ≡ Some Policy.Hexadecimal
in_hexadecimal = refl

pub stops : policy_at STOP ≡ Some Policy.Stop
stops = refl

pub no_policy : policy_at 3 ≡ None
no_policy = refl

-- the files of EUC-JP, and none after them; no encoding has the number 40
pub first_file_of_euc_jp : needed_file 1 0 ≡ Some (codes "index-jis0208.txt")
first_file_of_euc_jp = refl

pub second_file_of_euc_jp : needed_file 1 1 ≡ Some (codes "index-jis0212.txt")
second_file_of_euc_jp = refl

pub no_third_file_of_euc_jp : needed_file 1 2 ≡ Some []
no_third_file_of_euc_jp = refl

pub no_file_of_no_encoding : needed_file 40 0 ≡ None
no_file_of_no_encoding = refl

-- what is reported of faults: a line, no line alone, refused memory
pub line_is_told : told_of (Text (record { line = 3; kind = fault.Row })) ≡ told.Text 3
line_is_told = refl

pub no_line_is_told : told_of (Table table.Present) ≡ told.Text 0
no_line_is_told = refl

pub refused_text_is_told : told_of (Text memory_fault) ≡ told.Memory
refused_text_is_told = refl

pub refused_table_is_told : told_of (Table table.Memory) ≡ told.Memory
refused_table_is_told = refl

-- two files of one name are of one index, whatever their texts
abbrev file : (name text : List ℕ) → IndexFile
file name text = record { name = record { ref_ptr = (0, 0); now = name }; text = record { ref_ptr = (0, 0); now = text } }

-- a file has another name than this one
abbrev has_not : (name : List ℕ) → IndexFile → Type 0
has_not name later = later.name.now ≢ name

pub names_of_their_own : HaveOwnNames (file (0x61 ∷ []) [] ∷ file (0x61 ∷ 0x62 ∷ []) [] ∷ [])
names_of_their_own = (All-push (has_not (0x61 ∷ [])) [] (file (0x61 ∷ 0x62 ∷ []) []) (All-nil (has_not (0x61 ∷ []))) (λ is. cc), (All-nil (has_not (0x61 ∷ 0x62 ∷ [])), tt))

pub one_name_twice : HaveOwnNames (file (0x61 ∷ []) [] ∷ file (0x61 ∷ []) (0x0A ∷ []) ∷ []) → ⊥
one_name_twice apart = All-head (has_not (0x61 ∷ [])) (file (0x61 ∷ []) (0x0A ∷ [])) [] apart.0 refl

-- what calls report that refuse: zeros
pub nothing_is_decoded : decoder_.NONE ≡ record { read = 0; written = 0; outcome = 0; malformed_length = 0; malformed_after = 0; had_errors = false }
nothing_is_decoded = refl

pub nothing_is_encoded : encoder_.NONE ≡ record { read = 0; written = 0; outcome = 0; had_unmappable = false; scalar = 0 }
nothing_is_encoded = refl

pub nothing_is_converted : converter_.NONE ≡ record { read = 0; written = 0; losses = 0; wants_room = false }
nothing_is_converted = refl

pub nothing_is_told : decoded_.NONE ≡ record { written = 0; mark_len = 0; encoding = 255; is_own = false }
nothing_is_told = refl

pub nothing_is_reported : report_.NONE ≡ record { read = 0; bad = 0; lost = 0; characters = 0; written = 0; losses = 0; index = 0; scalar = 0 }
nothing_is_reported = refl

-- what is reported of an input: by the mark of UTF-8, that its text is its own bytes, those behind the mark; by that of UTF-16,
-- and of a byte that stands for another character, that it is not
pub own_behind_a_mark : TellsOfInput Mark.Sniff Encoding.Windows1252 (0xEF ∷ 0xBB ∷ 0xBF ∷ 0x61 ∷ []) (0x61 ∷ []) (record { written = 1; mark_len = 3; encoding = 25; is_own = true })
own_behind_a_mark = record { encoding_is = refl; mark_len_is = refl; own = (λ _. refl, λ _. refl) }

pub other_behind_a_mark : TellsOfInput Mark.Sniff Encoding.Utf8 (0xFF ∷ 0xFE ∷ 0x61 ∷ 0x00 ∷ []) (0x61 ∷ []) (record { written = 1; mark_len = 2; encoding = 27; is_own = false })
other_behind_a_mark = record { encoding_is = refl; mark_len_is = refl; own = (λ h. absurd (cc), λ h. absurd (cc)) }

pub mark_that_is_kept : TellsOfInput Mark.Keep Encoding.Utf8 (0xEF ∷ 0xBB ∷ 0xBF ∷ []) (0xEF ∷ 0xBB ∷ 0xBF ∷ []) (record { written = 3; mark_len = 0; encoding = 25; is_own = true })
mark_that_is_kept = record { encoding_is = refl; mark_len_is = refl; own = (λ _. refl, λ _. refl) }

-- the most that a call reads: as many bytes as it has room for, in UTF-8 and what is written as UTF-8; else four each
pub read_into_utf8 : most_read Encoding.Utf8 5 ≡ 5
read_into_utf8 = refl

pub read_into_utf16 : most_read Encoding.Utf16Le 5 ≡ 5
read_into_utf16 = refl

pub read_into_windows_1252 : most_read Encoding.Windows1252 5 ≡ 20
read_into_windows_1252 = refl

-- what is looked at of a text: four bytes more than are read at least, and seven at most, or all of the text
pub four_more_are_enough : IsLookedAt 2 (codes "abcdefghij") 6
unfolding encode
four_more_are_enough = record { within = omega arith; enough = inr (omega arith); few = omega arith }

pub three_more_are_not : ¬ (IsLookedAt 2 (codes "abcdefghij") 5)
unfolding encode
three_more_are_not h = elim h.enough [ inl all ↦ absurd (omega (arith, all)) | inr more ↦ absurd (omega (arith, more)) ]

pub seven_more_are_looked_at : IsLookedAt 2 (codes "abcdefghij") 9
unfolding encode
seven_more_are_looked_at = record { within = omega arith; enough = inr (omega arith); few = omega arith }

pub eight_more_are_too_many : ¬ (IsLookedAt 2 (codes "abcdefghij") 10)
unfolding encode
eight_more_are_too_many h = absurd (omega (arith, h.few))

pub all_is_looked_at : IsLookedAt 2 (codes "abc") 3
unfolding encode
all_is_looked_at = record { within = omega arith; enough = inl refl; few = omega arith }

-- how outcomes are reported of a whole text, and of a part
pub whole_is_read : told_outcome true INPUT_EMPTY ≡ INPUT_EMPTY
whole_is_read = refl

pub part_is_not_all : told_outcome false INPUT_EMPTY ≡ OUTPUT_FULL
part_is_not_all = refl

pub lost_is_told : told_outcome false UNMAPPABLE ≡ UNMAPPABLE
lost_is_told = refl

-- what is cleared: bytes that go on with a character, three at most
pub two_are_cleared : rest_cleared (0x80 ∷ 0xBF ∷ 0x61 ∷ 0x80 ∷ []) ≡ 0 ∷ 0 ∷ 0x61 ∷ 0x80 ∷ []
two_are_cleared = refl

pub three_are_cleared : rest_cleared (0x80 ∷ 0x80 ∷ 0x80 ∷ 0x80 ∷ []) ≡ 0 ∷ 0 ∷ 0 ∷ 0x80 ∷ []
three_are_cleared = refl

-- what a policy writes for what was found: a reference for a lost character, unless it stops; and what it comes to
pub lost_in_decimal : line_reference Policy.Decimal (Lost 2 256) ≡ codes "&#256;"
unfolding digits
lost_in_decimal = refl

pub lost_in_hexadecimal : line_reference Policy.Hexadecimal (Lost 2 256) ≡ codes "&#x100;"
unfolding digits
lost_in_hexadecimal = refl

pub lost_at_a_stop : line_reference Policy.Stop (Lost 2 256) ≡ []
lost_at_a_stop = refl

pub malformed_has_no_reference : line_reference Policy.Decimal (Bad 4 1) ≡ []
malformed_has_no_reference = refl

pub stops_at_lost : stage_at Policy.Stop (Lost 2 256) ≡ Stopped 2 256
stops_at_lost = refl

pub goes_on_at_malformed : stage_at Policy.Stop (Bad 4 1) ≡ Open
goes_on_at_malformed = refl

pub goes_on_at_lost : stage_at Policy.Hexadecimal (Lost 2 256) ≡ Open
goes_on_at_lost = refl

-- the log of what a call found
pub log_of_malformed : found_log (Found (Bad 4 1)) ≡ codes "bad 4 1\n"
unfolding digits
log_of_malformed = refl

pub log_of_nothing : found_log OutputFull ≡ []
log_of_nothing = refl

-- what the words of handles stand for: an encoder into ISO-2022-JP in a set; none, if they are zeros; and none, if a
-- number stands for nothing
pub encoder_in_jis : (t : IndexLists) → encoder_of (Some t) (record { is_there = true; encoding = 6; set = 2 }) ≡ Some (record { tables = t; encoding = Encoding.Iso2022Jp; set = set.Jis })
encoder_in_jis t = refl

pub encoder_with_no_tables : encoder_of None (record { is_there = true; encoding = 25; set = 0 }) ≡ Some (record { tables = no_lists; encoding = Encoding.Utf8; set = set.Ascii })
encoder_with_no_tables = refl

pub zeros_hold_no_encoder : (t : IndexLists) → encoder_of (Some t) (record { is_there = false; encoding = 0; set = 0 }) ≡ None
zeros_hold_no_encoder t = refl

pub no_such_set : (t : IndexLists) → encoder_of (Some t) (record { is_there = true; encoding = 6; set = 3 }) ≡ None
no_such_set t = refl

pub no_such_output : (t : IndexLists) → encoder_of (Some t) (record { is_there = true; encoding = 40; set = 0 }) ≡ None
no_such_output t = refl

-- what the words of a handle stand for: {0} for no decoder, and a number of no encoding for none
abbrev words_of : (is_there : Bool) (encoding : ℕ) → DecoderWords
words_of is_there encoding = record {
  is_there = is_there;
  is_finished = false;
  encoding = encoding;
  seeks_utf8 = false;
  seeks_utf16_be = false;
  seeks_utf16_le = false;
  mode = 0;
  held_len = 0;
  held = [];
  pending_len = 0;
  pending = [];
}

pub zeroes_hold_no_decoder : saved_in (words_of false 0) ≡ None
zeroes_hold_no_decoder = refl

pub no_decoder_without_encoding : saved_in (words_of true 40) ≡ None
no_decoder_without_encoding = refl

pub words_hold_a_decoder : saved_in (words_of true 25) ≡ Some (saved_as (words_of true 25) Encoding.Utf8)
words_hold_a_decoder = refl

-- and those of a converter: {0} for none; a malformed sequence of two bytes with one byte after it; no text that waits; a
-- character, with its index and its code point, at which the policy stopped
pub zeroes_hold_no_converter : (w : ConverterWords) → saved_step_in (record w { is_there = false }) ≡ None
zeroes_hold_no_converter w = refl

pub malformed_by_number : saved_answer_in (record { kind = 3; size = 2; after = 1 }) ≡ Some (Some (decoded.Malformed 2 1))
malformed_by_number = refl

pub none_waits_by_number : saved_answer_in (record { kind = 0; size = 0; after = 0 }) ≡ Some None
none_waits_by_number = refl

pub no_answer_by_number : saved_answer_in (record { kind = 4; size = 0; after = 0 }) ≡ None
no_answer_by_number = refl

pub stop_by_number : saved_stage_in (record { index = 7; scalar = 0x100; stage = 1 }) ≡ Some (Stopped 7 0x100)
stop_by_number = refl

pub no_stage_by_number : saved_stage_in (record { index = 0; scalar = 0; stage = 3 }) ≡ None
no_stage_by_number = refl

pub job_by_numbers : saved_job_in (record { limit = 9; from = 0; to = 25; mark = 2; policy = 1 })
    ≡ Some (record { from = Encoding.Big5; to = Encoding.Utf8; mark = Mark.Keep; policy = Policy.Hexadecimal; limit = 9 })
job_by_numbers = refl

pub no_job_by_number : saved_job_in (record { limit = 9; from = 0; to = 40; mark = 2; policy = 1 }) ≡ None
no_job_by_number = refl

-- an output of three bytes in a room of two: its first byte is there, and its length is told
pub cut_output : HoldsFront {X = ℕ} (1 ∷ 2 ∷ 3 ∷ []) (9 ∷ 9 ∷ []) (1 ∷ 9 ∷ []) (record { put = 1; length = 3; is_whole = false })
cut_output = record { rest = 2 ∷ 3 ∷ []; parts = refl; fits = omega arith; behind = refl; length_is = inl refl; whole = λ is. absurd (cc is); cut = λ _. omega arith }

-- such a call returns that there is too little room, and one whose output fits the verdict
pub cut_is_told : filled_status (record { put = 1; length = 3; is_whole = false }) true ≡ ROOM
cut_is_told = refl

pub whole_is_told : filled_status (record { put = 3; length = 3; is_whole = true }) true ≡ LOSSY
whole_is_told = refl
