-- What a job makes of a whole input.
use Rattle.std.specs.Prelude.{◌≡◌, ℕ, ◌+◌, ◌^◌, ◌≤◌, List, [], ◌∷◌, ◌++◌, length}
use Rattle.encoding_mem.specs.Piece.{Piece, well_formed, malformed, text, AreWellFormed}
use Rattle.encoding_mem.specs.Coding.{Coding, lost_count}
use Rattle.encoding_mem.specs.Items.{Item, trace_from}
use Rattle.encoding_mem.specs.declared.codec.form.Form.{Form}
use Rattle.encoding_mem.specs.declared.codec.form.Form.TheVariants.{Mapped, Unmapped}
use Rattle.encoding_mem.specs.declared.codec.form.EscapeState.TheVariants.{Ascii}
use Rattle.encoding_front.specs.Encodings.{IsReady, pieces_of, coding_of, output_encoding_of}
use Rattle.encoding_front.specs.Marks.{marked_pieces, source_of}
use Rattle.encoding_front.specs.declared.encoding.Encoding.{Encoding}
use Rattle.encoding_tables.specs.IndexLists.{AreAcceptedTables}
use Rattle.recode_log.specs.declared.line.LogLine.{LogLine}
use Rattle.recode_log.specs.declared.line.LogLine.TheVariants.{Bad, Lost}
use Rattle.recode.specs.Policy.{reference_form, written_under}
use Rattle.recode.specs.TaggedByte.{log_bytes, output_bytes, tagged}
use Rattle.recode.specs.declared.job.Job.{Job}
use Rattle.recode.specs.declared.job.Policy.{Policy}

-- the indexes of both encodings are there, as they were accepted, and the limit is at most 2^48
pub record IsValidJob (j : Job) : Type 0 where
  pub tables : AreAcceptedTables j.tables.now
  pub from : IsReady j.tables.now j.from
  pub to : IsReady j.tables.now (output_encoding_of j.to)
  pub limit : j.limit ≤ 2 ^ 48

-- the encoding that the input is in, which its byte order mark may say, if marks are taken
abbrev pub source_in : Job → List ℕ → Encoding
source_in j x = (source_of j.mark j.from x).0

-- the pieces of the input, of which the mark that is taken is the first
abbrev pub input_pieces : Job → List ℕ → List Piece
input_pieces j x = marked_pieces j.tables.now j.mark j.from x

-- the text of the input, with U+FFFD for each malformed sequence, without a mark that is taken
abbrev pub input_text : Job → List ℕ → List ℕ
input_text j x = text (input_pieces j x)

-- the coding of the job's output encoding: what is written for characters
abbrev pub target_of : Job → Coding
target_of j = coding_of j.tables.now j.to

-- the pieces of some bytes in the job's output encoding, without mark handling
abbrev pub output_pieces : Job → List ℕ → List Piece
output_pieces j y = pieces_of j.tables.now (output_encoding_of j.to) y

-- what is written to output and log if no policy stops it, as items in order
abbrev pub whole_trace : Job → List ℕ → List Item
whole_trace j x = trace_from (reference_form j.policy) (target_of j) Ascii 0 0 (input_pieces j x)

-- what is written to output and log under a policy, as items in order: all, or, under `Stop`, up
-- to the first lost character's line
abbrev pub trace : Job → List ℕ → List Item
trace j x = written_under j.policy (whole_trace j x)

-- the policy stops no run on this input: it is one that never does, or each character of the text has its bytes
abbrev pub RunsThrough : Job → List ℕ → Type 0
RunsThrough j x = j.policy ≡ Policy.Stop → lost_count (target_of j) (input_text j x) ≡ 0

-- the bytes of the output for an input: all, or those up to where the job's policy stops
abbrev pub output_of : Job → List ℕ → List ℕ
output_of j x = output_bytes (tagged (trace j x))

-- the bytes of the log for an input: all, or those up to where the job's policy stops
abbrev pub log_of : Job → List ℕ → List ℕ
log_of j x = log_bytes (tagged (trace j x))

-- the log's line for the character with the index i, by its form: none if it has bytes
abbrev pub form_lines : ℕ → Form → List LogLine
form_lines i (Mapped bs) = []
form_lines i (Unmapped c) = Lost i c ∷ []

-- the log's lines for the characters without bytes in a text, whose first character has index i
abbrev pub lost_log_lines : Coding → ℕ → List ℕ → List LogLine
lost_log_lines e i [] = []
lost_log_lines e i (c ∷ t) = form_lines i (e.form c) ++ lost_log_lines e (i + 1) t

-- The lines of pieces, the first at this offset, by rising index: if a character stands for a malformed sequence its
-- line comes first, then that of the character, if it has no bytes.
abbrev pub log_lines : Coding → (offset i : ℕ) → List Piece → List LogLine
log_lines e offset i [] = []
log_lines e offset i (well_formed n cs ∷ ps) = lost_log_lines e i cs ++ log_lines e (offset + n) (i + length cs) ps
log_lines e offset i (malformed n ∷ ps) = Bad offset n ∷ (lost_log_lines e i (0xFFFD ∷ []) ++ log_lines e (offset + n) (i + 1) ps)

-- the log's lines up to that of the first lost character, with it
abbrev pub lines_up_to_loss : List LogLine → List LogLine
lines_up_to_loss [] = []
lines_up_to_loss (Bad offset size ∷ t) = Bad offset size ∷ lines_up_to_loss t
lines_up_to_loss (Lost index scalar ∷ t) = Lost index scalar ∷ []

-- No piece of the input is malformed, and the output, decoded without mark handling, has no
-- malformed sequence and is the text of the input, without a mark that is taken.
pub record Faithful (j : Job) (x : List ℕ) : Type 0 where
  pub source : AreWellFormed (input_pieces j x)
  pub target : AreWellFormed (output_pieces j (output_of j x))
  pub same : text (output_pieces j (output_of j x)) ≡ input_text j x
