-- A converter as its callers know it, and what its calls do.
use Rattle.std.specs.Prelude.{◌≡◌, ◌↔◌, ℕ, ◌+◌, ◌-◌, ◌<◌, IsTrue, List, [], ◌∷◌, ◌++◌, map, length, Bool, true, false}
use Rattle.encoding_mem.specs.Coding.{lost_count, reference_bytes}
use Rattle.encoding_mem.specs.Items.{Byte, Item, LostAt, MalformedAt, trace_from}
use Rattle.encoding_mem.specs.Piece.{Piece, malformed_count, sizes}
use Rattle.encoding_mem.specs.declared.codec.reference.Reference.{Reference}
use Rattle.encoding_tables.specs.IndexLists.{IndexLists}
use Rattle.recode_log.specs.Line.{IsValid}
use Rattle.recode_log.specs.declared.line.LogLine.TheVariants.{Bad, Lost}
use Rattle.recode.specs.Job.{Faithful, input_pieces, input_text, source_in, target_of, whole_trace}
use Rattle.recode.specs.Policy.{reference_form}
use Rattle.recode.specs.State.{State, characters_after, text_after}
use Rattle.recode.specs.Step.{IsNearlyDecided}
use Rattle.recode.specs.WrittenItems.{AreCounted}
use Rattle.recode.specs.calls.Verdict.{IsFaithfulFor}
use Rattle.recode.specs.declared.converter.ConverterResult.{ConverterResult}
use Rattle.recode.specs.declared.converter.ConverterResult.TheVariants.{Found, InputEmpty, OutputFull}
use Rattle.recode.specs.declared.converter.saved_converter.SavedJob.{SavedJob}
use Rattle.recode.specs.declared.job.Job.{Job}
use Rattle.recode.specs.declared.job.Report.{Report}

-- what a job says, without its tables
abbrev pub saved_job : Job → SavedJob
saved_job j = record { from = j.from; to = j.to; mark = j.mark; policy = j.policy; limit = j.limit }

-- ---- what is owed

-- the items still to be written, if these pieces wait, for the bytes to come
abbrev pub owed_after : List Piece → State → List ℕ → List Item
owed_after waiting s r = trace_from (reference_form s.policy) s.coding s.set (s.counts.read - (sizes waiting + s.decoder.pending)) s.counts.index (waiting ++ s.decoder.pieces r)

-- nothing was lost so far, and nothing will be of the pieces that wait and the bytes to come
abbrev pub WillBeKeptAfter : List Piece → State → List ℕ → Type 0
WillBeKeptAfter waiting s r = IsFaithfulFor (reference_form s.policy) s.verdict s.coding s.set (waiting ++ s.decoder.pieces r)

-- A converter as its callers know it: what its job says, and the indexes of that; where the conversion stands; the pieces
-- that are decoded and wait to be written; whether the end was read, and all that is left is to write what waits; and
-- whether all is written.
pub record ConverterView : Type 0 where
  pub job : SavedJob
  pub lists : IndexLists
  pub state : State
  pub waiting : List Piece
  pub ended : Bool
  pub over : Bool

-- the items that a converter has still to write for the bytes to come
abbrev pub owes : ConverterView → List ℕ → List Item
owes v = owed_after v.waiting v.state

-- nothing was lost so far, and nothing will be of these bytes
abbrev pub WillKeep : ConverterView → List ℕ → Type 0
WillKeep v = WillBeKeptAfter v.waiting v.state

-- how many characters the whole text has with the bytes to come
abbrev pub characters_of : ConverterView → List ℕ → ℕ
characters_of v = characters_after v.waiting v.state

-- ---- its calls

-- a converter of a job that has read nothing
pub record IsFreshConverter (v : ConverterView) (j : Job) : Type 0 where
  pub job : v.job ≡ saved_job j
  pub lists : v.lists ≡ j.tables.now
  pub owes_trace : (x : List ℕ) → owes v x ≡ whole_trace j x
  pub verdict : (x : List ℕ) → WillKeep v x ↔ Faithful j x
  pub source : (x : List ℕ) → v.state.source x ≡ source_in j x
  pub read : v.state.counts.read ≡ 0
  pub bad : v.state.counts.bad ≡ 0
  pub lost : v.state.counts.lost ≡ 0
  pub index : v.state.counts.index ≡ 0
  pub text_ : (x : List ℕ) → text_after v.waiting v.state x ≡ input_text j x
  pub ended : v.ended ≡ false
  pub over : v.over ≡ false

-- the items of what was found: its line, and after that of a lost character its reference
abbrev pub found_items : Reference → ConverterResult → List Item
found_items ref InputEmpty = []
found_items ref OutputFull = []
found_items ref (Found (Bad offset size)) = MalformedAt offset size ∷ []
found_items ref (Found (Lost index scalar)) = LostAt index scalar ∷ map Byte (reference_bytes ref scalar)

-- whether a call ended with all converted
abbrev pub is_all_converted : ConverterResult → Bool
is_all_converted InputEmpty = true
is_all_converted OutputFull = false
is_all_converted (Found line) = false

-- THE LAW. Of these bytes the rest is left. Whatever comes after them, nothing after the last: what was owed is these
-- items, then what is owed now.
pub record ConvertsPart (v v' : ConverterView) (last : Bool) (bytes rest : List ℕ) (items : List Item) : Type 0 where
  pub job : v'.job ≡ v.job
  pub lists : v'.lists ≡ v.lists
  pub owed : (r : List ℕ) → (last ≡ true → r ≡ []) → owes v (bytes ++ r) ≡ items ++ owes v' (rest ++ r)
  pub verdict : (r : List ℕ) → (last ≡ true → r ≡ []) → WillKeep v (bytes ++ r) ↔ WillKeep v' (rest ++ r)
  pub source : (r : List ℕ) → (last ≡ true → r ≡ []) → v.state.source (bytes ++ r) ≡ v'.state.source (rest ++ r)
  pub counted : v'.state.counts.read + length rest ≡ v.state.counts.read + length bytes
  pub characters : (r : List ℕ) → (last ≡ true → r ≡ []) → characters_of v (bytes ++ r) ≡ characters_of v' (rest ++ r)
  pub lines : AreCounted v.state.counts v'.state.counts items
  pub ended : v'.ended ≡ true → (last ≡ true) × (rest ≡ [])

-- Calls of a converter, from a new one of a job on: of these bytes the rest is left, to be handed in again, and they
-- wrote and found these items.
pub record ConvertedSoFar (j : Job) (last : Bool) (bytes rest : List ℕ) (items : List Item) (v : ConverterView) : Type 0 where
  pub new : ConverterView
  pub fresh : IsFreshConverter new j
  pub law : ConvertsPart new v last bytes rest items

-- the report on the conversion of an input x, but for the number of calls: its counts, its source encoding, its verdict
pub record IsReportButCalls (j : Job) (x : List ℕ) (p : Report) : Type 0 where
  pub read : p.read ≡ length x
  pub bad : p.bad ≡ malformed_count (input_pieces j x)
  pub lost : p.lost ≡ lost_count (target_of j) (input_text j x)
  pub encoding : p.encoding ≡ source_in j x
  pub faithful : IsTrue p.faithful ↔ Faithful j x

-- nothing is owed, all characters of the text are counted, and whether anything was lost is known
pub record IsWhole (v : ConverterView) : Type 0 where
  pub written : owes v [] ≡ []
  pub counted : characters_of v [] ≡ v.state.counts.index
  pub told : WillKeep v [] ↔ IsTrue v.state.verdict.faithful

-- All that was handed in is read, and all that it decides is written: no piece waits, and what the decoder holds is
-- nearly decided. After the last byte all is written.
pub record AllIsConverted (v : ConverterView) (unread : List ℕ) (last : Bool) : Type 0 where
  pub all : unread ≡ []
  pub none : v.waiting ≡ []
  pub settled : IsNearlyDecided v.state.decoder
  pub over : v.over ≡ last
  pub ended : v.ended ≡ false
  pub whole : last ≡ true → IsWhole v

-- why a call ended: all is converted, or fewer than 4 bytes are free, or something was found
abbrev pub ConverterEndsWith : ConverterView → (unread : List ℕ) → (last : Bool) → (free : ℕ) → ConverterResult → Type 0
ConverterEndsWith v unread last free InputEmpty = AllIsConverted v unread last
ConverterEndsWith v unread last free OutputFull = (free < 4) × (v.over ≡ false)
ConverterEndsWith v unread last free (Found line) = IsValid line × (v.over ≡ false)
