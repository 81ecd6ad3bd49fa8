-- What the two writers take, in one order: each byte is one of the output or one of the log.
use Rattle.std.specs.Prelude.{◌≡◌, ℕ, List, [], ◌∷◌, ◌++◌, map}
use Rattle.std.specs.List.{flat_map}
use Rattle.encoding_mem.specs.Items.{Item, Byte, MalformedAt, LostAt}
use Rattle.recode_log.specs.Call.{Call, Passed, Failed, Flush}
use Rattle.recode_log.specs.Journal.{AtLog, AtReader, AtWriter, Entry}
use Rattle.recode_log.specs.Line.{line_bytes}
use Rattle.recode_log.specs.declared.line.LogLine.TheVariants.{Bad, Lost}

-- a byte that is written, as one of the output (`Out`) or one of the log (`Line`)
pub data TaggedByte : Type 0 where
  Out : ℕ → TaggedByte
  Line : ℕ → TaggedByte

-- the output's bytes among tagged bytes
abbrev pub output_bytes : List TaggedByte → List ℕ
output_bytes [] = []
output_bytes (Out b ∷ t) = b ∷ output_bytes t
output_bytes (Line b ∷ t) = output_bytes t

-- the log's bytes among tagged bytes
abbrev pub log_bytes : List TaggedByte → List ℕ
log_bytes [] = []
log_bytes (Out b ∷ t) = log_bytes t
log_bytes (Line b ∷ t) = b ∷ log_bytes t

-- the bytes of an item: one of the output, or those of its line in the log
abbrev pub tagged_item : Item → List TaggedByte
tagged_item (Byte b) = Out b ∷ []
tagged_item (MalformedAt offset size) = map Line (line_bytes (Bad offset size))
tagged_item (LostAt index scalar) = map Line (line_bytes (Lost index scalar))

-- the bytes that items are written as, in their order, each as one of the output or of the log
abbrev pub tagged : List Item → List TaggedByte
tagged items = flat_map tagged_item items

-- t is a prefix of u
abbrev pub IsPrefix : {X : Type 0} → List X → List X → Type 0
IsPrefix {X} t u = (rest : List X) × (u ≡ t ++ rest)

-- the bytes that a call passed
abbrev pub call_bytes : Call → List ℕ
call_bytes (Passed room bytes) = bytes
call_bytes (Failed room) = []
call_bytes (Flush failed) = []

-- what the writer and the log took in the calls of a journal, in their one order
abbrev pub order_of : List Entry → List TaggedByte
order_of [] = []
order_of (AtReader call ∷ es) = order_of es
order_of (AtWriter call ∷ es) = map Out (call_bytes call) ++ order_of es
order_of (AtLog call ∷ es) = map Line (call_bytes call) ++ order_of es
