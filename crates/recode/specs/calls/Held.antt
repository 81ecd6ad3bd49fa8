-- What is held of the log and of the output, and how lines and bytes are passed on after it.
use Rattle.std.specs.Prelude.{◌≡◌, List, [], ◌∷◌, ◌++◌, map, Bool, ℕ, Option, Some, None}
use Rattle.encoding_mem.specs.Items.{Item, Byte, LostAt, MalformedAt}
use Rattle.recode_log.specs.Line.{line_bytes}
use Rattle.recode_log.specs.declared.line.LogLine.{LogLine}
use Rattle.recode_log.specs.declared.line.LogLine.TheVariants.{Bad, Lost}
use Rattle.recode.specs.Devices.{Written, Wrote}
use Rattle.recode.specs.TaggedByte.{tagged}
use Rattle.recode.specs.WrittenItems.{WritesPrefix, WritesPrefixFor}
use Rattle.recode.specs.declared.job.Fault.{Fault}
use Rattle.recode.specs.declared.job.Policy.{Policy}
use Rattle.recode.specs.declared.writers.MalformedLine.{MalformedLine}

-- What a writer and a log have taken, and what is held: a line, if there is one, which the log is given next, and then
-- bytes, which the writer is given.
pub record WritersView : Type 0 where
  pub written : Written
  pub line : Option MalformedLine
  pub bytes : List ℕ

-- writers for which nothing is held
abbrev pub holding_none : Written → WritersView
holding_none w = record { written = w; line = None; bytes = [] }

-- the item that a line of the log names
abbrev pub item_of : LogLine → Item
item_of (Bad offset size) = MalformedAt offset size
item_of (Lost index scalar) = LostAt index scalar

-- a line that is held, as one of the log
abbrev pub log_line_of : MalformedLine → LogLine
log_line_of line = Bad line.offset line.length

-- the bytes of the line that is held, if there is one
abbrev pub held_line_bytes : Option MalformedLine → List ℕ
held_line_bytes None = []
held_line_bytes (Some line) = line_bytes (log_line_of line)

-- the item of the line that is held, if there is one
abbrev pub line_items : Option MalformedLine → List Item
line_items None = []
line_items (Some line) = item_of (log_line_of line) ∷ []

-- the items that are held, in the order in which they are written
abbrev pub held_items : WritersView → List Item
held_items w = line_items w.line ++ map Byte w.bytes

-- Items were passed: what was held and they are what was written and what is held now.
pub record Passes (before after : WritersView) (items : List Item) : Type 0 where
  pub delivered : List Item
  pub wrote : Wrote before.written after.written (tagged delivered)
  pub in_order : held_items before ++ items ≡ delivered ++ held_items after

-- bytes of the output were passed
abbrev pub PassesBytes : (before after : WritersView) (bytes : List ℕ) → Type 0
PassesBytes before after bytes = Passes before after (map Byte bytes)

-- the writers took so much of what was held and of what was still to be passed
abbrev pub LeavesPrefix : (before after : WritersView) (p : Policy) (f : Fault) (to_write : List Item) → Type 0
LeavesPrefix before after p f to_write = WritesPrefix before.written after.written p f (held_items before ++ to_write)

-- the writers took so much, whatever bytes follow, none if the input ends
abbrev pub LeavesPrefixFor : (before after : WritersView) (p : Policy) (f : Fault) (last : Bool) (to_write : List ℕ → List Item) → Type 0
LeavesPrefixFor before after p f last to_write = WritesPrefixFor before.written after.written p f last (λ r. held_items before ++ to_write r)
