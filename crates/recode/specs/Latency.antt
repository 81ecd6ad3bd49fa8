-- How far a conversion has come: what is written while the input goes on.
use Rattle.std.specs.Prelude.{◌≡◌, ℕ, ◌+◌, ◌-◌, ◌≤◌, List, ◌++◌, length, take}
use Rattle.std.specs.List.{flat_map}
use Rattle.encoding_mem.specs.Piece.{Piece, sizes, text}
use Rattle.encoding_mem.specs.Items.{Item, closing}
use Rattle.encoding_mem.specs.Coding.{last_set, open_from}
use Rattle.encoding_mem.specs.declared.codec.form.EscapeState.TheVariants.{Ascii}
use Rattle.encoding_mem.specs.Decided.{AreBytes, IsDecided}
use Rattle.recode_log.specs.Line.{line_bytes}
use Rattle.recode.specs.Job.{input_pieces, input_text, log_lines, target_of, whole_trace}
use Rattle.recode.specs.Policy.{reference_form, written_under}
use Rattle.recode.specs.State.{State}
use Rattle.recode.specs.Devices.{Devices, Gave, Grew, Written, Wrote}
use Rattle.recode.specs.TaggedByte.{IsPrefix, TaggedByte, tagged}
use Rattle.recode.specs.declared.job.Job.{Job}

-- A conversion of a job has read x, and has converted the pieces ps: those of x, however it goes on, are ps and then
-- what is to come. The output so far is the text of ps, and the log so far their lines.
pub record HasReached (before after : Devices) (j : Job) (s : State) (x : List ℕ) (ps : List Piece) : Type 0 where
  pub coding : s.coding ≡ target_of j
  pub policy : s.policy ≡ j.policy
  pub read : s.counts.read ≡ length x
  pub given : Gave before.reads after.reads x
  pub pieces : (r : List ℕ) → input_pieces j (x ++ r) ≡ ps ++ s.decoder.pieces r
  pub passed : sizes ps + s.decoder.pending ≡ length x
  pub set : s.set ≡ last_set (target_of j) Ascii (text ps)
  pub index : s.counts.index ≡ length (text ps)
  pub output : Grew before.written.output after.written.output (open_from (reference_form j.policy) (target_of j) Ascii (text ps))
  pub logged : Grew before.written.log after.written.log (flat_map line_bytes (log_lines (target_of j) 0 0 ps))

-- what is written for x, as items, without the escape to ASCII with which the output ends
abbrev pub open_trace : Job → List ℕ → List Item
open_trace j x = let ends : List Item = closing (target_of j) (last_set (target_of j) Ascii (input_text j x)) in
    written_under j.policy (take (length (whole_trace j x) - length ends) (whole_trace j x))

-- these items come first in what is written, whatever bytes follow x
abbrev pub ComeFirst : Job → List ℕ → List Item → Type 0
ComeFirst j x items = (r : List ℕ) → AreBytes r → IsPrefix items (open_trace j (x ++ r))

-- What was taken is the longest list of items that come first in what is written, whatever bytes follow x.
pub record TookCertain (j : Job) (x : List ℕ) (taken : List TaggedByte) : Type 0 where
  pub items : List Item
  pub first : ComeFirst j x items
  pub longest : (more : List Item) → ComeFirst j x more → IsPrefix more items
  pub whole : taken ≡ tagged items

-- What was written is all that is certain of what was read, output and log in their one order: no more and no less.
pub record KeepsPace (before after : Devices) (j : Job) : Type 0 where
  pub input : List ℕ
  pub given : Gave before.reads after.reads input
  pub taken : List TaggedByte
  pub wrote : Wrote before.written after.written taken
  pub certain : TookCertain j input taken

-- What was written for x is the text of the pieces ps, and what was logged their lines: of all that x decides, however
-- it goes on, no more and no less, and with it each piece that ends three or more bytes before its end.
pub record WroteDecided (before after : Written) (j : Job) (x : List ℕ) (ps : List Piece) : Type 0 where
  pub decided : IsDecided (input_pieces j) x ps
  pub longest : (qs : List Piece) → IsDecided (input_pieces j) x qs → IsPrefix qs ps
  pub soon : (y : List ℕ) (qs more : List Piece) → input_pieces j (x ++ y) ≡ qs ++ more → sizes qs + 3 ≤ length x → IsPrefix qs ps
  pub output : Grew before.output after.output (open_from (reference_form j.policy) (target_of j) Ascii (text ps))
  pub logged : Grew before.log after.log (flat_map line_bytes (log_lines (target_of j) 0 0 ps))
