-- What a part's log becomes in the log of the whole.
use Rattle.std.specs.Prelude.{◌≡◌, ℕ, ◌+◌, ◌<◌, ◌≤◌, ◌^◌, List, ◌∷◌, ◌++◌, [], length, map, take}
use Rattle.std.specs.List.{All, flat_map}
use Rattle.recode_log.specs.Call.{Call, Failed, Flush, Passed, failed_read}
use Rattle.recode_log.specs.Counted.{CountsWrites, failures_of, history_of}
use Rattle.recode_log.specs.Line.{IsValid, line_bytes}
use Rattle.recode_log.specs.declared.counted.Counted.{Counted}
use Rattle.recode_log.specs.declared.line.LogLine.{LogLine}
use Rattle.recode.specs.Devices.{Gave, GaveToEnd, Grew, reads_of}
use Rattle.recode.specs.Parts.{moved_line}
use Rattle.recode_places.specs.Logs.{CanBeLogged}

-- Bytes can be moved by n bytes and m characters: they are lines of a log, and each is one after it is moved, too.
pub record CanBeMoved (n m : ℕ) (bytes : List ℕ) : Type 0 where
  pub lines : List LogLine
  pub logged : All CanBeLogged lines
  pub moved : All (λ l. IsValid (moved_line n m l)) lines
  pub read : bytes ≡ flat_map line_bytes lines

-- Some bytes are lines of a log, and others are these lines, moved by n bytes and m characters, which are lines of a log, too.
pub record MovesLines (n m : ℕ) (bytes moved : List ℕ) : Type 0 where
  pub from : CanBeMoved n m bytes
  pub written : moved ≡ flat_map line_bytes (map (moved_line n m) from.lines)

-- Calls of a reader gave a part's log to its end, of at most 2^55 bytes, and the log of the whole grew by its lines, moved
-- by n bytes and m characters.
pub record JoinsLog (n m : ℕ) (reads reads' : List (List ℕ)) (log log' : List ℕ) : Type 0 where
  pub part : List ℕ
  pub moved : List ℕ
  pub given : GaveToEnd reads reads' part
  pub size : length part ≤ 2 ^ 55
  pub lines : MovesLines n m part moved
  pub wrote : Grew log log' moved

-- Calls of a reader gave lines of a part's log, and more, and the log of the whole grew by a prefix of these lines, moved
-- by n bytes and m characters.
pub record JoinsFirst (n m : ℕ) (reads reads' : List (List ℕ)) (log log' : List ℕ) : Type 0 where
  pub first : List ℕ
  pub more : List ℕ
  pub moved : List ℕ
  pub count : ℕ
  pub given : Gave reads reads' (first ++ more)
  pub lines : MovesLines n m first moved
  pub wrote : Grew log log' (take count moved)

-- a call of a reader gave so many bytes, which are held behind those that were
pub record ReadsMore {R : Type 0} (before after : Counted R) (held held' : List ℕ) (count : ℕ) : Type 0 where
  pub bytes : List ℕ
  pub size : length bytes ≡ count
  pub gave : reads_of after ≡ reads_of before ++ (bytes ∷ [])
  pub holds : held' ≡ held ++ bytes
  pub failures : failures_of after ≡ failures_of before

-- a call is a read with room for some bytes, whatever came of it
abbrev pub IsReadOfSome : Call → Type 0
IsReadOfSome (Passed room bytes) = 0 < room
IsReadOfSome (Failed room) = 0 < room
IsReadOfSome (Flush failed) = ⊥

-- how many of a reader's calls failed
abbrev pub failed_reads : List Call → ℕ
failed_reads [] = 0
failed_reads (call ∷ calls) = failed_read call + failed_reads calls

-- These calls of a reader were made, each a read with room for some bytes, and the count rose by those of them that failed.
pub record MadeReads {R : Type 0} (before after : Counted R) (calls : List Call) : Type 0 where
  pub made : history_of after ≡ history_of before ++ calls
  pub some : All IsReadOfSome calls
  pub counted : failures_of after ≡ failures_of before + failed_reads calls

-- The reader of a part's log was called by reads with room for some bytes, and the writer by writes of some bytes. The
-- count of each rose by as many as failed.
pub record JoinCalls {R W : Type 0} (part part' : Counted R) (whole whole' : Counted W) : Type 0 where
  pub calls : List Call
  pub reads : MadeReads part part' calls
  pub writes : CountsWrites whole whole'
