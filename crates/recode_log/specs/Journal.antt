-- One journal of the calls of a reader, a writer and a log, in their one order.
use Rattle.std.specs.Prelude.{List, [], ◌∷◌}
use Rattle.recode_log.specs.Call.{Call}

-- one call of the reader, of the writer or of the log
pub data Entry : Type 0 where
  AtReader : (call : Call) → Entry
  AtWriter : (call : Call) → Entry
  AtLog : (call : Call) → Entry

-- the calls of the reader among those of a journal
abbrev pub reader_calls : List Entry → List Call
reader_calls [] = []
reader_calls (AtReader call ∷ es) = call ∷ reader_calls es
reader_calls (AtWriter call ∷ es) = reader_calls es
reader_calls (AtLog call ∷ es) = reader_calls es

-- those of the writer
abbrev pub writer_calls : List Entry → List Call
writer_calls [] = []
writer_calls (AtReader call ∷ es) = writer_calls es
writer_calls (AtWriter call ∷ es) = call ∷ writer_calls es
writer_calls (AtLog call ∷ es) = writer_calls es

-- those of the log
abbrev pub log_calls : List Entry → List Call
log_calls [] = []
log_calls (AtReader call ∷ es) = log_calls es
log_calls (AtWriter call ∷ es) = log_calls es
log_calls (AtLog call ∷ es) = call ∷ log_calls es
