-- What a journal has of each device after calls more.
use Rattle.std.proofs.Common.{◌≡◌, List, [], ◌∷◌, ◌++◌, map, refl, sym, ap, ◌∙◌}
use Rattle.recode_log.specs.Call.{Call}
use Rattle.recode_log.specs.Counted.{history_of}
use Rattle.recode_log.specs.Journal.{AtLog, AtReader, AtWriter, Entry, log_calls, reader_calls, writer_calls}
use Rattle.recode_log.specs.Ports.{CallsLog, CallsReader, CallsWriter, journal_of}
use Rattle.recode_log.specs.declared.ports.Ports.{Ports}

pub reader_calls-append : (a b : List Entry) → reader_calls (a ++ b) ≡ reader_calls a ++ reader_calls b
reader_calls-append [] b = refl
reader_calls-append (AtReader call ∷ a) b = ap (λ l. call ∷ l) (reader_calls-append a b)
reader_calls-append (AtWriter call ∷ a) b = reader_calls-append a b
reader_calls-append (AtLog call ∷ a) b = reader_calls-append a b

pub writer_calls-append : (a b : List Entry) → writer_calls (a ++ b) ≡ writer_calls a ++ writer_calls b
writer_calls-append [] b = refl
writer_calls-append (AtReader call ∷ a) b = writer_calls-append a b
writer_calls-append (AtWriter call ∷ a) b = ap (λ l. call ∷ l) (writer_calls-append a b)
writer_calls-append (AtLog call ∷ a) b = writer_calls-append a b

pub log_calls-append : (a b : List Entry) → log_calls (a ++ b) ≡ log_calls a ++ log_calls b
log_calls-append [] b = refl
log_calls-append (AtReader call ∷ a) b = log_calls-append a b
log_calls-append (AtWriter call ∷ a) b = log_calls-append a b
log_calls-append (AtLog call ∷ a) b = ap (λ l. call ∷ l) (log_calls-append a b)

-- ---- calls of one device

pub reader_at_reader : (calls : List Call) → reader_calls (map AtReader calls) ≡ calls
reader_at_reader [] = refl
reader_at_reader (call ∷ calls) = ap (λ l. call ∷ l) (reader_at_reader calls)

pub reader_at_writer : (calls : List Call) → reader_calls (map AtWriter calls) ≡ []
reader_at_writer [] = refl
reader_at_writer (call ∷ calls) = reader_at_writer calls

pub reader_at_log : (calls : List Call) → reader_calls (map AtLog calls) ≡ []
reader_at_log [] = refl
reader_at_log (call ∷ calls) = reader_at_log calls

pub writer_at_reader : (calls : List Call) → writer_calls (map AtReader calls) ≡ []
writer_at_reader [] = refl
writer_at_reader (call ∷ calls) = writer_at_reader calls

pub writer_at_writer : (calls : List Call) → writer_calls (map AtWriter calls) ≡ calls
writer_at_writer [] = refl
writer_at_writer (call ∷ calls) = ap (λ l. call ∷ l) (writer_at_writer calls)

pub writer_at_log : (calls : List Call) → writer_calls (map AtLog calls) ≡ []
writer_at_log [] = refl
writer_at_log (call ∷ calls) = writer_at_log calls

pub log_at_reader : (calls : List Call) → log_calls (map AtReader calls) ≡ []
log_at_reader [] = refl
log_at_reader (call ∷ calls) = log_at_reader calls

pub log_at_writer : (calls : List Call) → log_calls (map AtWriter calls) ≡ []
log_at_writer [] = refl
log_at_writer (call ∷ calls) = log_at_writer calls

pub log_at_log : (calls : List Call) → log_calls (map AtLog calls) ≡ calls
log_at_log [] = refl
log_at_log (call ∷ calls) = ap (λ l. call ∷ l) (log_at_log calls)

-- ---- devices with one journal

module _ {R W L : Type 0} (a b : Ports R W L) where
  -- the history of the device that was called grew by the calls that the journal has of it
  pub history_of_reader : (h : CallsReader a b) → history_of b.reader.now ≡ history_of a.reader.now ++ h.calls
  history_of_reader h =
      sym b.of_reader ∙ ap reader_calls h.made ∙ reader_calls-append (journal_of a) (map AtReader h.calls) ∙ ap (λ l. reader_calls (journal_of a) ++ l) (reader_at_reader h.calls) ∙ ap (λ l. l ++ h.calls) a.of_reader

  pub history_of_writer : (h : CallsWriter a b) → history_of b.writer.now ≡ history_of a.writer.now ++ h.calls
  history_of_writer h =
      sym b.of_writer ∙ ap writer_calls h.made ∙ writer_calls-append (journal_of a) (map AtWriter h.calls) ∙ ap (λ l. writer_calls (journal_of a) ++ l) (writer_at_writer h.calls) ∙ ap (λ l. l ++ h.calls) a.of_writer

  pub history_of_log : (h : CallsLog a b) → history_of b.log.now ≡ history_of a.log.now ++ h.calls
  history_of_log h =
      sym b.of_log ∙ ap log_calls h.made ∙ log_calls-append (journal_of a) (map AtLog h.calls) ∙ ap (λ l. log_calls (journal_of a) ++ l) (log_at_log h.calls) ∙ ap (λ l. l ++ h.calls) a.of_log
