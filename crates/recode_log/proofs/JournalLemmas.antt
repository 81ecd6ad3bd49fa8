-- A journal catches up with the history of the device that was called, and keeps what it has of the others.
use Rattle.std.proofs.Common.{◌≡◌, List, [], ◌∷◌, ◌++◌, map, length, drop, refl, sym, ap, ◌∙◌, append-nil}
use Rattle.recode_log.specs.Call.{Call}
use Rattle.recode_log.specs.Journal.{AtLog, AtReader, AtWriter, Entry, log_calls, reader_calls, writer_calls}
use Rattle.recode_log.specs.laws.Journal.{log_at_log, log_at_reader, log_at_writer, log_calls-append, reader_at_log, reader_at_reader, reader_at_writer, reader_calls-append, writer_at_log, writer_at_reader, writer_at_writer, writer_calls-append}

-- what stands behind those calls that a journal has
behind : (old calls : List Call) → drop (length old) (old ++ calls) ≡ calls
behind [] calls = refl
behind (call ∷ old) calls = behind old calls

news : (known old new calls : List Call) → known ≡ old → new ≡ old ++ calls → drop (length known) new ≡ calls
news known old new calls is made = ap (λ l. drop (length l) new) is ∙ ap (drop (length old)) made ∙ behind old calls

-- h is the history of the device before these calls, h' after them
module _ (es es' : List Entry) (h h' calls : List Call) (made : h' ≡ h ++ calls) where
  module _ (is : reader_calls es ≡ h) (caught : es' ≡ es ++ map AtReader (drop (length (reader_calls es)) h')) where
    pub reader_made : es' ≡ es ++ map AtReader calls
    reader_made = caught ∙ ap (λ l. es ++ map AtReader l) (news (reader_calls es) h h' calls is made)

    pub reader_is : reader_calls es' ≡ h'
    reader_is = ap reader_calls reader_made ∙ reader_calls-append es (map AtReader calls) ∙ ap (λ l. reader_calls es ++ l) (reader_at_reader calls) ∙ ap (λ l. l ++ calls) is ∙ sym made

  module _ (is : writer_calls es ≡ h) (caught : es' ≡ es ++ map AtWriter (drop (length (writer_calls es)) h')) where
    pub writer_made : es' ≡ es ++ map AtWriter calls
    writer_made = caught ∙ ap (λ l. es ++ map AtWriter l) (news (writer_calls es) h h' calls is made)

    pub writer_is : writer_calls es' ≡ h'
    writer_is = ap writer_calls writer_made ∙ writer_calls-append es (map AtWriter calls) ∙ ap (λ l. writer_calls es ++ l) (writer_at_writer calls) ∙ ap (λ l. l ++ calls) is ∙ sym made

  module _ (is : log_calls es ≡ h) (caught : es' ≡ es ++ map AtLog (drop (length (log_calls es)) h')) where
    pub log_made : es' ≡ es ++ map AtLog calls
    log_made = caught ∙ ap (λ l. es ++ map AtLog l) (news (log_calls es) h h' calls is made)

    pub log_is : log_calls es' ≡ h'
    log_is = ap log_calls log_made ∙ log_calls-append es (map AtLog calls) ∙ ap (λ l. log_calls es ++ l) (log_at_log calls) ∙ ap (λ l. l ++ calls) is ∙ sym made

-- what it has of another device stays
module _ (es es' : List Entry) (h calls : List Call) where
  pub reader_by_writer : reader_calls es ≡ h → es' ≡ es ++ map AtWriter calls → reader_calls es' ≡ h
  reader_by_writer is made = ap reader_calls made ∙ reader_calls-append es (map AtWriter calls) ∙ ap (λ l. reader_calls es ++ l) (reader_at_writer calls) ∙ append-nil (reader_calls es) ∙ is

  pub reader_by_log : reader_calls es ≡ h → es' ≡ es ++ map AtLog calls → reader_calls es' ≡ h
  reader_by_log is made = ap reader_calls made ∙ reader_calls-append es (map AtLog calls) ∙ ap (λ l. reader_calls es ++ l) (reader_at_log calls) ∙ append-nil (reader_calls es) ∙ is

  pub writer_by_reader : writer_calls es ≡ h → es' ≡ es ++ map AtReader calls → writer_calls es' ≡ h
  writer_by_reader is made = ap writer_calls made ∙ writer_calls-append es (map AtReader calls) ∙ ap (λ l. writer_calls es ++ l) (writer_at_reader calls) ∙ append-nil (writer_calls es) ∙ is

  pub writer_by_log : writer_calls es ≡ h → es' ≡ es ++ map AtLog calls → writer_calls es' ≡ h
  writer_by_log is made = ap writer_calls made ∙ writer_calls-append es (map AtLog calls) ∙ ap (λ l. writer_calls es ++ l) (writer_at_log calls) ∙ append-nil (writer_calls es) ∙ is

  pub log_by_reader : log_calls es ≡ h → es' ≡ es ++ map AtReader calls → log_calls es' ≡ h
  log_by_reader is made = ap log_calls made ∙ log_calls-append es (map AtReader calls) ∙ ap (λ l. log_calls es ++ l) (log_at_reader calls) ∙ append-nil (log_calls es) ∙ is

  pub log_by_writer : log_calls es ≡ h → es' ≡ es ++ map AtWriter calls → log_calls es' ≡ h
  log_by_writer is made = ap log_calls made ∙ log_calls-append es (map AtWriter calls) ∙ ap (λ l. log_calls es ++ l) (log_at_writer calls) ∙ append-nil (log_calls es) ∙ is
