-- What a clause reads of a reader, a writer and a log with one journal, and how their calls are put into it.
use Rattle.std.specs.Prelude.{◌≡◌, List, ◌++◌, map}
use Rattle.recode_log.specs.Call.{Call}
use Rattle.recode_log.specs.Journal.{AtLog, AtReader, AtWriter, Entry}
use Rattle.recode_log.specs.declared.ports.Ports.{Ports}

-- the journal of a reader, a writer and a log: their calls, in their one order
abbrev pub journal_of : {R W L : Type 0} → Ports R W L → List Entry
journal_of p = p.journal.entries

-- The three are references to the same devices.
pub record SameDevices {R W L : Type 0} (before after : Ports R W L) : Type 0 where
  pub reader : after.reader.ghost_name ≡ before.reader.ghost_name
  pub writer : after.writer.ghost_name ≡ before.writer.ghost_name
  pub log : after.log.ghost_name ≡ before.log.ghost_name

-- These calls of the reader were made, and none of another device.
pub record CallsReader {R W L : Type 0} (before after : Ports R W L) : Type 0 where
  pub calls : List Call
  pub same : SameDevices before after
  pub made : journal_of after ≡ journal_of before ++ map AtReader calls
  pub writer : after.writer.now ≡ before.writer.now
  pub log : after.log.now ≡ before.log.now

-- These calls of the writer were made, and none of another device.
pub record CallsWriter {R W L : Type 0} (before after : Ports R W L) : Type 0 where
  pub calls : List Call
  pub same : SameDevices before after
  pub made : journal_of after ≡ journal_of before ++ map AtWriter calls
  pub reader : after.reader.now ≡ before.reader.now
  pub log : after.log.now ≡ before.log.now

-- These calls of the log were made, and none of another device.
pub record CallsLog {R W L : Type 0} (before after : Ports R W L) : Type 0 where
  pub calls : List Call
  pub same : SameDevices before after
  pub made : journal_of after ≡ journal_of before ++ map AtLog calls
  pub reader : after.reader.now ≡ before.reader.now
  pub writer : after.writer.now ≡ before.writer.now
