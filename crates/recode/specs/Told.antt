-- What devices say of their bytes, if they do, beside what their calls passed.
use Rattle.std.specs.Prelude.{ℕ, List, Option}
use Rattle.recode_log.specs.Counted.{inner_of}
use Rattle.recode_log.specs.Told.{TellsReads, TellsTaken}
use Rattle.recode_log.specs.declared.counted.Counted.{Counted}
use Rattle.recode_log.specs.declared.ports.Ports.{Ports}
use Rattle.recode.specs.Devices.{Devices}

-- the bytes that a reader has still to give, and those that a writer and a log hold, as far as the contract of each says
-- them
pub record Told : Type 0 where
  pub input : Option (List ℕ)
  pub output : Option (List ℕ)
  pub log : Option (List ℕ)

-- what a reader, a writer and a log say of their bytes
abbrev pub told_in : {R W L : Type 0} → (R → Option (List ℕ)) → (W → Option (List ℕ)) → (L → Option (List ℕ)) → Counted R → Counted W → Counted L → Told
told_in remaining contents logged reader writer log = record { input = remaining (inner_of reader); output = contents (inner_of writer); log = logged (inner_of log) }

-- the same of those that `Ports` calls
abbrev pub told_at : {R W L : Type 0} → (R → Option (List ℕ)) → (W → Option (List ℕ)) → (L → Option (List ℕ)) → Ports R W L → Told
told_at remaining contents logged p = told_in remaining contents logged p.reader.now p.writer.now p.log.now

-- what devices say of their bytes, if they do, is what their calls passed
pub record TellWhatPassed (before after : Devices) (told told' : Told) : Type 0 where
  pub input : TellsReads before.reads after.reads told.input told'.input
  pub output : TellsTaken before.written.output after.written.output told.output told'.output
  pub log : TellsTaken before.written.log after.written.log told.log told'.log
