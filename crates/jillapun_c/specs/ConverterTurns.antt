-- What a turn of a conversion does.
use Rattle.std.specs.Prelude.{◌≡◌, ◌⊎◌, ◌+◌, ◌≤◌, ◌<◌, ℕ, Bool, true, false, List, [], ◌++◌, drop, length, map, take}
use Rattle.encoding_mem.specs.Coding.{reference_bytes}
use Rattle.encoding_mem.specs.Items.{Byte}
use Rattle.encoding_mem.specs.declared.codec.reference.Reference.{Reference}
use Rattle.recode_log.specs.Line.{line_bytes}
use Rattle.recode_log.specs.declared.line.LogLine.{LogLine}
use Rattle.recode_log.specs.declared.line.LogLine.TheVariants.{Bad, Lost}
use Rattle.recode.specs.Converter.{AllIsConverted, ConverterEndsWith, ConvertsPart, found_items, owes}
use Rattle.recode.specs.Policy.{reference_form}
use Rattle.recode.specs.declared.converter.ConverterResult.{ConverterResult}
use Rattle.recode.specs.declared.converter.ConverterResult.TheVariants.{Found, InputEmpty, OutputFull}
use Rattle.recode.specs.declared.job.Policy.{Policy}
use Rattle.jillapun_c.specs.Converters.{StepView, HoldsNothing, held_losses}
use Rattle.jillapun_c.specs.Losses.{log_of_losses}
use Rattle.jillapun_c.specs.declared.converter.Stage.{Stage}
use Rattle.jillapun_c.specs.declared.converter.Stage.TheVariants.{Open, Stopped, TooLong}

-- a converter can make a turn: all that it made was handed out, and its conversion goes on
pub record CanTurn (c : StepView) : Type 0 where
  pub empty : HoldsNothing c
  pub stage : c.stage ≡ Open
  pub over : c.stream.over ≡ false

-- the bytes that a policy writes for what was found: the reference of a lost character, unless it stops
abbrev pub line_reference : Policy → LogLine → List ℕ
line_reference p (Bad offset size) = []
line_reference Policy.Decimal (Lost index scalar) = reference_bytes Reference.Decimal scalar
line_reference Policy.Hexadecimal (Lost index scalar) = reference_bytes Reference.Hexadecimal scalar
line_reference Policy.Stop (Lost index scalar) = []

-- the stage of a conversion after what was found: it goes on, unless the policy stops
abbrev pub stage_at : Policy → LogLine → Stage
stage_at p (Bad offset size) = Open
stage_at Policy.Decimal (Lost index scalar) = Open
stage_at Policy.Hexadecimal (Lost index scalar) = Open
stage_at Policy.Stop (Lost index scalar) = Stopped index scalar

-- the bytes that are written for what a call found
abbrev pub found_reference : Policy → ConverterResult → List ℕ
found_reference p InputEmpty = []
found_reference p OutputFull = []
found_reference p (Found line) = line_reference p line

-- the log of what a call found
abbrev pub found_log : ConverterResult → List ℕ
found_log InputEmpty = []
found_log OutputFull = []
found_log (Found line) = line_bytes line

-- Bytes were converted: what was written stands in a room from a place on, or waits for room. It ended since all is
-- converted, since fewer than 4 bytes were free, if none was written then more, or since something was found.
pub record ConvertsInto (c c' : StepView) (last : Bool) (src rest dst dst' : List ℕ) (at to : ℕ) (result : ConverterResult) : Type 0 where
  pub bytes : List ℕ
  pub law : ConvertsPart c.stream c'.stream last src rest (map Byte bytes ++ found_items (reference_form c.stream.job.policy) result)
  pub free : ℕ
  pub ends : ConverterEndsWith c'.stream rest last free result
  pub room : 4 ≤ free + length bytes
  pub written : take to dst' ++ c'.held ≡ take at dst ++ bytes
  pub from : at ≤ to
  pub fits : to ≤ length dst'
  pub behind : drop to dst' ≡ drop to dst
  pub held : length c'.held ≤ 22
  pub same : c' ≡ record c { stream = c'.stream; held = c'.held }

-- a line that was found is taken: its record is held, and its reference after the bytes that are held; or it stops the
-- conversion
pub record TakesFound (c c' : StepView) (line : LogLine) : Type 0 where
  pub held : c'.held ≡ c.held ++ line_reference c.stream.job.policy line
  pub logged : log_of_losses (held_losses c') ≡ line_bytes line
  pub stage : c'.stage ≡ stage_at c.stream.job.policy line
  pub same : c' ≡ record c { held = c'.held; loss = c'.loss; stage = c'.stage }

-- what is done about how a call ended: if it was handed less than there is, since the limit allows no more, and has
-- converted all of that, the input is too long
abbrev pub TakesEnd : StepView → StepView → ConverterResult → (all : Bool) → Type 0
TakesEnd c c' InputEmpty true = c' ≡ c
TakesEnd c c' InputEmpty false = c' ≡ record c { stage = TooLong }
TakesEnd c c' OutputFull all = c' ≡ c
TakesEnd c c' (Found line) all = TakesFound c c' line

-- the input is longer than the limit, and all that the limit allows is converted
pub record PassesLimit (c c' : StepView) (src : List ℕ) : Type 0 where
  pub stage : c'.stage ≡ TooLong
  pub long : c.stream.job.limit < c.stream.state.counts.read + length src
  pub read : c'.stream.state.counts.read ≡ c.stream.job.limit
  pub all : AllIsConverted c'.stream [] false

-- how a turn ended
abbrev pub TurnEnds : StepView → StepView → (last : Bool) → (src rest : List ℕ) → ConverterResult → Type 0
TurnEnds c c' last src rest InputEmpty = ((c'.stage ≡ Open) × AllIsConverted c'.stream rest last) ⊎ PassesLimit c c' src
TurnEnds c c' last src rest OutputFull = (c'.stage ≡ Open) × (c'.stream.over ≡ false)
TurnEnds c c' last src rest (Found line) = (c'.stage ≡ stage_at c.stream.job.policy line) × (c'.stream.over ≡ false)

-- A turn: of these bytes the rest is left. What was written stands in a room from a place on or waits for room, and so
-- does the record of what was found. Less is owed then, unless all is converted and nothing waits.
pub record MakesTurn (c c' : StepView) (last : Bool) (src rest dst dst' : List ℕ) (at to : ℕ) (result : ConverterResult) : Type 0 where
  pub bytes : List ℕ
  pub law : ConvertsPart c.stream c'.stream last src rest (map Byte bytes ++ found_items (reference_form c.stream.job.policy) result)
  pub written : take to dst' ++ c'.held ≡ take at dst ++ (bytes ++ found_reference c.stream.job.policy result)
  pub logged : log_of_losses (held_losses c') ≡ found_log result
  pub ends : TurnEnds c c' last src rest result
  pub less : ((result ≡ InputEmpty) × HoldsNothing c') ⊎ (length (owes c'.stream rest) < length (owes c.stream src))
  pub from : at ≤ to
  pub fits : to ≤ length dst'
  pub behind : drop to dst' ≡ drop to dst
