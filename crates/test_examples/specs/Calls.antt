-- What a caller of a converter has of one call of it, or of several.
use Rattle.std.specs.Prelude.{◌≡◌, ℕ, ◌<◌, List, ◌++◌, length, Bool, false}
use Rattle.encoding_mem.specs.Items.{Item}
use Rattle.recode.specs.Converter.{ConverterView, ConvertsPart, AllIsConverted, owes}
use Rattle.recode.specs.TaggedByte.{log_bytes, output_bytes, tagged}
use Rattle.recode.specs.declared.converter.ConverterResult.{ConverterResult}
use Rattle.recode.specs.declared.converter.ConverterResult.TheVariants.{Found, InputEmpty, OutputFull}
use Rattle.recode_log.specs.Line.{IsValid}

-- an output and a log gained the bytes of these items
pub record GainsItems (output output' log log' : List ℕ) (items : List Item) : Type 0 where
  pub written : output' ≡ output ++ output_bytes (tagged items)
  pub lined : log' ≡ log ++ log_bytes (tagged items)

-- of these bytes the rest is left, and an output and a log gained what the converter owed for what it took
pub record PassesOn (v v' : ConverterView) (last : Bool) (bytes rest output output' log log' : List ℕ) : Type 0 where
  pub items : List Item
  pub law : ConvertsPart v v' last bytes rest items
  pub gains : GainsItems output output' log log' items

-- what was found, if something was, is a valid line
abbrev pub HasValidFound : ConverterResult → Type 0
HasValidFound InputEmpty = Unit {0}
HasValidFound OutputFull = Unit {0}
HasValidFound (Found line) = IsValid line

-- the converter is not over, and owes less than before
pub record OwesLess (v v' : ConverterView) (bytes rest : List ℕ) : Type 0 where
  pub over : v'.over ≡ false
  pub fewer : length (owes v' rest) < length (owes v bytes)

-- how a call ended: with all converted, or so that the next call can go on
abbrev pub EndsTurn : (v v' : ConverterView) → (last : Bool) → (bytes rest : List ℕ) → ConverterResult → Type 0
EndsTurn v v' last bytes rest InputEmpty = AllIsConverted v' rest last
EndsTurn v v' last bytes rest OutputFull = OwesLess v v' bytes rest
EndsTurn v v' last bytes rest (Found line) = OwesLess v v' bytes rest
