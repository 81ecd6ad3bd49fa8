-- A converter, as its callers know it.
use Rattle.recode.specs.Converter.{ConverterView}
use Rattle.recode.specs.contracts.converter.ConverterViewed.TheImpl.{ghosts}
use Rattle.recode.specs.declared.converter.Converter.{Converter}

-- what a `Converter` is to its callers
abbrev pub converter_view : Converter → ConverterView
converter_view c = ghosts.view c
