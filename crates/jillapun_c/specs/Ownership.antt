-- What a handle of tables owns that C holds.
use mathlib.Core.Bool.{Bool, true, false}
use mathlib.Core.List.{[]}
use base.Fml.{Fml, ftrue, ffalse}
use denote.RattleType.{RattleType}
use denote.RawPtr.{Ptr}
use denote.Struct.Lending.{lent_at}
use Rattle.std.specs.declared.option.Option.{Option}
use Rattle.std.specs.declared.option.Option.TheVariants.{None, Some}

-- an open handle of tables has a reference to them that never ends, and a closed one nothing
abbrev pub tables_handle_owns : (R : RattleType) → Bool → Ptr → Option R.Denot → Fml
tables_handle_owns R true ptr (Some tables) = lent_at R ptr tables []
tables_handle_owns R false ptr None = ftrue
tables_handle_owns R true ptr None = ffalse
tables_handle_owns R false ptr (Some tables) = ffalse
