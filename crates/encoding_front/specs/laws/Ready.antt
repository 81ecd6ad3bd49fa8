-- That the indexes of an encoding are there has one proof at most, so that a struct can say it of itself.
use mathlib.Core.HLevel.{×_prop, Unit-prop}
use mathlib.Core.Bool.{Bool-set}
use Rattle.std.specs.Prelude.{List, [], ◌∷◌}
use Rattle.encoding_tables.specs.IndexLists.{IndexLists}
use Rattle.encoding_tables.specs.declared.index_kind.IndexKind.{IndexKind}
use Rattle.encoding_front.specs.Encodings.{AreThere}

pub AreThere-prop : (t : IndexLists) (kinds : List IndexKind) → IsProp (AreThere t kinds)
AreThere-prop t [] = Unit-prop
AreThere-prop t (kind ∷ kinds) = ×_prop (Bool-set _ _) (AreThere-prop t kinds)
