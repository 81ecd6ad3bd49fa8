-- What the steps of Shift_JIS and EUC-JP share.
use Rattle.std.proofs.Common.{◌≡◌, ℕ, ◌<◌, Bool, true, false, cond, List, nat_lt, refl, arith, Option, None, Some}
use Rattle.encoding_mem.specs.Piece.{malformed}
use Rattle.encoding_tables.specs.Lookups.{first_pointer}
use Rattle.encoding_tables.specs.LookupLaws.{IsPointer}
use Rattle.encoding_tables.specs.laws.Pointers.{first_is_least}
use Rattle.encoding_codecs.specs.Pointers.{value_of_entry}
use Rattle.encoding_codecs.specs.laws.Steps.{IsEither, malformed_either, one_either, either_if}
use Rattle.encoding_codecs.specs.TwoByte.{piece_of_trail}
use Rattle.encoding_codecs.specs.declared.two_byte.PairValue.TheVariants.{NoChar}

-- what holds of both holds of a choice by a test
pub choose : {X : Type 0} (P : X → Type 0) (t : Bool) (x y : X) → (t ≡ true → P x) → (t ≡ false → P y) → P (cond t x y)
choose P true x y h k = h refl
choose P false x y h k = k refl

-- a lead and a trail give one scalar or none
pub either_of_none : (c b : ℕ) → IsEither 2 c (piece_of_trail 1 NoChar b)
either_of_none c b = either_if 2 c (nat_lt b 0x80) (malformed 1) (malformed 2) (malformed_either 2 1 c (omega arith)) (malformed_either 2 2 c (omega arith))

pub either_of_entry : (c b : ℕ) (o : Option ℕ) → IsEither 2 c (piece_of_trail 1 (value_of_entry o) b)
either_of_entry c b None = either_of_none c b
either_of_entry c b (Some d) = one_either 2 c d

-- a pointer that is found is below the end of the search
found : (flat : List ℕ) (c from to p : ℕ) → first_pointer flat c from to ≡ Some p → IsPointer flat c from to p
found flat c from to p e = (rw e at (first_is_least flat c from to)).0

pub pointer_before : (flat : List ℕ) (c from to p : ℕ) → first_pointer flat c from to ≡ Some p → p < to
pointer_before flat c from to p e = (found flat c from to p e).before
