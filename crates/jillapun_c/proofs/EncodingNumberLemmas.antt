-- Encodings and their numbers.
use Rattle.std.proofs.Common.{◌≡◌, Option, Some, None, ap, refl}
use Rattle.encoding_front.specs.EncodingTable.{number_of}
use Rattle.encoding_front.specs.declared.encoding.Encoding.{Encoding}
use Rattle.encoding_front.specs.declared.encoding.Encoding.TheVariants.{Big5}
use Rattle.jillapun_c.specs.EncodingNumbers.{encoding_at}

pub same_number : (d e : Encoding) → Some d ≡ Some e → number_of d ≡ number_of e
same_number d e same = ap (λ (o : Option Encoding). elim o [ None ↦ number_of d | Some x ↦ number_of x ]) same

pub not_there : (e : Encoding) → None ≡ Some e → ⊥
not_there e same = cc

-- each encoding stands at its number
pub found_at : (e : Encoding) → encoding_at (number_of e) ≡ Some e
found_at Big5 = refl
found_at _ = refl

pub same_some : {X : Type 0} (x y : X) → Some x ≡ Some y → x ≡ y
same_some x y same = ap (λ o. elim o [ None ↦ x | Some z ↦ z ]) same
