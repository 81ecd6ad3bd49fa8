-- How many characters of a text have no bytes, part by part.
use Rattle.std.proofs.Common.{◌≡◌, ℕ, ◌+◌, List, [], ◌∷◌, ◌++◌, arith}
use Rattle.encoding_mem.specs.Coding.{Coding, lost_count}

-- of two parts, the sum
pub lost_count-append : (e : Coding) (t r : List ℕ) → lost_count e (t ++ r) ≡ lost_count e t + lost_count e r
lost_count-append e [] r = omega arith
lost_count-append e (c ∷ t) r = omega (arith, lost_count-append e t r)
