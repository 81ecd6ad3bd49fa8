-- Worked rows of `specs/PackedRows.antt`.
use Rattle.std.proofs.Common.{◌≡◌, zero, suc, [], ◌∷◌, refl, arith}
use Rattle.encoding_tables.specs.PackedRows.{flat_list, mapped_rows, listed_rows, PointersRise}

listed : listed_rows 0 (0 ∷ 0xE9 ∷ 0 ∷ 0xE8 ∷ []) ≡ (1, 0xE9) ∷ (3, 0xE8) ∷ []
listed = refl

flat : flat_list 4 ((1, 0xE9) ∷ (3, 0xE8) ∷ []) ≡ 0 ∷ 0xE9 ∷ 0 ∷ 0xE8 ∷ []
flat = refl

mapped : mapped_rows ((1, 0xE9) ∷ (2, 0) ∷ []) ≡ (1, 0xE9) ∷ []
mapped = refl

-- the first row has the pointer that is given
listed_from : listed_rows 5 (0xE9 ∷ 0 ∷ 0xE8 ∷ []) ≡ (5, 0xE9) ∷ (7, 0xE8) ∷ []
listed_from = refl

-- a pointer that no row has is unmapped, also beyond the rows
no_row : flat_list 3 ((0, 0xE9) ∷ []) ≡ 0xE9 ∷ 0 ∷ 0 ∷ []
no_row = refl

-- pointers that rise, and one that stands twice
rising : PointersRise ((1, 0xE9) ∷ (3, 0xE8) ∷ [])
rising zero more = omega arith
rising (suc k) more = absurd (omega (arith, more))

twice : ¬ (PointersRise ((1, 0xE9) ∷ (1, 0xE8) ∷ []))
twice rise = let first = rise 0 (omega arith) in absurd (omega (arith, first))
