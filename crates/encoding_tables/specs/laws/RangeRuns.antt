-- The runs of the GB18030 ranges: valid pointers with consecutive values, each as its first value and its first pointer.
use Rattle.std.proofs.Common.{refl}
use Rattle.std.specs.Prelude.{◌≡◌, ℕ, List, [], ◌∷◌, nat_lt, max, if◌then◌else◌, None}
use Rattle.encoding_tables.specs.RangeFaults.{bad_row}
use Rattle.encoding_tables.specs.Ranges.{end_by, value_in}

-- the run that begins at a row's own pointer, if that is in the basic plane, before others
abbrev pub with_low : ℕ × ℕ → List (ℕ × ℕ) → List (ℕ × ℕ)
with_low r runs = if nat_lt r.0 39420 then (r.1, r.0) ∷ runs else runs

-- the run that begins at a row's first pointer of the other planes, if it has one below `end`, before others
abbrev pub with_high : ℕ × ℕ → ℕ → List (ℕ × ℕ) → List (ℕ × ℕ)
with_high r end runs = if nat_lt 189000 end then (value_in (max r.0 189000) r, max r.0 189000) ∷ runs else runs

-- the runs of rows, in the order of the rows
abbrev pub runs_of : List (ℕ × ℕ) → List (ℕ × ℕ)
runs_of [] = []
runs_of (r ∷ rows) = with_low r (with_high r (end_by rows) (runs_of rows))

-- rows that were taken, with their runs
pub record ArePacked (rows by_value : List (ℕ × ℕ)) : Type 0 where
  pub taken : bad_row rows ≡ None
  pub runs : by_value ≡ runs_of rows

in_the_gap : runs_of ((7457, 0x1E3F) ∷ (7458, 0x1E40) ∷ (39420, 0x80) ∷ (189000, 0x10000) ∷ []) ≡ (0x1E3F, 7457) ∷ (0x1E40, 7458) ∷ (0x10000, 189000) ∷ []
in_the_gap = refl

behind_the_gap : runs_of ((39418, 0xA000) ∷ (188990, 0xE000) ∷ (189005, 0x10000) ∷ []) ≡ (0xA000, 39418) ∷ (0xE00A, 189000) ∷ (0x10000, 189005) ∷ []
behind_the_gap = refl
