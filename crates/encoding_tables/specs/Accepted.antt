-- The lists that are taken as the index of a kind, in the words of the rule.
use Rattle.std.specs.Prelude.{◌≡◌, ◌≢◌, ℕ, ◌<◌, ◌≤◌, ◌⊎◌, ◌↔◌, false, List, length, None, slice_index}
use Rattle.std.specs.Char.{IsScalar}
use Rattle.encoding_tables.specs.Kinds.{index_size}
use Rattle.encoding_tables.specs.TableFaults.{flat_fault}
use Rattle.encoding_tables.specs.declared.index_kind.IndexKind.{IndexKind}
use Rattle.encoding_tables.specs.declared.index_kind.IndexKind.TheVariants.{Big5, Jis0208}

-- a number may be an entry of a kind of index: a scalar from U+0080 to U+FFFF, or, in Big5, of
-- plane 2
pub record IsEntry (kind : IndexKind) (v : ℕ) : Type 0 where
  pub scalar : IsScalar v
  pub high : 0x80 ≤ v
  pub plane : (v < 0x10000) ⊎ ((kind ≡ Big5) × (0x20000 ≤ v) × (v < 0x30000))

-- a list may be the index of a kind: it has the kind's size, each entry is 0 or as `IsEntry` says,
-- and JIS X 0208 has 0 at pointers 8836 to 10715
pub record IsIndex (kind : IndexKind) (flat : List ℕ) : Type 0 where
  pub size : length flat ≡ index_size kind
  pub entries : (p : ℕ) → slice_index flat p ≢ 0 → IsEntry kind (slice_index flat p)
  pub reserved : kind ≡ Jis0208 → (p : ℕ) → 8836 ≤ p → p < 10716 → slice_index flat p ≡ 0

-- if a kind is not there yet, a list has no fault (`flat_fault`) exactly when it may be the index
-- of the kind (`IsIndex`)
abbrev pub AcceptanceIsExact : Type 0
AcceptanceIsExact = (kind : IndexKind) (flat : List ℕ) → (flat_fault false kind flat ≡ None) ↔ IsIndex kind flat
