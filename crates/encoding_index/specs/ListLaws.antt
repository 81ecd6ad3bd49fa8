-- Which list a text stands for, said of its rows one by one.
use Rattle.std.specs.Prelude.{◌≡◌, ◌≢◌, ℕ, ◌<◌, List, length, None, All, slice_index}
use Rattle.encoding_index.specs.IndexText.{first_fault, text_rows, text_list}

-- an entry for each pointer: at a row's pointer its code point, and 0 at the pointers of no row
pub record IsListOf (size : ℕ) (rows : List (ℕ × ℕ)) (list : List ℕ) : Type 0 where
  pub sized : length list ≡ size
  pub mapped : All (λ row. (row.0 < size) × (slice_index list row.0 ≡ row.1)) rows
  pub unmapped : (pointer : ℕ) → All (λ row. row.0 ≢ pointer) rows → slice_index list pointer ≡ 0

-- a text with no faulty line stands for the list of its rows
abbrev pub ListsAreOfRows : Type 0
ListsAreOfRows = (size : ℕ) (text : List ℕ) → first_fault size text ≡ None → IsListOf size (text_rows text) (text_list size text)
