-- What the search goes through: the labels of one length.
use Rattle.std.specs.Prelude.{ℕ, ◌==◌, List, map, length, filter}
use Rattle.std.specs.Borrow.{Bor}
use Rattle.std.specs.Char.{to_ascii_lowercase}
use Rattle.encoding_labels.specs.Labels.{labels}

-- the rows of a list in the code as the search compares them, in ASCII lower case
abbrev pub entries : List (Bor (List ℕ) × ℕ) → List (ℕ × List ℕ)
entries list = map (λ (row : Bor (List ℕ) × ℕ). (row.1, map to_ascii_lowercase row.0.now)) list

-- the labels of n bytes, in the table's order
abbrev pub labels_of_length : ℕ → List (ℕ × List ℕ)
labels_of_length n = filter (λ (entry : ℕ × List ℕ). length entry.1 == n) labels
