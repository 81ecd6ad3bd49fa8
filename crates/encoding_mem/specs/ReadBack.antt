-- Reading back what a target has written.
use Rattle.std.specs.Prelude.{◌≡◌, ℕ, ◌↔◌, true, List}
use Rattle.std.specs.Str.{all_scalars}
use Rattle.encoding_mem.specs.Piece.{Piece, text, AreWellFormed}
use Rattle.encoding_mem.specs.Coding.{Coding, AllMapped, output}
use Rattle.encoding_mem.specs.declared.codec.reference.Reference.{Reference}

-- decoded, bytes have no malformed sequence and are a given text
pub record ReadsAs (pieces : List ℕ → List Piece) (bytes t : List ℕ) : Type 0 where
  pub well_formed : AreWellFormed (pieces bytes)
  pub same : text (pieces bytes) ≡ t

-- the output for a text of scalars is read back as the text exactly when each of them has bytes
abbrev pub ReadsBackExactly : (List ℕ → List Piece) → Coding → Type 0
ReadsBackExactly pieces e = (ref : Reference) (t : List ℕ) → all_scalars t ≡ true → ReadsAs pieces (output ref e t) t ↔ AllMapped e t
