-- What a device says of its bytes, if it does, beside what its calls passed.
use Rattle.std.specs.Prelude.{◌≡◌, ℕ, List, [], ◌∷◌, ◌++◌, Option}
use Rattle.std.specs.Io.KnownBytes.{Appends, Consumes, IsAtEnd}
use Rattle.std.specs.List.{concat}

-- If the reader says what it has still to give, it lost the bytes that its calls gave, and if the last of them gave none,
-- nothing is left.
pub record TellsReads (before after : List (List ℕ)) (told told' : Option (List ℕ)) : Type 0 where
  pub reads : List (List ℕ)
  pub gave : after ≡ before ++ reads
  pub consumed : Consumes told told' (concat reads)
  pub end : (front : List (List ℕ)) → reads ≡ front ++ ([] ∷ []) → IsAtEnd told'

-- if a writer says what it holds, that grew by the bytes that its calls took
pub record TellsTaken (before after : List ℕ) (told told' : Option (List ℕ)) : Type 0 where
  pub bytes : List ℕ
  pub took : after ≡ before ++ bytes
  pub held : Appends told told' bytes
