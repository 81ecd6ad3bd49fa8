-- Worked rows: indexes that stay as they are and some that do not, and none from a folder without files.
use Rattle.std.specs.Prelude.{◌≡◌, ◌∷◌, [], ℕ, List, Option, None, Some, refl}
use Rattle.encoding_tables.specs.IndexLists.{IndexLists}
use Rattle.encoding_tables.specs.declared.index_kind.IndexKind.TheVariants.{Gb18030Ranges, Ibm866}
use Rattle.recode.specs.Program.{AreKept, AreOfFiles, IsSameIndex}

-- tables with this list of each kind, and these rows
abbrev tables_of : Option (List ℕ) → Option (List (ℕ × ℕ)) → IndexLists
tables_of flat rows = record { flats = λ kind. flat; rows = rows }

-- the list is the same, and the rows are others
same_list : IsSameIndex (tables_of (Some (233 ∷ [])) None) (tables_of (Some (233 ∷ [])) (Some [])) Ibm866
same_list = refl

other_rows : IsSameIndex (tables_of (Some (233 ∷ [])) None) (tables_of (Some (233 ∷ [])) (Some [])) Gb18030Ranges → ⊥
other_rows h = let same : Some [] ≡ None = h in cc

-- the list that was there is there, but is another
other_list : AreKept (tables_of (Some []) None) (tables_of (Some (233 ∷ [])) None) → ⊥
other_list h = apart 233 [] (h Ibm866 refl)
  where
    apart : (scalar : ℕ) (rest : List ℕ) → Some (scalar ∷ rest) ≡ Some [] → ⊥
    apart scalar rest e = cc

-- the index that was there is gone
no_list : AreKept (tables_of (Some []) None) (tables_of None None) → ⊥
no_list h = let same : None ≡ Some [] = h Ibm866 refl in cc

-- from a folder without files no index is loaded
nothing_is_loaded : AreOfFiles (λ dir file. Some None) [] (tables_of (Some []) None) → ⊥
nothing_is_loaded h = let known : None ≡ Some (h Ibm866 refl).text = (h Ibm866 refl).known in cc
