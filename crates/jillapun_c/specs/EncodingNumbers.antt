-- Encodings as numbers.
use Rattle.std.specs.Prelude.{◌≡◌, ◌⊎◌, ℕ, ◌<◌, ◌≤◌, List, [], ◌∷◌, length, Option, MatchOption, slice_get, unwrap_or}
use Rattle.std.specs.Option.{option_map}
use Rattle.encoding_tables.specs.FileNames.{file_name_of}
use Rattle.encoding_tables.specs.IndexLists.{IndexLists}
use Rattle.encoding_front.specs.Encodings.{IsReady, needs_of}
use Rattle.encoding_front.specs.EncodingTable.{encodings}
use Rattle.encoding_front.specs.declared.encoding.Encoding.{Encoding}
use Rattle.encoding_front.specs.declared.mark.Mark.{Mark}
use Rattle.jillapun_c.specs.declared.status.TheConstants.{NOT_READY, OK, UNKNOWN}
use Rattle.jillapun_c.specs.Room.{IsPut, IsUnwritten, WantsRoom}

-- the encoding with that number, if there is one: its place in the order of the names
abbrev pub encoding_at : ℕ → Option Encoding
encoding_at number = slice_get encodings number

-- what a number says of byte order marks, if it says anything
abbrev pub mark_at : ℕ → Option Mark
mark_at number = slice_get (Mark.Sniff ∷ Mark.Remove ∷ Mark.Keep ∷ []) number

-- the room begins with the word, whose length is returned; if the room is shorter, it is as it was
pub record Writes (old word new : List ℕ) (returned : ℕ) : Type 0 where
  pub written : length word ≤ length old → IsPut old word new returned × (returned ≡ length word)
  pub wanted : length old < length word → WantsRoom (length word) old new returned

-- the room begins with the word, or is shorter; if there is none, the call is refused
abbrev pub WritesIfAny : (word : Option (List ℕ)) → (old new : List ℕ) → ℕ → Type 0
WritesIfAny word old new returned = MatchOption word (IsUnwritten old new returned) (λ w. Writes old w new returned)

-- the name of the file of an index that the encoding with that number needs, by its place among these; it has no bytes
-- if the encoding needs no further index
abbrev pub needed_file : ℕ → ℕ → Option (List ℕ)
needed_file encoding place = option_map (λ e. unwrap_or (option_map file_name_of (slice_get (needs_of e) place)) []) (encoding_at encoding)

-- a status says whether tables have each index that the encoding with that number needs
abbrev pub IsReadyStatus : IndexLists → (encoding status : ℕ) → Type 0
IsReadyStatus tables encoding status = MatchOption (encoding_at encoding) (status ≡ UNKNOWN)
    (λ e. ((status ≡ OK) × IsReady tables e) ⊎ ((status ≡ NOT_READY) × (¬ (IsReady tables e))))
