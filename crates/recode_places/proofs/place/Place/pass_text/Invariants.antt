use Rattle.std.proofs.Common.{◌≡◌, ℕ, ◌+◌, List, ◌++◌, length}
use Rattle.recode_places.specs.Places.{IsPlaceAfter}
use Rattle.recode_places.proofs.place.Place.pass_text.Given as goal

abbrev pub invariant-loop-c : goal.invariant-loop-c
invariant-loop-c l =
    (l.self.index ≡ l.initial.self.index + length l.yielded)
    × ((t : List ℕ) → IsPlaceAfter l.initial.self t → IsPlaceAfter l.self (t ++ l.yielded))
