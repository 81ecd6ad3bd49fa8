use Rattle.std.proofs.Common.{◌≡◌, ◌-◌, ◌^◌, ◌≤◌, List, Some, ℕ}
use Rattle.recode_places.specs.Entries.{TellsRising}
use Rattle.recode_places.specs.Logs.{TellsLines}
use Rattle.recode_places.specs.calls.FatesViews.{TellsFates, asked_by}
use Rattle.recode_places.specs.calls.LogViews.{choice_left}
use Rattle.recode_places.specs.calls.Walks.{CanWalk, FitsAhead, TellsPassed, WalksInput, walk_state}
use Rattle.recode_places.proofs.walk.tell_places.Given as goal

abbrev pub invariant-input : goal.invariant-input
invariant-input g l = record {
  walks : WalksInput (g.V.Visitor.told l.initial.visitor) (g.V.Visitor.told l.visitor) (walk_state l.initial.walk) (walk_state l.walk) (g.R.Read.remaining l.initial.reader) (g.R.Read.remaining l.reader);
  lines : TellsLines (choice_left g.L.Read.remaining l.initial.choice) (choice_left g.L.Read.remaining l.choice) (g.V.Visitor.told l.initial.visitor) (g.V.Visitor.told l.visitor);
  fates : TellsFates (asked_by l.initial.choice) (asked_by l.choice) (g.V.Visitor.told l.initial.visitor) (g.V.Visitor.told l.visitor);
  rising : TellsRising 0 l.walk.place.index (g.V.Visitor.told l.initial.visitor) (g.V.Visitor.told l.visitor);
  finds : (x : List ℕ) → g.R.Read.remaining l.initial.reader ≡ Some x
      → (y : List ℕ) × (g.R.Read.remaining l.reader ≡ Some y) × TellsPassed (asked_by l.initial.choice) (walk_state l.initial.walk) (walk_state l.walk) x y (g.V.Visitor.told l.initial.visitor) (g.V.Visitor.told l.visitor);
  fits : (x : List ℕ) → g.R.Read.remaining l.initial.reader ≡ Some x → FitsAhead (walk_state l.initial.walk) (choice_left g.L.Read.remaining l.initial.choice) x
      → (y : List ℕ) × (g.R.Read.remaining l.reader ≡ Some y) × FitsAhead (walk_state l.walk) (choice_left g.L.Read.remaining l.choice) y;
  ready : CanWalk (walk_state l.walk);
  few : l.walk.read ≤ 2 ^ 48;
}

abbrev pub decreases-input : goal.decreases-input
decreases-input g l = 2 ^ 48 - l.walk.read
