use Rattle.std.proofs.Common.{◌≡◌, ◌++◌, List, [], ℕ, length, true}
use Rattle.recode_places.specs.Entries.{TellsRising}
use Rattle.recode_places.specs.Logs.{TellsLines}
use Rattle.recode_places.specs.calls.FatesViews.{TellsFates, asked_by}
use Rattle.recode_places.specs.calls.LogViews.{choice_left}
use Rattle.recode_places.specs.calls.Walks.{CanWalk, FitsAhead, TellsPassed, WalksOn, walk_state}
use Rattle.recode_places.proofs.walk.Walk.chunk.Given as goal

abbrev pub invariant-chunk : goal.invariant-chunk
invariant-chunk g l = record {
  walks : WalksOn (g.V.Visitor.told l.initial.visitor) (g.V.Visitor.told l.visitor) (walk_state l.initial.self) (walk_state l.self) l.initial.rest l.rest l.last;
  lines : TellsLines (choice_left g.L.Read.remaining l.initial.choice) (choice_left g.L.Read.remaining l.choice) (g.V.Visitor.told l.initial.visitor) (g.V.Visitor.told l.visitor);
  fates : TellsFates (asked_by l.initial.choice) (asked_by l.choice) (g.V.Visitor.told l.initial.visitor) (g.V.Visitor.told l.visitor);
  rising : TellsRising l.initial.self.place.index l.self.place.index (g.V.Visitor.told l.initial.visitor) (g.V.Visitor.told l.visitor);
  finds : (r : List ℕ) → (l.last ≡ true → r ≡ []) → TellsPassed (asked_by l.initial.choice) (walk_state l.initial.self) (walk_state l.self) (l.initial.rest ++ r) (l.rest ++ r) (g.V.Visitor.told l.initial.visitor) (g.V.Visitor.told l.visitor);
  fits : (r : List ℕ) → (l.last ≡ true → r ≡ []) → FitsAhead (walk_state l.initial.self) (choice_left g.L.Read.remaining l.initial.choice) (l.initial.rest ++ r) → FitsAhead (walk_state l.self) (choice_left g.L.Read.remaining l.choice) (l.rest ++ r);
  ready : CanWalk (walk_state l.self);
}

abbrev pub decreases-chunk : goal.decreases-chunk
decreases-chunk g l = length ((walk_state l.self).decoder.pieces l.rest)
