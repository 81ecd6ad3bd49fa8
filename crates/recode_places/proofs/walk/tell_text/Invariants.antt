use Rattle.std.proofs.Common.{◌≡◌, ◌+◌, ◌++◌, List, ℕ, [], length}
use Rattle.encoding_mem.specs.Piece.{Piece}
use Rattle.recode_places.specs.Entries.{TellsRising, TellsTrue}
use Rattle.recode_places.specs.Places.{IsPlaceAfter}
use Rattle.recode_places.specs.Findings.{TellsFound, found_in_text}
use Rattle.recode_places.specs.Fits.{FitsFrom, IsLeftOfLog}
use Rattle.recode_places.specs.Logs.{TellsLines}
use Rattle.recode_places.specs.calls.FatesViews.{TellsFates, asked_by}
use Rattle.recode_places.specs.calls.LogViews.{choice_left}
use Rattle.recode_places.proofs.walk.tell_text.Given as goal

abbrev pub invariant-loop-c : goal.invariant-loop-c
invariant-loop-c g l = record {
  index : l.place.index ≡ l.initial.place.index + length l.yielded;
  place : (t : List ℕ) → IsPlaceAfter l.initial.place t → IsPlaceAfter l.place (t ++ l.yielded);
  lines : TellsLines (choice_left g.L.Read.remaining l.initial.choice) (choice_left g.L.Read.remaining l.choice) (g.V.Visitor.told l.initial.visitor) (g.V.Visitor.told l.visitor);
  fates : TellsFates (asked_by l.initial.choice) (asked_by l.choice) (g.V.Visitor.told l.initial.visitor) (g.V.Visitor.told l.visitor);
  rising : TellsRising l.initial.place.index l.place.index (g.V.Visitor.told l.initial.visitor) (g.V.Visitor.told l.visitor);
  finds : TellsFound (asked_by l.initial.choice) (found_in_text (asked_by l.initial.choice) l.initial.place.index l.yielded) [] (g.V.Visitor.told l.initial.visitor) (g.V.Visitor.told l.visitor);
  fits : (o : ℕ) (rest : List ℕ) (ps : List Piece) → IsLeftOfLog (FitsFrom l.initial.place.index o (l.yielded ++ rest) ps) (choice_left g.L.Read.remaining l.initial.choice) → IsLeftOfLog (FitsFrom l.place.index o rest ps) (choice_left g.L.Read.remaining l.choice);
  told : (ps : List Piece) (t : List ℕ) → IsPlaceAfter l.initial.place t → TellsTrue ps (t ++ l.yielded) (g.V.Visitor.told l.initial.visitor) (g.V.Visitor.told l.visitor);
}
