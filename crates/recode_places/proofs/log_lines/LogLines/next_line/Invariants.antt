use Rattle.std.proofs.Common.{◌≡◌, length, take}
use Rattle.recode_places.specs.Places.{feeds}
use Rattle.recode_places.specs.calls.LogViews.{unread}
use Rattle.recode_places.proofs.LogLemmas.{HasRead}
use Rattle.recode_places.proofs.log_lines.LogLines.next_line.Given as goal

abbrev pub invariant-loop-at : goal.invariant-loop-at
invariant-loop-at g l = record {
  read : HasRead (unread g.L.Read.remaining l.initial.self) (unread g.L.Read.remaining l.self) (take l.at l.line);
  room : length l.line ≡ 64;
  none : feeds (take l.at l.line) ≡ 0;
}
