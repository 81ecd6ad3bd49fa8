use Rattle.std.proofs.Common.{◌≡◌, string_bytes}
use Rattle.recode_places_report.specs.Shown.{shown_text}
use Rattle.recode_places_report.proofs.cell.shown.Given as goal

abbrev pub invariant-loop-c : goal.invariant-loop-c
invariant-loop-c l = string_bytes l.all ≡ shown_text l.yielded
