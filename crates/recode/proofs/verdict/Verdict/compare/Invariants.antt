use Rattle.std.proofs.Common.{◌≡◌, ◌≤◌, ◌<◌, ◌+◌, ◌-◌, ◌^◌, false, length}
use Rattle.encoding_tables.specs.IndexLists.{IndexLists}
use Rattle.encoding_front.specs.calls.Stream.{IsMadeFrom}
use Rattle.recode.specs.calls.Buffers.{KeepsRoom, is_wide}
use Rattle.recode.specs.calls.PivotText.{is_in_units, pivot_chars, IsWholeText}
use Rattle.recode.proofs.VerdictLemmas.{HasCompared}
use Rattle.recode.proofs.verdict.Verdict.compare.Given as goal

abbrev pub invariant-parts : goal.invariant-parts
invariant-parts g l = record {
  compared : HasCompared (g.D.StreamDecoder.view l.initial.self.reader).state.pieces (g.D.StreamDecoder.view l.self.reader).state.pieces l.written l.left (pivot_chars l.text) (pivot_chars l.expected);
  open_ : (g.D.StreamDecoder.view l.self.reader).finished ≡ false;
  by_log : l.self.by_log ≡ l.initial.self.by_log;
  made : (t : IndexLists) → IsMadeFrom t (g.D.StreamDecoder.view l.initial.self.reader) → IsMadeFrom t (g.D.StreamDecoder.view l.self.reader);
  expected : IsWholeText l.expected;
  form : is_wide l.check ≡ is_in_units l.expected;
  check : KeepsRoom l.initial.check l.check;
  least : l.calls < 2 ^ 64 - 1 → l.initial.calls ≤ l.calls;
  most : l.calls + length (pivot_chars l.expected) ≤ l.initial.calls + length (pivot_chars l.text);
}

abbrev pub decreases-parts : goal.decreases-parts
decreases-parts g l = length ((g.D.StreamDecoder.view l.self.reader).state.pieces l.left)
