use Rattle.std.proofs.Common.{length, ◌-◌, ◌≡◌, ◌≤◌, ◌++◌, take}
use Rattle.std.specs.Io.KnownBytes.{Appends}
use Rattle.recode_log.specs.Counted.{OffersAll, inner_of, passed_of}
use Rattle.recode_log.proofs.deliver.deliver.Given as goal

abbrev pub invariant-loop-at : goal.invariant-loop-at
invariant-loop-at g l = record {
  within : l.at ≤ length l.bytes;
  appended : Appends (g.W.Write.contents (inner_of l.initial.writer)) (g.W.Write.contents (inner_of l.writer)) (take l.at l.bytes);
  passed : passed_of l.writer ≡ passed_of l.initial.writer ++ take l.at l.bytes;
  count : l.writer.failures ≡ l.initial.writer.failures;
  offers : OffersAll l.initial.writer l.writer (length l.bytes);
  untouched : l.at ≡ 0 → l.writer ≡ l.initial.writer;
}

abbrev pub decreases-loop-at : goal.decreases-loop-at
decreases-loop-at g l = length l.bytes - l.at
