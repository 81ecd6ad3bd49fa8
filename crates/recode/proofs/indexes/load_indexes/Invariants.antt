use Rattle.std.proofs.Common.{◌≡◌, take}
use Rattle.encoding_front.specs.Encodings.{AreThere}
use Rattle.recode.specs.IndexFaults.{AddsOnly}
use Rattle.recode.specs.Program.{AddsFromFiles}
use Rattle.recode.proofs.indexes.load_indexes.Given as goal

abbrev pub invariant-loop-kind : goal.invariant-loop-kind
invariant-loop-kind g l = record {
  there : AreThere l.tables (take l.kind-index l.kinds);
  added : AddsOnly l.initial.tables l.tables (take l.kind-index l.kinds);
  once : AreThere l.initial.tables l.kinds → l.source ≡ l.initial.source;
  files : AddsFromFiles (g.S.IndexSource.holds l.initial.source) (g.S.IndexSource.holds l.source) l.dir l.initial.tables l.tables;
}
