use Rattle.std.proofs.Common.{◌≢◌, ◌<◌}
use Rattle.encoding_tables.specs.FileNames.{file_name_of}
use Rattle.encoding_tables.specs.calls.Slots.{slot_of}
use Rattle.encoding_tables.specs.declared.index_kind.IndexKind.{IndexKind}
use Rattle.jillapun_c.proofs.index_files.kind_of.Given as goal

-- the kinds that were passed have files of other names
abbrev pub invariant-loop-kind : goal.invariant-loop-kind
invariant-loop-kind l = (kind : IndexKind) → slot_of kind < l.kind-index → file_name_of kind ≢ l.name
