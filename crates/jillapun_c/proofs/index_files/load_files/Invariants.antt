use Rattle.std.proofs.Common.{take}
use Rattle.jillapun_c.specs.IndexFiles.{HoldFiles}
use Rattle.jillapun_c.proofs.index_files.load_files.Given as goal

-- the files that were passed are loaded
abbrev pub invariant-loop-number : goal.invariant-loop-number
invariant-loop-number l = HoldFiles (take l.number l.files) l.tables
