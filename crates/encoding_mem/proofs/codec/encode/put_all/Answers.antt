use Rattle.std.proofs.Common.{◌+◌, ◌-◌, length, arith}
use Rattle.std.proofs.lemmas.Slice.{drop-put_mid}
use Rattle.encoding_mem.proofs.codec.encode.put_all.Goals as goal

pub returns-clause-back : goal.returns-clause-back
returns-clause-back c = drop-put_mid c.args.at (c.args.at + length c.args.bytes.now - c.args.at) c.args.dst.now c.copy_from_slice.new.self (c.args.at + length c.args.bytes.now) (omega arith) (omega arith) (omega arith)
