use Rattle.std.proofs.Common.{arith}
use Rattle.encoding_mem.proofs.UnitCopyLemmas.{copied_more}
use Rattle.encoding_mem.proofs.mem.ascii_copies.copy_basic_latin_to_ascii.Goals as goal

pub wide-preserved : goal.wide-preserved
wide-preserved c =
    let e = c.narrow_block.ensures in
    copied_more c.args.src.now c.args.dst.now c.wide.at c.wide.dst c.narrow_block.new.dst 32 c.wide.invariant c.requires
    (omega (arith, c.wide-test.true, c.wide.invariant.within)) c.narrow_block.auto.dst (e.low c.if-not-narrow_block.false) (e.copied c.if-not-narrow_block.false) e.behind
