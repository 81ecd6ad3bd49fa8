use Rattle.std.proofs.Common.{◌≤◌, ◌+◌, length, arith}
use Rattle.encoding_mem.specs.Iso2022JpAscii.{IsIso2022JpAsciiByte}
use Rattle.encoding_mem.proofs.PrefixLemmas.{each_of_block}
use Rattle.encoding_mem.proofs.mem.ascii_text.iso_2022_jp_ascii_valid_up_to.Goals as goal

pub wide-preserved : goal.wide-preserved
wide-preserved c =
    let fits : c.wide.at + 64 ≤ length c.args.bytes.now = omega (arith, c.wide-test.true, c.wide.invariant.within) in
    record {
      within = fits;
      well_formed = each_of_block IsIso2022JpAsciiByte c.args.bytes.now c.wide.at 64 fits c.wide.invariant.well_formed (c.are_iso_2022_jp_ascii.ensures c.if-are_iso_2022_jp_ascii.true);
    }
