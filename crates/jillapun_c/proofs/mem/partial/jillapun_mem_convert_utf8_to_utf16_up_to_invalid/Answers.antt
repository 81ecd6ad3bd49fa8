use Rattle.std.proofs.Common.{◌∙◌, ap, arith, inl, inr, length}
use Rattle.encoding_mem.specs.Conversions.{text_in_utf16}
use Rattle.jillapun_c.proofs.UnitRoomLemmas.{cut_text, longest_of_cut}
use Rattle.jillapun_c.proofs.mem.partial.jillapun_mem_convert_utf8_to_utf16_up_to_invalid.Goals as goal
use Rattle.jillapun_c.proofs.mem.partial.jillapun_mem_convert_utf8_to_utf16_up_to_invalid.Goals.{else-src-dst, then-src-dst}

pub returns-clause-longest : goal.returns-clause-longest
returns-clause-longest c =
    longest_of_cut c.args.src.now (length c.args.dst.now) c.if-src-dst.end c.convert_utf8_to_utf16_up_to_invalid-bytes.result.0
    (elim c.if-src-dst.branch [
      | then-src-dst w ↦ inl w.end-is
      | else-src-dst w ↦ inr (w.end-is, omega (arith, w.end-is, w.if-src-dst.false))
    ])
    c.convert_utf8_to_utf16_up_to_invalid-bytes.ensures.longest

pub returns-clause-writes : goal.returns-clause-writes
returns-clause-writes c =
    let f = c.convert_utf8_to_utf16_up_to_invalid-bytes in
    record {
      fits = f.ensures.fits;
      is = f.ensures.units ∙ ap text_in_utf16 (cut_text c.args.src.now c.if-src-dst.end f.result.0 f.ensures.longest.within);
      behind = f.ensures.behind;
    }
