use Rattle.std.proofs.Common.{◌≡◌, ap, length, take, refl, sym, ◌∙◌}
use Rattle.std.specs.Str.{chars}
use Rattle.jillapun_c.proofs.WholeLemmas.{encoded_fewer, encoded_first, encoded_more}
use Rattle.jillapun_c.proofs.whole.encoding.encode_whole.Goals as goal

pub parts-init : goal.parts-init
parts-init c =
    let e = c.encode_from_utf8-result in
    let f = c.first-filled.ensures in (
      c.range_from-rest.utf8,
      record {
        so_far = encoded_first c.args.encoder.now e.new.self (chars c.args.text.now) _ c.args.dst.now e.new.dst e.result.2 e.result.0 e.result.3 _ c.first-filled.result
            (rw (ap chars (sym c.range_from-rest.ensures.value)) at e.ensures.call) e.ensures.wrote e.auto.dst f.put f.length f.whole;
        size = refl;
      },
    )

pub parts-smaller : goal.parts-smaller
parts-smaller c =
    let e = c.encode_from_utf8-next in
    let size : length e.new.dst ≡ 1024 = e.auto.dst ∙ c.parts.invariant.1.size in
    encoded_fewer c.parts.encoder e.new.self (chars c.parts.rest.now) _ (take e.result.2 e.new.dst) c.parts.result e.result.0 e.result.3 (length e.new.dst)
    (rw (ap chars (sym c.range_from-rest-in-OutputFull.ensures.value)) at e.ensures.call) c.in-OutputFull.is size

pub parts-preserved : goal.parts-preserved
parts-preserved c =
    let e = c.encode_from_utf8-next in
    let so = c.parts.invariant.1.so_far in (
      c.range_from-rest-in-OutputFull.utf8,
      record {
        so_far = encoded_more c.args.encoder.now c.parts.encoder e.new.self (chars c.args.text.now) (chars c.parts.rest.now) _ c.args.dst.now c.parts.dst c.add.new.room (take e.result.2 e.new.dst) c.parts.result e.result.0 c.parts.has_lost e.result.3 _ c.parts.filled c.add.new.self
            so (rw (ap chars (sym c.range_from-rest-in-OutputFull.ensures.value)) at e.ensures.call) c.add.auto.room (λ made holds. c.add.ensures.holds made c.args.dst.now (sym so.same) holds);
        size = e.auto.dst ∙ c.parts.invariant.1.size;
      },
    )
