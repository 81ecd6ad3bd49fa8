use Rattle.std.proofs.Common.{◌≡◌, ℕ, ◌≤◌, ◌-◌, length, drop, ◌∙◌, ap, arith}
use Rattle.std.proofs.lemmas.List.{length-take, length-take-le, length-drop}
use Rattle.encoding_mem.proofs.EncoderCallLemmas.{after_copy, less_asked, wrote_after, utf8_costs}
use Rattle.encoding_mem.specs.calls.EncodedLength.{bound_for, encoded_length_utf8}
use Rattle.encoding_mem.specs.calls.EncoderRule.{left}
use Rattle.encoding_mem.proofs.codec.encode.encode.Goals as goal

pub returns-clause-wrote : goal.returns-clause-wrote
returns-clause-wrote g c =
    let first = c.copy_text-copied in
    wrote_after c.args.dst.now first.new.dst c.encode_each-result.new.dst first.result c.encode_each-result.result.1 first.ensures.fits first.ensures.behind c.encode_each-result.ensures.wrote

pub returns-clause-call : goal.returns-clause-call
returns-clause-call g c =
    let S = g.S.Source in
    let first = c.copy_text-copied in
    let each = c.encode_each-result in
    let room : ℕ = length first.new.dst - first.result in
    let rest = ap (λ l. left S.text l (S.offset each.new.source)) first.ensures.same in
    let left_over : length each.new.dst ≡ room = each.auto.dst ∙ length-take-le room (drop first.result first.new.dst) (omega (arith, length-drop first.result first.new.dst)) in
    after_copy _ _ c.args.last each.result.0 _ _ _ _ first.new.dst each.new.dst first.result each.result.1 (g.met.T.EncoderRule.laws c.args.target.now) (c.copies_utf8.ensures c.if-not-copies_utf8.false)
    first.ensures.fits each.ensures.wrote.room left_over first.ensures.text rest each.ensures.call

pub returns-clause-enough : goal.returns-clause-enough
returns-clause-enough g c h full =
    let S = g.S.Source in
    let first = c.copy_text-copied.ensures in
    let plain = c.copies_utf8.ensures c.if-not-copies_utf8.false in
    let bound = bound_for (g.T.EncoderRule.parts c.args.target.now).limits S.is_units in
    let some = utf8_costs (g.T.EncoderRule.parts c.args.target.now).coding S.is_units bound c.args.set.now (g.met.T.EncoderRule.fits c.args.target.now S.is_units) plain in
    let size : length (S.all c.copy_text-copied.new.self) ≡ length (S.all c.args.source.now) = ap length first.same in
    let within : S.offset c.copy_text-copied.new.self ≤ length (S.all c.args.source.now) = omega (arith, size, g.met.S.Source.within c.copy_text-copied.new.self) in
    let room : c.copy_text-copied.result ≤ length c.args.dst.now = omega (arith, first.fits, c.copy_text-copied.auto.dst) in
    let less = less_asked bound.factor (bound_for encoded_length_utf8 S.is_units).factor bound.extra (S.offset c.args.source.now) (S.offset c.copy_text-copied.new.self) (length (S.all c.args.source.now)) c.copy_text-copied.result (length c.args.dst.now) some first.after within first.bytes room h in
    c.encode_each-result.ensures.enough (simp (length-take, length-drop) (omega (arith, rw (← size) at less, c.copy_text-copied.auto.dst))) full
