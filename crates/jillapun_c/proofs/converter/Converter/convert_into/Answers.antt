use Rattle.std.proofs.Common.{◌≡◌, ◌∙◌, ◌+◌, ◌-◌, ◌++◌, [], ap, append-nil, arith, length, refl, take}
use Rattle.std.proofs.lemmas.List.{length-take-le}
use borrow.Rule.Slice.PartMut.{put_mid}
use Rattle.jillapun_c.proofs.RoomLemmas.{drop_rest_put, length_rest_put, part_size, take_rest_put}
use Rattle.jillapun_c.proofs.converter.Converter.convert_into.Goals as goal

pub returns-then-dst-at-ge4-clause-into : goal.returns-then-dst-at-ge4-clause-into
returns-then-dst-at-ge4-clause-into c =
    let call = c.convert-result in
    let dst = c.args.dst.now in
    let at = c.args.at in
    let part = call.new.dst in
    let written = call.result.2 in
    let wrote = call.ensures.wrote in
    let none : c.args.self.now.held ≡ [] = c.requires.ready.empty.0 in
    let whole : length part ≡ length dst - at = call.auto.dst ∙ part_size at (length dst - at) dst refl in
    let new = length_rest_put at (length dst - at) dst part c.requires.at refl call.auto.dst in
    record {
      bytes = take written part;
      law = call.ensures.law;
      free = length part - written;
      ends = call.ensures.ends;
      room = omega (arith, length-take-le written part wrote.room, whole, wrote.room, c.if-dst-at-ge4.true);
      written = ap (λ x. take (at + written) (put_mid at (length dst - at) dst part) ++ x) none ∙ append-nil (take (at + written) (put_mid at (length dst - at) dst part)) ∙ take_rest_put at (length dst - at) written dst part c.requires.at wrote.room;
      from = omega arith;
      fits = omega (arith, new, whole, wrote.room, c.requires.at);
      behind = drop_rest_put at (length dst - at) written dst part c.requires.at refl wrote.room wrote.behind;
      held = omega (arith, ap length none);
      same = refl;
    }

pub returns-clause-into : goal.returns-clause-into
returns-clause-into c =
    let call = c.convert-result-2 in
    let part = call.new.dst in
    let written = call.result.2 in
    let none : c.args.self.now.held ≡ [] = c.requires.ready.empty.0 in
    let held : c.push.new.self ≡ take written part = c.push.ensures ∙ ap (λ x. x ++ take written part) none in
    let size = length-take-le written part call.ensures.wrote.room in
    record {
      bytes = take written part;
      law = call.ensures.law;
      free = length part - written;
      ends = call.ensures.ends;
      room = omega (arith, size, call.auto.dst, call.ensures.wrote.room);
      written = ap (λ x. take c.args.at c.args.dst.now ++ x) held;
      from = omega arith;
      fits = c.requires.at;
      behind = refl;
      held = omega (arith, ap length held, size, call.auto.dst, call.ensures.wrote.room);
      same = refl;
    }
