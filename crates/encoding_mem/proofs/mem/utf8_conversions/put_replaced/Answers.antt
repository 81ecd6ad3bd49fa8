use Rattle.std.proofs.Common.{◌≡◌, ◌∙◌, ◌++◌, ◌+◌, ◌-◌, ℕ, [], length, take, drop, sym, ap, subst, refl, arith, true, List, inl, inr, length-drop}
use Rattle.std.proofs.lemmas.List.{append-nil, take_rest, drop-drop}
use Rattle.encoding_mem.specs.contracts.utf8.decoder.Utf8DecoderSinkDecoder.TheImpl.{ghosts}
use Rattle.encoding_mem.specs.calls.Decoding.{Reports, EndsWith}
use Rattle.encoding_mem.specs.Piece.{ArePieces, head_piece}
use Rattle.encoding_mem.specs.calls.Writing.{len_utf16}
use Rattle.encoding_mem.specs.laws.Writing.{adds_none}
use Rattle.encoding_mem.proofs.ReplacementLemmas.{goes_on, goes_on_malformed, some_taken, all_written, never_full}
use Rattle.encoding_mem.proofs.mem.utf8_conversions.put_replaced.Goals as goal

pub parts-init : goal.parts-init
parts-init c = record {
  within = omega arith;
  same = refl;
  has = record {
    taken = [];
    whole = ap (λ f. f c.args.src.now) (sym c.new-decoder.ensures.fresh.pieces);
    adds = adds_none c.args.sink.now.units.now c.args.sink.now.written c.args.sink.now.within;
  };
}

pub parts-preserved : goal.parts-preserved
parts-preserved c =
    let i = c.parts.invariant in
    let d = c.decode_into-outcome in
    let law = d.ensures.call.law in
    let well_formed = subst (λ o. Reports o (ghosts.state d.new.self).pending law.taken) c.in-Malformed.is law.well_formed in
    let size = ap length (take_rest c.args.src.now c.parts.read) in
    record {
      within = omega (arith, i.within, law.within, size, length-drop c.parts.read c.args.src.now);
      same = c.put.ensures.writes.0 ∙ law.writes.0 ∙ i.same;
      has = goes_on_malformed c.args.src.now _ _ (ghosts.state c.parts.decoder).pieces (ghosts.state d.new.self).pieces c.parts.read d.result.1 _ _ _ _ _ _
          law.taken well_formed.4.0 c.in-Malformed.field-0 i.has well_formed.4.1 well_formed.4.2 (law.rest [] (λ _. refl)) law.writes.1 c.put.ensures.writes.1;
    }

pub parts-smaller : goal.parts-smaller
parts-smaller c =
    let i = c.parts.invariant in
    let d = c.decode_into-outcome in
    let law = d.ensures.call.law in
    let well_formed = subst (λ o. Reports o (ghosts.state d.new.self).pending law.taken) c.in-Malformed.is law.well_formed in
    let size = ap length (take_rest c.args.src.now c.parts.read) in
    let part : List ℕ = take (length c.args.src.now - c.parts.read) (drop c.parts.read c.args.src.now) in
    let some = some_taken law.taken ((ghosts.state d.new.self).pieces (drop d.result.1 part ++ [])) well_formed.4.0 c.in-Malformed.field-0 well_formed.4.2
    (subst ArePieces (law.rest [] (λ _. refl)) ((ghosts.state c.parts.decoder).are_pieces (part ++ []))) in
    omega (arith, some, law.counted, i.within, law.within, size, length-drop c.parts.read c.args.src.now)

pub returns-in-InputEmpty : goal.returns-in-InputEmpty
returns-in-InputEmpty c =
    let i = c.parts.invariant in
    let d = c.decode_into-outcome in
    let law = d.ensures.call.law in
    let well_formed = subst (λ o. Reports o (ghosts.state d.new.self).pending law.taken) c.in-InputEmpty.is law.well_formed in
    let ends = subst (λ o. EndsWith (ghosts.state d.new.self) (drop d.result.1 (take (length c.args.src.now - c.parts.read) (drop c.parts.read c.args.src.now))) true (length d.new.sink.units.now - d.new.sink.written) 2 (len_utf16 0xFFFD) o) c.in-InputEmpty.is d.ensures.call.ends in
    let read = sym (drop-drop d.result.1 c.parts.read c.args.src.now) ∙ ap (drop d.result.1) (sym (take_rest c.args.src.now c.parts.read)) ∙ ends.0 in
    let none : (ghosts.state d.new.self).pieces (drop (c.parts.read + d.result.1) c.args.src.now) ≡ [] =
    ap (ghosts.state d.new.self).pieces read ∙ elim ends.1 [ inl all ↦ all.1 | inr more ↦ absurd (let e = more.0 in cc) ] in (
      law.writes.0 ∙ i.same,
      all_written c.args.src.now _ _ (ghosts.state d.new.self).pieces (c.parts.read + d.result.1) _ _
          (goes_on c.args.src.now _ _ (ghosts.state c.parts.decoder).pieces (ghosts.state d.new.self).pieces c.parts.read d.result.1 _ _ _ _ law.taken i.has well_formed (law.rest [] (λ _. refl)) law.writes.1) none,
    )

pub unreachable-requires : goal.unreachable-requires
unreachable-requires c =
    let i = c.parts.invariant in
    let d = c.decode_into-outcome in
    let law = d.ensures.call.law in
    let well_formed = subst (λ o. Reports o (ghosts.state d.new.self).pending law.taken) c.in-OutputFull.is law.well_formed in
    let part : List ℕ = take (length c.args.src.now - c.parts.read) (drop c.parts.read c.args.src.now) in
    let ends = subst (λ o. EndsWith (ghosts.state d.new.self) (drop d.result.1 part) true (length d.new.sink.units.now - d.new.sink.written) 2 (len_utf16 0xFFFD) o) c.in-OutputFull.is d.ensures.call.ends in
    let has = goes_on c.args.src.now _ _ (ghosts.state c.parts.decoder).pieces (ghosts.state d.new.self).pieces c.parts.read d.result.1 _ _ _ _ law.taken i.has well_formed (law.rest [] (λ _. refl)) law.writes.1 in
    let unread : drop d.result.1 part ++ [] ≡ drop (c.parts.read + d.result.1) c.args.src.now =
    append-nil (drop d.result.1 part) ∙ ap (drop d.result.1) (take_rest c.args.src.now c.parts.read) ∙ drop-drop d.result.1 c.parts.read c.args.src.now in
    let at = ap (λ x. head_piece ((ghosts.state d.new.self).pieces x)) (sym unread) ∙ ends.1.1 [] (λ _. refl) in
    let room = never_full c.args.src.now _ _ (ghosts.state d.new.self).pieces (c.parts.read + d.result.1) _ _ ends.1.0 has at c.requires in
    omega (arith, room, ends.0)
