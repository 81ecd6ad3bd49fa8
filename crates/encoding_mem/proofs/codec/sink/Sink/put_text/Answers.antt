use Rattle.std.proofs.Common.{◌∙◌, ◌∷◌, ◌++◌, [], sym, ap, arith, false}
use Rattle.std.proofs.lemmas.List.{append_assoc, append-nil}
use Rattle.std.specs.Str.{chars}
use Rattle.encoding_mem.proofs.SinkLemmas.{cost_le, rest_utf8, text_len_first, text_len_none}
use Rattle.encoding_mem.proofs.codec.sink.Sink.put_text.Goals as goal

pub characters-preserved : goal.characters-preserved
characters-preserved g c =
    let i = c.characters.invariant in
    let f = c.in-Some.ensures in
    let u = g.Self.Sink.is_units in
    let k = c.in-Some.c in
    let cost = g.met.Self.Sink.cost_is k in
    let put = i.wrote.0 in
    let first = text_len_first u c.characters.rest.now c.in-Some.more.now k f.chars f.bytes in
    let bytes = text_len_first false c.characters.rest.now c.in-Some.more.now k f.chars f.bytes in
    record {
      utf8 = rest_utf8 c.characters.rest.now c.in-Some.more.now k i.utf8 f.bytes f.boundary;
      room = omega (arith, i.room, c.put.ensures.free, cost, cost_le u k, bytes);
      free = omega (arith, i.free, c.put.ensures.free, cost, first);
      wrote = (
        put ++ k ∷ [],
        i.wrote.1 ∙ ap (λ l. put ++ l) f.chars ∙ sym (append_assoc put (k ∷ []) (chars c.in-Some.more.now)),
        g.met.Self.Sink.writes_more _ _ _ put (k ∷ []) i.wrote.2 c.put.ensures.writes,
      );
    }

pub returns-clause-free : goal.returns-clause-free
returns-clause-free g c =
    let i = c.characters.invariant in
    omega (arith, i.free, text_len_none g.Self.Sink.is_units c.characters.rest.now i.utf8 c.in_default.ensures.chars)

pub returns-clause-writes : goal.returns-clause-writes
returns-clause-writes g c =
    let i = c.characters.invariant in
    rw (i.wrote.1 ∙ ap (λ l. i.wrote.0 ++ l) c.in_default.ensures.chars ∙ append-nil i.wrote.0) i.wrote.2
