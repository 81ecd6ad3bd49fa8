use Rattle.std.proofs.Common.{◌∙◌, ◌∷◌, [], ap, arith, take, ◌++◌, length, length-take}
use Rattle.std.proofs.lemmas.List.{length-take-le}
use Rattle.std.proofs.lemmas.List.Elements.{All-cons, All-nil}
use Rattle.recode_log.specs.Call.{Failed, Passed}
use Rattle.recode_parts.specs.Joins.{IsReadOfSome}
use Rattle.recode_log.specs.laws.Calls.{passed_failed, passed_one}
use Rattle.recode_log.specs.laws.Told.{reads_one}
use Rattle.recode_parts.proofs.HeldLemmas.{read_into}
use Rattle.recode_parts.proofs.held.Held.read.Goals as goal

pub returns-clause-ok : goal.returns-clause-ok
returns-clause-ok g c =
    let h = c.self.inside in
    let buf = c.read.new.buf in
    record {
      bytes = take c.in-Ok.count buf;
      size = length-take-le c.in-Ok.count buf c.in-Ok.ensures.bound.0;
      gave = passed_one _ _ _ _ c.in-Ok.ensures.call;
      holds = read_into h.len _ c.in-Ok.count h.bytes buf (omega (arith, c.self.invariant, c.self.told)) c.in-Ok.ensures.bound.0 ∙ ap (λ l. l ++ take c.in-Ok.count buf) c.self.view_is;
      failures = c.in-Ok.ensures.ok;
    }

pub returns-in_default-clause-err : goal.returns-in_default-clause-err
returns-in_default-clause-err g c =
    (passed_failed _ _ _ c.in_default.ensures.call, c.in_default.ensures.err, record { earlier = _; room = length c.read.new.buf; ends = c.in_default.ensures.call })

pub returns-clause-call : goal.returns-clause-call
returns-clause-call g c =
    let h = c.self.inside in
    let buf = c.read.new.buf in
    let call = Passed (length buf) (take c.in-Ok.count buf) in
    (call, record { made = c.in-Ok.ensures.call; some = All-cons IsReadOfSome call [] (omega (arith, c.requires.room, ap length c.self.view_is, length-take h.len h.bytes)) (All-nil IsReadOfSome); counted = omega (arith, c.in-Ok.ensures.ok) })

pub returns-in_default-clause-call : goal.returns-in_default-clause-call
returns-in_default-clause-call g c =
    let h = c.self.inside in
    let call = Failed (length c.read.new.buf) in
    (call, record { made = c.in_default.ensures.call; some = All-cons IsReadOfSome call [] (omega (arith, c.requires.room, ap length c.self.view_is, length-take h.len h.bytes)) (All-nil IsReadOfSome); counted = omega (arith, c.in_default.ensures.err) })

pub returns-clause-told : goal.returns-clause-told
returns-clause-told g c =
    let h = c.self.inside in
    reads_one _ _ _ _ c.read.result c.read.new.buf c.read.ensures.call c.read.ensures.bytes c.read.ensures.bound (omega (arith, c.requires.room, ap length c.self.view_is, length-take h.len h.bytes))

pub returns-in_default-clause-told : goal.returns-in_default-clause-told
returns-in_default-clause-told g c =
    let h = c.self.inside in
    reads_one _ _ _ _ c.read.result c.read.new.buf c.read.ensures.call c.read.ensures.bytes c.read.ensures.bound (omega (arith, c.requires.room, ap length c.self.view_is, length-take h.len h.bytes))
