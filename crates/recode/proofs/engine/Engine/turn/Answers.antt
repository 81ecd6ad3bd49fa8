use Rattle.std.proofs.Common.{append-nil, ◌∷◌, ◌-◌, ◌++◌, ◌∙◌, ◌≡◌, [], Some, arith, refl, sym, ap, map, take, drop, subst}
use Rattle.encoding_mem.specs.Items.{Byte, MalformedAt}
use Rattle.encoding_mem.specs.calls.EncoderCalls.{reported_item}
use Rattle.encoding_mem.specs.declared.codec.decoder_result.DecoderResult.TheVariants.{InputEmpty, Malformed, OutputFull}
use Rattle.recode.specs.Policy.{reference_form}
use Rattle.recode.specs.calls.CodecCalls.{writes_all}
use Rattle.recode.specs.calls.EngineView.{standing}
use Rattle.recode.specs.calls.Turns.{TakesTurns, is_last_text}
use Rattle.recode.specs.declared.job.Policy.{Policy}
use Rattle.recode.proofs.TurnLemmas.{finish_turn, replace_turn, replaced_state, Encoded, done_in, encoded, lost_some, offset_fits, text_fits}
use Rattle.recode.proofs.VerdictLemmas.{lost_tells}
use Rattle.recode.proofs.SavedLemmas.{replaced_codecs}
use Rattle.recode.proofs.engine.Engine.turn.Goals.{After-encode-answer}
use Rattle.recode.proofs.engine.Engine.turn.Given.{Over}
use Rattle.recode.proofs.engine.Engine.turn.Goals as goal

pub encode-answer-requires-clause-ready : goal.encode-answer-requires-clause-ready
encode-answer-requires-clause-ready g c =
    let next = c.fill-read.ensures.next in
    record { index = omega (arith, text_fits _ next.sound, next.limit); lost = next.sound.lost; tells = next.tells }

-- both calls
after : (g : Over) (c : After-encode-answer g) (p : Policy)
    → Encoded (standing g.D.StreamDecoder.view g.E.RawEncoder.parts p c.args.self.now c.args.pivot.now) (standing g.D.StreamDecoder.view g.E.RawEncoder.parts p c.encode-answer.new.self c.fill-read.new.pivot) c.args.last c.ends-ends.result c.args.src.now (drop c.fill-read.result c.args.src.now)
    (map Byte (take c.encode-answer.result.1 c.encode-answer.new.dst) ++ reported_item (reference_form p) c.encode-answer.new.self.counts.index c.encode-answer.result.0) (writes_all c.encode-answer.result.0)
after g c p =
    let f = c.fill-read in
    let e = c.encode-answer in
    encoded g.D.StreamDecoder.view g.E.RawEncoder.parts p c.args.self.now f.new.self e.new.self c.args.pivot.now f.new.pivot c.args.last c.ends-ends.result c.args.src.now (drop f.result c.args.src.now) (f.ensures.law p) f.ensures.next f.ensures.some c.ends-ends.ensures e.ensures.answer e.ensures.decoder (e.ensures.once p)

pub returns-in-OutputFull-clause-law : goal.returns-in-OutputFull-clause-law
returns-in-OutputFull-clause-law g c = λ p. (rw c.in-OutputFull.is at (after g (goal.at.returns-in-OutputFull-clause-law g c).After-encode-answer p)).turned

pub returns-in-OutputFull-clause-ends : goal.returns-in-OutputFull-clause-ends
returns-in-OutputFull-clause-ends g c = λ p.
    let k = rw c.in-OutputFull.is at (after g (goal.at.returns-in-OutputFull-clause-ends g c).After-encode-answer p) in
    (omega (arith, c.encode-answer.ensures.full c.in-OutputFull.is, c.encode-answer.ensures.wrote.room), k.goes_on (k.more refl))

pub overflow_sub-index : goal.overflow_sub-index
overflow_sub-index g c =
    let e = c.encode-answer in
    let once = rw c.in-Unmappable.is at (e.ensures.once Policy.Decimal) in
    omega (arith, once.encodes.lines.lost, once.encodes.lost, lost_some (reference_form Policy.Decimal) (take e.result.1 e.new.dst) e.new.self.counts.index c.in-Unmappable.scalar)

pub returns-in-Unmappable-clause-law : goal.returns-in-Unmappable-clause-law
returns-in-Unmappable-clause-law g c = λ p. (rw c.in-Unmappable.is at (after g (goal.at.returns-in-Unmappable-clause-law g c).After-encode-answer p)).turned

pub returns-in-Unmappable-clause-ends : goal.returns-in-Unmappable-clause-ends
returns-in-Unmappable-clause-ends g c = λ p.
    let k = rw c.in-Unmappable.is at (after g (goal.at.returns-in-Unmappable-clause-ends g c).After-encode-answer p) in
    (omega (arith, text_fits _ k.turned.sound, k.limit), k.goes_on (k.more refl))

pub replace-line-requires-clause-small : goal.replace-line-requires-clause-small
replace-line-requires-clause-small g c =
    let k = after g (goal.at.replace-line-requires-clause-small g c).After-encode-answer Policy.Decimal in
    omega (arith, k.turned.sound.bad, k.turned.sound.index, text_fits _ k.turned.sound, k.limit)

pub replace-line-requires-clause-offset : goal.replace-line-requires-clause-offset
replace-line-requires-clause-offset g c =
    let k = after g (goal.at.replace-line-requires-clause-offset g c).After-encode-answer Policy.Decimal in
    let is : c.encode-answer.new.self.answer ≡ Some (Malformed c.in-Malformed.size c.in-Malformed.after) = c.in-Some.is ∙ ap (λ x. Some x) c.in-Malformed.is in
    let open_ = rw is at k.open_ in
    offset_fits _ c.in-Malformed.size c.in-Malformed.after is open_.3 k.turned.sound

pub returns-in-InputEmpty-text-clause-law : goal.returns-in-InputEmpty-text-clause-law
returns-in-InputEmpty-text-clause-law g c = λ p.
    let k = rw c.in-InputEmpty.is at (after g (goal.at.returns-in-InputEmpty-text-clause-law g c).After-encode-answer p) in
    finish_turn _ _ InputEmpty c.args.last c.args.src.now _ _ 3 2 (c.in-Some.is ∙ ap (λ x. Some x) c.in-InputEmpty-text.is) (k.done refl).0 refl (omega arith) (omega arith) k.turned

pub returns-in-InputEmpty-text-clause-ends : goal.returns-in-InputEmpty-text-clause-ends
returns-in-InputEmpty-text-clause-ends g c = λ p.
    let k = rw c.in-InputEmpty.is at (after g (goal.at.returns-in-InputEmpty-text-clause-ends g c).After-encode-answer p) in
    let is : c.encode-answer.new.self.answer ≡ Some InputEmpty = c.in-Some.is ∙ ap (λ x. Some x) c.in-InputEmpty-text.is in
    let open_ = rw is at k.open_ in
    let ended : c.ends-ends.result ≡ is_last_text (Some InputEmpty) c.args.last = c.ends-ends.ensures ∙ ap (λ x. is_last_text x c.args.last) (sym c.encode-answer.ensures.answer ∙ is) in
    let done = k.done refl in
    (open_.0, refl, done.0, done_in _ _ c.args.last _ (g.met.E.RawEncoder.laws c.encode-answer.new.self.encoder) is done.0 open_ k.turned.sound (λ end. done.1.closed (ended ∙ end)) (λ on. done.1.tells (ended ∙ on)) (λ end. done.1.told (ended ∙ end)))

pub returns-in-OutputFull-text-clause-law : goal.returns-in-OutputFull-text-clause-law
returns-in-OutputFull-text-clause-law g c = λ p.
    let k = rw c.in-InputEmpty.is at (after g (goal.at.returns-in-OutputFull-text-clause-law g c).After-encode-answer p) in
    finish_turn _ _ OutputFull c.args.last c.args.src.now _ _ 0 0 (c.in-Some.is ∙ ap (λ x. Some x) c.in-OutputFull-text.is) (k.done refl).0 refl (omega arith) (omega arith) k.turned

pub returns-in-OutputFull-text-clause-goes_on : goal.returns-in-OutputFull-text-clause-goes_on
returns-in-OutputFull-text-clause-goes_on g c = λ none.
    let k = rw c.in-InputEmpty.is at (after g (goal.at.returns-in-OutputFull-text-clause-goes_on g c).After-encode-answer Policy.Decimal) in
    let is : c.encode-answer.new.self.answer ≡ Some OutputFull = c.in-Some.is ∙ ap (λ x. Some x) c.in-OutputFull-text.is in
    let done = k.done refl in
    record {
      sound = (returns-in-OutputFull-text-clause-law g c Policy.Decimal).sound;
      limit = k.limit;
      tells = rw done.0 (done.1.tells (c.ends-ends.ensures ∙ ap (λ x. is_last_text x c.args.last) (sym c.encode-answer.ensures.answer ∙ is)));
      open_ = (done.0, rw is at k.open_);
    }

pub returns-in-Malformed-clause-law : goal.returns-in-Malformed-clause-law
returns-in-Malformed-clause-law g c = λ p.
    let k = rw c.in-InputEmpty.is at (after g (goal.at.returns-in-Malformed-clause-law g c).After-encode-answer p) in
    let is : c.encode-answer.new.self.answer ≡ Some (Malformed c.in-Malformed.size c.in-Malformed.after) = c.in-Some.is ∙ ap (λ x. Some x) c.in-Malformed.is in
    let open_ = rw is at k.open_ in
    let r = c.replace-line.ensures in
    let c1 = standing g.D.StreamDecoder.view g.E.RawEncoder.parts p c.args.self.now c.args.pivot.now in
    let c2 = standing g.D.StreamDecoder.view g.E.RawEncoder.parts p c.encode-answer.new.self c.fill-read.new.pivot in
    rw (r.line, r.same, r.text) (subst (λ l. TakesTurns c1 (record { state = replaced_state c2.state; answer = Some OutputFull; text = 0xFFFD ∷ [] }) c.args.last c.args.src.now (drop c.fill-read.result c.args.src.now)
    (l ++ MalformedAt (c2.state.counts.read - c.in-Malformed.after - c.in-Malformed.size) c.in-Malformed.size ∷ []) 0 0) (append-nil (map Byte (take c.encode-answer.result.1 c.encode-answer.new.dst)))
    (replace_turn _ c2 c.in-Malformed.size c.in-Malformed.after c.args.last c.args.src.now _ _ is (k.done refl).0 open_.1 open_.3 k.turned))

pub returns-in-Malformed-clause-ends : goal.returns-in-Malformed-clause-ends
returns-in-Malformed-clause-ends g c = λ p.
    let k = rw c.in-InputEmpty.is at (after g (goal.at.returns-in-Malformed-clause-ends g c).After-encode-answer p) in
    let is : c.encode-answer.new.self.answer ≡ Some (Malformed c.in-Malformed.size c.in-Malformed.after) = c.in-Some.is ∙ ap (λ x. Some x) c.in-Malformed.is in
    let open_ = rw is at k.open_ in
    let r = c.replace-line.ensures in
    let s = (standing g.D.StreamDecoder.view g.E.RawEncoder.parts p c.encode-answer.new.self c.fill-read.new.pivot).state in
    let ended = c.ends-ends.ensures ∙ ap (λ x. is_last_text x c.args.last) (sym c.encode-answer.ensures.answer ∙ is) in (
      rw r.line (omega (arith, text_fits _ k.turned.sound, k.limit), open_.1, open_.2),
      record { sound = (returns-in-Malformed-clause-law g c p).sound; limit = rw r.same k.limit; tells = rw (r.same, r.text) (lost_tells s.coding s.verdict s.set [] s.set (0xFFFD ∷ []) ((k.done refl).1.tells ended)); open_ = rw r.same open_.0 },
    )

pub returns-in-Malformed-clause-codecs : goal.returns-in-Malformed-clause-codecs
returns-in-Malformed-clause-codecs g c = λ j h.
    rw c.replace-line.ensures.same (replaced_codecs g.D.StreamDecoder.view g.E.RawEncoder.parts j c.encode-answer.new.self _ (c.encode-answer.ensures.codecs j (c.fill-read.ensures.codecs j h)))
