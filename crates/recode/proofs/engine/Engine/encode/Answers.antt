use Rattle.std.proofs.Common.{false, [], append_assoc, ◌≡◌, ◌+◌, ◌-◌, ◌≤◌, ◌∙◌, ◌++◌, arith, refl, sym, ap, length, length-append, map, inl, inr, true≢false, take}
use Rattle.recode.proofs.TurnLemmas.{items_of_bytes, items_of_lost, left_in_pivot, lost_less}
use Rattle.recode.proofs.CodecCallLemmas.{items_less, turn_items}
use Rattle.recode.specs.Policy.{reference_form}
use Rattle.recode.specs.declared.job.Policy.{Policy}
use Rattle.encoding_mem.specs.calls.EncoderRule.{EncoderParts}
use Rattle.encoding_mem.specs.laws.EncoderCalls.{encoded_items}
use Rattle.encoding_mem.specs.calls.EncoderCalls.{TextGoesOn, reported_item}
use Rattle.encoding_mem.specs.declared.codec.encoder_result.EncoderResult.TheVariants.{Unmappable}
use Rattle.encoding_mem.specs.Items.{Byte, whole_items}
use Rattle.encoding_mem.specs.calls.ReadCalls.{IsNotUnmappable}
use Rattle.recode.specs.Work.{ended_count}
use Rattle.recode.specs.calls.CodecCalls.{writes_all}
use Rattle.recode.specs.calls.EngineView.{HoldsBetween, chars_between}
use Rattle.recode.specs.calls.PivotText.{element_count, pivot_chars}
use Rattle.recode.specs.calls.VerdictView.{verdict_view}
use Rattle.recode.proofs.SavedLemmas.{encoded_codecs}
use Rattle.recode.proofs.VerdictLemmas.{end_tells, lost_tells, read_keeps, still_tells, unmapped_keeps}
use Rattle.recode.proofs.engine.Engine.encode.Goals.{After-encode_from_pivot-call}
use Rattle.recode.proofs.engine.Engine.encode.Given.{Over}
use Rattle.recode.proofs.engine.Engine.encode.Goals as goal

-- what is left in the pivot
left : (g : Over) (c : After-encode_from_pivot-call g) → (element_count c.encode_from_pivot-call.result.rest ≤ c.args.self.now.to) × (chars_between c.args.pivot.now (c.args.self.now.to - element_count c.encode_from_pivot-call.result.rest) c.args.self.now.to ≡ pivot_chars c.encode_from_pivot-call.result.rest)
    × HoldsBetween c.args.pivot.now (c.args.self.now.to - element_count c.encode_from_pivot-call.result.rest) c.args.self.now.to
left g c =
    let text = c.text_between-text in
    left_in_pivot c.args.pivot.now c.args.self.now.from c.args.self.now.to text.result c.encode_from_pivot-call.result.read c.encode_from_pivot-call.result.rest c.requires.holds text.ensures.chars text.ensures.form text.ensures.len text.ensures.text (c.encode_from_pivot-call.ensures.parts text.ensures.text)

-- what was to be written for the text
law : (g : Over) (c : After-encode_from_pivot-call g) (p : Policy)
    → whole_items (reference_form p) (g.E.RawEncoder.parts c.args.self.now.encoder).coding c.args.last (g.E.RawEncoder.parts c.args.self.now.encoder).set c.args.self.now.counts.index (pivot_chars c.text_between-text.result)
    ≡ map Byte (take c.encode_from_pivot-call.result.written c.encode_from_pivot-call.new.out) ++ (reported_item (reference_form p) (c.args.self.now.counts.index + c.encode_from_pivot-call.result.characters) c.encode_from_pivot-call.result.answer
    ++ whole_items (reference_form p) (g.E.RawEncoder.parts c.args.self.now.encoder).coding c.args.last (g.E.RawEncoder.parts c.encode_from_pivot-call.new.encoder).set (c.args.self.now.counts.index + c.encode_from_pivot-call.result.characters) (pivot_chars c.encode_from_pivot-call.result.rest))
law g c p =
    let call = c.encode_from_pivot-call in
    turn_items (reference_form p) _ c.args.last call.result.answer _ _ _ _ _ c.args.self.now.counts.index _ (g.met.E.RawEncoder.laws c.args.self.now.encoder) call.ensures.call.law (omega (arith, call.ensures.passed))

pub overflow_sub-self : goal.overflow_sub-self
overflow_sub-self g c = omega (arith, (left g (goal.at.overflow_sub-self g c).After-encode_from_pivot-call).0, c.len.ensures)

pub returns-in-InputEmpty : goal.returns-in-InputEmpty
returns-in-InputEmpty g c =
    let at = (goal.at.returns-in-InputEmpty g c).After-encode_from_pivot-call in
    let text = c.text_between-text.ensures in
    let call = c.encode_from_pivot-call in
    let target = ap (λ (p : EncoderParts). p.coding) call.ensures.call.same in
    let coding = (g.E.RawEncoder.parts c.args.self.now.encoder).coding in
    let laws = g.met.E.RawEncoder.laws c.args.self.now.encoder in
    let s1 = (g.E.RawEncoder.parts call.new.encoder).set in
    let v = verdict_view g.D.StreamDecoder.view c.args.self.now.verdict in
    let v' = verdict_view g.D.StreamDecoder.view c.read_back.new.self in
    let rest = pivot_chars call.result.rest in
    let read = pivot_chars call.result.read in
    let ready = rw (sym text.chars) at c.requires.ready in
    let parts = (call.ensures.parts text.text).parts in
    let back = c.read_back.ensures in
    let i' = c.args.self.now.counts.index + call.result.characters in
    let o = call.result.answer in
    let kept : IsNotUnmappable o = λ m h. elim c.in-InputEmpty.is [ inl e ↦ absurd (cc) | inr e ↦ absurd (cc) ] in
    let none : (p : Policy) → reported_item (reference_form p) i' o ≡ [] = λ p. elim c.in-InputEmpty.is [ inl e ↦ rw e refl | inr e ↦ rw e refl ] in
    let goes_on : c.args.last ≡ false → TextGoesOn c.args.last o = λ on. elim c.in-InputEmpty.is [ inl e ↦ rw e on | inr e ↦ rw e on ] in
    let once : ended_count (writes_all o) ≤ 1 = elim c.in-InputEmpty.is [ inl e ↦ rw e (omega arith) | inr e ↦ rw e (omega arith) ] in
    let some : 1 ≤ call.result.written + ended_count (writes_all o) = elim c.in-InputEmpty.is [ inl e ↦ rw e (omega arith) | inr e ↦ rw e (omega (arith, (rw e at call.ensures.call.ends).0, laws.few, c.requires.room, call.auto.out)) ] in
    record {
      once = λ p. rw (sym text.chars, c.len.ensures, (left g at).1, target) (record {
        encodes = record {
          lines = items_of_bytes (reference_form p) _ _ _ i' o (none p) refl refl;
          owes = law g at p ∙ sym (append_assoc (map Byte (take call.result.written call.new.out)) (reported_item (reference_form p) i' o) (whole_items (reference_form p) coding c.args.last s1 i' rest));
          index = omega (arith, call.ensures.passed);
          lost = omega (arith, ready.lost);
          bad = refl;
          read = refl;
          target = refl;
          policy = refl;
          set = λ on. (encoded_items (reference_form p) _ _ o _ _ _ _ _ laws call.ensures.call.law).sets (goes_on on);
          verdict = read_keeps coding _ laws c.args.last o v v' _ _ _ s1 rest read text.text.scalars call.ensures.call.law kept parts back.verdict ready.tells;
          calls = omega (arith, call.ensures.calls.at_most, back.calls.at_most, call.ensures.passed, ap length parts, length-append read rest, some, items_less _ (whole_items (reference_form p) coding c.args.last s1 i' rest) (reported_item (reference_form p) i' o) call.new.out call.result.written (law g at p) call.ensures.wrote.room);
          least = λ under. omega (arith, once, back.calls.at_least under, call.ensures.calls.at_least (omega (arith, back.calls.at_least under, under)));
        };
        more = λ same. elim c.in-InputEmpty.is [
          | inl e ↦ absurd (true≢false (rw e at same))
          | inr e ↦ still_tells coding _ laws c.args.last o v v' _ _ _ s1 rest read text.text.scalars call.ensures.call.law kept parts back.verdict (λ from h. rw e at h) ready.tells
        ];
        done = λ same. elim c.in-InputEmpty.is [
          | inr e ↦ absurd (true≢false (sym (rw e at same)))
          | inl e ↦ (
            (rw e at call.ensures.call.ends).0,
            record {
              closed = (rw e at call.ensures.call.ends).1;
              tells = λ on. rw (rw e at call.ensures.call.ends).0 at (still_tells coding _ laws c.args.last o v v' _ _ _ s1 rest read text.text.scalars call.ensures.call.law kept parts back.verdict (λ from h. rw (e, on) at h) ready.tells);
              told = λ end. end_tells coding _ laws c.args.last o v v' _ _ _ s1 rest read text.text.scalars call.ensures.call.law kept parts back.verdict (λ from h. rw (e, end) at h) ready.tells;
            },
          )
        ];
      });
      wrote = call.ensures.wrote;
      holds = rw (sym c.len.ensures) at (left g at).2;
      decoder = refl;
      answer = refl;
      check = back.check;
      codecs = λ j h. encoded_codecs g.D.StreamDecoder.view g.E.RawEncoder.parts j c.args.self.now _ c.args.last o _ _ _ _ call.ensures.call refl (λ t m. back.made t m) h;
      full = λ f. omega (arith, (rw f at call.ensures.call.ends).0, laws.few, call.ensures.wrote.room);
    }

pub returns-in-Unmappable-clause-once : goal.returns-in-Unmappable-clause-once
returns-in-Unmappable-clause-once g c = λ p.
    let at = (goal.at.returns-in-Unmappable-clause-once g c).After-encode_from_pivot-call in
    let text = c.text_between-text.ensures in
    let call = c.encode_from_pivot-call in
    let target = ap (λ (p : EncoderParts). p.coding) call.ensures.call.same in
    let coding = (g.E.RawEncoder.parts c.args.self.now.encoder).coding in
    let laws = g.met.E.RawEncoder.laws c.args.self.now.encoder in
    let s1 = (g.E.RawEncoder.parts call.new.encoder).set in
    let v = verdict_view g.D.StreamDecoder.view c.args.self.now.verdict in
    let rest = pivot_chars call.result.rest in
    let m = c.in-Unmappable.field-0 in
    let encodes = rw c.in-Unmappable.is at call.ensures.call.law in
    let ready = rw (sym text.chars) at c.requires.ready in
    let items = rw c.in-Unmappable.is at (law g at p) in
    let i' = c.args.self.now.counts.index + call.result.characters in
    rw (sym text.chars, c.len.ensures, (left g at).1, target, c.in-Unmappable.is) (record {
      encodes = record {
        lines = items_of_lost _ _ _ _ _ _ refl refl;
        owes = items ∙ sym (append_assoc (map Byte (take call.result.written call.new.out)) (reported_item (reference_form p) i' (Unmappable m)) (whole_items (reference_form p) coding c.args.last s1 i' rest));
        index = omega (arith, call.ensures.passed);
        lost = omega (arith, ready.lost, call.ensures.passed, ap length encodes.split, length-append encodes.before encodes.next, ap length encodes.leaves.1);
        bad = refl;
        read = refl;
        target = refl;
        policy = refl;
        set = λ on. (encoded_items (reference_form p) _ _ (Unmappable m) _ _ _ _ _ laws encodes).sets tt;
        verdict = unmapped_keeps coding _ laws c.args.last m v _ _ _ s1 rest text.text.scalars encodes ready.tells;
        calls = omega (arith, call.ensures.calls.at_most, lost_less _ _ _ _ _ _ items);
        least = λ under. omega (arith, call.ensures.calls.at_least under);
      };
      more = λ same. lost_tells coding v _ _ s1 rest ready.tells;
      done = λ never. absurd (true≢false (sym never));
    })

pub returns-in-Unmappable-clause-holds : goal.returns-in-Unmappable-clause-holds
returns-in-Unmappable-clause-holds g c = rw (sym c.len.ensures) at (left g (goal.at.returns-in-Unmappable-clause-holds g c).After-encode_from_pivot-call).2

pub returns-in-Unmappable-clause-codecs : goal.returns-in-Unmappable-clause-codecs
returns-in-Unmappable-clause-codecs g c = λ j h.
    let call = c.encode_from_pivot-call in
    encoded_codecs g.D.StreamDecoder.view g.E.RawEncoder.parts j c.args.self.now _ c.args.last call.result.answer _ _ _ _ call.ensures.call refl (λ t m. m) h
