use Rattle.std.proofs.Common.{◌≡◌, ℕ, ◌+◌, ◌-◌, ◌*◌, ◌≤◌, ◌++◌, ◌∷◌, length, take, refl, sym, ◌∙◌, ap, subst, arith, inl, inr}
use Rattle.encoding_mem.proofs.EncoderCallLemmas.{copied_run, full, turned, escaped, unmapped, finished, not_last, ended, behind_put, escape_is, escape_over, form_over, some_left, tight_end, tight_escape, tight_form, not_ascii, spent_more, fits_all, le_times, first_same, ascii_costs}
use Rattle.encoding_mem.specs.Coding.{mapped_bytes}
use Rattle.encoding_mem.specs.calls.DecodedLength.{cost_in}
use Rattle.encoding_mem.specs.calls.EncoderRule.{IsRun, left}
use Rattle.encoding_mem.specs.calls.EncodedLength.{bound_for}
use Rattle.encoding_mem.proofs.codec.encode.encode_each.Goals as goal

pub loop-c-preserved : goal.loop-c-preserved
loop-c-preserved g c = record {
  room = omega arith;
  size = c.put-written-in-Mapped.auto.dst ∙ c.put-written.auto.dst ∙ c.loop-c.invariant.size;
  after = omega (arith, c.loop-c.invariant.after, c.advance_by.ensures.next.2);
  spent =
      let e = (g.T.EncoderRule.parts c.args.target.now).coding in
      let S = g.S.Source in
      let at = c.in-Some.ensures.next in
      let next = c.advance_by.ensures.next.1 in
      let same : c.advance_by.ensures.next.0 ≡ c.in-Some.c = first_same (sym next ∙ at) in
      let n : ℕ = cost_in S.is_units c.in-Some.c in
      let offset : S.offset c.advance_by.new.self ≡ S.offset c.loop-c.source + n = c.advance_by.ensures.next.2 ∙ ap (λ d. S.offset c.loop-c.source + cost_in S.is_units d) same in
      let escape_len = ap length (c.as_slice-bytes.ensures.value ∙ c.escape-escape.ensures ∙ ap (e.escape c.loop-c.set) c.step-next.ensures.set) in
      let form_len = ap length (c.as_slice-bytes-in-Mapped.ensures.value ∙ sym (ap mapped_bytes (sym c.step-next.ensures.form ∙ c.in-Mapped.is))) in
      let more : length c.as_slice-bytes.result.now + length c.as_slice-bytes-in-Mapped.result.now ≤ (bound_for (g.T.EncoderRule.parts c.args.target.now).limits S.is_units).factor * n = omega (arith, escape_len, form_len, (g.met.T.EncoderRule.fits c.args.target.now S.is_units).each c.loop-c.set c.in-Some.c) in
      let spent = spent_more (bound_for (g.T.EncoderRule.parts c.args.target.now).limits S.is_units).factor (S.offset c.args.source.now) (S.offset c.loop-c.source) n c.loop-c.written _ c.loop-c.invariant.after c.loop-c.invariant.spent more in
      rw offset (omega (arith, spent, c.put-written.ensures.end, c.put-written-in-Mapped.ensures.end));
  behind = behind_put _ _ _ _ _ _ c.put-written-in-Mapped.ensures.end (behind_put _ _ _ _ _ _ c.put-written.ensures.end c.loop-c.invariant.behind c.put-written.ensures.back) c.put-written-in-Mapped.ensures.back;
  source = c.advance_by.ensures.same ∙ c.loop-c.invariant.source;
  steps =
      let at = sym (ap (λ l. left g.S.Source.text l (g.S.Source.offset c.loop-c.source)) c.loop-c.invariant.source) ∙ c.in-Some.ensures.next in
      let next = sym (ap (λ l. left g.S.Source.text l (g.S.Source.offset c.loop-c.source)) c.loop-c.invariant.source) ∙ c.advance_by.ensures.next.1 ∙ ap (λ l. c.advance_by.ensures.next.0 ∷ left g.S.Source.text l (g.S.Source.offset c.advance_by.new.self)) (c.advance_by.ensures.same ∙ c.loop-c.invariant.source) in
      let one = escape_is (g.T.EncoderRule.parts c.args.target.now).coding _ _ _ _ _ _ _ c.put-written.ensures.prefix c.as_slice-bytes.ensures.value c.escape-escape.ensures c.step-next.ensures.set in
      let two = c.put-written-in-Mapped.ensures.prefix ∙ ap (λ l. take c.put-written.result c.put-written.new.dst ++ l) c.as_slice-bytes-in-Mapped.ensures.value in
      rw c.step-next.ensures.set (turned _ _ _ _ _ _ _ _ _ _ _ _ _ c.loop-c.invariant.steps at next one two (sym c.step-next.ensures.form ∙ c.in-Mapped.is));
}

pub loop-c-preserved-then-copies_ascii : goal.loop-c-preserved-then-copies_ascii
loop-c-preserved-then-copies_ascii g c =
    let e = c.copy_run-written.ensures in
    let i = c.loop-c.invariant in
    record {
      room = e.room;
      size = c.copy_run-written.auto.dst ∙ i.size;
      after = omega (arith, i.after, e.offset);
      spent =
          let S = g.S.Source in
          let f : ℕ = (bound_for (g.T.EncoderRule.parts c.args.target.now).limits S.is_units).factor in
          let some : 1 ≤ f = ascii_costs (g.T.EncoderRule.parts c.args.target.now).coding S.is_units (bound_for (g.T.EncoderRule.parts c.args.target.now).limits S.is_units) c.loop-c.set (g.met.T.EncoderRule.laws c.args.target.now) (g.met.T.EncoderRule.fits c.args.target.now S.is_units) (c.copies_ascii.ensures c.if-copies_ascii.true) in
          let spent = spent_more f (S.offset c.args.source.now) (S.offset c.loop-c.source) (c.copy_run-written.result - c.loop-c.written) c.loop-c.written (c.copy_run-written.result - c.loop-c.written) i.after i.spent (le_times f _ some) in
          rw e.offset (omega (arith, spent, e.after));
      behind = behind_put _ _ _ c.loop-c.written (c.copy_run-written.result - c.loop-c.written) c.copy_run-written.result (omega (arith, e.after)) i.behind e.behind;
      source = e.same ∙ i.source;
      steps = copied_run _ _ _ _ _ _ _ _ (g.met.T.EncoderRule.laws c.args.target.now) (c.copies_ascii.ensures c.if-copies_ascii.true) i.steps
          (subst (λ l. IsRun (left g.S.Source.text l (g.S.Source.offset c.loop-c.source)) (left g.S.Source.text l (g.S.Source.offset c.copy_run-written.new.source)) (take c.loop-c.written c.loop-c.dst) (take c.copy_run-written.result c.copy_run-written.new.dst)) i.source e.run);
    }

pub returns-then-dst-written-clause-enough : goal.returns-then-dst-written-clause-enough
returns-then-dst-written-clause-enough g c h full =
    let S = g.S.Source in
    let e = (g.T.EncoderRule.parts c.args.target.now).coding in
    let l = bound_for (g.T.EncoderRule.parts c.args.target.now).limits S.is_units in
    let i = c.loop-c.invariant in
    let n : ℕ = cost_in S.is_units c.in-Some.c in
    let escape_len = ap length (c.as_slice-bytes.ensures.value ∙ c.escape-escape.ensures ∙ ap (e.escape c.loop-c.set) c.step-next.ensures.set) in
    let all : length (S.all c.loop-c.source) ≡ length (S.all c.args.source.now) = ap length i.source in
    let spent = spent_more l.factor (S.offset c.args.source.now) (S.offset c.loop-c.source) n c.loop-c.written (length c.as_slice-bytes.result.now) i.after i.spent (omega (arith, escape_len, (g.met.T.EncoderRule.fits c.args.target.now S.is_units).each c.loop-c.set c.in-Some.c)) in
    let room = fits_all l.factor l.extra (S.offset c.args.source.now) (S.offset c.loop-c.source + n) (length (S.all c.args.source.now)) _ 0 (length c.args.dst.now) (omega (arith, i.after)) (omega (arith, all, c.in-Some.ensures.size.0, c.in-Some.ensures.size.1)) h spent (omega arith) in
    omega (arith, room, c.if-dst-written.true, i.size)

pub returns-then-dst-written-2-clause-enough : goal.returns-then-dst-written-2-clause-enough
returns-then-dst-written-2-clause-enough g c h full =
    let S = g.S.Source in
    let e = (g.T.EncoderRule.parts c.args.target.now).coding in
    let l = bound_for (g.T.EncoderRule.parts c.args.target.now).limits S.is_units in
    let i = c.loop-c.invariant in
    let n : ℕ = cost_in S.is_units c.in-Some.c in
    let escape_len = ap length (c.as_slice-bytes.ensures.value ∙ c.escape-escape.ensures ∙ ap (e.escape c.loop-c.set) c.step-next.ensures.set) in
    let form_len = ap length (c.as_slice-bytes-in-Mapped.ensures.value ∙ sym (ap mapped_bytes (sym c.step-next.ensures.form ∙ c.in-Mapped.is))) in
    let all : length (S.all c.loop-c.source) ≡ length (S.all c.args.source.now) = ap length i.source in
    let spent = spent_more l.factor (S.offset c.args.source.now) (S.offset c.loop-c.source) n c.loop-c.written (length c.as_slice-bytes.result.now + length c.as_slice-bytes-in-Mapped.result.now) i.after i.spent (omega (arith, escape_len, form_len, (g.met.T.EncoderRule.fits c.args.target.now S.is_units).each c.loop-c.set c.in-Some.c)) in
    let room = fits_all l.factor l.extra (S.offset c.args.source.now) (S.offset c.loop-c.source + n) (length (S.all c.args.source.now)) _ 0 (length c.args.dst.now) (omega (arith, i.after)) (omega (arith, all, c.in-Some.ensures.size.0, c.in-Some.ensures.size.1)) h spent (omega arith) in
    omega (arith, room, c.if-dst-written-2.true, c.put-written.ensures.end, c.put-written.auto.dst, i.size)

pub returns-then-dst-written-3-clause-enough : goal.returns-then-dst-written-3-clause-enough
returns-then-dst-written-3-clause-enough g c h full =
    let S = g.S.Source in
    let l = bound_for (g.T.EncoderRule.parts c.args.target.now).limits S.is_units in
    let i = c.loop-c.invariant in
    let escape_len = ap length (c.as_slice-bytes-then-last.ensures.value ∙ c.escape-escape-then-last.ensures) in
    let all : length (S.all c.loop-c.source) ≡ length (S.all c.args.source.now) = ap length i.source in
    let room = fits_all l.factor l.extra (S.offset c.args.source.now) (S.offset c.loop-c.source) (length (S.all c.args.source.now)) c.loop-c.written (length c.as_slice-bytes-then-last.result.now) (length c.args.dst.now) i.after (omega (arith, all, g.met.S.Source.within c.loop-c.source)) h i.spent (omega (arith, escape_len, (g.met.T.EncoderRule.fits c.args.target.now S.is_units).last c.loop-c.set)) in
    omega (arith, room, c.if-dst-written-3.true, i.size)

pub returns-then-dst-written-clause-wrote : goal.returns-then-dst-written-clause-wrote
returns-then-dst-written-clause-wrote g c =
    let i = c.loop-c.invariant in
    record { room = i.room; behind = i.behind }

pub returns-then-dst-written-clause-call : goal.returns-then-dst-written-clause-call
returns-then-dst-written-clause-call g c =
    let i = c.loop-c.invariant in
    let e = (g.T.EncoderRule.parts c.args.target.now).coding in
    let laws = g.met.T.EncoderRule.laws c.args.target.now in
    let at = sym (ap (λ l. left g.S.Source.text l (g.S.Source.offset c.loop-c.source)) i.source) ∙ c.in-Some.ensures.next in
    record {
      same = refl;
      law = full e c.args.last _ _ _ _ _ laws i.steps;
      ends = (
        escape_over _ e _ _ _ _ _ laws c.as_slice-bytes.ensures.value c.escape-escape.ensures c.if-dst-written.true,
        inl (some_left _ _ _ at),
      );
      tight = tight_escape e _ _ _ _ _ _ _ _ at c.as_slice-bytes.ensures.value c.escape-escape.ensures c.step-next.ensures.set c.if-dst-written.true;
    }

pub returns-then-dst-written-2-clause-wrote : goal.returns-then-dst-written-2-clause-wrote
returns-then-dst-written-2-clause-wrote g c =
    let i = c.loop-c.invariant in
    record { room = omega (arith, c.put-written.ensures.end, c.put-written.auto.dst); behind = behind_put _ _ _ _ _ _ c.put-written.ensures.end i.behind c.put-written.ensures.back }

pub returns-then-dst-written-2-clause-call : goal.returns-then-dst-written-2-clause-call
returns-then-dst-written-2-clause-call g c =
    let i = c.loop-c.invariant in
    let e = (g.T.EncoderRule.parts c.args.target.now).coding in
    let laws = g.met.T.EncoderRule.laws c.args.target.now in
    let at = sym (ap (λ l. left g.S.Source.text l (g.S.Source.offset c.loop-c.source)) i.source) ∙ c.in-Some.ensures.next in
    let one = escape_is e _ _ _ _ _ _ _ c.put-written.ensures.prefix c.as_slice-bytes.ensures.value c.escape-escape.ensures c.step-next.ensures.set in
    let form = sym c.step-next.ensures.form ∙ c.in-Mapped.is in
    let mapped_bytes = c.as_slice-bytes-in-Mapped.ensures.value in
    record {
      same = refl;
      law = rw c.step-next.ensures.set (escaped _ c.args.last _ _ _ _ _ _ _ _ i.steps at one);
      ends = (form_over _ e c.in-Some.c _ _ _ laws mapped_bytes form c.if-dst-written-2.true, inl (some_left _ _ _ at));
      tight = tight_form _ _ _ _ _ _ _ _ _ _ laws at c.step-next.ensures.set mapped_bytes form c.if-dst-written-2.true;
    }

pub returns-in-Unmapped-clause-wrote : goal.returns-in-Unmapped-clause-wrote
returns-in-Unmapped-clause-wrote g c =
    let i = c.loop-c.invariant in
    record { room = omega (arith, c.put-written.ensures.end, c.put-written.auto.dst); behind = behind_put _ _ _ _ _ _ c.put-written.ensures.end i.behind c.put-written.ensures.back }

pub returns-in-Unmapped-clause-call : goal.returns-in-Unmapped-clause-call
returns-in-Unmapped-clause-call g c =
    let i = c.loop-c.invariant in
    let e = (g.T.EncoderRule.parts c.args.target.now).coding in
    let laws = g.met.T.EncoderRule.laws c.args.target.now in
    let at = sym (ap (λ l. left g.S.Source.text l (g.S.Source.offset c.loop-c.source)) i.source) ∙ c.in-Some.ensures.next in
    let next = sym (ap (λ l. left g.S.Source.text l (g.S.Source.offset c.loop-c.source)) i.source) ∙ c.advance_by-in-Unmapped.ensures.next.1 ∙ ap (λ l. c.advance_by-in-Unmapped.ensures.next.0 ∷ left g.S.Source.text l (g.S.Source.offset c.advance_by-in-Unmapped.new.self)) (c.advance_by-in-Unmapped.ensures.same ∙ i.source) in
    let one = escape_is e _ _ _ _ _ _ _ c.put-written.ensures.prefix c.as_slice-bytes.ensures.value c.escape-escape.ensures c.step-next.ensures.set in
    record {
      same = refl;
      law = rw c.step-next.ensures.set (unmapped _ c.args.last _ _ _ _ _ _ _ _ _ _ _ i.steps at next one (sym c.step-next.ensures.form ∙ c.in-Unmapped.is));
      ends = tt;
      tight = tt;
    }

pub returns-then-dst-written-3-clause-wrote : goal.returns-then-dst-written-3-clause-wrote
returns-then-dst-written-3-clause-wrote g c =
    let i = c.loop-c.invariant in
    record { room = i.room; behind = i.behind }

pub returns-then-dst-written-3-clause-call : goal.returns-then-dst-written-3-clause-call
returns-then-dst-written-3-clause-call g c =
    let i = c.loop-c.invariant in
    let e = (g.T.EncoderRule.parts c.args.target.now).coding in
    let laws = g.met.T.EncoderRule.laws c.args.target.now in
    let empty = sym (ap (λ l. left g.S.Source.text l (g.S.Source.offset c.loop-c.source)) i.source) ∙ c.in_default.ensures.next in
    let mapped_bytes = c.as_slice-bytes-then-last.ensures.value in
    let escape = c.escape-escape-then-last.ensures in
    record {
      same = refl;
      law = full e c.args.last _ _ _ _ _ laws i.steps;
      ends = (
        escape_over _ e _ _ _ _ _ laws mapped_bytes escape c.if-dst-written-3.true,
        inr (c.if-last.true, not_ascii _ e _ _ _ _ laws mapped_bytes escape c.if-dst-written-3.true),
      );
      tight = tight_end e _ _ _ _ _ empty mapped_bytes escape c.if-dst-written-3.true;
    }

pub returns-else-dst-written-3-clause-wrote : goal.returns-else-dst-written-3-clause-wrote
returns-else-dst-written-3-clause-wrote g c =
    let i = c.loop-c.invariant in
    record { room = omega (arith, c.put-written-then-last.ensures.end, c.put-written-then-last.auto.dst); behind = behind_put _ _ _ _ _ _ c.put-written-then-last.ensures.end i.behind c.put-written-then-last.ensures.back }

pub returns-else-dst-written-3-clause-call : goal.returns-else-dst-written-3-clause-call
returns-else-dst-written-3-clause-call g c =
    let i = c.loop-c.invariant in
    let e = (g.T.EncoderRule.parts c.args.target.now).coding in
    let laws = g.met.T.EncoderRule.laws c.args.target.now in
    let empty = sym (ap (λ l. left g.S.Source.text l (g.S.Source.offset c.loop-c.source)) i.source) ∙ c.in_default.ensures.next in
    record {
      same = refl;
      law = ended e c.args.last _ _ _ _ _ _ c.if-last.true i.steps empty
          (c.put-written-then-last.ensures.prefix ∙ ap (λ l. take c.loop-c.written c.loop-c.dst ++ l) (c.as_slice-bytes-then-last.ensures.value ∙ c.escape-escape-then-last.ensures));
      ends = (empty, λ _. refl);
      tight = tt;
    }

pub returns-else-last-clause-wrote : goal.returns-else-last-clause-wrote
returns-else-last-clause-wrote g c =
    let i = c.loop-c.invariant in
    record { room = i.room; behind = i.behind }

pub returns-else-last-clause-call : goal.returns-else-last-clause-call
returns-else-last-clause-call g c =
    let i = c.loop-c.invariant in
    let e = (g.T.EncoderRule.parts c.args.target.now).coding in
    let laws = g.met.T.EncoderRule.laws c.args.target.now in
    let empty = sym (ap (λ l. left g.S.Source.text l (g.S.Source.offset c.loop-c.source)) i.source) ∙ c.in_default.ensures.next in
    record {
      same = refl;
      law = finished e c.args.last _ _ _ _ _ laws c.if-last.false i.steps empty;
      ends = (empty, not_last c.args.last _ _ c.if-last.false);
      tight = tt;
    }
