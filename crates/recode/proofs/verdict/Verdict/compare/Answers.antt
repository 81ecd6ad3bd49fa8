use Rattle.std.proofs.Common.{◌≡◌, ◌∙◌, false, ◌<◌, length, ap, arith, length-append, refl, sym}
use Rattle.std.proofs.lemmas.List.{take_rest}
use Rattle.encoding_mem.specs.declared.codec.decoder_result.DecoderResult.TheVariants.{OutputFull}
use Rattle.recode.specs.calls.PivotText.{pivot_chars}
use Rattle.recode.proofs.WriterLemmas.{room_on, room_start}
use Rattle.recode.proofs.VerdictLemmas.{compares_differing, compares_end, compares_malformed, compares_more, compares_start, counted_more}
use Rattle.recode.proofs.CodecCallLemmas.{IsDecoded, decoded_by, fewer_left, some_written, written_some, holds_some}
use Rattle.recode.proofs.verdict.Verdict.compare.Goals.{After-text_in-part}
use Rattle.recode.proofs.verdict.Verdict.compare.Given.{Over}
use Rattle.recode.proofs.verdict.Verdict.compare.Goals as goal

-- what the reader took, and that it wrote something if the room is full
took : (g : Over) (c : After-text_in-part g)
    → IsDecoded (g.D.StreamDecoder.view c.parts.self.reader).state (g.D.StreamDecoder.view c.decode_to_pivot-call.new.decoder).state c.parts.left.now false c.decode_to_pivot-call.result.read c.decode_to_pivot-call.result.answer (pivot_chars c.text_in-part.result)
took g c = decoded_by _ _ _ _ _ _ _ c.decode_to_pivot-call.result.answer c.decode_to_pivot-call.ensures.law c.text_in-part.ensures.chars

some : (g : Over) (c : After-text_in-part g) → c.decode_to_pivot-call.result.answer ≡ OutputFull → 0 < length (pivot_chars c.text_in-part.result)
some g c full = let d = c.decode_to_pivot-call in written_some (g.D.StreamDecoder.view c.parts.self.reader).state (g.D.StreamDecoder.view d.new.decoder).state _ _ _ _ _ d.result.answer d.ensures.law c.text_in-part.ensures.chars (λ t w. holds_some d.new.pivot d.result.written t w (rw full at d.ensures.ends))

pub parts-init : goal.parts-init
parts-init g c = record { compared = compares_start _ _ _; open_ = c.requires.open_; by_log = refl; made = λ t m. m; expected = c.requires.text; form = c.requires.form; check = room_start _ c.requires.check; least = λ under. omega arith; most = omega arith }

pub decode_to_pivot-call-requires-clause-pivot : goal.decode_to_pivot-call-requires-clause-pivot
decode_to_pivot-call-requires-clause-pivot g c = c.parts.invariant.check.roomy

pub decode_to_pivot-call-requires-clause-open_ : goal.decode_to_pivot-call-requires-clause-open_
decode_to_pivot-call-requires-clause-open_ g c = c.parts.invariant.open_

pub text_in-part-requires : goal.text_in-part-requires
text_in-part-requires g c = let d = c.decode_to_pivot-call in some_written (g.D.StreamDecoder.view c.parts.self.reader).state (g.D.StreamDecoder.view d.new.decoder).state _ _ _ _ d.result.answer d.ensures.law

pub strip_prefix-requires-clause-form : goal.strip_prefix-requires-clause-form
strip_prefix-requires-clause-form g c = sym c.parts.invariant.form ∙ sym c.decode_to_pivot-call.ensures.pivot.kind ∙ sym c.text_in-part.ensures.form

pub strip_prefix-requires-clause-text : goal.strip_prefix-requires-clause-text
strip_prefix-requires-clause-text g c = c.parts.invariant.expected

pub returns-in_default : goal.returns-in_default
returns-in_default g c =
    let d = c.decode_to_pivot-call.ensures in
    let i = c.parts.invariant in
    let differs = compares_differing _ _ _ _ _ _ _ _ c.decode_to_pivot-call.result.answer _ i.compared (took g (goal.at.returns-in_default g c).After-text_in-part) c.in_default.ensures in
    record { open_ = d.finished; by_log = i.by_log; made = λ t m. d.made t (i.made t m); verdict = differs; calls = counted_more _ _ _ _ _ i.least i.most d.calls; check = room_on i.check d.pivot }

pub returns-in-Malformed : goal.returns-in-Malformed
returns-in-Malformed g c =
    let d = c.decode_to_pivot-call.ensures in
    let i = c.parts.invariant in
    let differs = compares_malformed _ _ _ _ _ _ _ _ _ _ i.compared (took g (goal.at.returns-in-Malformed g c).After-text_in-part) _ _ c.in-Malformed.is in
    record { open_ = d.finished; by_log = i.by_log; made = λ t m. d.made t (i.made t m); verdict = differs; calls = counted_more _ _ _ _ _ i.least i.most d.calls; check = room_on i.check d.pivot }

pub returns-in-InputEmpty : goal.returns-in-InputEmpty
returns-in-InputEmpty g c =
    let d = c.decode_to_pivot-call.ensures in
    let i = c.parts.invariant in
    let more = compares_more _ _ _ _ _ _ _ _ _ _ i.compared (took g (goal.at.returns-in-InputEmpty g c).After-text_in-part) (rw c.in-InputEmpty.is refl) _ c.in-Some.ensures.parts in
    let ends = compares_end _ (g.D.StreamDecoder.view c.decode_to_pivot-call.new.decoder).state _ _ _ _ _ c.is_empty-self.ensures more (rw c.in-InputEmpty.is at d.ends) in
    record { open_ = d.finished; by_log = i.by_log; made = λ t m. d.made t (i.made t m); verdict = ends; calls = counted_more _ _ _ _ _ i.least i.most d.calls; check = room_on i.check d.pivot }

pub parts-smaller : goal.parts-smaller
parts-smaller g c =
    let at = (goal.at.parts-smaller g c).After-text_in-part in
    rw (take_rest c.parts.left.now c.decode_to_pivot-call.result.read) (fewer_left _ _ _ _ _ _ _ (took g at) (some g at c.in-OutputFull.is))

pub parts-preserved : goal.parts-preserved
parts-preserved g c =
    let at = (goal.at.parts-preserved g c).After-text_in-part in
    let d = c.decode_to_pivot-call.ensures in
    let i = c.parts.invariant in
    rw (take_rest c.parts.left.now c.decode_to_pivot-call.result.read) (record {
      compared = compares_more _ _ _ _ _ _ _ _ _ _ i.compared (took g at) (rw c.in-OutputFull.is refl) _ c.in-Some.ensures.parts;
      open_ = d.finished;
      by_log = i.by_log;
      made = λ t m. d.made t (i.made t m);
      expected = c.in-Some.ensures.text;
      form = d.pivot.kind ∙ i.form ∙ sym c.in-Some.ensures.form;
      check = room_on i.check d.pivot;
      least = λ under. omega (arith, d.calls.at_least under, i.least (omega (arith, d.calls.at_least under, under)));
      most = omega (arith, i.most, d.calls.at_most, ap length c.in-Some.ensures.parts, length-append (pivot_chars c.text_in-part.result) (pivot_chars c.in-Some.rest), some g at c.in-OutputFull.is);
    })
