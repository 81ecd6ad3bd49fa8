use Rattle.std.proofs.Common.{◌↔◌, ◌∙◌, ◌+◌, ap, Bool, IsTrue, List, ℕ, [], ◌∷◌, false, get_or, subst, sym, take}
use Rattle.recode.specs.Converter.{ConverterView}
use Rattle.recode.specs.Job.{Faithful}
use Rattle.std.proofs.lemmas.List.{take_all, take_more}
use Rattle.recode.specs.calls.ConverterView.{converter_view}
use Rattle.test_examples.specs.Calls.{PassesOn}
use Rattle.test_examples.proofs.CallsLemmas.{converts_whole, passes_more, passes_start}
use Rattle.test_examples.proofs.converters.convert_singly.Goals as goal

pub bytes-init : goal.bytes-init
bytes-init c =
    let new = c.new-converter in
    record {
      passed = passes_start (converter_view new.result) c.args.output.now.items c.args.log.now.items new.ensures.ended;
      over = new.ensures.over;
      ended = new.ensures.ended;
    }

pub bytes-preserved : goal.bytes-preserved
bytes-preserved c =
    let part = c.in_ok-convert_part.ensures in
    let new = c.convert_part.new in
    let i = c.bytes.byte-index in
    let x = c.args.input.now in
    let next = take_more x i 0 c.bytes-test.true in
    let same = c.continued-converter.ensures in
    record {
      passed = subst (λ (v : ConverterView). PassesOn (converter_view c.new-converter.result) v false (take (i + 1) x) [] c.args.output.now.items new.output.items c.args.log.now.items new.log.items) (sym same)
          (subst (λ (bytes : List ℕ). PassesOn (converter_view c.new-converter.result) (converter_view new.converter) false bytes [] c.args.output.now.items new.output.items c.args.log.now.items new.log.items)
          (sym next)
          (passes_more (converter_view c.new-converter.result) (converter_view c.bytes.converter) (converter_view new.converter) false (take i x) (get_or x i 0 ∷ [])
          c.args.output.now.items c.bytes.output.items new.output.items c.args.log.now.items c.bytes.log.items new.log.items c.bytes.invariant.passed part.law));
      over = ap (λ (v : ConverterView). v.over) same ∙ part.ends.over;
      ended = ap (λ (v : ConverterView). v.ended) same ∙ part.ends.ended;
    }

pub continued-converter-requires : goal.continued-converter-requires
continued-converter-requires c = c.in_ok-convert_part.ensures.law.law.lists ∙ c.bytes.invariant.passed.law.lists ∙ c.new-converter.ensures.lists

pub returns-clause-output : goal.returns-clause-output
returns-clause-output c =
    let part = c.in_ok-convert_part-2.ensures in
    let all = take_all c.bytes.byte-index c.args.input.now c.bytes-test.false in
    let new = c.convert_part-2.new in
    (converts_whole (converter_view c.new-converter.result) (converter_view c.bytes.converter) (converter_view new.converter) c.args.job c.args.input.now
    c.args.output.now.items c.bytes.output.items new.output.items c.args.log.now.items c.bytes.log.items new.log.items
    c.new-converter.ensures c.requires.policy (rw all at c.bytes.invariant.passed) part.law part.ends).0

pub returns-clause-logged : goal.returns-clause-logged
returns-clause-logged c =
    let part = c.in_ok-convert_part-2.ensures in
    let all = take_all c.bytes.byte-index c.args.input.now c.bytes-test.false in
    let new = c.convert_part-2.new in
    (converts_whole (converter_view c.new-converter.result) (converter_view c.bytes.converter) (converter_view new.converter) c.args.job c.args.input.now
    c.args.output.now.items c.bytes.output.items new.output.items c.args.log.now.items c.bytes.log.items new.log.items
    c.new-converter.ensures c.requires.policy (rw all at c.bytes.invariant.passed) part.law part.ends).1

pub returns-clause-verdict : goal.returns-clause-verdict
returns-clause-verdict c =
    let part = c.in_ok-convert_part-2.ensures in
    let all = take_all c.bytes.byte-index c.args.input.now c.bytes-test.false in
    let new = c.convert_part-2.new in
    subst (λ (b : Bool). IsTrue b ↔ Faithful c.args.job c.args.input.now) (sym c.in-Some.ensures.tells.verdict)
    (converts_whole (converter_view c.new-converter.result) (converter_view c.bytes.converter) (converter_view new.converter) c.args.job c.args.input.now
    c.args.output.now.items c.bytes.output.items new.output.items c.args.log.now.items c.bytes.log.items new.log.items
    c.new-converter.ensures c.requires.policy (rw all at c.bytes.invariant.passed) part.law part.ends).2
