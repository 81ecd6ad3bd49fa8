-- Calls of a converter add up, and together are the conversion of what they were handed.
use Rattle.std.proofs.Common.{◌≡◌, ℕ, ◌↔◌, Bool, true, false, List, [], ◌++◌, length, refl, sym, ◌∙◌, ap, subst, arith, append_assoc, append-nil, length-append}
use Rattle.encoding_mem.specs.Items.{Item}
use Rattle.encoding_mem.specs.declared.codec.form.EscapeState.TheVariants.{Ascii}
use Rattle.recode.specs.Converter.{ConverterView, ConvertsPart, ConvertedSoFar, IsFreshConverter, IsReportButCalls, IsWhole, WillKeep, characters_of, owes}
use Rattle.recode.specs.Job.{input_pieces, input_text, target_of, whole_trace}
use Rattle.recode.specs.Policy.{reference_form}
use Rattle.recode.specs.Session.{ReportsOn}
use Rattle.recode.specs.WrittenItems.{bad_line_count, lost_line_count}
use Rattle.recode.specs.declared.job.Job.{Job}
use Rattle.recode.specs.declared.job.Report.{Report}
use Rattle.recode.specs.laws.Items.{AreCounted-trans, bad_line_count-trace, lost_line_count-trace}

-- no call takes nothing
pub part_none : (v : ConverterView) (last : Bool) (src : List ℕ) → (v.ended ≡ true → (last ≡ true) × (src ≡ [])) → ConvertsPart v v last src src []
part_none v last src ended = record {
  job = refl;
  lists = refl;
  owed = λ r none. refl;
  verdict = λ r none. ((λ k. k), (λ k. k));
  source = λ r none. refl;
  counted = refl;
  characters = λ r none. refl;
  lines = record { bad = omega arith; lost = omega arith };
  ended = ended;
}

-- one more call, for what the calls before it left and for more, if that was not the last
pub part_then : (v v1 v2 : ConverterView) (last last' : Bool) (bytes rest more rest' : List ℕ) (items items' : List Item) → (last ≡ true → (last' ≡ true) × (more ≡ []))
    → ConvertsPart v v1 last bytes rest items → ConvertsPart v1 v2 last' (rest ++ more) rest' items' → ConvertsPart v v2 last' (bytes ++ more) rest' (items ++ items')
part_then v v1 v2 last last' bytes rest more rest' items items' end p q = record {
  job = q.job ∙ p.job;
  lists = q.lists ∙ p.lists;
  owed = λ r none. ap (owes v) (append_assoc bytes more r) ∙ p.owed (more ++ r) (nothing r none) ∙ ap (λ x. items ++ owes v1 x) (sym (append_assoc rest more r))
      ∙ ap (λ x. items ++ x) (q.owed r none) ∙ sym (append_assoc items items' (owes v2 (rest' ++ r)));
  verdict = λ r none.
      let first : WillKeep v ((bytes ++ more) ++ r) ↔ WillKeep v1 ((rest ++ more) ++ r) =
      subst (λ x. WillKeep v x ↔ WillKeep v1 ((rest ++ more) ++ r)) (sym (append_assoc bytes more r))
      (subst (λ x. WillKeep v (bytes ++ (more ++ r)) ↔ WillKeep v1 x) (sym (append_assoc rest more r)) (p.verdict (more ++ r) (nothing r none))) in
      let second = q.verdict r none in
      ((λ k. second.0 (first.0 k)), (λ k. first.1 (second.1 k)));
  source = λ r none. ap v.state.source (append_assoc bytes more r) ∙ p.source (more ++ r) (nothing r none) ∙ ap v1.state.source (sym (append_assoc rest more r)) ∙ q.source r none;
  counted = omega (arith, p.counted, q.counted, length-append rest more, length-append bytes more);
  characters = λ r none. ap (characters_of v) (append_assoc bytes more r) ∙ p.characters (more ++ r) (nothing r none) ∙ ap (characters_of v1) (sym (append_assoc rest more r)) ∙ q.characters r none;
  lines = AreCounted-trans v.state.counts v1.state.counts v2.state.counts items items' p.lines q.lines;
  ended = q.ended;
}
  where
    nothing : (r : List ℕ) → (last' ≡ true → r ≡ []) → last ≡ true → more ++ r ≡ []
    nothing r none is = ap (λ x. x ++ r) (end is).1 ∙ none (end is).0

-- a new converter was handed nothing
pub taken_first : (j : Job) (v : ConverterView) → IsFreshConverter v j → ConvertedSoFar j false [] [] [] v
taken_first j v fresh = record { new = v; fresh = fresh; law = part_none v false [] (λ is. absurd (cc (sym is ∙ fresh.ended))) }

-- and each call is added
pub taken_on : (j : Job) (last last' : Bool) (bytes rest more rest' : List ℕ) (items items' : List Item) (v v' : ConverterView) → (last ≡ true → (last' ≡ true) × (more ≡ []))
    → ConvertedSoFar j last bytes rest items v → ConvertsPart v v' last' (rest ++ more) rest' items' → ConvertedSoFar j last' (bytes ++ more) rest' (items ++ items') v'
taken_on j last last' bytes rest more rest' items items' v v' end h p =
    record { new = h.new; fresh = h.fresh; law = part_then h.new v v' last last' bytes rest more rest' items items' end h.law p }

-- whatever follows, what a job makes of all is what the calls wrote and found, and then what is owed now
pub owed_on : (j : Job) (last : Bool) (bytes rest : List ℕ) (items : List Item) (v : ConverterView) → ConvertedSoFar j last bytes rest items v
    → (r : List ℕ) → (last ≡ true → r ≡ []) → whole_trace j (bytes ++ r) ≡ items ++ owes v (rest ++ r)
owed_on j last bytes rest items v h r none = sym (h.fresh.owes_trace (bytes ++ r)) ∙ h.law.owed r none

-- if all is written, that is all that the job makes of what was handed in
pub taken_whole : (j : Job) (bytes : List ℕ) (items : List Item) (v : ConverterView) → ConvertedSoFar j true bytes [] items v → IsWhole v → items ≡ whole_trace j bytes
taken_whole j bytes items v h whole =
    sym (ap (whole_trace j) (sym (append-nil bytes)) ∙ owed_on j true bytes [] items v h [] (λ _. refl) ∙ ap (λ t. items ++ t) whole.written ∙ append-nil items)

-- whatever follows, the text of all has the characters that are counted, and those that are to come
pub counted_on : (j : Job) (last : Bool) (bytes rest : List ℕ) (items : List Item) (v : ConverterView) → ConvertedSoFar j last bytes rest items v
    → (r : List ℕ) → (last ≡ true → r ≡ []) → length (input_text j (bytes ++ r)) ≡ characters_of v (rest ++ r)
counted_on j last bytes rest items v h r none = omega (arith, h.law.characters r none, h.fresh.index, ap length (h.fresh.text_ (bytes ++ r)))

-- if all is written, all characters of the text are counted
pub taken_characters : (j : Job) (bytes : List ℕ) (items : List Item) (v : ConverterView) → ConvertedSoFar j true bytes [] items v → IsWhole v → v.state.counts.index ≡ length (input_text j bytes)
taken_characters j bytes items v h whole =
    sym (ap (λ x. length (input_text j x)) (sym (append-nil bytes)) ∙ counted_on j true bytes [] items v h [] (λ _. refl) ∙ whole.counted)

-- and what is reported is the report on it
pub taken_report : (j : Job) (bytes : List ℕ) (items : List Item) (v : ConverterView) (p : Report) → ConvertedSoFar j true bytes [] items v → IsWhole v → ReportsOn v.state p
    → IsReportButCalls j bytes p
taken_report j bytes items v p h whole tells =
    let all : items ≡ whole_trace j bytes = taken_whole j bytes items v h whole in
    let kept : WillKeep h.new bytes ↔ WillKeep v [] = subst (λ x. WillKeep h.new x ↔ WillKeep v []) (append-nil bytes) (h.law.verdict [] (λ _. refl)) in
    record {
      read = omega (arith, tells.read, h.law.counted, h.fresh.read);
      bad = omega (arith, tells.bad, h.law.lines.bad, h.fresh.bad, ap bad_line_count all, bad_line_count-trace (reference_form j.policy) (target_of j) Ascii 0 0 (input_pieces j bytes));
      lost = omega (arith, tells.lost, h.law.lines.lost, h.fresh.lost, ap lost_line_count all, lost_line_count-trace (reference_form j.policy) (target_of j) Ascii 0 0 (input_pieces j bytes));
      encoding = tells.encoding ∙ sym (h.law.source [] (λ _. refl)) ∙ ap h.new.state.source (append-nil bytes) ∙ h.fresh.source bytes;
      faithful = (
        λ is. (h.fresh.verdict bytes).0 (kept.1 (whole.told.1 (sym tells.verdict ∙ is))),
        λ k. tells.verdict ∙ whole.told.0 (kept.0 ((h.fresh.verdict bytes).1 k)),
      );
    }
