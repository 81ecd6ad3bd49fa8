use Rattle.std.proofs.Common.{◌≡◌, ◌⊎◌, ◌↔◌, ℕ, List, Option, Some, None, inl, inr, refl}
use Rattle.encoding_front.specs.Encodings.{HasLabel}
use Rattle.encoding_front.specs.declared.encoding.Encoding.{Encoding}
use Rattle.recode.specs.Program.{IsUnknown}
use Rattle.recode.proofs.LoadLemmas.{adds_to_none, is_alone, of_files_still}
use Rattle.recode.proofs.entry.run_words.Goals as goal

unknown_of : (r : Option Encoding) (label bytes : List ℕ) → bytes ≡ label → r ≡ None → ((e : Encoding) → (r ≡ Some e) ↔ HasLabel e bytes) → IsUnknown label
unknown_of r label bytes same none law e h =
    let some : r ≡ Some e = (law e).1 (rw same h) in
    cc

known_of : (r : Option Encoding) (label bytes : List ℕ) (e : Encoding) → bytes ≡ label → r ≡ Some e → ((e : Encoding) → (r ≡ Some e) ↔ HasLabel e bytes) → HasLabel e label
known_of r label bytes e same some law = rw same at (law e).0 some

-- a label was refused, or memory for its message
refused : {X Y Z : Type 0} (status : ℕ) → X → Y → (status ≡ 2) ⊎ (status ≡ 3) → ((status ≡ 2) × X × Y) ⊎ (((status ≡ 3) × Y) ⊎ Z)
refused status x y (inl two) = inl (two, x, y)
refused status x y (inr three) = inr (inl (three, y))

pub returns-in_default-clause-answer : goal.returns-in_default-clause-answer
returns-in_default-clause-answer g c =
    refused c.refuse_label.result (inl (unknown_of c.for_label.result c.args.words.from.now c.as_bytes.result.now c.as_bytes.ensures.value c.in_default.is c.for_label.ensures))
    record { unread = c.refuse_label.ensures.journal.reader; unwritten = c.refuse_label.ensures.journal.writer; told = c.refuse_label.ensures.told } c.refuse_label.ensures.status

pub returns-in_default-for_label-clause-answer : goal.returns-in_default-for_label-clause-answer
returns-in_default-for_label-clause-answer g c =
    refused c.refuse_label-in_default-for_label.result
    (inr (unknown_of c.for_label-2.result c.args.words.to.now c.as_bytes-2.result.now c.as_bytes-2.ensures.value c.in_default-for_label.is c.for_label-2.ensures))
    record { unread = c.refuse_label-in_default-for_label.ensures.journal.reader; unwritten = c.refuse_label-in_default-for_label.ensures.journal.writer; told = c.refuse_label-in_default-for_label.ensures.told } c.refuse_label-in_default-for_label.ensures.status

pub returns-in_default-clause-source : goal.returns-in_default-clause-source
returns-in_default-clause-source g c = inl refl

pub returns-in_default-for_label-clause-source : goal.returns-in_default-for_label-clause-source
returns-in_default-for_label-clause-source g c = inl refl

pub returns-clause-source : goal.returns-clause-source
returns-clause-source g c =
    is_alone c.args.source.now c.load_both.new.source c.args.words c.new-tables.result c.in-Some.from c.in-Some-for_label.to _ refl
    (known_of c.for_label.result c.args.words.from.now c.as_bytes.result.now c.in-Some.from c.as_bytes.ensures.value c.in-Some.is c.for_label.ensures)
    (known_of c.for_label-2.result c.args.words.to.now c.as_bytes-2.result.now c.in-Some-for_label.to c.as_bytes-2.ensures.value c.in-Some-for_label.is c.for_label-2.ensures) c.load_both.ensures.once

pub returns-in-Err-clause-source : goal.returns-in-Err-clause-source
returns-in-Err-clause-source g c =
    is_alone c.args.source.now c.load_both.new.source c.args.words c.new-tables.result c.in-Some.from c.in-Some-for_label.to _ refl
    (known_of c.for_label.result c.args.words.from.now c.as_bytes.result.now c.in-Some.from c.as_bytes.ensures.value c.in-Some.is c.for_label.ensures)
    (known_of c.for_label-2.result c.args.words.to.now c.as_bytes-2.result.now c.in-Some-for_label.to c.as_bytes-2.ensures.value c.in-Some-for_label.is c.for_label-2.ensures) c.load_both.ensures.once

pub returns-clause-answer : goal.returns-clause-answer
returns-clause-answer g c = inr (inr (
  _,
  record {
    from = known_of c.for_label.result c.args.words.from.now c.as_bytes.result.now c.in-Some.from c.as_bytes.ensures.value c.in-Some.is c.for_label.ensures;
    to = known_of c.for_label-2.result c.args.words.to.now c.as_bytes-2.result.now c.in-Some-for_label.to c.as_bytes-2.ensures.value c.in-Some-for_label.is c.for_label-2.ensures;
    mark = c.mark_of.ensures;
    policy = c.policy_of.ensures;
    limit = refl;
    valid = record { tables = c.accepted.ensures; from = c.in-Ok.ensures.from; to = c.in-Ok.ensures.to; limit = c.requires.limit };
  },
  of_files_still (g.S.IndexSource.holds c.args.source.now) (g.S.IndexSource.holds c.load_both.new.source) c.args.words.indexes.now c.new-tables.result c.load_both.new.tables c.in-Ok.ensures.files
      (adds_to_none (g.S.IndexSource.holds c.args.source.now) c.args.words.indexes.now c.new-tables.result c.new-tables.ensures.flats c.new-tables.ensures.rows),
  c.convert_in_buffers.ensures.conversion,
))
