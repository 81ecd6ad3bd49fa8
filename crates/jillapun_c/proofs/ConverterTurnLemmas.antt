-- A turn of a converter, from the call of the conversion that it makes.
use Rattle.std.proofs.Common.{◌≡◌, ℕ, ◌+◌, ◌<◌, ◌≤◌, ◌⊎◌, inl, inr, Bool, true, false, List, [], ◌∷◌, ◌++◌, length, map, take, drop, refl, sym, ◌∙◌, ap, subst, arith, append_assoc, append-nil, length-append, length-take}
use Rattle.std.proofs.lemmas.List.{drop-append-le, length-map, length-take-le, take-append-drop, take_all}
use Rattle.encoding_mem.specs.Items.{Byte, Item}
use Rattle.encoding_mem.specs.declared.codec.reference.Reference.{Reference}
use Rattle.recode_log.specs.declared.line.LogLine.{LogLine}
use Rattle.recode_log.specs.declared.line.LogLine.TheVariants.{Bad, Lost}
use Rattle.recode.specs.Converter.{AllIsConverted, ConverterView, ConvertsPart, found_items, owes}
use Rattle.recode.specs.Policy.{reference_form}
use Rattle.recode.specs.declared.converter.ConverterResult.{ConverterResult}
use Rattle.recode.specs.declared.converter.ConverterResult.TheVariants.{Found, InputEmpty, OutputFull}
use Rattle.recode.specs.laws.Calls.{part_none, part_then}
use Rattle.recode.specs.declared.converter.saved_converter.SavedJob.{SavedJob}
use Rattle.jillapun_c.specs.ConverterTurns.{ConvertsInto, CanTurn, PassesLimit, TakesEnd, TurnEnds, MakesTurn, found_log, found_reference, line_reference, stage_at}
use Rattle.jillapun_c.specs.Converters.{StepView, HoldsNothing, held_losses}
use Rattle.jillapun_c.specs.Losses.{log_of_losses}
use Rattle.jillapun_c.specs.declared.converter.Stage.TheVariants.{TooLong}

-- a call for a first part of some bytes, which was not the last, is one for all of them
and_more : (v v' : ConverterView) (last : Bool) (bytes rest more : List ℕ) (items : List Item) → ConvertsPart v v' false bytes rest items
    → ConvertsPart v v' last (bytes ++ more) (rest ++ more) items
and_more v v' last bytes rest more items p = subst (λ (x : List Item). ConvertsPart v v' last (bytes ++ more) (rest ++ more) x) (append-nil items)
    (part_then v v' v' false last bytes rest more (rest ++ more) items [] (λ is. absurd (cc is)) p (part_none v' last (rest ++ more) (λ is. absurd (cc (p.ended is).0))))

-- the rest of a first part of some bytes, and what comes after that part, is their rest
part_rest : (src : List ℕ) (count read : ℕ) → read ≤ length (take count src) → drop read (take count src) ++ drop count src ≡ drop read src
part_rest src count read within = sym (drop-append-le read (take count src) (drop count src) within) ∙ ap (drop read) (take-append-drop count src)

-- a call for what the limit allows is one for all
whole_law : (v v' : ConverterView) (last a all : Bool) (src : List ℕ) (count read : ℕ) (items : List Item) → read ≤ length (take count src)
    → (all ≡ true → (count ≡ length src) × (a ≡ last)) → (all ≡ false → a ≡ false)
    → ConvertsPart v v' a (take count src) (drop read (take count src)) items → ConvertsPart v v' last src (drop read src) items
whole_law v v' last a true src count read items within whole part p =
    let all : take count src ≡ src = take_all count src (omega (arith, (whole refl).0)) in
    subst (λ b. ConvertsPart v v' b src (drop read src) items) (whole refl).1 (subst (λ x. ConvertsPart v v' a x (drop read x) items) all p)
whole_law v v' last a false src count read items within whole part p =
    let more : ConvertsPart v v' last (take count src ++ drop count src) (drop read (take count src) ++ drop count src) items =
    and_more v v' last (take count src) (drop read (take count src)) (drop count src) items (subst (λ b. ConvertsPart v v' b (take count src) (drop read (take count src)) items) (part refl) p) in
    subst (λ x. ConvertsPart v v' last x (drop read src) items) (take-append-drop count src)
    (subst (λ x. ConvertsPart v v' last (take count src ++ drop count src) x items) (part_rest src count read within) more)

pub length_none : {X : Type 0} (xs : List X) → length xs ≡ 0 → xs ≡ []
length_none [] none = refl
length_none (x ∷ xs) none = absurd (omega (arith, none))

-- what was owed of some bytes is what a call gave and what is owed of the rest
pub owes_split : (v v' : ConverterView) (last : Bool) (bytes rest : List ℕ) (items : List Item) → ConvertsPart v v' last bytes rest items
    → length (owes v bytes) ≡ length items + length (owes v' rest)
owes_split v v' last bytes rest items law = ap (λ x. length (owes v x)) (sym (append-nil bytes)) ∙ ap length (law.owed [] (λ _. refl)) ∙ length-append items (owes v' (rest ++ []))
    ∙ ap (λ x. length items + length (owes v' x)) (append-nil rest)

owes_fewer : (v v' : ConverterView) (last : Bool) (src rest bytes : List ℕ) (found : List Item) → ConvertsPart v v' last src rest (map Byte bytes ++ found) → 0 < length bytes + length found
    → length (owes v' rest) < length (owes v src)
owes_fewer v v' last src rest bytes found law some =
    omega (arith, owes_split v v' last src rest (map Byte bytes ++ found) law, length-append (map Byte bytes) found, length-map bytes Byte, some)

-- what holds of a turn, however it ended
turn_of : (c m c' : StepView) (last : Bool) (src rest dst dst' bytes more : List ℕ) (at to : ℕ) (result : ConverterResult)
    → ConvertsPart c.stream m.stream last src rest (map Byte bytes ++ found_items (reference_form c.stream.job.policy) result)
    → take to dst' ++ m.held ≡ take at dst ++ bytes → at ≤ to → to ≤ length dst' → drop to dst' ≡ drop to dst
    → c'.stream ≡ m.stream → c'.held ≡ m.held ++ more → more ≡ found_reference c.stream.job.policy result → log_of_losses (held_losses c') ≡ found_log result
    → TurnEnds c c' last src rest result → ((result ≡ InputEmpty) × HoldsNothing c') ⊎ (0 < length bytes + length (found_items (reference_form c.stream.job.policy) result)) → MakesTurn c c' last src rest dst dst' at to result
turn_of c m c' last src rest dst dst' bytes more at to result law written from fits behind stream held reference logged ends some = record {
  bytes = bytes;
  law = subst (λ s. ConvertsPart c.stream s last src rest (map Byte bytes ++ found_items (reference_form c.stream.job.policy) result)) (sym stream) law;
  written = ap (λ x. take to dst' ++ x) held ∙ sym (append_assoc (take to dst') m.held more) ∙ ap (λ x. x ++ more) written ∙ append_assoc (take at dst) bytes more
      ∙ ap (λ x. take at dst ++ (bytes ++ x)) reference;
  logged = logged;
  ends = ends;
  less = elim some [
    | inl none ↦ inl none
    | inr more ↦ inr (subst (λ s. length (owes s rest) < length (owes c.stream src)) (sym stream) (owes_fewer c.stream m.stream last src rest bytes _ law more))
  ];
  from = from;
  fits = fits;
  behind = behind;
}

-- the call that a turn makes, for what the limit allows of some bytes
pub record Calls (c m : StepView) (last a all : Bool) (src : List ℕ) (count read : ℕ) (dst dst' : List ℕ) (at to : ℕ) (result : ConverterResult) : Type 0 where
  pub ready : CanTurn c
  pub within : read ≤ length (take count src)
  pub most : count < length src → c.stream.state.counts.read + count ≡ c.stream.job.limit
  pub whole : all ≡ true → (count ≡ length src) × (a ≡ last)
  pub part : all ≡ false → (count < length src) × (a ≡ false)
  pub into : ConvertsInto c m a (take count src) (drop read (take count src)) dst dst' at to result

law_of : (c m : StepView) (last a all : Bool) (src : List ℕ) (count read : ℕ) (dst dst' : List ℕ) (at to : ℕ) (result : ConverterResult)
    → (k : Calls c m last a all src count read dst dst' at to result)
    → ConvertsPart c.stream m.stream last src (drop read src) (map Byte k.into.bytes ++ found_items (reference_form c.stream.job.policy) result)
law_of c m last a all src count read dst dst' at to result k =
    whole_law c.stream m.stream last a all src count read _ k.within k.whole (λ is. (k.part is).1) k.into.law

no_record : (c m : StepView) → CanTurn c → m ≡ record c { stream = m.stream; held = m.held } → log_of_losses (held_losses m) ≡ []
no_record c m ready same = ap (λ (z : StepView). log_of_losses (held_losses z)) same ∙ ap log_of_losses ready.empty.1

-- all that was handed in is converted
all_of : (c m : StepView) (last a : Bool) (src : List ℕ) (count read : ℕ) (dst dst' : List ℕ) (at to : ℕ) → Calls c m last a true src count read dst dst' at to InputEmpty
    → AllIsConverted m.stream (drop read src) last
all_of c m last a src count read dst dst' at to k =
    let all : take count src ≡ src = take_all count src (omega (arith, (k.whole refl).0)) in
    subst (λ b. AllIsConverted m.stream (drop read src) b) (k.whole refl).1 (subst (λ x. AllIsConverted m.stream (drop read x) a) all k.into.ends)

-- all that the limit allows is converted
limit_of : (c m : StepView) (last a : Bool) (src : List ℕ) (count read : ℕ) (dst dst' : List ℕ) (at to : ℕ) → Calls c m last a false src count read dst dst' at to InputEmpty
    → PassesLimit c (record m { stage = TooLong }) src
limit_of c m last a src count read dst dst' at to k =
    let part = k.part refl in
    let ends : AllIsConverted m.stream (drop read (take count src)) false = subst (λ b. AllIsConverted m.stream (drop read (take count src)) b) part.1 k.into.ends in
    record {
      stage = refl;
      long = omega (arith, part.0, k.most part.0);
      read = omega (arith, k.most part.0, k.into.law.counted, ap length ends.all, length-take-le count src (omega (arith, part.0)));
      all = subst (λ x. AllIsConverted m.stream x false) ends.all ends;
    }

-- a call that wrote nothing and found nothing leaves nothing that waits
none_held : (c m : StepView) (last a all : Bool) (src : List ℕ) (count read : ℕ) (dst dst' : List ℕ) (at to : ℕ) (bytes : List ℕ) → (k : Calls c m last a all src count read dst dst' at to InputEmpty)
    → bytes ≡ k.into.bytes → (HoldsNothing m) ⊎ (0 < length bytes)
none_held c m last a all src count read dst dst' at to [] k none = inl (
  length_none m.held (omega (arith, ap length k.into.written, length-append (take to dst') m.held, length-append (take at dst) k.into.bytes, ap length none, length-take-le to dst' k.into.fits, length-take at dst, k.into.from)),
  ap (λ (z : StepView). held_losses z) k.into.same ∙ k.ready.empty.1,
)
none_held c m last a all src count read dst dst' at to (b ∷ bytes) k some = inr (omega arith)

ends_empty : (c m c' : StepView) (last a all : Bool) (src : List ℕ) (count read : ℕ) (dst dst' : List ℕ) (at to : ℕ) (ref : Reference) → (k : Calls c m last a all src count read dst dst' at to InputEmpty)
    → c'.held ≡ m.held → held_losses c' ≡ held_losses m → ((InputEmpty ≡ InputEmpty) × HoldsNothing c') ⊎ (0 < length k.into.bytes + length (found_items ref InputEmpty))
ends_empty c m c' last a all src count read dst dst' at to ref k held losses = elim (none_held c m last a all src count read dst dst' at to k.into.bytes k refl) [
  | inl none ↦ inl (refl, (held ∙ none.0, losses ∙ none.1))
  | inr some ↦ inr (omega (arith, some))
]

-- something was found
found_some : (ref : Reference) (line : LogLine) → 0 < length (found_items ref (Found line))
found_some ref (Bad offset size) = omega arith
found_some ref (Lost index scalar) = omega arith

-- a turn: the call, and what is done about how it ended
pub turned : (c m c' : StepView) (last a all : Bool) (src : List ℕ) (count read : ℕ) (dst dst' : List ℕ) (at to : ℕ) (result : ConverterResult)
    → Calls c m last a all src count read dst dst' at to result → TakesEnd m c' result all → MakesTurn c c' last src (drop read src) dst dst' at to result
turned c m c' last a true src count read dst dst' at to InputEmpty k takes =
    turn_of c m c' last src (drop read src) dst dst' k.into.bytes [] at to InputEmpty (law_of c m last a true src count read dst dst' at to InputEmpty k) k.into.written k.into.from k.into.fits k.into.behind
    (ap (λ (z : StepView). z.stream) takes) (ap (λ (z : StepView). z.held) takes ∙ sym (append-nil m.held)) refl
    (ap (λ (z : StepView). log_of_losses (held_losses z)) takes ∙ no_record c m k.ready k.into.same)
    (inl (ap (λ (z : StepView). z.stage) takes ∙ ap (λ (z : StepView). z.stage) k.into.same ∙ k.ready.stage, subst (λ (z : StepView). AllIsConverted z.stream (drop read src) last) (sym takes) (all_of c m last a src count read dst dst' at to k)))
    (ends_empty c m c' last a true src count read dst dst' at to (reference_form c.stream.job.policy) k (ap (λ (z : StepView). z.held) takes) (ap (λ (z : StepView). held_losses z) takes))
turned c m c' last a false src count read dst dst' at to InputEmpty k takes =
    turn_of c m c' last src (drop read src) dst dst' k.into.bytes [] at to InputEmpty (law_of c m last a false src count read dst dst' at to InputEmpty k) k.into.written k.into.from k.into.fits k.into.behind
    (ap (λ (z : StepView). z.stream) takes) (ap (λ (z : StepView). z.held) takes ∙ sym (append-nil m.held)) refl
    (ap (λ (z : StepView). log_of_losses (held_losses z)) takes ∙ no_record c m k.ready k.into.same)
    (inr (subst (λ (z : StepView). PassesLimit c z src) (sym takes) (limit_of c m last a src count read dst dst' at to k)))
    (ends_empty c m c' last a false src count read dst dst' at to (reference_form c.stream.job.policy) k (ap (λ (z : StepView). z.held) takes) (ap (λ (z : StepView). held_losses z) takes))
turned c m c' last a all src count read dst dst' at to OutputFull k takes =
    turn_of c m c' last src (drop read src) dst dst' k.into.bytes [] at to OutputFull (law_of c m last a all src count read dst dst' at to OutputFull k) k.into.written k.into.from k.into.fits k.into.behind
    (ap (λ (z : StepView). z.stream) takes) (ap (λ (z : StepView). z.held) takes ∙ sym (append-nil m.held)) refl
    (ap (λ (z : StepView). log_of_losses (held_losses z)) takes ∙ no_record c m k.ready k.into.same)
    (ap (λ (z : StepView). z.stage) takes ∙ ap (λ (z : StepView). z.stage) k.into.same ∙ k.ready.stage, subst (λ (z : StepView). z.stream.over ≡ false) (sym takes) k.into.ends.1)
    (inr (omega (arith, k.into.ends.0, k.into.room)))
turned c m c' last a all src count read dst dst' at to (Found line) k takes =
    let policy : m.stream.job.policy ≡ c.stream.job.policy = ap (λ (s : SavedJob). s.policy) k.into.law.job in
    let stream : c'.stream ≡ m.stream = ap (λ (z : StepView). z.stream) takes.same in
    turn_of c m c' last src (drop read src) dst dst' k.into.bytes (line_reference m.stream.job.policy line) at to (Found line) (law_of c m last a all src count read dst dst' at to (Found line) k) k.into.written k.into.from k.into.fits
    k.into.behind stream takes.held (ap (λ p. line_reference p line) policy) takes.logged
    (takes.stage ∙ ap (λ p. stage_at p line) policy, ap (λ s. s.over) stream ∙ k.into.ends.1)
    (inr (omega (arith, found_some (reference_form c.stream.job.policy) line)))
