use Rattle.std.proofs.Common.{◌≡◌, ◌∙◌, ◌+◌, ◌++◌, ◌∷◌, [], append-nil, ap, arith, chars, length, map-id, subst, sym}
use Rattle.std.proofs.lemmas.Iterator.{YieldsList-from_chars}
use Rattle.std.proofs.lemmas.Iterator.Consumers.{YieldsList-end, YieldsList-so_far, YieldsList-turn}
use Rattle.std.proofs.lemmas.List.{append_assoc, length-append}
use Rattle.recode_places.specs.Fits.{Fits, FitsFrom, IsLeftOfLog}
use Rattle.recode_places.specs.Findings.{TellsFound, found_in_text}
use Rattle.recode_places.specs.calls.FatesViews.{asked_by}
use Rattle.recode_places.specs.calls.LogViews.{choice_left}
use Rattle.recode_places.proofs.CallLemmas.{few_chars}
use Rattle.recode_places.proofs.FitsLemmas.{goes_err}
use Rattle.recode_places.proofs.EntryLemmas.{rises_err, rising_then, tells_on, tells_prefix}
use Rattle.recode_places.proofs.FatedLemmas.{fated_then}
use Rattle.recode_places.proofs.FoundLemmas.{found_none, found_on, kept_found}
use Rattle.recode_places.proofs.ReadsLemmas.{lines_then}
use Rattle.recode_places.proofs.TextLemmas.{passed_prefix}
use Rattle.recode_places.proofs.walk.tell_text.Goals as goal

pub loop-c-preserved : goal.loop-c-preserved
loop-c-preserved g c =
    let i = c.loop-c.invariant in
    let e = c.in_ok-tell_character.ensures in
    record {
      index = omega (arith, i.index, e.index, length-append c.loop-c.yielded (c.in-Some.c ∷ []));
      place = λ t p. rw (← append_assoc t c.loop-c.yielded (c.in-Some.c ∷ [])) (e.place (t ++ c.loop-c.yielded) (i.place t p));
      fits = λ o rest ps h.
          subst (λ n. IsLeftOfLog (FitsFrom n o rest ps) (choice_left g.L.Read.remaining c.tell_character.new.choice)) (sym e.index)
          (e.fits o rest ps (i.fits o (c.in-Some.c ∷ rest) ps (subst (λ t. IsLeftOfLog (FitsFrom c.args.place.now.index o t ps) (choice_left g.L.Read.remaining c.args.choice.now)) (append_assoc c.loop-c.yielded (c.in-Some.c ∷ []) rest) h)));
      lines = lines_then _ _ _ _ _ _ i.lines e.lines;
      fates = fated_then _ _ _ _ _ _ i.fates e.fates;
      rising = rising_then _ _ _ _ _ _ i.rising e.rising;
      finds = found_on (asked_by c.args.choice.now) (asked_by c.loop-c.choice) c.args.place.now.index _ c.loop-c.yielded (c.in-Some.c ∷ []) _ _ _ i.fates.0 i.index i.finds e.finds;
      told = λ ps t p. tells_on ps t c.loop-c.yielded (c.in-Some.c ∷ []) _ _ _ (i.told ps t p) (e.told ps (t ++ c.loop-c.yielded) (i.place t p));
    }

pub returns-in_err-tell_character-clause-told : goal.returns-in_err-tell_character-clause-told
returns-in_err-tell_character-clause-told g c =
    let i = c.loop-c.invariant in
    let e = c.in_err-tell_character.ensures in
    let listed = YieldsList-from_chars c.args.text.now c.utf8.text cc in
    let passed = passed_prefix (chars c.args.text.now) c.loop-c.yielded c.in-Some.c
    (YieldsList-so_far listed c.loop-c.yielded _ c.loop-c.yielded_by)
    (YieldsList-turn listed c.loop-c.yielded _ c.loop-c.yielded_by _ _ c.in-Some.c c.in-Some.is c.next.ensures.steps) in
    λ ps t p. tells_prefix ps t (c.loop-c.yielded ++ (c.in-Some.c ∷ [])) passed.0 (chars c.args.text.now) _ _ passed.1
    (tells_on ps t c.loop-c.yielded (c.in-Some.c ∷ []) _ _ _ (i.told ps t p) (e.told ps (t ++ c.loop-c.yielded) (i.place t p)))

pub returns-in_err-tell_character-clause-fates : goal.returns-in_err-tell_character-clause-fates
returns-in_err-tell_character-clause-fates g c = fated_then _ _ _ _ _ _ c.loop-c.invariant.fates c.in_err-tell_character.ensures.fates

pub returns-in_err-tell_character-clause-rising : goal.returns-in_err-tell_character-clause-rising
returns-in_err-tell_character-clause-rising g c =
    let e = c.in_err-tell_character.ensures.rising in
    rises_err _ _ _ _ e.0 _ _ c.from_residual-in_err-tell_character.ensures.1 (rising_then _ _ _ _ _ _ c.loop-c.invariant.rising e.1)

pub returns-clause-told : goal.returns-clause-told
returns-clause-told g c =
    let done = YieldsList-end (YieldsList-from_chars c.args.text.now c.utf8.text cc) c.loop-c.yielded _ c.loop-c.yielded_by _ _ c.in-None.is c.next.ensures.steps in
    let all : c.loop-c.yielded ≡ chars c.args.text.now = sym (map-id c.loop-c.yielded) ∙ done.0 in
    λ ps t p. rw (← all) (c.loop-c.invariant.told ps t p)

pub returns-clause-place : goal.returns-clause-place
returns-clause-place g c =
    let done = YieldsList-end (YieldsList-from_chars c.args.text.now c.utf8.text cc) c.loop-c.yielded _ c.loop-c.yielded_by _ _ c.in-None.is c.next.ensures.steps in
    let all : c.loop-c.yielded ≡ chars c.args.text.now = sym (map-id c.loop-c.yielded) ∙ done.0 in
    λ t p. rw (← all) (c.loop-c.invariant.place t p)

pub returns-clause-index : goal.returns-clause-index
returns-clause-index g c =
    let done = YieldsList-end (YieldsList-from_chars c.args.text.now c.utf8.text cc) c.loop-c.yielded _ c.loop-c.yielded_by _ _ c.in-None.is c.next.ensures.steps in
    let all : c.loop-c.yielded ≡ chars c.args.text.now = sym (map-id c.loop-c.yielded) ∙ done.0 in
    c.loop-c.invariant.index ∙ ap (λ cs. c.args.place.now.index + length cs) all

pub returns-then-passes_over-clause-fits : goal.returns-then-passes_over-clause-fits
returns-then-passes_over-clause-fits g c = λ o ps h.
    subst (λ n. IsLeftOfLog (Fits n o ps) (choice_left g.L.Read.remaining c.args.choice.now)) (sym c.pass_text.ensures.index)
    (c.passes_over.ensures.fits o (chars c.args.text.now) ps c.if-passes_over.true (few_chars c.args.text.now c.utf8.text) h)

pub returns-in_err-tell_character-clause-fits : goal.returns-in_err-tell_character-clause-fits
returns-in_err-tell_character-clause-fits g c = λ o ps h.
    let listed = YieldsList-from_chars c.args.text.now c.utf8.text cc in
    let passed = passed_prefix (chars c.args.text.now) c.loop-c.yielded c.in-Some.c
    (YieldsList-so_far listed c.loop-c.yielded _ c.loop-c.yielded_by)
    (YieldsList-turn listed c.loop-c.yielded _ c.loop-c.yielded_by _ _ c.in-Some.c c.in-Some.is c.next.ensures.steps) in
    goes_err _ _ _ _ c.from_residual-in_err-tell_character.ensures.1
    (c.in_err-tell_character.ensures.fits o passed.0 ps (c.loop-c.invariant.fits o (c.in-Some.c ∷ passed.0) ps
    (subst (λ t. IsLeftOfLog (FitsFrom c.args.place.now.index o t ps) (choice_left g.L.Read.remaining c.args.choice.now)) (passed.1 ∙ append_assoc c.loop-c.yielded (c.in-Some.c ∷ []) passed.0) h)))

pub returns-clause-fits : goal.returns-clause-fits
returns-clause-fits g c = λ o ps h.
    let done = YieldsList-end (YieldsList-from_chars c.args.text.now c.utf8.text cc) c.loop-c.yielded _ c.loop-c.yielded_by _ _ c.in-None.is c.next.ensures.steps in
    let all : c.loop-c.yielded ≡ chars c.args.text.now = sym (map-id c.loop-c.yielded) ∙ done.0 in
    c.loop-c.invariant.fits o [] ps
    (subst (λ t. IsLeftOfLog (FitsFrom c.args.place.now.index o t ps) (choice_left g.L.Read.remaining c.args.choice.now)) (sym (append-nil c.loop-c.yielded ∙ all)) h)

pub returns-then-passes_over-clause-finds : goal.returns-then-passes_over-clause-finds
returns-then-passes_over-clause-finds g c =
    let a = asked_by c.args.choice.now in
    let told = g.V.Visitor.told c.args.visitor.now in
    subst (TellsFound a (found_in_text a c.args.place.now.index (chars c.args.text.now)) [] told) (sym c.in_ok-characters.ensures) (found_none a _ _ told (kept_found a c.args.place.now.index (chars c.args.text.now) (c.passes_over.ensures.kept c.if-passes_over.true)))

pub returns-clause-finds : goal.returns-clause-finds
returns-clause-finds g c =
    let a = asked_by c.args.choice.now in
    let done = YieldsList-end (YieldsList-from_chars c.args.text.now c.utf8.text cc) c.loop-c.yielded _ c.loop-c.yielded_by _ _ c.in-None.is c.next.ensures.steps in
    let all : c.loop-c.yielded ≡ chars c.args.text.now = sym (map-id c.loop-c.yielded) ∙ done.0 in
    subst (λ t. TellsFound a (found_in_text a c.args.place.now.index t) [] (g.V.Visitor.told c.args.visitor.now) (g.V.Visitor.told c.loop-c.visitor)) all c.loop-c.invariant.finds
