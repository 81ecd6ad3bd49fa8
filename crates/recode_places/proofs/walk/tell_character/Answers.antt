use Rattle.std.proofs.Common.{◌∷◌, ◌+◌, ◌++◌, ◌∙◌, [], ap, arith, subst, sym}
use Rattle.recode_places.specs.Entries.{TellsRising, TellsTrue}
use Rattle.recode_places.specs.Findings.{TellsFound, found_in_text}
use Rattle.recode_places.specs.Logs.{TakesLines, TellsLines}
use Rattle.recode_places.specs.calls.FatesViews.{IsToldOf, TellsFates, asked_by}
use Rattle.recode_places.specs.calls.LogViews.{NamesFound, TakesSome, choice_left}
use Rattle.recode_places.proofs.EntryLemmas.{rises_err, rising_none, rising_one, tells_nothing}
use Rattle.recode_places.proofs.FatedLemmas.{fated_none, fated_one}
use Rattle.recode_places.proofs.FoundLemmas.{found_nothing, found_one}
use Rattle.recode_places.proofs.ReadsLemmas.{lines_none, lines_one}
use Rattle.recode_places.proofs.walk.tell_character.Goals as goal
use Rattle.recode_places.proofs.walk.tell_character.Goals.{in-Some+in_ok-entry-in-Some, in-None}

pub returns-clause-fates : goal.returns-clause-fates
returns-clause-fates g c =
    let a = asked_by c.args.choice.now in
    let b = asked_by c.character.new.self in
    let told = c.in_ok-finding.ensures.told in
    let same = c.character.ensures.asked in
    elim c.match-branch-2.branch [
      | in-Some+in_ok-entry-in-Some w ↦
          subst (TellsFates a b (g.V.Visitor.told c.args.visitor.now)) (sym (c.characters.ensures ∙ ap g.V.Visitor.told w.visitor-is))
          (fated_one a b c.args.c _ _ _ same (subst (IsToldOf a c.args.c) w.in-Some.is told) w.in_ok-entry-in-Some.ensures.ok)
      | in-None w ↦
          subst (TellsFates a b (g.V.Visitor.told c.args.visitor.now)) (sym (c.characters.ensures ∙ ap g.V.Visitor.told w.visitor-is))
          (fated_none a b _ same)
    ]

pub returns-in_err-entry-in-Some-clause-rising : goal.returns-in_err-entry-in-Some-clause-rising
returns-in_err-entry-in-Some-clause-rising g c =
    rises_err _ _ _ _ c.args.place.now.index _ _ c.from_residual-in_err-entry-in-Some.ensures.1
    (subst (TellsRising c.args.place.now.index c.args.place.now.index (g.V.Visitor.told c.args.visitor.now)) (sym c.in_err-entry-in-Some.ensures.err) (rising_none _ _ _ (omega arith)))

pub returns-in_err-characters-clause-rising : goal.returns-in_err-characters-clause-rising
returns-in_err-characters-clause-rising g c =
    let i = c.args.place.now.index in
    let rises = TellsRising i (i + 1) (g.V.Visitor.told c.args.visitor.now) in
    rises_err _ _ _ _ (i + 1) _ _ c.from_residual-in_err-characters.ensures.1 (elim c.match-branch-2.branch [
      | in-Some+in_ok-entry-in-Some w ↦
          subst rises (sym (c.characters.ensures ∙ ap g.V.Visitor.told w.visitor-is))
          (rising_one i (i + 1) _ _ (record { place = c.args.place.now; finding = w.in-Some.finding }) w.in_ok-entry-in-Some.ensures.ok (omega arith) (omega arith))
      | in-None w ↦
          subst rises (sym (c.characters.ensures ∙ ap g.V.Visitor.told w.visitor-is)) (rising_none i (i + 1) _ (omega arith))
    ])

pub returns-clause-lines : goal.returns-clause-lines
returns-clause-lines g c =
    let left = choice_left g.L.Read.remaining c.args.choice.now in
    let left' = choice_left g.L.Read.remaining c.character.new.self in
    let named = c.in_ok-finding.ensures.named in
    elim c.match-branch-2.branch [
      | in-Some+in_ok-entry-in-Some w ↦
          let some = subst (λ f. TakesSome left left' (NamesFound c.args.place.now.index f)) w.in-Some.is named in
          subst (λ t. TellsLines left left' (g.V.Visitor.told c.args.visitor.now) t) (sym (c.characters.ensures ∙ ap g.V.Visitor.told w.visitor-is))
          (lines_one left left' _ _ _ some.0 some.1 some.2 w.in_ok-entry-in-Some.ensures.ok)
      | in-None w ↦
          let none = subst (λ f. TakesSome left left' (NamesFound c.args.place.now.index f)) w.in-None.is named in
          subst (λ t. TellsLines left left' (g.V.Visitor.told c.args.visitor.now) t) (sym (c.characters.ensures ∙ ap g.V.Visitor.told w.visitor-is))
          (lines_none left left' _ (subst (λ bs. TakesLines left left' bs) none.2 none.1))
    ]

pub returns-in_err-entry-in-Some-clause-told : goal.returns-in_err-entry-in-Some-clause-told
returns-in_err-entry-in-Some-clause-told g c = λ ps t p.
    subst (TellsTrue ps (t ++ (c.args.c ∷ [])) (g.V.Visitor.told c.args.visitor.now)) (sym c.in_err-entry-in-Some.ensures.err) (tells_nothing ps (t ++ (c.args.c ∷ [])) (g.V.Visitor.told c.args.visitor.now))

pub returns-clause-finds : goal.returns-clause-finds
returns-clause-finds g c =
    let a = asked_by c.args.choice.now in
    let finds = TellsFound a (found_in_text a c.args.place.now.index (c.args.c ∷ [])) [] (g.V.Visitor.told c.args.visitor.now) in
    let told = c.in_ok-finding.ensures.told in
    elim c.match-branch-2.branch [
      | in-Some+in_ok-entry-in-Some w ↦
          subst finds (sym (c.characters.ensures ∙ ap g.V.Visitor.told w.visitor-is)) (found_one a c.args.c _ _ _ (subst (IsToldOf a c.args.c) w.in-Some.is told) w.in_ok-entry-in-Some.ensures.ok)
      | in-None w ↦
          subst finds (sym (c.characters.ensures ∙ ap g.V.Visitor.told w.visitor-is)) (found_nothing a c.args.place.now.index c.args.c _ (subst (IsToldOf a c.args.c) w.in-None.is told))
    ]
