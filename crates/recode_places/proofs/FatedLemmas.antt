-- What was reported is as fates say, report by report.
use Rattle.std.proofs.Common.{◌≡◌, ℕ, Bool, true, false, cond, List, [], ◌∷◌, ◌++◌, Option, Some, None, Result, Ok, Err, OnOk, inl, inr, refl, sym, ◌∙◌, ap, subst, append_assoc, append-nil}
use Rattle.std.proofs.lemmas.Option.{none-some, same_Some}
use Rattle.recode_places.specs.Entries.{HasOneMore}
use Rattle.recode_places.specs.Findings.{Asked, fate_asked, told_by_fate}
use Rattle.recode_places.specs.calls.FatesViews.{AreAsFated, IsAsFated, IsToldOf, TellsFates}
use Rattle.recode_places.specs.declared.entry.Entry.{Entry}
use Rattle.recode_places.specs.declared.entry.Finding.{Finding}
use Rattle.recode_places.specs.declared.entry.Finding.TheVariants as found
use Rattle.recode_places.specs.declared.fates.Fate.{Fate}
use Rattle.recode_places.specs.declared.fates.Fate.TheVariants.{Folded, Kept, Lost}

told_lost : (a : Asked) (c : ℕ) (f : Finding) (t : Bool) → fate_asked a.target c ≡ Lost → Some f ≡ cond t None (Some (found.Lost c)) → IsAsFated a f
told_lost a c f true is e = absurd (none-some f (sym e))
told_lost a c f false is e = subst (IsAsFated a) (sym (same_Some f (found.Lost c) e)) (inl is)

told_folded : (a : Asked) (c : ℕ) (d : Option ℕ) (f : Finding) (t : Bool) → a.folds ≡ t → fate_asked a.target c ≡ Folded d → Some f ≡ cond t (Some (found.Folded c d)) None → IsAsFated a f
told_folded a c d f true asked is e = subst (IsAsFated a) (sym (same_Some f (found.Folded c d) e)) (is, asked)
told_folded a c d f false asked is e = absurd (none-some f (sym e))

told_fate : (a : Asked) (c : ℕ) (f : Finding) (fate : Fate) → fate_asked a.target c ≡ fate → Some f ≡ told_by_fate a c fate → IsAsFated a f
told_fate a c f Kept is e = absurd (none-some f (sym e))
told_fate a c f Lost is e = told_lost a c f a.has_log is e
told_fate a c f (Folded d) is e = told_folded a c d f a.folds refl is e

as_fated : (a : Asked) (c : ℕ) (f : Finding) → IsToldOf a c (Some f) → IsAsFated a f
as_fated a c f (inl e) = told_fate a c f (fate_asked a.target c) refl e
as_fated a c f (inr named) = subst (IsAsFated a) (sym (same_Some f (found.Lost c) named.1)) (inr named.0)

fated_append : (a : Asked) (es fs : List Entry) → AreAsFated a es → AreAsFated a fs → AreAsFated a (es ++ fs)
fated_append a [] fs h k = k
fated_append a (e ∷ es) fs h k = (h.0, fated_append a es fs h.1 k)

pub fated_none : (a b : Asked) (t : Option (List Entry)) → b ≡ a → TellsFates a b t t
fated_none a b None same = (same, tt)
fated_none a b (Some es) same = (same, ([], ap Some (sym (append-nil es)), tt))

pub fated_entry : (a b : Asked) (t u : Option (List Entry)) (e : Entry) → b ≡ a → IsAsFated a e.finding → HasOneMore t u e → TellsFates a b t u
fated_entry a b None u e same h one = (same, tt)
fated_entry a b (Some es) u e same h one = (same, (e ∷ [], one, (h, tt)))

pub fated_one : (a b : Asked) (c : ℕ) (t u : Option (List Entry)) (e : Entry) → b ≡ a → IsToldOf a c (Some e.finding) → HasOneMore t u e → TellsFates a b t u
fated_one a b c t u e same h one = fated_entry a b t u e same (as_fated a c e.finding h) one

pub fated_then : (a b c : Asked) (t u v : Option (List Entry)) → TellsFates a b t u → TellsFates b c u v → TellsFates a c t v
fated_then a b c None u v h k = (k.0 ∙ h.0, tt)
fated_then a b c (Some es) u v h k =
    let next = subst (λ x. TellsFates a x u v) (k.0 ∙ h.0) (subst (λ x. TellsFates x c u v) h.0 k) in
    let rest = subst (λ x. TellsFates a a x v) h.1.1 next in (
      k.0 ∙ h.0,
      (h.1.0 ++ rest.1.0, rest.1.1 ∙ ap Some (append_assoc es h.1.0 rest.1.0), fated_append a h.1.0 rest.1.0 h.1.2 rest.1.2),
    )

-- a fact that holds anyway
pub if_ok_anyway : {T E : Type 0} (r : Result T E) (P : Type 0) → P → OnOk r P
if_ok_anyway (Ok x) P h = h
if_ok_anyway (Err e) P h = tt
