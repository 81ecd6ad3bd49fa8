-- What was read of a log adds up.
use Rattle.std.proofs.Common.{◌≡◌, ℕ, inl, inr, Bool, true, false, List, [], ◌∷◌, ◌++◌, Option, Some, None, IfOk, OnOk, Ok, Err, Result, refl, sym, ◌∙◌, ap, subst, append-nil, append_assoc}
use Rattle.recode_log.specs.Line.{line_bytes}
use Rattle.recode_log.specs.declared.line.LogLine.TheVariants as line
use Rattle.recode_places.specs.Logs.{AreLinesOf, AreLinesOfMalformed, IsLoggedAs, LogLeft, NameAll, TakesLines, TellsLines, bytes, ended, broken, unknown}
use Rattle.recode_places.specs.Entries.{HasOneMore}
use Rattle.recode_places.specs.calls.LogViews.{NamesCharacter, NamesMalformed, NamesSequence, ReadsLine, TakesSome, log_left_after}
use Rattle.recode_places.specs.declared.entry.Stop.{Stop}
use Rattle.recode_places.specs.declared.log_lines.NextLine.{NextLine}
use Rattle.recode_places.specs.declared.log_lines.NextLine.TheVariants.{Line, End, Other}
use Rattle.recode_log.specs.declared.line.LogLine.{LogLine}
use Rattle.recode_places.specs.declared.entry.Entry.{Entry}

pub reads_then : (a b c : LogLeft) (xs ys : List ℕ) → TakesLines a b xs → TakesLines b c ys → TakesLines a c (xs ++ ys)
reads_then (bytes x) (bytes y) (bytes z) xs ys h k = h ∙ ap (λ q. xs ++ q) k ∙ sym (append_assoc xs ys z)
reads_then (bytes x) (bytes y) ended xs ys h k = (k.0, h ∙ ap (λ q. xs ++ q) k.1 ∙ sym (append_assoc xs ys k.0), k.2)
reads_then (bytes x) (bytes y) broken xs ys h k = (k.0, h ∙ ap (λ q. xs ++ q) k.1 ∙ sym (append_assoc xs ys k.0))
reads_then (bytes x) (bytes y) unknown xs ys h k = absurd k
reads_then (bytes x) ended (bytes z) xs ys h k = absurd k
reads_then (bytes x) ended ended xs ys h k = (h.0, h.1 ∙ ap (λ q. q ++ h.0) (sym (ap (λ q. xs ++ q) k ∙ append-nil xs)), h.2)
reads_then (bytes x) ended broken xs ys h k = absurd k
reads_then (bytes x) ended unknown xs ys h k = absurd k
reads_then (bytes x) broken (bytes z) xs ys h k = absurd k
reads_then (bytes x) broken ended xs ys h k = absurd k
reads_then (bytes x) broken broken xs ys h k = (h.0, h.1 ∙ ap (λ q. q ++ h.0) (sym (ap (λ q. xs ++ q) k ∙ append-nil xs)))
reads_then (bytes x) broken unknown xs ys h k = absurd k
reads_then (bytes x) unknown c xs ys h k = absurd h
reads_then ended (bytes y) c xs ys h k = absurd h
reads_then ended ended (bytes z) xs ys h k = absurd k
reads_then ended ended ended xs ys h k = ap (λ q. q ++ ys) h ∙ k
reads_then ended ended broken xs ys h k = absurd k
reads_then ended ended unknown xs ys h k = absurd k
reads_then ended broken c xs ys h k = absurd h
reads_then ended unknown c xs ys h k = absurd h
reads_then broken (bytes y) c xs ys h k = absurd h
reads_then broken ended c xs ys h k = absurd h
reads_then broken broken (bytes z) xs ys h k = absurd k
reads_then broken broken ended xs ys h k = absurd k
reads_then broken broken broken xs ys h k = ap (λ q. q ++ ys) h ∙ k
reads_then broken broken unknown xs ys h k = absurd k
reads_then broken unknown c xs ys h k = absurd h
reads_then unknown b c xs ys h k = tt

pub reads_nothing : (a : LogLeft) → TakesLines a a []
reads_nothing (bytes x) = refl
reads_nothing ended = refl
reads_nothing broken = refl
reads_nothing unknown = tt

-- a malformed sequence, and then its U+FFFD, which is logged by its own number alone
logged_mark : (scalar : ℕ) → IsLoggedAs 0xFFFD scalar → scalar ≡ 0xFFFD
logged_mark scalar (inl e) = e
logged_mark scalar (inr e) = e.0

pub names_both : (index offset n : ℕ) (named : Bool) (xs ys : List ℕ) → NamesSequence offset n true xs → NamesCharacter index 0xFFFD named ys → AreLinesOfMalformed index offset n (xs ++ ys)
names_both index offset n true xs ys h k =
    inr (inr (ap (λ q. q ++ ys) h ∙ ap (λ q. line_bytes (line.Bad offset n) ++ q) (k.2 ∙ ap (λ (s : ℕ). line_bytes (line.Lost index s)) (logged_mark k.0 k.1))))
names_both index offset n false xs ys h k = inl (ap (λ q. xs ++ q) k ∙ append-nil xs ∙ h)

pub names_mark : (index offset n : ℕ) (named : Bool) (xs ys : List ℕ) → NamesSequence offset n false xs → NamesCharacter index 0xFFFD named ys → NamesMalformed index offset n named (xs ++ ys)
names_mark index offset n true xs ys h k =
    inr (inl (ap (λ q. q ++ ys) h ∙ k.2 ∙ ap (λ (s : ℕ). line_bytes (line.Lost index s)) (logged_mark k.0 k.1)))
names_mark index offset n false xs ys h k = ap (λ q. q ++ ys) h ∙ k

-- ---- entries

name_append : (es fs : List Entry) (xs ys : List ℕ) → NameAll es xs → NameAll fs ys → NameAll (es ++ fs) (xs ++ ys)
name_append [] fs xs ys h k = subst (NameAll fs) (sym (ap (λ q. q ++ ys) h)) k
name_append (e ∷ es) fs xs ys h k =
    (h.0, h.1 ++ ys, ap (λ q. q ++ ys) h.2 ∙ append_assoc h.0 h.1 ys, h.3, name_append es fs h.1 ys h.4 k)

pub lines_then : (a b c : LogLeft) (t u v : Option (List Entry)) → TellsLines a b t u → TellsLines b c u v → TellsLines a c t v
lines_then a b c None u v h k = tt
lines_then a b c (Some es) u v h k =
    let next = subst (λ x. TellsLines b c x v) h.1 k in (
      h.0 ++ next.0,
      next.1 ∙ ap Some (append_assoc es h.0 next.0),
      (h.2.0 ++ next.2.0, reads_then a b c h.2.0 next.2.0 h.2.1 next.2.1, name_append h.0 next.0 h.2.0 next.2.0 h.2.2 next.2.2),
    )

pub lines_none : (a b : LogLeft) (t : Option (List Entry)) → TakesLines a b [] → TellsLines a b t t
lines_none a b None h = tt
lines_none a b (Some es) h = ([], ap Some (sym (append-nil es)), ([], h, refl))

pub lines_one : (a b : LogLeft) (t u : Option (List Entry)) (e : Entry) (bs : List ℕ) → TakesLines a b bs → AreLinesOf e.place.index e.finding bs → HasOneMore t u e → TellsLines a b t u
lines_one a b None u e bs h k m = tt
lines_one a b (Some es) u e bs h k m = (e ∷ [], m, (bs, h, (bs, [], sym (append-nil bs), k, refl)))

-- ---- a line that was matched

pub line_named : (l : LogLine) (old new : Option (List ℕ)) (n : NextLine) → ReadsLine old new n → TakesLines (log_left_after (Line l) old) (log_left_after n new) (line_bytes l)
line_named l None new n h = tt
line_named l (Some x) new (Line m) h = subst (λ q. TakesLines (bytes (line_bytes l ++ x)) (log_left_after (Line m) q) (line_bytes l)) (sym h.1) (ap (λ q. line_bytes l ++ q) h.2)
line_named l (Some x) new End h = (x, refl, h)
line_named l (Some x) new Other h = (x, refl)

pub named_after : (r : Result Bool Stop) (a b c : LogLeft) (index offset n : ℕ) (xs : List ℕ) → TakesLines a b xs → NamesSequence offset n false xs → IfOk r (λ named. TakesSome b c (NamesCharacter index 0xFFFD named))
    → IfOk r (λ named. TakesSome a c (NamesMalformed index offset n named))
named_after (Ok named) a b c index offset n xs h k m = (xs ++ m.0, reads_then a b c xs m.0 h m.1, names_mark index offset n named xs m.0 k m.2)
named_after (Err e) a b c index offset n xs h k m = tt

pub finished_lines : (r : Result (Unit {0}) Stop) (a b : LogLeft) (t u : Option (List Entry)) → TellsLines a b t u → OnOk r (TakesLines b ended []) → OnOk r (TellsLines a ended t u)
finished_lines (Ok x) a b t u h k = lines_then a b ended t u u h (lines_none b ended u k)
finished_lines (Err e) a b t u h k = tt
