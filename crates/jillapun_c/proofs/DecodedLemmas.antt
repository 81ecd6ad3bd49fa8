-- The encoding of an input and the length of its mark, by the mark that its bytes begin with.
use Rattle.std.proofs.Common.{◌≡◌, ◌≢◌, ◌≤◌, ℕ, Bool, true, false, cond, List, [], ◌∷◌, length, refl, sym, ◌∙◌, ap, subst, arith, Option, None, Some, filter}
use Rattle.std.specs.Prelude.{eqb}
use Rattle.std.specs.List.{starts_with}
use Rattle.std.specs.Option.{unwrap_or}
use Rattle.std.proofs.lemmas.Bool.{and_parts, eqb-true, ne_eqb, false≢true}
use Rattle.encoding_front.specs.Encodings.{byte_order_marks, first_mark, mark_at_start}
use Rattle.encoding_front.specs.Marks.{source_of, takes_mark_of}
use Rattle.encoding_front.specs.declared.encoding.Encoding.{Encoding}
use Rattle.encoding_front.specs.declared.mark.Mark.{Mark}
use Rattle.encoding_front.specs.laws.Input.{source_fits}

-- by the mark that was found, if it is taken
abbrev pub taken_if : (Encoding → Bool) → Encoding → Option (Encoding × ℕ) → Encoding × ℕ
taken_if takes e None = (e, 0)
taken_if takes e (Some mark) = cond (takes mark.0) mark (e, 0)

-- bytes begin with none of some marks
abbrev NoneBegins : List (Encoding × List ℕ) → List ℕ → Type 0
NoneBegins [] x = Unit {0}
NoneBegins (m ∷ marks) x = (starts_with eqb x m.1 ≡ false) × NoneBegins marks x

-- bytes begin with one of some marks at most
abbrev AtMostOne : List (Encoding × List ℕ) → List ℕ → Type 0
AtMostOne [] x = Unit {0}
AtMostOne (m ∷ marks) x = (starts_with eqb x m.1 ≡ true → NoneBegins marks x) × AtMostOne marks x

none_taken : (takes : Encoding → Bool) (marks : List (Encoding × List ℕ)) (x : List ℕ) → NoneBegins marks x → first_mark (filter (λ m. takes m.0) marks) x ≡ None
none_taken takes [] x h = refl
none_taken takes (m ∷ marks) x h = either (takes m.0) (none_taken takes marks x h.1)
  where
    either : (t : Bool) → first_mark (filter (λ m. takes m.0) marks) x ≡ None → first_mark (cond t (m ∷ filter (λ m. takes m.0) marks) (filter (λ m. takes m.0) marks)) x ≡ None
    either true more = rw h.0 more
    either false more = more

first_taken : (takes : Encoding → Bool) (marks : List (Encoding × List ℕ)) (e : Encoding) (x : List ℕ) → AtMostOne marks x
    → unwrap_or (first_mark (filter (λ m. takes m.0) marks) x) (e, 0) ≡ taken_if takes e (first_mark marks x)
first_taken takes [] e x h = refl
first_taken takes (m ∷ marks) e x h = by (takes m.0) (starts_with eqb x m.1) refl refl (first_taken takes marks e x h.1)
  where
    by : (t b : Bool) → takes m.0 ≡ t → starts_with eqb x m.1 ≡ b → unwrap_or (first_mark (filter (λ m. takes m.0) marks) x) (e, 0) ≡ taken_if takes e (first_mark marks x)
        → unwrap_or (first_mark (cond (takes m.0) (m ∷ filter (λ m. takes m.0) marks) (filter (λ m. takes m.0) marks)) x) (e, 0) ≡ taken_if takes e (cond (starts_with eqb x m.1) (Some (m.0, length m.1)) (first_mark marks x))
    by true true taken begins more = rw (taken, begins) (rw taken refl)
    by true false taken begins more = rw (taken, begins) more
    by false true taken begins more = rw (taken, begins) (rw taken (ap (λ (o : Option (Encoding × ℕ)). unwrap_or {T = Encoding × ℕ} o (e, 0)) (none_taken takes marks x (h.0 begins))))
    by false false taken begins more = rw (taken, begins) more

marks_exclude : (x : List ℕ) → AtMostOne byte_order_marks x
marks_exclude [] = (λ is. absurd (false≢true is), (λ is. absurd (false≢true is), (λ is. tt, tt)))
marks_exclude (c ∷ x) = (
  λ is. (other 0xEF 0xFE (0xFF ∷ []) (omega arith) (begun 0xEF (0xBB ∷ 0xBF ∷ []) is), (other 0xEF 0xFF (0xFE ∷ []) (omega arith) (begun 0xEF (0xBB ∷ 0xBF ∷ []) is), tt)),
  (λ is. (other 0xFE 0xFF (0xFE ∷ []) (omega arith) (begun 0xFE (0xFF ∷ []) is), tt), (λ is. tt, tt)),
)
  where
    begun : (b : ℕ) (m : List ℕ) → starts_with eqb (c ∷ x) (b ∷ m) ≡ true → b ≡ c
    begun b m is = eqb-true b c (and_parts (eqb b c) (starts_with eqb x m) is).0

    other : (b d : ℕ) (m : List ℕ) → d ≢ b → b ≡ c → starts_with eqb (c ∷ x) (d ∷ m) ≡ false
    other b d m apart is = rw (ne_eqb d c (λ same. apart (same ∙ sym is))) refl

pub source_by_found : (mark : Mark) (e : Encoding) (x : List ℕ) (found : Option (Encoding × ℕ)) → found ≡ mark_at_start x → taken_if (takes_mark_of mark e) e found ≡ source_of mark e x
source_by_found mark e x found is = ap (taken_if (takes_mark_of mark e) e) is ∙ sym (first_taken (takes_mark_of mark e) byte_order_marks e x (marks_exclude x))

pub source_within : (mark : Mark) (e : Encoding) (x : List ℕ) (source : Encoding × ℕ) → source ≡ source_of mark e x → source.1 ≤ length x
source_within mark e x source is = subst (λ (s : Encoding × ℕ). s.1 ≤ length x) (sym is) (source_fits mark e x)
