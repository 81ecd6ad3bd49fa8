-- What reads came to, as two functions of them.
use Rattle.std.proofs.Common.{◌≡◌, ℕ, true, List, [], ◌∷◌, ◌++◌, length, refl, sym, ◌∙◌, ap, append_assoc, append-nil}
use Rattle.std.specs.List.{concat}
use Rattle.std.proofs.lemmas.Bool.{false≢true, eqb-true}
use Rattle.std.proofs.lemmas.List.{append_cancel_left, nil_from_length}
use Rattle.std.proofs.lemmas.List.Folds.{concat-append}
use Rattle.recode.specs.Devices.{GaveToEnd}
use Rattle.recode.specs.Session.{at_end, input_of}
use Rattle.recode.specs.Step.{WasRead}
use Rattle.recode.specs.declared.job.Fault.{Fault}
use Rattle.recode.specs.declared.job.Fault.TheVariants.{TooLong}

-- if the input is not too long, it is all that was read
pub input_all : (f : Fault) (reads : List (List ℕ)) → (f ≡ TooLong → ⊥) → input_of f reads ≡ concat reads
input_all TooLong reads other = absurd (other refl)
input_all f [] other = refl
input_all f (x ∷ reads) other = ap (λ l. x ++ l) (input_all f reads other)

-- and else all but the last read
pub input_but_last : (reads : List (List ℕ)) (last : List ℕ) → input_of TooLong (reads ++ (last ∷ [])) ≡ concat reads
input_but_last [] last = refl
input_but_last (x ∷ []) last = refl
input_but_last (x ∷ y ∷ reads) last = ap (λ l. x ++ l) (input_but_last (y ∷ reads) last)

-- it is the front of what was read
pub input_front : (f : Fault) (reads : List (List ℕ)) → (rest : List ℕ) × (concat reads ≡ input_of f reads ++ rest)
input_front f [] = ([], refl)
input_front TooLong (x ∷ []) = (x ++ [], refl)
input_front f (x ∷ reads) = let more = input_front f reads in (more.0, ap (λ l. x ++ l) more.1 ∙ sym (append_assoc x (input_of f reads) more.0))

-- the last read gave no byte
pub at_end_after : (reads : List (List ℕ)) → at_end (reads ++ ([] ∷ [])) ≡ true
at_end_after [] = refl
at_end_after (x ∷ []) = refl
at_end_after (x ∷ y ∷ reads) = at_end_after (y ∷ reads)

ends : (reads : List (List ℕ)) → at_end reads ≡ true → (front : List (List ℕ)) × (reads ≡ front ++ ([] ∷ []))
ends [] h = absurd (false≢true h)
ends (x ∷ []) h = ([], ap (λ l. l ∷ []) (nil_from_length x (eqb-true (length x) 0 h)))
ends (x ∷ y ∷ reads) h = let more = ends (y ∷ reads) h in (x ∷ more.0, ap (λ l. x ∷ l) more.1)

pub gave_to_end : (before after reads : List (List ℕ)) → after ≡ before ++ reads → at_end reads ≡ true → GaveToEnd before after (concat reads)
gave_to_end before after reads is h =
    let k = ends reads h in
    (k.0, is ∙ ap (λ l. before ++ l) k.1, sym (append-nil (concat k.0)) ∙ sym (concat-append k.0 ([] ∷ [])) ∙ sym (ap concat k.1))

pub input_ended : (f : Fault) (reads : List (List ℕ)) → at_end reads ≡ true → input_of f reads ≡ concat reads
input_ended TooLong reads h = long reads h
  where
    long : (reads : List (List ℕ)) → at_end reads ≡ true → input_of TooLong reads ≡ concat reads
    long [] h = absurd (false≢true h)
    long (x ∷ []) h = sym (ap (λ l. l ++ []) (nil_from_length x (eqb-true (length x) 0 h)))
    long (x ∷ y ∷ reads) h = ap (λ l. x ++ l) (long (y ∷ reads) h)
input_ended f reads h = input_all f reads (λ is. cc)

-- what was read when a fault came
module _ (before after : List (List ℕ)) where
  pub input_is : (f : Fault) (k : WasRead before after f) → input_of f k.given.0 ≡ k.input
  input_is TooLong k =
      let l = k.last refl in
      ap (input_of TooLong) (append_cancel_left before k.given.0 (l.0 ++ (k.refused ∷ [])) (sym k.given.1 ∙ l.1)) ∙ input_but_last l.0 k.refused ∙ l.2
  input_is f k = input_all f k.given.0 (λ is. cc) ∙ k.given.2 ∙ ap (λ l. k.input ++ l) (k.spared (λ is. cc)) ∙ append-nil k.input

  pub end_is : (f : Fault) (k : WasRead before after f) → k.ended ≡ true → at_end k.given.0 ≡ true
  end_is f k h =
      let l = k.end h in
      ap at_end (append_cancel_left before k.given.0 (l.0 ++ ([] ∷ [])) (sym k.given.1 ∙ l.1)) ∙ at_end_after l.0
