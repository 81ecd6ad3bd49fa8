-- The count of a writer's failed calls, beside its history, after calls in a row, and what they offered it.
use Rattle.std.proofs.Common.{◌≡◌, ℕ, ◌+◌, ◌-◌, ◌<◌, ◌≤◌, List, [], ◌∷◌, ◌++◌, length, take, refl, sym, ap, subst, ◌∙◌, append_assoc, append-nil, length-append, arith, suc, zero}
use Rattle.std.proofs.lemmas.List.Elements.{All-append, All-cons, All-nil}
use Rattle.std.specs.List.{concat}
use Rattle.recode_log.specs.Call.{Call, Failed, Flush, IsWriteOfSome, OffersAllLeft, Passed, failed_write, failed_writes, passed_by}
use Rattle.recode_log.specs.Counted.{CountsWrites, OffersAll, failures_of, history_of, passed_of}
use Rattle.recode_log.specs.declared.counted.Counted.{Counted}
use Rattle.recode_log.specs.laws.Calls.{passed_calls}

pub failed_writes-append : (a b : List Call) → failed_writes (a ++ b) ≡ failed_writes a + failed_writes b
failed_writes-append [] b = omega arith
failed_writes-append (call ∷ a) b = omega (arith, failed_writes-append a b)

-- a write that took some bytes did not fail
took_some : (room n : ℕ) (bytes : List ℕ) → 0 < n → n ≤ length bytes → failed_write (Passed room (take n bytes)) ≡ 0
took_some room zero bytes some fits = absurd (omega (arith, some))
took_some room (suc n) [] some fits = absurd (omega (arith, fits))
took_some room (suc n) (b ∷ bytes) some fits = refl

-- one that took none of some did
pub took_none : (n room : ℕ) (bytes : List ℕ) → n ≤ 0 → 0 < room → failed_write (Passed room (take n bytes)) ≡ 1
took_none zero room bytes none some = omega (arith, some)
took_none (suc n) room bytes none some = absurd (omega (arith, none))

-- what is left after some calls is offered to those after them
offers-append : (calls calls' : List Call) (left : ℕ) → OffersAllLeft left calls → OffersAllLeft (left - length (concat (passed_by calls))) calls' → OffersAllLeft left (calls ++ calls')
offers-append [] calls' left h k =
    let all : left - 0 ≡ left = omega arith in
    subst (λ n. OffersAllLeft n calls') all k
offers-append (Passed room bytes ∷ calls) calls' left h k =
    let rest : left - length (bytes ++ concat (passed_by calls)) ≡ left - length bytes - length (concat (passed_by calls)) = omega (arith, length-append bytes (concat (passed_by calls))) in
    (h.0, offers-append calls calls' (left - length bytes) h.1 (subst (λ n. OffersAllLeft n calls') rest k))
offers-append (Failed room ∷ calls) calls' left h k = (h.0, offers-append calls calls' left h.1 k)
offers-append (Flush failed ∷ calls) calls' left h k = h

module _ {T : Type 0} where
  pub counts_none : (c : Counted T) → CountsWrites c c
  counts_none c = record { calls = []; made = sym (append-nil (history_of c)); some = All-nil IsWriteOfSome; counted = omega arith }

  pub counts_then : (a b c : Counted T) → CountsWrites a b → CountsWrites b c → CountsWrites a c
  counts_then a b c h k = record {
    calls = h.calls ++ k.calls;
    made = k.made ∙ ap (λ l. l ++ k.calls) h.made ∙ append_assoc (history_of a) h.calls k.calls;
    some = All-append IsWriteOfSome h.calls k.calls h.some k.some;
    counted = omega (arith, h.counted, k.counted, failed_writes-append h.calls k.calls);
  }

  pub offers_none : (c : Counted T) (size : ℕ) → OffersAll c c size
  offers_none c size = record { writes = record { calls = []; made = sym (append-nil (history_of c)); some = All-nil IsWriteOfSome; counted = omega arith }; all = tt }

-- one call more, which is a write of all that is left after these bytes
module _ {T : Type 0} (a b c : Counted T) (size : ℕ) (taken : List ℕ) (h : OffersAll a b size) (passed : passed_of b ≡ passed_of a ++ taken) where
  offers_one : (call : Call) → history_of c ≡ history_of b ++ (call ∷ []) → IsWriteOfSome call → OffersAllLeft (size - length taken) (call ∷ []) → failures_of c ≡ failures_of b + failed_write call → OffersAll a c size
  offers_one call once some left counted =
      let w = h.writes in
      let before : length taken ≡ length (concat (passed_by w.calls)) = ap length (sym (passed_calls (history_of a) (history_of b) w.calls taken w.made passed)) in
      record {
        writes = record {
          calls = w.calls ++ (call ∷ []);
          made = once ∙ ap (λ l. l ++ (call ∷ [])) w.made ∙ append_assoc (history_of a) w.calls (call ∷ []);
          some = All-append IsWriteOfSome w.calls (call ∷ []) w.some (All-cons IsWriteOfSome call [] some (All-nil IsWriteOfSome));
          counted = omega (arith, w.counted, counted, failed_writes-append w.calls (call ∷ []));
        };
        all = offers-append w.calls (call ∷ []) size h.all (subst (λ n. OffersAllLeft (size - n) (call ∷ [])) before left);
      }

  -- it took some, or none, or returned an error
  pub offers_took : (n : ℕ) (buf : List ℕ) → history_of c ≡ history_of b ++ (Passed (length buf) (take n buf) ∷ []) → length buf ≡ size - length taken → 0 < n → n ≤ length buf → failures_of c ≡ failures_of b → OffersAll a c size
  offers_took n buf once room some fits same = offers_one (Passed (length buf) (take n buf)) once (omega (arith, some, fits)) (room, tt) (omega (arith, same, took_some (length buf) n buf some fits))

  pub offers_took_none : (n : ℕ) (buf : List ℕ) → history_of c ≡ history_of b ++ (Passed (length buf) (take n buf) ∷ []) → length buf ≡ size - length taken → n ≤ 0 → 0 < length buf → failures_of c ≡ failures_of b + 1 → OffersAll a c size
  offers_took_none n buf once room none some counted = offers_one (Passed (length buf) (take n buf)) once some (room, tt) (omega (arith, counted, took_none n (length buf) buf none some))

  pub offers_failed : (room : ℕ) → history_of c ≡ history_of b ++ (Failed room ∷ []) → room ≡ size - length taken → 0 < room → failures_of c ≡ failures_of b + 1 → OffersAll a c size
  offers_failed room once left some counted = offers_one (Failed room) once some (left, tt) counted
