-- Worked rows of `specs/Counted.antt`.
use Rattle.std.proofs.Common.{ℕ, List, [], ◌∷◌, ap, arith, false, inl, inr, length, length-take, refl}
use Rattle.std.proofs.lemmas.List.Elements.{All-cons, All-nil}
use Rattle.recode_log.specs.Call.{Call, Failed, Flush, IsWriteOfSome, Passed, failed_writes}
use Rattle.recode_log.specs.Counted.{CountsWrites, IsTold, TellsMessage}
use Rattle.recode_log.specs.declared.counted.Counted.{Counted}

-- a writer with these calls and so many failures, of no matter what kind
abbrev counted : List Call → ℕ → Counted ℕ
counted calls failures = record { recorded = record { inner = 0; history = record { calls = calls } }; failures = failures }

-- a message of three bytes: all were written, and no call failed
is_told-all : IsTold 4 4 (1 ∷ 2 ∷ 3 ∷ []) 3
is_told-all = inl (refl, refl)

-- two of them, and then a call failed
is_told-part : IsTold 4 5 (1 ∷ 2 ∷ 3 ∷ []) 2
is_told-part = inr (refl, omega arith)

-- refuted: the last byte of a message is dropped though no call failed
is_told-dropped : IsTold 4 4 (1 ∷ 2 ∷ 3 ∷ []) 2 → ⊥
is_told-dropped h = elim h [ inl all ↦ omega (arith, ap length all.1) | inr part ↦ omega (arith, part.0) ]

-- after a flush, a write of two bytes takes one, and a write of the other fails: the count rises by one
counts_writes-two : CountsWrites (counted (Flush false ∷ []) 4) (counted (Flush false ∷ Passed 2 (1 ∷ []) ∷ Failed 1 ∷ []) 5)
counts_writes-two = record {
  calls = Passed 2 (1 ∷ []) ∷ Failed 1 ∷ [];
  made = refl;
  some = All-cons IsWriteOfSome (Passed 2 (1 ∷ [])) (Failed 1 ∷ []) (omega arith) (All-cons IsWriteOfSome (Failed 1) [] (omega arith) (All-nil IsWriteOfSome));
  counted = refl;
}

-- refuted: a write that failed is not counted
counts_writes-uncounted : CountsWrites (counted [] 4) (counted (Failed 1 ∷ []) 4) → ⊥
counts_writes-uncounted h = omega (arith, h.counted, ap failed_writes h.made)

-- of a message of two bytes one was written so: each call offered all that was left
tells_message-one_of_two : TellsMessage (counted (Flush false ∷ []) 4) (counted (Flush false ∷ Passed 2 (7 ∷ []) ∷ Failed 1 ∷ []) 5) (7 ∷ 8 ∷ [])
tells_message-one_of_two = record {
  told = 1;
  whole = inr (refl, omega arith);
  passed = refl;
  offers = record {
    writes = record {
      calls = Passed 2 (7 ∷ []) ∷ Failed 1 ∷ [];
      made = refl;
      some = All-cons IsWriteOfSome (Passed 2 (7 ∷ [])) (Failed 1 ∷ []) (omega arith) (All-cons IsWriteOfSome (Failed 1) [] (omega arith) (All-nil IsWriteOfSome));
      counted = refl;
    };
    all = (refl, (refl, tt));
  };
  last = λ less. record { earlier = Flush false ∷ Passed 2 (7 ∷ []) ∷ []; last = Failed 1; ends = refl; failed = refl };
}

-- refuted: after a write that failed the whole message is written again
tells_message-again : TellsMessage (counted [] 0) (counted (Failed 2 ∷ Passed 2 (7 ∷ 8 ∷ []) ∷ []) 1) (7 ∷ 8 ∷ []) → ⊥
tells_message-again h = elim h.whole [
  | inl all ↦ omega (arith, all.0)
  | inr part ↦ omega (arith, part.1, ap length h.passed, length-take {A = ℕ} h.told (7 ∷ 8 ∷ []))
]
