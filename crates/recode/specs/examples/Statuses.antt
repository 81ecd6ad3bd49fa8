-- Worked rows of what the statuses of the program say (`specs/Program.antt`).
use Rattle.std.proofs.Common.{ℕ, List, [], ◌∷◌, Some, arith, inl, refl}
use Rattle.std.proofs.lemmas.List.Elements.{All-cons, All-nil}
use Rattle.recode_log.specs.Call.{Call, IsWriteOfSome, Passed}
use Rattle.recode_log.specs.Journal.{AtLog}
use Rattle.recode_log.specs.declared.counted.Counted.{Counted}
use Rattle.recode.specs.Devices.{PortsView}
use Rattle.recode.specs.Program.{FileTexts, StatusSays, TellsSome}

-- a device with these calls, of no matter what kind
abbrev counted : List Call → Counted ℕ
counted calls = record { recorded = record { inner = 0; history = record { calls = calls } }; failures = 0 }

-- devices of which none was called, and then the log took `x` and a line feed
abbrev none_called : PortsView ℕ ℕ ℕ
none_called = record { reader = counted []; writer = counted []; log = counted []; journal = Some [] }

abbrev logged : PortsView ℕ ℕ ℕ
logged = record { reader = counted []; writer = counted []; log = counted (Passed 2 (120 ∷ 10 ∷ []) ∷ []); journal = Some (AtLog (Passed 2 (120 ∷ 10 ∷ [])) ∷ []) }

tells_some-x : TellsSome none_called.log logged.log
tells_some-x = (
  120 ∷ 10 ∷ [],
  (120 ∷ [], refl),
  record {
    told = 2;
    whole = inl (refl, refl);
    passed = refl;
    offers = record {
      writes = record { calls = Passed 2 (120 ∷ 10 ∷ []) ∷ []; made = refl; some = All-cons IsWriteOfSome (Passed 2 (120 ∷ 10 ∷ [])) [] (omega arith) (All-nil IsWriteOfSome); counted = refl };
      all = (refl, tt);
    };
    last = λ less. absurd (omega (arith, less));
  },
)

-- a start that fails, with this message
status_says-three : (holds : FileTexts) (words : List (List ℕ)) → StatusSays holds none_called logged words 3
status_says-three holds words = record {
  zero = λ is. absurd (omega (arith, is));
  one = λ is. absurd (omega (arith, is));
  two = λ is. absurd (omega (arith, is));
  three = λ is. record { answered = refl; alone = record { unread = refl; unwritten = refl; told = tells_some-x } };
  four = λ is. absurd (omega (arith, is));
  known = omega arith;
}

-- there is no status 5
status_says-five : (holds : FileTexts) (words : List (List ℕ)) → StatusSays holds none_called logged words 5 → ⊥
status_says-five holds words h = omega (arith, h.known)
