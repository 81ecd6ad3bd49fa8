-- What devices that say which bytes they hold say after calls in a row.
use Rattle.std.proofs.Common.{◌≡◌, ◌⊎◌, ◌+◌, ◌<◌, ℕ, List, [], ◌∷◌, ◌++◌, Option, Some, None, Result, Ok, Err, true, false, OnOk, OnErr, inl, inr, refl, sym, ap, subst, ◌∙◌, append_assoc, append-nil, length, length-append, take, arith}
use Rattle.std.specs.Io.{ReadsAtMost}
use Rattle.std.specs.Io.KnownBytes.{Appends, Consumes, IsAtEnd, Keeps, ReadConsumes}
use Rattle.std.specs.List.{concat}
use Rattle.std.proofs.KnownBytes.{Appends-nil, Appends-trans, Consumes-kept, Consumes-nil, Consumes-trans}
use Rattle.std.proofs.lemmas.List.{same_from_push}
use Rattle.std.proofs.lemmas.List.Folds.{concat-append}
use Rattle.recode_log.specs.Call.{Call, CallsOnce, FlushesOnce, passed_by}
use Rattle.recode_log.specs.Told.{TellsReads, TellsTaken}
use Rattle.recode_log.specs.laws.Calls.{passed_failed, passed_flush, passed_one}

-- ---- a writer

pub taken_none : (a : List ℕ) (t : Option (List ℕ)) → TellsTaken a a t t
taken_none a t = record { bytes = []; took = sym (append-nil a); held = Appends-nil t }

pub taken_then : (a b c : List ℕ) (t u v : Option (List ℕ)) → TellsTaken a b t u → TellsTaken b c u v → TellsTaken a c t v
taken_then a b c t u v h k = record {
  bytes = h.bytes ++ k.bytes;
  took = k.took ∙ ap (λ l. l ++ k.bytes) h.took ∙ append_assoc a h.bytes k.bytes;
  held = Appends-trans t u v h.bytes k.bytes h.held k.held;
}

-- a flush
kept_nil : (t u : Option (List ℕ)) → Keeps t u → Appends t u []
kept_nil None u h = tt
kept_nil (Some x) None h = absurd h
kept_nil (Some x) (Some y) h = h ∙ sym (append-nil x)

pub taken_kept : (a b : List ℕ) (t u : Option (List ℕ)) → b ≡ a → Keeps t u → TellsTaken a b t u
taken_kept a b t u same kept = record { bytes = []; took = same ∙ sym (append-nil a); held = kept_nil t u kept }

-- all of some bytes, or a part
pub taken_by : {T E : Type 0} (r : Result T E) (a b : List ℕ) (t u : Option (List ℕ)) (bytes : List ℕ) (n m : ℕ)
    → OnOk r (Appends t u bytes × (m ≡ n) × (b ≡ a ++ bytes)) → OnErr r ((k : ℕ) × (k < length bytes) × Appends t u (take k bytes) × (m ≡ n + 1) × (b ≡ a ++ take k bytes)) → TellsTaken a b t u
taken_by (Ok x) a b t u bytes n m h k = record { bytes = bytes; took = h.2; held = h.0 }
taken_by (Err e) a b t u bytes n m h k = record { bytes = take k.0 bytes; took = k.4; held = k.2 }

-- if that is known
pub took_whole : {X : Type 0} (a b : List ℕ) (t u : Option (List ℕ)) (bytes : List ℕ) → Appends t u bytes × X × (b ≡ a ++ bytes) → TellsTaken a b t u
took_whole a b t u bytes h = record { bytes = bytes; took = h.2; held = h.0 }

pub took_part : {X : Type 0} (a b : List ℕ) (t u : Option (List ℕ)) (bytes : List ℕ) → (k : ℕ) × (k < length bytes) × Appends t u (take k bytes) × X × (b ≡ a ++ take k bytes) → TellsTaken a b t u
took_part a b t u bytes k = record { bytes = take k.0 bytes; took = k.4; held = k.2 }

pub flushed_none : {T E : Type 0} (before after : List Call) (r : Result T E) → FlushesOnce before after r → concat (passed_by after) ≡ concat (passed_by before)
flushed_none before after (Ok x) once = ap concat (passed_flush before after false once)
flushed_none before after (Err e) once = ap concat (passed_flush before after true once)

-- ---- a reader

pub reads_none : (a : List (List ℕ)) (t : Option (List ℕ)) → TellsReads a a t t
reads_none a t = record { reads = []; gave = sym (append-nil a); consumed = Consumes-nil t; end = λ front e. absurd (omega (arith, ap length e, length-append front ([] ∷ []))) }

-- the last of some
last_of : (r : List (List ℕ)) → (r ≡ []) ⊎ ((front : List (List ℕ)) × (x : List ℕ) × (r ≡ front ++ (x ∷ [])))
last_of [] = inl refl
last_of (x ∷ r) = elim (last_of r) [
  | inl none ↦ inr ([], x, ap (λ l. x ∷ l) none)
  | inr p ↦ inr (x ∷ p.0, p.1, ap (λ l. x ∷ l) p.2)
]

-- no call so far gave none
abbrev pub NoneYet : (before after : List (List ℕ)) → Type 0
NoneYet before after = (front : List (List ℕ)) → after ≡ before ++ (front ++ ([] ∷ [])) → ⊥

pub none_yet : (a : List (List ℕ)) → NoneYet a a
none_yet a front e = omega (arith, ap length e, length-append a (front ++ ([] ∷ [])), length-append front ([] ∷ []))

-- reads in a row, if what holds at the end of the first is kept by the others
reads_both : (a b c : List (List ℕ)) (t u v : Option (List ℕ)) (h : TellsReads a b t u) (k : TellsReads b c u v) → ((front : List (List ℕ)) → k.reads ≡ [] → h.reads ≡ front ++ ([] ∷ []) → IsAtEnd v) → TellsReads a c t v
reads_both a b c t u v h k still = record {
  reads = h.reads ++ k.reads;
  gave = k.gave ∙ ap (λ l. l ++ k.reads) h.gave ∙ append_assoc a h.reads k.reads;
  consumed = rw (concat-append h.reads k.reads) (Consumes-trans t u v (concat h.reads) (concat k.reads) h.consumed k.consumed);
  end = λ front e. elim (last_of k.reads) [
    | inl none ↦ still front none (sym (append-nil h.reads) ∙ ap (λ l. h.reads ++ l) (sym none) ∙ e)
    | inr p ↦ k.end p.0 (p.2 ∙ ap (λ x. p.0 ++ (x ∷ [])) (same_from_push (h.reads ++ p.0) front p.1 [] (append_assoc h.reads p.0 (p.1 ∷ []) ∙ ap (λ l. h.reads ++ l) (sym p.2) ∙ e)).1)
  ];
}

pub reads_then : (a b c : List (List ℕ)) (t u v : Option (List ℕ)) → NoneYet a b → TellsReads a b t u → TellsReads b c u v → TellsReads a c t v
reads_then a b c t u v yet h k = reads_both a b c t u v h k (λ front none e. absurd (yet front (h.gave ∙ ap (λ l. a ++ l) e)))

-- if the reader said at first which bytes it has, no more need be known
ends_kept : (t u v : Option (List ℕ)) (x read : List ℕ) → t ≡ Some x → Consumes t u read → Consumes u v [] → IsAtEnd u → IsAtEnd v
ends_kept t None None x read is h k e = tt
ends_kept t None (Some z) x read is h k e = absurd (rw is at h)
ends_kept t (Some y) None x read is h k e = absurd k
ends_kept t (Some y) (Some z) x read is h k e = sym k ∙ e

pub reads_after : (a b c : List (List ℕ)) (t u v : Option (List ℕ)) (x : List ℕ) → t ≡ Some x → TellsReads a b t u → TellsReads b c u v → TellsReads a c t v
reads_after a b c t u v x is h k = reads_both a b c t u v h k (λ front none e. ends_kept t u v x (concat h.reads) is h.consumed (rw none at k.consumed) (h.end front e))

-- one read
pub reads_one : {E : Type 0} (before after : List Call) (t u : Option (List ℕ)) (r : Result ℕ E) (buf : List ℕ) → CallsOnce before after r buf → ReadConsumes t u r buf → ReadsAtMost r buf → 0 < length buf
    → TellsReads (passed_by before) (passed_by after) t u
reads_one before after t u (Ok n) buf once more within some = record {
  reads = take n buf ∷ [];
  gave = passed_one before after (length buf) (take n buf) once;
  consumed = subst (Consumes t u) (sym (append-nil (take n buf))) more.0;
  end = λ front e. more.1 (within.1 ∙ ap length (same_from_push [] front (take n buf) [] e).1) some;
}
reads_one before after t u (Err x) buf once kept within some =
    let none : passed_by after ≡ passed_by before = passed_failed before after (length buf) once in
    record {
      reads = [];
      gave = none ∙ sym (append-nil (passed_by before));
      consumed = Consumes-kept t t u [] (Consumes-nil t) kept;
      end = λ front e. absurd (omega (arith, ap length e, length-append front ([] ∷ [])));
    }

-- a reader that gave no byte, and is at its end, was at its end before
pub ended_before : (old new : Option (List ℕ)) (bs : List ℕ) → Consumes old new bs → bs ≡ [] → IsAtEnd new → IsAtEnd old
ended_before None new bs consumed none end = tt
ended_before (Some xs) None bs consumed none end = absurd consumed
ended_before (Some xs) (Some ys) bs consumed none end = consumed ∙ ap (λ b. b ++ ys) none ∙ end
