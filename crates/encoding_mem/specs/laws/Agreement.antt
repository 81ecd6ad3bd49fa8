-- What was written for a text agrees with it or is broken, by induction on the text.
use Rattle.std.proofs.Common.{◌≡◌, ℕ, ◌+◌, ◌⊎◌, inl, inr, true, List, [], ◌∷◌, ◌++◌, length, drop, refl, sym, ◌∙◌, ap, subst, arith, append_assoc, length-append}
use Rattle.std.specs.Str.{all_scalars}
use Rattle.std.proofs.Math.Utf8.{scalar}
use Rattle.std.proofs.lemmas.Bool.{and_parts}
use Rattle.std.proofs.lemmas.List.{append-nil, drop_at, get_or_append_left, get_or-append-add}
use Rattle.encoding_mem.specs.Agreement.{IsEscape, AgreesWith, AgreesOrBreaks, ReadsBackOrBreaks, ReadsByStep}
use Rattle.encoding_mem.specs.Coding.{Coding, open_from, last_set, output, spelled}
use Rattle.encoding_mem.specs.Piece.{Piece, sizes, text, AreWellFormed}
use Rattle.encoding_mem.specs.ReadBack.{ReadsAs}
use Rattle.encoding_mem.specs.Steps.{Follows, TextsDiffer, IsBroken, StepLaw, one_from}
use Rattle.encoding_mem.specs.laws.Piece.{sizes-append, text-append, AreWellFormed-append}
use Rattle.encoding_mem.specs.declared.codec.reference.Reference.{Reference}
use Rattle.encoding_mem.specs.declared.codec.form.EscapeState.{EscapeState}
use Rattle.encoding_mem.specs.declared.codec.form.EscapeState.TheVariants.{Ascii}

-- ---- bytes after bytes

pub well_formed_parts : (a b : List Piece) → AreWellFormed (a ++ b) → AreWellFormed a × AreWellFormed b
well_formed_parts [] b h = (tt, h)
well_formed_parts (p ∷ a) b h = let parts = well_formed_parts a b h.1 in ((h.0, parts.0), parts.1)

pub apart_more : (a b m n : List ℕ) → TextsDiffer a b → TextsDiffer (a ++ m) (b ++ n)
apart_more a b m n h = record {
  offset = h.offset;
  in_one = omega (arith, h.in_one, length-append a m);
  in_other = omega (arith, h.in_other, length-append b n);
  apart = λ same. h.apart (sym (get_or_append_left a m 0 h.offset h.in_one) ∙ same ∙ get_or_append_left b n 0 h.offset h.in_other);
}

apart_behind : (t a b : List ℕ) → TextsDiffer a b → TextsDiffer (t ++ a) (t ++ b)
apart_behind t a b h = record {
  offset = length t + h.offset;
  in_one = omega (arith, h.in_one, length-append t a);
  in_other = omega (arith, h.in_other, length-append t b);
  apart = λ same. h.apart (sym (get_or-append-add t a h.offset 0) ∙ same ∙ get_or-append-add t b h.offset 0);
}

apart_wider : (a b n : List ℕ) → TextsDiffer a b → TextsDiffer a (b ++ n)
apart_wider a b n h = subst (λ l. TextsDiffer l (b ++ n)) (append-nil a) (apart_more a b [] n h)

pub never_apart : (a : List ℕ) → TextsDiffer a a → ⊥
never_apart a h = h.apart refl

-- What is broken stays so, whatever follows the bytes and the text, and never reads as the text.
pub broken_stays : (pieces : List ℕ → List Piece) (bytes t more u : List ℕ) → IsBroken pieces bytes t → IsBroken pieces (bytes ++ more) (t ++ u)
broken_stays pieces bytes t more u h = record {
  taken = h.taken;
  decided = λ r. let d = h.decided (more ++ r) in (d.0, ap pieces (append_assoc bytes more r) ∙ d.1);
  wrong = elim h.wrong [ inl none ↦ inl none | inr apart ↦ inr (apart_wider (text h.taken) t u apart) ];
}

pub broken_behind : (pieces : List ℕ → List Piece) (bytes t more : List ℕ) → IsBroken pieces bytes t → IsBroken pieces (bytes ++ more) t
broken_behind pieces bytes t more h = subst (IsBroken pieces (bytes ++ more)) (append-nil t) (broken_stays pieces bytes t more [] h)

never_reads_taken : (taken rest : List Piece) (t : List ℕ) → ((AreWellFormed taken → ⊥) ⊎ TextsDiffer (text taken) t) → AreWellFormed (taken ++ rest) → text (taken ++ rest) ≡ t → ⊥
never_reads_taken taken rest t (inl none) all same = none (well_formed_parts taken rest all).0
never_reads_taken taken rest t (inr apart) all same =
    let whole : text taken ++ text rest ≡ t = sym (text-append taken rest) ∙ same in
    never_apart t (subst (λ l. TextsDiffer l t) whole (subst (λ l. TextsDiffer (text taken ++ text rest) l) (append-nil t) (apart_more (text taken) t (text rest) [] apart)))

pub broken_never_reads : (pieces : List ℕ → List Piece) (bytes t : List ℕ) → IsBroken pieces bytes t → ¬ (ReadsAs pieces bytes t)
broken_never_reads pieces bytes t h reads =
    let d = h.decided [] in
    let is : pieces bytes ≡ h.taken ++ d.0 = ap pieces (sym (append-nil bytes)) ∙ d.1 in
    never_reads_taken h.taken d.0 t h.wrong (subst AreWellFormed is reads.well_formed) (ap text (sym is) ∙ reads.same)

-- What follows whole pieces with their text.
pub follows_then : (a b c : List ℕ → List Piece) (x y t u : List ℕ) → Follows a b x t → Follows b c y u → Follows a c (x ++ y) (t ++ u)
follows_then a b c x y t u h k = record {
  taken = h.taken ++ k.taken;
  well_formed = AreWellFormed-append h.taken k.taken h.well_formed k.well_formed;
  same = text-append h.taken k.taken ∙ rw (h.same, k.same) refl;
  whole = omega (arith, sizes-append h.taken k.taken, length-append x y, h.whole, k.whole);
  rest = λ r.
      ap a (append_assoc x y r) ∙ h.rest (y ++ r) ∙ ap (λ ps. h.taken ++ ps) (k.rest r) ∙ sym (append_assoc h.taken k.taken (c r));
}

pub broken_then : (a b : List ℕ → List Piece) (x y t u : List ℕ) → Follows a b x t → IsBroken b y u → IsBroken a (x ++ y) (t ++ u)
broken_then a b x y t u h k = record {
  taken = h.taken ++ k.taken;
  decided = λ r. let d = k.decided r in (
    d.0,
    ap a (append_assoc x y r) ∙ h.rest (y ++ r) ∙ ap (λ ps. h.taken ++ ps) d.1 ∙ sym (append_assoc h.taken k.taken d.0),
  );
  wrong = elim k.wrong [
    | inl none ↦ inl (λ all. none (well_formed_parts h.taken k.taken all).1)
    | inr apart ↦ inr (rw (text-append h.taken k.taken, h.same) (apart_behind t (text k.taken) u apart))
  ];
}

-- ---- a text

nothing_follows : (pieces : List ℕ → List Piece) → Follows pieces pieces [] []
nothing_follows pieces = record { taken = []; well_formed = tt; same = refl; whole = refl; rest = λ r. refl }

-- of a character first
open_from-one : (ref : Reference) (e : Coding) (s : EscapeState) (c : ℕ) (t : List ℕ) → open_from ref e s (c ∷ t) ≡ one_from ref e s c ++ open_from ref e (e.set s c) t
open_from-one ref e s c t = sym (append_assoc (e.escape s (e.set s c)) (spelled ref (e.form c)) (open_from ref e (e.set s c) t))

pub open_reads : (ref : Reference) (e : Coding) (p : EscapeState → List ℕ → List Piece) → StepLaw e p → (s : EscapeState) (t : List ℕ) → all_scalars t ≡ true
    → Follows (p s) (p (last_set e s t)) (open_from ref e s t) t ⊎ IsBroken (p s) (open_from ref e s t) t
open_reads ref e p steps s [] h = inl (nothing_follows (p s))
open_reads ref e p steps s (c ∷ t) h =
    let parts = and_parts (scalar c) (all_scalars t) h in
    rw (open_from-one ref e s c t) (elim (steps ref s c parts.0) [
      | inl one ↦ elim (open_reads ref e p steps (e.set s c) t parts.1) [
        | inl more ↦ inl (follows_then (p s) (p (e.set s c)) (p (last_set e (e.set s c) t)) (one_from ref e s c) (open_from ref e (e.set s c) t) (c ∷ []) t one more)
        | inr broken ↦ inr (broken_then (p s) (p (e.set s c)) (one_from ref e s c) (open_from ref e (e.set s c) t) (c ∷ []) t one broken)
      ]
      | inr broken ↦ inr (broken_stays (p s) (one_from ref e s c) (c ∷ []) (open_from ref e (e.set s c) t) t broken)
    ])

-- Whole pieces agree, also with an escape after them; and if that is ignored at the end, all reads as the text.
follows_agrees : (e : Coding) (a b : List ℕ → List Piece) (bytes t escape : List ℕ) → Follows a b bytes t → (escape ≡ []) ⊎ IsEscape e escape → AgreesWith e a (bytes ++ escape) t
follows_agrees e a b bytes t escape h is =
    let left : drop (sizes h.taken) (bytes ++ escape) ≡ escape = drop_at bytes escape (sizes h.taken) (sym h.whole) in
    record {
      taken = h.taken;
      decided = λ r. (b (escape ++ r), ap a (append_assoc bytes escape r) ∙ h.rest (escape ++ r));
      well_formed = h.well_formed;
      same = h.same;
      left = rw left is;
    }

follows_reads : (a b : List ℕ → List Piece) (bytes t escape : List ℕ) → Follows a b bytes t → ReadsAs b escape [] → ReadsAs a (bytes ++ escape) t
follows_reads a b bytes t escape h last =
    let is : a (bytes ++ escape) ≡ h.taken ++ b escape = h.rest escape in
    record {
      well_formed = subst AreWellFormed (sym is) (AreWellFormed-append h.taken (b escape) h.well_formed last.well_formed);
      same = ap text is ∙ text-append h.taken (b escape) ∙ rw (h.same, last.same) (append-nil t);
    }

so_far_in : (e : Coding) (p : EscapeState → List ℕ → List Piece) → StepLaw e p → (ref : Reference) (t : List ℕ) → all_scalars t ≡ true → AgreesOrBreaks e (p Ascii) (open_from ref e Ascii t) t
so_far_in e p steps ref t h = elim (open_reads ref e p steps Ascii t h) [
  | inl reads ↦ inl (subst (λ l. AgreesWith e (p Ascii) l t) (append-nil (open_from ref e Ascii t)) (follows_agrees e (p Ascii) (p (last_set e Ascii t)) (open_from ref e Ascii t) t [] reads (inl refl)))
  | inr broken ↦ inr broken
]

escaped_in : (e : Coding) (p : EscapeState → List ℕ → List Piece) → StepLaw e p → (ref : Reference) (t : List ℕ) (s : EscapeState) → all_scalars t ≡ true
    → AgreesOrBreaks e (p Ascii) (open_from ref e Ascii t ++ e.escape (last_set e Ascii t) s) t
escaped_in e p steps ref t s h =
    let escape = e.escape (last_set e Ascii t) s in
    elim (open_reads ref e p steps Ascii t h) [
      | inl reads ↦ inl (follows_agrees e (p Ascii) (p (last_set e Ascii t)) (open_from ref e Ascii t) t escape reads (inr (last_set e Ascii t, s, refl)))
      | inr broken ↦ inr (broken_behind (p Ascii) (open_from ref e Ascii t) t escape broken)
    ]

at_end_in : (e : Coding) (p : EscapeState → List ℕ → List Piece) → ReadsByStep e p → (ref : Reference) (t : List ℕ) → all_scalars t ≡ true
    → ReadsAs (p Ascii) (output ref e t) t ⊎ IsBroken (p Ascii) (open_from ref e Ascii t) t
at_end_in e p k ref t h = elim (open_reads ref e p k.steps Ascii t h) [
  | inl reads ↦ inl (follows_reads (p Ascii) (p (last_set e Ascii t)) (open_from ref e Ascii t) t (e.escape (last_set e Ascii t) Ascii) reads (k.ignored (last_set e Ascii t) Ascii))
  | inr broken ↦ inr broken
]

pub reads_back_or_breaks : (e : Coding) (p : EscapeState → List ℕ → List Piece) → ReadsByStep e p → ReadsBackOrBreaks (p Ascii) e
reads_back_or_breaks e p k = record {
  so_far = so_far_in e p k.steps;
  escaped = escaped_in e p k.steps;
  at_end = at_end_in e p k;
}
