-- Bytes that begin no log that can be moved.
use Rattle.std.proofs.Common.{◌≡◌, ◌⊎◌, inl, inr, ℕ, ◌+◌, ◌-◌, ◌<◌, ◌≤◌, ◌==◌, Bool, false, List, [], ◌∷◌, ◌++◌, Option, Some, None, IfNone, length, take, drop, position, refl, sym, ap, subst, ◌∙◌, arith, append_assoc, length-append, take-append-drop}
use Rattle.std.specs.List.{All, flat_map, position_or_len}
use Rattle.std.proofs.Math.Seq.{take-append_seam}
use Rattle.std.proofs.lemmas.List.{take-append-le}
use Rattle.std.proofs.lemmas.List.Elements.{All-head, All-tail}
use Rattle.std.proofs.lemmas.List.Quantifiers.{position-Some}
use Rattle.recode_log.specs.Line.{IsValid, line_bytes}
use Rattle.recode_log.specs.declared.line.LogLine.{LogLine}
use Rattle.recode.specs.Parts.{moved_line}
use Rattle.recode_places.specs.Logs.{CanBeLogged}
use Rattle.recode_places.specs.Places.{feeds}
use Rattle.recode_parts.specs.Joins.{CanBeMoved, MovesLines}

abbrev is_feed : ℕ → Bool
is_feed byte = byte == 10

-- what begins no log that can be moved is said at a `None`
pub said_at_none : {T : Type 0} (r : Option T) (n m : ℕ) (bytes : List ℕ) → ((more : List ℕ) → CanBeMoved n m (bytes ++ more) → ⊥) → IfNone r ((more : List ℕ) → CanBeMoved n m (bytes ++ more) → ⊥)
said_at_none None n m bytes h = h
said_at_none (Some x) n m bytes h = tt

-- where the first line feed of some bytes stands that begin others with one
feed_at : (bytes more body rest : List ℕ) → feeds body ≡ 0 → bytes ++ more ≡ body ++ (10 ∷ rest)
    → ((length body < length bytes) × (position_or_len is_feed bytes ≡ length body)) ⊎ ((length bytes ≤ length body) × (position_or_len is_feed bytes ≡ length bytes))
feed_at [] more body rest none e = inr (omega arith, refl)
feed_at (x ∷ bytes) more [] rest none e =
    let same : x ≡ 10 = cc in
    inl (omega arith, grind (arith, same))
feed_at (x ∷ bytes) more (y ∷ body) rest none e =
    let same : x ≡ y = cc in
    let behind : bytes ++ more ≡ body ++ (10 ∷ rest) = cc in
    let other : (x == 10) ≡ false = grind (arith, none, same) in
    elim (feed_at bytes more body rest (omega (arith, none)) behind) [
      | inl h ↦ inl (omega (arith, h.0), grind (arith, h.1, other))
      | inr h ↦ inr (omega (arith, h.0), grind (arith, h.1, other))
    ]

-- what the laws of a log's lines say
module _ (n m : ℕ)
    (ends : (l : LogLine) → CanBeLogged l → (body : List ℕ) × (line_bytes l ≡ body ++ 10 ∷ []) × (feeds body ≡ 0) × (length body < 64))
    (apart : (a b : LogLine) (x y : List ℕ) → CanBeLogged a → CanBeLogged b → line_bytes a ++ x ≡ line_bytes b ++ y → (a ≡ b) × (x ≡ y)) where
  abbrev Moves : LogLine → Type 0
  Moves l = IsValid (moved_line n m l)

  behind : (ls ks : List LogLine) (rest : List ℕ) → All CanBeLogged ls → All CanBeLogged ks → All Moves ks → flat_map line_bytes ls ++ rest ≡ flat_map line_bytes ks → CanBeMoved n m rest
  behind [] ks rest p q v e = record { lines = ks; logged = q; moved = v; read = e }
  behind (a ∷ ls) [] rest p q v e =
      let end = ends a (All-head CanBeLogged a ls p) in
      absurd (omega (arith, ap length e, ap length end.1, length-append end.0 (10 ∷ []), length-append (line_bytes a ++ flat_map line_bytes ls) rest, length-append (line_bytes a) (flat_map line_bytes ls)))
  behind (a ∷ ls) (b ∷ ks) rest p q v e =
      let first = apart a b (flat_map line_bytes ls ++ rest) (flat_map line_bytes ks) (All-head CanBeLogged a ls p) (All-head CanBeLogged b ks q) (sym (append_assoc (line_bytes a) (flat_map line_bytes ls) rest) ∙ e) in
      behind ls ks rest (All-tail CanBeLogged a ls p) (All-tail CanBeLogged b ks q) (All-tail Moves b ks v) first.1

  -- what is left of a log behind lines that were moved
  pub log_behind : (lines moved rest bytes : List ℕ) → MovesLines n m lines moved → bytes ≡ lines ++ rest → CanBeMoved n m bytes → CanBeMoved n m rest
  log_behind lines moved rest bytes h is log =
      behind h.from.lines log.lines rest h.from.logged log.logged log.moved (ap (λ l. l ++ rest) (sym h.from.read) ∙ sym is ∙ log.read)

  -- a log that is not empty begins with a line, whose line feed is the first
  data Begins (held rest : List ℕ) : Type 0 where
    line : (l : LogLine) → CanBeLogged l → Moves l → (body more : List ℕ) → line_bytes l ≡ body ++ 10 ∷ [] → feeds body ≡ 0 → length body < 64 → held ++ rest ≡ line_bytes l ++ more → Begins held rest

  begins : (held rest : List ℕ) → 0 < length held → (ks : List LogLine) → All CanBeLogged ks → All Moves ks → held ++ rest ≡ flat_map line_bytes ks → Begins held rest
  begins held rest some [] q v e = absurd (omega (arith, some, ap length e, length-append held rest))
  begins held rest some (l ∷ ks) q v e =
      let end = ends l (All-head CanBeLogged l ks q) in
      line l (All-head CanBeLogged l ks q) (All-head Moves l ks v) end.0 (flat_map line_bytes ks) end.1 end.2 end.3 e

  split : (l : LogLine) (body more held rest : List ℕ) → line_bytes l ≡ body ++ 10 ∷ [] → held ++ rest ≡ line_bytes l ++ more → held ++ rest ≡ body ++ (10 ∷ more)
  split l body more held rest whole e = e ∙ ap (λ x. x ++ more) whole ∙ append_assoc body (10 ∷ []) more

  -- bytes without a line feed begin no log, if they are more than a line has, or all
  pub no_feed : (held rest : List ℕ) → 0 < length held → position is_feed held ≡ None → (64 ≤ length held) ⊎ (rest ≡ []) → CanBeMoved n m (held ++ rest) → ⊥
  no_feed held rest some none far log = elim (begins held rest some log.lines log.logged log.moved log.read) [
    | line l q v body more whole lacks short e ↦ elim (feed_at held rest body more lacks (split l body more held rest whole e)) [
      | inl h ↦ grind (arith, none, h.0, h.1)
      | inr h ↦ elim far [
        | inl long ↦ omega (arith, long, short, h.0)
        | inr end ↦ omega (arith, h.0, ap length (split l body more held rest whole e), length-append body (10 ∷ more), length-append held rest, ap length end)
      ]
    ]
  ]

  -- nor do bytes whose first line is none, or can't be moved
  no_line : (held rest : List ℕ) (k : ℕ) → position is_feed held ≡ Some k → ((l : LogLine) → CanBeLogged l → Moves l → line_bytes l ≡ take (k + 1) held → ⊥) → CanBeMoved n m (held ++ rest) → ⊥
  no_line held rest k found none log =
      let at = position-Some is_feed held k 0 found in
      let within : k < length held = at.0 in
      elim (begins held rest (omega (arith, within)) log.lines log.logged log.moved log.read) [
        | line l q v body more whole lacks short e ↦ elim (feed_at held rest body more lacks (split l body more held rest whole e)) [
          | inl h ↦
              let size : k ≡ length body = grind (arith, found, h.0, h.1) in
              let long : k + 1 ≡ length (line_bytes l) = omega (arith, size, ap length whole, length-append body (10 ∷ [])) in
              none l q v (sym (take-append_seam (line_bytes l) more) ∙ ap (take (length (line_bytes l))) (sym e) ∙ ap (λ z. take z (held ++ rest)) (sym long) ∙ take-append-le (k + 1) held rest (omega (arith, within)))
          | inr h ↦ grind (arith, found, within, h.1)
        ]
      ]

  -- behind lines that were moved, too
  pub no_line_behind : (bytes more out slice : List ℕ) (read k size : ℕ) → MovesLines n m (take read bytes) out → slice ≡ drop read bytes → position is_feed slice ≡ Some k
      → ((l : LogLine) → CanBeLogged l → Moves l → line_bytes l ≡ take size (drop read bytes) → ⊥) → size ≡ k + 1 → CanBeMoved n m (bytes ++ more) → ⊥
  no_line_behind bytes more out slice read k size moves is found none same log =
      let whole : bytes ++ more ≡ take read bytes ++ (drop read bytes ++ more) = ap (λ l. l ++ more) (sym (take-append-drop read bytes)) ∙ append_assoc (take read bytes) (drop read bytes) more in
      no_line (drop read bytes) more k (rw is at found) (λ l q v e. none l q v (e ∙ ap (λ z. take z (drop read bytes)) (sym same))) (log_behind (take read bytes) out (drop read bytes ++ more) (bytes ++ more) moves whole log)

  -- a line that can't be moved is the only one with its bytes
  pub not_moved : (l : LogLine) (bytes : List ℕ) → CanBeLogged l → line_bytes l ≡ bytes → (Moves l → ⊥) → (k : LogLine) → CanBeLogged k → Moves k → line_bytes k ≡ bytes → ⊥
  not_moved l bytes logged is none k q v same =
      none (subst Moves (apart k l [] [] q logged (ap (λ x. x ++ []) (same ∙ sym is))).0 v)
