-- A log that fits begins with a line of what is still to come, or ends.
use Rattle.std.proofs.Common.{◌≡◌, ℕ, ◌+◌, ◌<◌, ◌≤◌, ◌⊎◌, inl, inr, List, [], ◌∷◌, ◌++◌, Option, Some, None, Result, Ok, Err, IsErrAnd, MatchResult, length, refl, sym, ◌∙◌, ap, subst, arith}
use Rattle.encoding_mem.specs.Piece.{Piece, well_formed, malformed}
use Rattle.recode_log.specs.Line.{line_bytes}
use Rattle.recode_log.specs.declared.line.LogLine.{LogLine}
use Rattle.recode_log.specs.declared.line.LogLine.TheVariants.{Bad, Lost}
use Rattle.recode_places.specs.Fits.{Fits, FitsCharacter, FitsFrom, FitsText, GoesOn, IsLeftOfLog, IsLineOrNone, IsNotUnfit, IsOutside, Then}
use Rattle.recode_places.specs.declared.entry.Stop.{Stop}
use Rattle.recode_places.specs.Logs.{CanBeLogged, IsLoggedAs, IsLogEnd, LogLeft}
use Rattle.recode_places.specs.Places.{feeds}
use Rattle.recode_places.specs.calls.LogViews.{ReadsLine, log_left_after, whole_log}
use Rattle.recode_places.specs.calls.Ready.{IsLineIfAny}
use Rattle.recode_places.specs.declared.log_lines.NextLine.{NextLine}
use Rattle.recode_places.specs.declared.log_lines.NextLine.TheVariants.{Line, End, Other}
use Rattle.recode_places.proofs.LineLemmas.{heads, line_ends, line_split}
use Rattle.recode_places.proofs.LogLemmas.{feeds-append}

-- a line names nothing before an index and an offset
abbrev pub IsLater : (index offset : ℕ) → LogLine → Type 0
IsLater index offset (Bad o n) = offset ≤ o
IsLater index offset (Lost i c) = index ≤ i

-- bytes begin with such a line, or a log ends there
abbrev pub StartsLate : (index offset : ℕ) → List ℕ → Type 0
StartsLate index offset bs = IsLogEnd bs ⊎ ((l : LogLine) × (rest : List ℕ) × CanBeLogged l × (bs ≡ line_bytes l ++ rest) × IsLater index offset l)

later_before : (i j o p : ℕ) (l : LogLine) → i ≤ j → o ≤ p → IsLater j p l → IsLater i o l
later_before i j o p (Bad q n) h k m = omega (arith, k, m)
later_before i j o p (Lost k c) h m n = omega (arith, h, n)

late_before : (i j o p : ℕ) (bs : List ℕ) → i ≤ j → o ≤ p → StartsLate j p bs → StartsLate i o bs
late_before i j o p bs h k (inl e) = inl e
late_before i j o p bs h k (inr m) = inr (m.0, m.1, m.2, m.3, later_before i j o p m.0 h k m.4)

-- behind a line that may be missing
late_line : (i j o p : ℕ) (l : LogLine) (Q : List ℕ → Type 0) (bs : List ℕ) → i ≤ j → o ≤ p → IsLater i o l → ((x : List ℕ) → Q x → StartsLate j p x) → Then (IsLineOrNone l) Q bs → StartsLate i o bs
late_line i j o p l Q bs h k late q (first, second, e, inl none, rest) =
    subst (StartsLate i o) (sym (e ∙ ap (λ x. x ++ second) none)) (late_before i j o p second h k (q second rest))
late_line i j o p l Q bs h k late q (first, second, e, inr one, rest) =
    inr (l, second, one.0, e ∙ ap (λ x. x ++ second) one.1, late)

late_character : (i o c : ℕ) (Q : List ℕ → Type 0) (bs : List ℕ) → ((x : List ℕ) → Q x → StartsLate (i + 1) o x) → Then (FitsCharacter i c) Q bs → StartsLate i o bs
late_character i o c Q bs q h = late_line i (i + 1) o o (Lost i h.3.0) Q bs (omega arith) (omega arith) (omega arith) q (h.0, h.1, h.2, h.3.2, h.4)

late_text : (i o : ℕ) (t : List ℕ) (After : ℕ → List ℕ → Type 0) (bs : List ℕ) → ((j : ℕ) (x : List ℕ) → After j x → StartsLate j o x) → FitsText i t After bs → StartsLate i o bs
late_text i o [] After bs q h = q i bs h
late_text i o (c ∷ t) After bs q h = late_character i o c (FitsText (i + 1) t After) bs (λ x k. late_text (i + 1) o t After x q k) h

pub late_fits : (i o : ℕ) (ps : List Piece) (bs : List ℕ) → Fits i o ps bs → StartsLate i o bs
late_fits i o [] bs h = inl h
late_fits i o (well_formed n cs ∷ ps) bs h =
    late_text i o cs (λ j. Fits j (o + n) ps) bs (λ j x k. late_before j j o (o + n) x (omega arith) (omega arith) (late_fits j (o + n) ps x k)) h
late_fits i o (malformed n ∷ ps) bs h =
    late_line i i o o (Bad o n) _ bs (omega arith) (omega arith) (omega arith)
    (λ x k. late_character i o 0xFFFD (Fits (i + 1) (o + n) ps) x (λ y m. late_before (i + 1) (i + 1) o (o + n) y (omega arith) (omega arith) (late_fits (i + 1) (o + n) ps y m)) k) h

pub late_from : (i o : ℕ) (t : List ℕ) (ps : List Piece) (bs : List ℕ) → FitsFrom i o t ps bs → StartsLate i o bs
late_from i o t ps bs h = late_text i o t (λ j. Fits j o ps) bs (λ j x k. late_fits j o ps x k) h

-- ---- where a line comes next

line_is_no_end : (l : LogLine) (y : List ℕ) → CanBeLogged l → ¬ (IsLogEnd (line_bytes l ++ y))
line_is_no_end l y h (inl cut) =
    let ends = line_ends l h in
    omega (arith, cut.0, ap feeds (ap (λ x. x ++ y) ends.whole), feeds-append (ends.body ++ (10 ∷ [])) y, feeds-append ends.body (10 ∷ []))
line_is_no_end (Bad m n) y h (inr message) = omega (arith, heads 98 114 _ _ message.1)
line_is_no_end (Lost m n) y h (inr message) = omega (arith, heads 108 114 _ _ message.1)

-- what comes next is that line
pub late_next : (i o : ℕ) (l : LogLine) (y : List ℕ) → CanBeLogged l → StartsLate i o (line_bytes l ++ y) → IsLater i o l
late_next i o l y h (inl e) = absurd (line_is_no_end l y h e)
late_next i o l y h (inr m) = subst (IsLater i o) (sym (line_split l m.0 y m.1 h m.2 m.3).0) m.4

-- a line may be missing: it is the one that comes next, or the rest comes at once
pub next_or_missing : (l m : LogLine) (y : List ℕ) (Q : List ℕ → Type 0) → CanBeLogged l → Then (IsLineOrNone m) Q (line_bytes l ++ y) → ((l ≡ m) × Q y) ⊎ Q (line_bytes l ++ y)
next_or_missing l m y Q h (first, second, e, inl none, rest) = inr (subst Q (sym (e ∙ ap (λ x. x ++ second) none)) rest)
next_or_missing l m y Q h (first, second, e, inr one, rest) =
    let same = line_split l m y second h one.0 (e ∙ ap (λ x. x ++ second) one.1) in
    inl (same.0, subst Q (sym same.1) rest)

-- after a line that was read
pub left_after_line : (i o : ℕ) (Q : List ℕ → Type 0) (y : List ℕ) (new : Option (List ℕ)) (n : NextLine) → Q y → StartsLate i o y → ReadsLine (Some y) new n → IsLeftOfLog Q (log_left_after n new)
left_after_line i o Q y new (Line m) q late h = subst (λ x. IsLeftOfLog Q (log_left_after (Line m) x)) (sym h.1) (subst Q h.2 q)
left_after_line i o Q y new End q late h = tt
left_after_line i o Q y new Other q (inl e) h = absurd (h.0 e)
left_after_line i o Q y new Other q (inr m) h = absurd (h.1 (m.0, m.1, m.2, m.3))

-- ---- the line that comes next, and a character

-- the next line is of the character, or of something behind it
pub data IsNext (i o c : ℕ) (t : List ℕ) (ps : List Piece) (l : LogLine) (rem : Option (List ℕ)) : Type 0 where
  its_own : (s : ℕ) (y : List ℕ) → l ≡ Lost i s → IsLoggedAs c s → rem ≡ Some y → FitsFrom (i + 1) o t ps y → IsNext i o c t ps l rem
  later : IsLater (i + 1) o l → IsLeftOfLog (FitsFrom (i + 1) o t ps) (log_left_after (Line l) rem) → IsNext i o c t ps l rem

pub next_line_of : (i o c : ℕ) (t : List ℕ) (ps : List Piece) (l : LogLine) (rem : Option (List ℕ)) → CanBeLogged l → IsLeftOfLog (FitsFrom i o (c ∷ t) ps) (log_left_after (Line l) rem) → IsNext i o c t ps l rem
next_line_of i o c t ps l None h k = absurd k
next_line_of i o c t ps l (Some y) h k = by (next_or_missing l (Lost i k.3.0) y (FitsFrom (i + 1) o t ps) h (k.0, k.1, k.2, k.3.2, k.4))
  where
    by : ((l ≡ Lost i k.3.0) × FitsFrom (i + 1) o t ps y) ⊎ FitsFrom (i + 1) o t ps (line_bytes l ++ y) → IsNext i o c t ps l (Some y)
    by (inl m) = its_own k.3.0 y m.0 k.3.1 refl m.1
    by (inr m) = later (late_next (i + 1) o l y h (late_from (i + 1) o t ps (line_bytes l ++ y) m)) m

number_of_line : LogLine → ℕ
number_of_line (Bad o n) = o
number_of_line (Lost i c) = i

scalar_of_line : LogLine → ℕ
scalar_of_line (Bad o n) = n
scalar_of_line (Lost i c) = c

same_number : (i k c s : ℕ) → Lost i c ≡ Lost k s → i ≡ k
unfolding number_of_line
same_number i k c s e = ap number_of_line e

same_scalar : (i k c s : ℕ) → Lost i c ≡ Lost k s → c ≡ s
unfolding scalar_of_line
same_scalar i k c s e = ap scalar_of_line e

module _ (i o c k s : ℕ) (t : List ℕ) (ps : List Piece) (rem : Option (List ℕ)) (line : CanBeLogged (Lost k s)) where
  pub passed_character : i < k → IsLeftOfLog (FitsFrom i o (c ∷ t) ps) (log_left_after (Line (Lost k s)) rem) → IsLeftOfLog (FitsFrom (i + 1) o t ps) (log_left_after (Line (Lost k s)) rem)
  passed_character more h = by (next_line_of i o c t ps (Lost k s) rem line h)
    where
      by : IsNext i o c t ps (Lost k s) rem → IsLeftOfLog (FitsFrom (i + 1) o t ps) (log_left_after (Line (Lost k s)) rem)
      by (its_own s2 y e logged is rest) = absurd (omega (arith, more, same_number k i s s2 e))
      by (later l rest) = rest

  pub never_unfit : k ≤ i → (k < i) ⊎ ¬ (IsLoggedAs c s) → IsLeftOfLog (FitsFrom i o (c ∷ t) ps) (log_left_after (Line (Lost k s)) rem) → ⊥
  never_unfit most other h = by (next_line_of i o c t ps (Lost k s) rem line h) other
    where
      by : IsNext i o c t ps (Lost k s) rem → (k < i) ⊎ ¬ (IsLoggedAs c s) → ⊥
      by (its_own s2 y e logged is rest) (inl less) = omega (arith, less, same_number k i s s2 e)
      by (its_own s2 y e logged is rest) (inr differs) = differs (subst (IsLoggedAs c) (sym (same_scalar k i s s2 e)) logged)
      by (later l rest) m = omega (arith, l, most)

  pub taken_character : k ≤ i → (n : NextLine) (new : Option (List ℕ)) → ReadsLine rem new n → IsLeftOfLog (FitsFrom i o (c ∷ t) ps) (log_left_after (Line (Lost k s)) rem) → IsLeftOfLog (FitsFrom (i + 1) o t ps) (log_left_after n new)
  taken_character most n new read h = by (next_line_of i o c t ps (Lost k s) rem line h)
    where
      by : IsNext i o c t ps (Lost k s) rem → IsLeftOfLog (FitsFrom (i + 1) o t ps) (log_left_after n new)
      by (its_own s2 y e logged is rest) = left_after_line (i + 1) o (FitsFrom (i + 1) o t ps) y new n rest (late_from (i + 1) o t ps y rest) (subst (λ x. ReadsLine x new n) is read)
      by (later l rest) = absurd (omega (arith, l, most))

-- ---- the line that comes next, and a malformed sequence

-- the next line is of the sequence, or of something behind it
pub data IsNextSequence (i o n : ℕ) (ps : List Piece) (l : LogLine) (rem : Option (List ℕ)) : Type 0 where
  of_sequence : (y : List ℕ) → l ≡ Bad o n → rem ≡ Some y → FitsFrom i (o + n) (0xFFFD ∷ []) ps y → IsNextSequence i o n ps l rem
  behind : IsLater i (o + 1) l → IsLeftOfLog (FitsFrom i (o + n) (0xFFFD ∷ []) ps) (log_left_after (Line l) rem) → IsNextSequence i o n ps l rem

next_sequence : (i o n : ℕ) (ps : List Piece) (l : LogLine) (rem : Option (List ℕ)) → 0 < n → CanBeLogged l → IsLeftOfLog (Fits i o (malformed n ∷ ps)) (log_left_after (Line l) rem) → IsNextSequence i o n ps l rem
next_sequence i o n ps l None some h k = absurd k
next_sequence i o n ps l (Some y) some h k = by (next_or_missing l (Bad o n) y (FitsFrom i (o + n) (0xFFFD ∷ []) ps) h k)
  where
    by : ((l ≡ Bad o n) × FitsFrom i (o + n) (0xFFFD ∷ []) ps y) ⊎ FitsFrom i (o + n) (0xFFFD ∷ []) ps (line_bytes l ++ y) → IsNextSequence i o n ps l (Some y)
    by (inl m) = of_sequence y m.0 refl m.1
    by (inr m) = behind (later_before i i (o + 1) (o + n) l (omega arith) (omega (arith, some)) (late_next i (o + n) l y h (late_from i (o + n) (0xFFFD ∷ []) ps (line_bytes l ++ y) m))) m

same_offset : (i k c s : ℕ) → Bad i c ≡ Bad k s → i ≡ k
unfolding number_of_line
same_offset i k c s e = ap number_of_line e

same_length : (i k c s : ℕ) → Bad i c ≡ Bad k s → c ≡ s
unfolding scalar_of_line
same_length i k c s e = ap scalar_of_line e

is_bad : LogLine → ℕ
is_bad (Bad o n) = 1
is_bad (Lost i c) = 0

not_both : (o n i c : ℕ) → Lost i c ≡ Bad o n → ⊥
unfolding is_bad
not_both o n i c e = omega (arith, ap is_bad e)

module _ (i o n : ℕ) (ps : List Piece) (rem : Option (List ℕ)) (some : 0 < n) where
  pub passed_lost : (k c : ℕ) → CanBeLogged (Lost k c) → IsLeftOfLog (Fits i o (malformed n ∷ ps)) (log_left_after (Line (Lost k c)) rem) → IsLeftOfLog (FitsFrom i (o + n) (0xFFFD ∷ []) ps) (log_left_after (Line (Lost k c)) rem)
  passed_lost k c line h = by (next_sequence i o n ps (Lost k c) rem some line h)
    where
      by : IsNextSequence i o n ps (Lost k c) rem → IsLeftOfLog (FitsFrom i (o + n) (0xFFFD ∷ []) ps) (log_left_after (Line (Lost k c)) rem)
      by (of_sequence y e is rest) = absurd (not_both o n k c e)
      by (behind l rest) = rest

  module _ (k m : ℕ) (line : CanBeLogged (Bad k m)) where
    pub passed_sequence : o < k → IsLeftOfLog (Fits i o (malformed n ∷ ps)) (log_left_after (Line (Bad k m)) rem) → IsLeftOfLog (FitsFrom i (o + n) (0xFFFD ∷ []) ps) (log_left_after (Line (Bad k m)) rem)
    passed_sequence more h = by (next_sequence i o n ps (Bad k m) rem some line h)
      where
        by : IsNextSequence i o n ps (Bad k m) rem → IsLeftOfLog (FitsFrom i (o + n) (0xFFFD ∷ []) ps) (log_left_after (Line (Bad k m)) rem)
        by (of_sequence y e is rest) = absurd (omega (arith, more, same_offset k o m n e))
        by (behind l rest) = rest

    pub never_unfit_sequence : k ≤ o → (k < o) ⊎ ¬ (m ≡ n) → IsLeftOfLog (Fits i o (malformed n ∷ ps)) (log_left_after (Line (Bad k m)) rem) → ⊥
    never_unfit_sequence most other h = by (next_sequence i o n ps (Bad k m) rem some line h) other
      where
        by : IsNextSequence i o n ps (Bad k m) rem → (k < o) ⊎ ¬ (m ≡ n) → ⊥
        by (of_sequence y e is rest) (inl less) = omega (arith, less, same_offset k o m n e)
        by (of_sequence y e is rest) (inr differs) = differs (same_length k o m n e)
        by (behind l rest) d = omega (arith, l, most)

    pub taken_sequence : k ≤ o → (q : NextLine) (new : Option (List ℕ)) → ReadsLine rem new q → IsLeftOfLog (Fits i o (malformed n ∷ ps)) (log_left_after (Line (Bad k m)) rem) → IsLeftOfLog (FitsFrom i (o + n) (0xFFFD ∷ []) ps) (log_left_after q new)
    taken_sequence most q new read h = by (next_sequence i o n ps (Bad k m) rem some line h)
      where
        by : IsNextSequence i o n ps (Bad k m) rem → IsLeftOfLog (FitsFrom i (o + n) (0xFFFD ∷ []) ps) (log_left_after q new)
        by (of_sequence y e is rest) = left_after_line i (o + n) (FitsFrom i (o + n) (0xFFFD ∷ []) ps) y new q rest (late_from i (o + n) (0xFFFD ∷ []) ps y rest) (subst (λ x. ReadsLine x new q) is read)
        by (behind l rest) = absurd (omega (arith, l, most))

-- an error that is handed on
pub goes_err : {T : Type 0} (r : Result T Stop) (e : Stop) (P : List ℕ → Type 0) (left : LogLeft) → IsErrAnd r (λ x. x ≡ e) → IsNotUnfit e → GoesOn r P left
goes_err (Ok x) e P left same h = absurd same
goes_err (Err x) e P left same h = subst IsNotUnfit (sym same) h

-- ---- texts that are passed over, and the end

pub end_is_here : (l : LogLine) (rem : Option (List ℕ)) → CanBeLogged l → IsLeftOfLog IsLogEnd (log_left_after (Line l) rem) → ⊥
end_is_here l None line h = h
end_is_here l (Some y) line h = line_is_no_end l y line h

pub passed_bad : (i o : ℕ) (t : List ℕ) (ps : List Piece) (k m : ℕ) (rem : Option (List ℕ)) → CanBeLogged (Bad k m) → IsLeftOfLog (FitsFrom i o t ps) (log_left_after (Line (Bad k m)) rem) → IsLeftOfLog (Fits (i + length t) o ps) (log_left_after (Line (Bad k m)) rem)
passed_bad i o [] ps k m rem line h = subst (λ j. IsLeftOfLog (Fits j o ps) (log_left_after (Line (Bad k m)) rem)) (omega arith) h
passed_bad i o (c ∷ t) ps k m rem line h =
    subst (λ j. IsLeftOfLog (Fits j o ps) (log_left_after (Line (Bad k m)) rem)) (omega arith) (passed_bad (i + 1) o t ps k m rem line (by (next_line_of i o c t ps (Bad k m) rem line h)))
  where
    by : IsNext i o c t ps (Bad k m) rem → IsLeftOfLog (FitsFrom (i + 1) o t ps) (log_left_after (Line (Bad k m)) rem)
    by (its_own s y e logged is rest) = absurd (not_both k m i s (sym e))
    by (later l rest) = rest

pub passed_far : (i o : ℕ) (t : List ℕ) (ps : List Piece) (k s : ℕ) (rem : Option (List ℕ)) → CanBeLogged (Lost k s) → i + length t ≤ k → IsLeftOfLog (FitsFrom i o t ps) (log_left_after (Line (Lost k s)) rem) → IsLeftOfLog (Fits (i + length t) o ps) (log_left_after (Line (Lost k s)) rem)
passed_far i o [] ps k s rem line far h = subst (λ j. IsLeftOfLog (Fits j o ps) (log_left_after (Line (Lost k s)) rem)) (omega arith) h
passed_far i o (c ∷ t) ps k s rem line far h =
    subst (λ j. IsLeftOfLog (Fits j o ps) (log_left_after (Line (Lost k s)) rem)) (omega arith)
    (passed_far (i + 1) o t ps k s rem line (omega (arith, far)) (passed_character i o c k s t ps rem line (omega (arith, far)) h))

pub passed_outside : (i o len : ℕ) (t : List ℕ) (ps : List Piece) (l : LogLine) (rem : Option (List ℕ)) → CanBeLogged l → IsOutside i len l → length t ≤ len → IsLeftOfLog (FitsFrom i o t ps) (log_left_after (Line l) rem) → IsLeftOfLog (Fits (i + length t) o ps) (log_left_after (Line l) rem)
passed_outside i o len t ps (Bad k m) rem line out most h = passed_bad i o t ps k m rem line h
passed_outside i o len t ps (Lost k s) rem line out most h = passed_far i o t ps k s rem line (omega (arith, out, most)) h

-- something that comes is no end
pub no_end_here : (n : NextLine) (rem : Option (List ℕ)) → IsLineIfAny n → ((x : LogLine) × (n ≡ Line x)) ⊎ (n ≡ Other) → IsLeftOfLog IsLogEnd (log_left_after n rem) → ⊥
no_end_here n rem line (inl one) h = end_is_here one.0 rem (subst IsLineIfAny one.1 line) (subst (λ q. IsLeftOfLog IsLogEnd (log_left_after q rem)) one.1 h)
no_end_here n rem line (inr other) h = subst (λ q. IsLeftOfLog IsLogEnd (log_left_after q rem)) other h

pub match_err : {T : Type 0} (r : Result T Stop) (e : Stop) (P : T → Type 0) → IsErrAnd r (λ x. x ≡ e) → IsNotUnfit e → MatchResult r P IsNotUnfit
match_err (Ok x) e P same h = absurd same
match_err (Err x) e P same h = subst IsNotUnfit (sym same) h

-- the first line of a log that fits is read: what is left fits
pub fits_at_first : (i o : ℕ) (ps : List Piece) (rem old new : Option (List ℕ)) (n : NextLine) → old ≡ rem → ReadsLine old new n → IsLeftOfLog (Fits i o ps) (whole_log rem) → IsLeftOfLog (Fits i o ps) (log_left_after n new)
fits_at_first i o ps None old new n e reads h = absurd h
fits_at_first i o ps (Some x) old new n e reads h = left_after_line i o (Fits i o ps) x new n h (late_fits i o ps x h) (subst (λ v. ReadsLine v new n) e reads)
