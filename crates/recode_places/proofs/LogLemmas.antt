-- What a log's reader gives, byte by byte and line by line.
use Rattle.std.proofs.Common.{◌≡◌, ℕ, ◌+◌, ◌<◌, ◌≤◌, List, [], ◌∷◌, ◌++◌, Option, Some, None, IfSome, refl, sym, ◌∙◌, ap, subst, arith, append-nil, append_assoc, length, drop, take, option_map, slice_index_or, inl, inr, codes, ◌==◌, false}
use Rattle.std.proofs.Math.ListN.{drop_of_length-le}
use Rattle.std.proofs.lemmas.Option.{none-some, same_Some}
use Rattle.std.proofs.lemmas.List.{drop_more, get_or-take, length-append, length-take}
use Rattle.std.specs.Io.KnownBytes.{Consumes}
use Rattle.recode_places.specs.Places.{feeds}
use Rattle.recode_places.specs.Logs.{BeginsWithLine, CanBeLogged, IsLogEnd, IsMessage}
use Rattle.recode_log.specs.Line.{line_bytes}
use Rattle.recode_log.specs.declared.line.LogLine.{LogLine}
use Rattle.recode_places.proofs.LineLemmas.{Lacks, begins_before, begins_longer, lacks_from_feeds, line_ends, no_line_in, split_first}
use Rattle.recode_places.specs.calls.LogViews.{IsMeaning, ReadsByte, ReadsLine}
use Rattle.recode_places.specs.declared.log_lines.NextLine.{NextLine}
use Rattle.recode_places.specs.declared.log_lines.NextLine.TheVariants.{Line, End, Other}

-- a buffer that was read to its end is filled again
pub refilled : (at len n : ℕ) (b b' : List ℕ) (rem rem' : Option (List ℕ)) → len ≤ at → Consumes rem rem' (take n b')
    → IfSome (option_map (λ x. drop at (take len b) ++ x) rem) (λ x. option_map (λ y. drop 0 (take n b') ++ y) rem' ≡ Some x)
refilled at len n b b' None rem' h k = tt
refilled at len n b b' (Some x) None h k = absurd k
refilled at len n b b' (Some x) (Some y) h k =
    let none : drop at (take len b) ≡ [] = drop_of_length-le (take len b) (omega (arith, h, length-take len b)) in
    ap Some (sym k ∙ sym (ap (λ z. z ++ x) none))

-- a byte that is at hand
pub byte_read : (old : Option (List ℕ)) (at len : ℕ) (b : List ℕ) (rem : Option (List ℕ)) → at < len → len ≤ length b → IfSome old (λ x. option_map (λ y. drop at (take len b) ++ y) rem ≡ Some x)
    → ReadsByte old (option_map (λ y. drop (at + 1) (take len b) ++ y) rem) (Some (slice_index_or b at 0))
byte_read None at len b rem h k e = tt
byte_read (Some x) at len b None h k e = absurd (none-some x e)
byte_read (Some x) at len b (Some y) h k e =
    let next : drop at (take len b) ≡ slice_index_or b at 0 ∷ drop (at + 1) (take len b) =
    drop_more (take len b) at 0 (omega (arith, h, k, length-take len b)) ∙ ap (λ v. v ∷ drop (at + 1) (take len b)) (get_or-take len b at 0 h) in
    (drop (at + 1) (take len b) ++ y, refl, sym (same_Some _ _ e) ∙ ap (λ z. z ++ y) next)

-- ---- a line

pub feeds-append : (x y : List ℕ) → feeds (x ++ y) ≡ feeds x + feeds y
feeds-append [] y = omega arith
feeds-append (c ∷ x) y = omega (arith, feeds-append x y)

-- what is read of a log, if it is known
abbrev pub HasRead : (old new : Option (List ℕ)) → List ℕ → Type 0
HasRead old new bs = IfSome old (λ x. (y : List ℕ) × (new ≡ Some y) × (x ≡ bs ++ y))

pub has_read_none : (old : Option (List ℕ)) → HasRead old old []
has_read_none None = tt
has_read_none (Some x) = (x, refl, refl)

pub has_read_byte : (old mid new : Option (List ℕ)) (bs : List ℕ) (v : ℕ) → HasRead old mid bs → ReadsByte mid new (Some v) → HasRead old new (bs ++ (v ∷ []))
has_read_byte None mid new bs v h k = tt
has_read_byte (Some x) mid new bs v h k =
    let next = subst (λ m. ReadsByte m new (Some v)) h.1 k in
    (next.0, next.1, h.2 ∙ ap (λ z. bs ++ z) next.2 ∙ sym (append_assoc bs (v ∷ []) next.0))

-- the log ended in a line
pub cut_short : (old mid new : Option (List ℕ)) (bs : List ℕ) → feeds bs ≡ 0 → length bs < 64 → HasRead old mid bs → ReadsByte mid new None → ReadsLine old new End
cut_short None mid new bs none short h k = tt
cut_short (Some x) mid new bs none short h k =
    let empty = subst (λ m. ReadsByte m new None) h.1 k in
    let all : x ≡ bs = h.2 ∙ ap (λ z. bs ++ z) empty ∙ append-nil bs in
    inl (ap feeds all ∙ none, omega (arith, ap length all, short))

-- what was read up to a line feed, or 64 bytes with none
pub data IsWhole (bs : List ℕ) : Type 0 where
  to_feed : (body : List ℕ) → bs ≡ body ++ (10 ∷ []) → feeds body ≡ 0 → IsWhole bs
  too_long : length bs ≡ 64 → feeds bs ≡ 0 → IsWhole bs

message_lacks : Lacks 10 (codes "recode: ")
message_lacks = lacks_from_feeds (codes "recode: ") refl

-- it is no end of a log
no_end : (x bs y : List ℕ) → x ≡ bs ++ y → IsWhole bs → ¬ (IsMessage bs) → ¬ (IsLogEnd x)
no_end x bs y e (to_feed body w none) k (inl cut) = omega (arith, cut.0, ap feeds e, feeds-append bs y, ap feeds w, feeds-append body (10 ∷ []))
no_end x bs y e (too_long size none) k (inl cut) = omega (arith, cut.1, ap length e, length-append bs y, size)
no_end x bs y e (to_feed body w none) k (inr message) =
    let rest = begins_before (codes "recode: ") message.0 body y message_lacks (sym message.1 ∙ e ∙ ap (λ z. z ++ y) w ∙ append_assoc body (10 ∷ []) y) in
    k (rest.0 ++ (10 ∷ []), w ∙ ap (λ z. z ++ (10 ∷ [])) rest.1 ∙ append_assoc (codes "recode: ") rest.0 (10 ∷ []))
no_end x bs y e (too_long size none) k (inr message) = k (begins_longer (codes "recode: ") message.0 bs y (omega (arith, size)) (sym message.1 ∙ e))

-- and no line begins it
no_line : (x bs y : List ℕ) → x ≡ bs ++ y → IsWhole bs → ((l : LogLine) → CanBeLogged l → ¬ (line_bytes l ≡ bs)) → ¬ (BeginsWithLine x)
no_line x bs y e (to_feed body w none) k b =
    let ends = line_ends b.0 b.2 in
    let same = split_first 10 ends.body body b.1 y ends.lacks (lacks_from_feeds body none)
    (sym (append_assoc ends.body (10 ∷ []) b.1) ∙ ap (λ z. z ++ b.1) (sym ends.whole) ∙ sym b.3 ∙ e ∙ ap (λ z. z ++ y) w ∙ append_assoc body (10 ∷ []) y) in
    k b.0 b.2 (ends.whole ∙ ap (λ z. z ++ (10 ∷ [])) same.0 ∙ sym w)
no_line x bs y e (too_long size none) k b =
    let ends = line_ends b.0 b.2 in
    no_line_in bs ends.body b.1 y (lacks_from_feeds bs none) (omega (arith, size, ends.short))
    (sym (append_assoc ends.body (10 ∷ []) b.1) ∙ ap (λ z. z ++ b.1) (sym ends.whole) ∙ sym b.3 ∙ e)

-- a whole line, or too many bytes for one
pub read_line : (old new : Option (List ℕ)) (bs : List ℕ) (n : NextLine) → HasRead old new bs → IsWhole bs → IsMeaning bs n → ReadsLine old new n
read_line None new bs n h whole k = tt
read_line (Some x) new bs (Line l) h whole k = (h.0, h.1, h.2 ∙ ap (λ z. z ++ h.0) (sym k.0), k.1)
read_line (Some x) new bs End h whole k = inr (k.0 ++ h.0, h.2 ∙ ap (λ z. z ++ h.0) k.1 ∙ append_assoc (codes "recode: ") k.0 h.0)
read_line (Some x) new bs Other h whole k = (no_end x bs h.0 h.2 whole k.0, no_line x bs h.0 h.2 whole k.1)

-- one more byte, which is no line feed
pub no_feed : (bs : List ℕ) (v : ℕ) → feeds bs ≡ 0 → (v == 10) ≡ false → feeds (bs ++ (v ∷ [])) ≡ 0
no_feed bs v h k = grind (arith, feeds-append bs (v ∷ []), h, k)
