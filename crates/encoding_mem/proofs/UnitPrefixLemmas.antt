-- Prefixes of units of UTF-16 that split no character.
use Rattle.std.proofs.Common.{◌≡◌, ℕ, zero, suc, ◌+◌, ◌*◌, ◌-◌, ◌<◌, ◌≤◌, ◌⊎◌, inl, inr, List, [], ◌∷◌, ◌++◌, length, map, take, drop, get_or, refl, sym, ◌∙◌, ap, subst, arith, append_assoc, length-append, length-drop, encode_utf8_all}
use Rattle.std.specs.Option.{unwrap_or}
use Rattle.std.specs.Char.{encode_utf8, len_utf8}
use Rattle.std.specs.Char.Utf16.{utf16_lossy_chars, lone_unit_char, surrogate_pair_char}
use Rattle.std.proofs.lemmas.Bool.Decides.{nat_tests}
use Rattle.std.proofs.lemmas.List.{append_cancel_left, append_cancel_right, drop-drop, drop_at, take-take, take_all, get_or-drop, get_or-take, length-take-le}
use Rattle.std.proofs.lemmas.Str.{utf16_chars_lone, utf16_chars_pair, length-encode, len_utf8_bounds}
use Rattle.encoding_mem.specs.Conversions.{IsLongest, IsUnitBoundary, units_in_utf8}
use Rattle.encoding_mem.specs.Surrogates.{IsSurrogatePair}
use Rattle.encoding_mem.specs.Utf8Coding.{NextIsTooLong, ReadsLongest}
use Rattle.encoding_mem.proofs.LongestPrefixLemmas.{over, reads_whole}
use Rattle.encoding_mem.proofs.Utf16Lemmas.{cases_high, cases_low, no_units, lone_unit, pair_of_units}

pub pair_or_not : (u v : ℕ) → IsSurrogatePair u v ⊎ (¬ (IsSurrogatePair u v))
pair_or_not u v = elim (cases_high u) [
  | inl high ↦ elim (cases_low v) [ inl low ↦ inl (high, low) | inr other ↦ inr (λ p. other p.1) ]
  | inr other ↦ inr (λ p. other p.0)
]

abbrev pub char_of : ℕ → ℕ
char_of u = unwrap_or (lone_unit_char u) 0xFFFD

pub one : (u : ℕ) (us : List ℕ) → ¬ (IsSurrogatePair u (get_or us 0 0)) → utf16_lossy_chars (u ∷ us) ≡ char_of u ∷ utf16_lossy_chars us
one u us apart = ap (map (λ o. unwrap_or o 0xFFFD)) (utf16_chars_lone u us (λ p. apart ((p.0, omega arith), (p.2, omega arith))))

pub two : (u v : ℕ) (us : List ℕ) → IsSurrogatePair u v → utf16_lossy_chars (u ∷ v ∷ us) ≡ surrogate_pair_char u v ∷ utf16_lossy_chars us
two u v us p = ap (map (λ o. unwrap_or o 0xFFFD)) (utf16_chars_pair u v us (p.0.0, omega arith, p.1.0, omega arith))

head_of : (u i : ℕ) (us : List ℕ) → IsSurrogatePair u (get_or (take i us) 0 0) → IsSurrogatePair u (get_or us 0 0)
head_of u zero us p = absurd (omega arith)
head_of u (suc i) [] p = p
head_of u (suc i) (v ∷ us) p = p

join_one : (i u : ℕ) (us : List ℕ) → ¬ (IsSurrogatePair u (get_or us 0 0)) → utf16_lossy_chars us ≡ utf16_lossy_chars (take i us) ++ utf16_lossy_chars (drop i us)
    → utf16_lossy_chars (u ∷ us) ≡ utf16_lossy_chars (u ∷ take i us) ++ utf16_lossy_chars (drop i us)
join_one i u us apart rest =
    one u us apart ∙ ap (λ l. char_of u ∷ l) rest ∙ ap (λ l. l ++ utf16_lossy_chars (drop i us)) (sym (one u (take i us) (λ p. apart (head_of u i us p))))

join_two : (i u v : ℕ) (us : List ℕ) → IsSurrogatePair u v → utf16_lossy_chars us ≡ utf16_lossy_chars (take i us) ++ utf16_lossy_chars (drop i us)
    → utf16_lossy_chars (u ∷ v ∷ us) ≡ utf16_lossy_chars (u ∷ v ∷ take i us) ++ utf16_lossy_chars (drop i us)
join_two i u v us p rest =
    two u v us p ∙ ap (λ l. surrogate_pair_char u v ∷ l) rest ∙ ap (λ l. l ++ utf16_lossy_chars (drop i us)) (sym (two u v (take i us) p))

-- at a boundary the text is that of both sides
pub split_at : (i : ℕ) (us : List ℕ) → IsUnitBoundary us i → utf16_lossy_chars us ≡ utf16_lossy_chars (take i us) ++ utf16_lossy_chars (drop i us)
split_at zero us b = ap (λ l. l ++ utf16_lossy_chars us) (sym (no_units [] refl))
split_at (suc i) [] b = ap (λ l. l ++ utf16_lossy_chars []) (sym (no_units [] refl))
split_at (suc zero) (u ∷ us) b = join_one 0 u us (b 0 (omega arith)) (split_at zero us (λ k e. absurd (omega arith)))
split_at (suc (suc j)) (u ∷ []) b = join_one (suc j) u [] (λ p. absurd (omega arith)) (split_at (suc j) [] (λ k e p. absurd (omega arith)))
split_at (suc (suc j)) (u ∷ v ∷ us) b = elim (pair_or_not u v) [
  | inl p ↦ join_two j u v us p (split_at j us (λ k e. b (suc (suc k)) (omega arith)))
  | inr apart ↦ join_one (suc j) u (v ∷ us) apart (split_at (suc j) (v ∷ us) (λ k e. b (suc k) (omega arith)))
]

-- units have a character
pub first_of : (us : List ℕ) → 0 < length us → (c : ℕ) × (more : List ℕ) × (utf16_lossy_chars us ≡ c ∷ more)
first_of [] some = absurd (omega arith)
first_of (u ∷ []) some = (char_of u, utf16_lossy_chars [], one u [] (λ p. absurd (omega arith)))
first_of (u ∷ v ∷ us) some = elim (pair_or_not u v) [
  | inl p ↦ (surrogate_pair_char u v, utf16_lossy_chars us, two u v us p)
  | inr apart ↦ (char_of u, utf16_lossy_chars (v ∷ us), one u (v ∷ us) apart)
]

same_seam : (f w z : List ℕ) (a b : ℕ) → f ++ (a ∷ z) ≡ w ++ (b ∷ z) → a ≡ b
same_seam f w z a b h =
    let l : length f ≡ length w = omega (arith, ap length h, length-append f (a ∷ z), length-append w (b ∷ z)) in
    let e : a ∷ z ≡ b ∷ z = sym (drop_at f (a ∷ z) (length f) refl) ∙ ap (drop (length f)) h ∙ drop_at w (b ∷ z) (length f) (sym l) in
    cc

first_at : (us : List ℕ) (n : ℕ) → get_or (drop n us) 0 0 ≡ get_or us n 0
first_at us n = get_or-drop n us 0 0 ∙ ap (λ m. get_or us m 0) (omega arith)

there : (us : List ℕ) (n : ℕ) → 0 < get_or us n 0 → n < length us
there [] n h = absurd (omega arith)
there (u ∷ us) zero h = omega arith
there (u ∷ us) (suc n) h = let r = there us n h in omega arith

-- Between the two of a pair the text from there on begins with U+FFFD, which is no part of the whole
-- text there.
inside : (us prefix : List ℕ) (k : ℕ) → utf16_lossy_chars us ≡ prefix ++ utf16_lossy_chars (drop (k + 1) us) → ¬ (IsSurrogatePair (get_or us k 0) (get_or us (k + 1) 0))
inside us prefix k is p =
    let within : k + 1 < length us = there us (k + 1) (omega arith) in
    let before : IsUnitBoundary us k = λ j e q. absurd (omega arith) in
    let size = length-drop k us in
    let size1 = length-drop (k + 1) us in
    let at0 = first_at us k in
    let at1 : get_or (drop k us) 1 0 ≡ get_or us (k + 1) 0 = get_or-drop k us 1 0 in
    let at2 = first_at us (k + 1) in
    let pair_is = pair_of_units (drop k us) (omega arith) (omega arith, omega arith, omega arith, omega arith) in
    let lone_is = lone_unit (drop (k + 1) us) (omega arith) (omega arith) (omega arith) (λ q. absurd (omega arith)) in
    let c : ℕ = surrogate_pair_char (get_or (drop k us) 0 0) (get_or (drop k us) 1 0) in
    let high : 0x1_0000 ≤ c = omega arith in
    let rest : drop 2 (drop k us) ≡ drop 1 (drop (k + 1) us) = drop-drop 2 k us ∙ ap (λ m. drop m us) (omega arith) ∙ sym (drop-drop 1 (k + 1) us) in
    let z = utf16_lossy_chars (drop 1 (drop (k + 1) us)) in
    let e : prefix ++ (0xFFFD ∷ z) ≡ utf16_lossy_chars (take k us) ++ (c ∷ z) =
    ap (λ l. prefix ++ l) (sym lone_is) ∙ sym is ∙ split_at k us before ∙ ap (λ l. utf16_lossy_chars (take k us) ++ l) (pair_is ∙ ap (λ l. c ∷ utf16_lossy_chars l) rest) in
    let same = same_seam prefix (utf16_lossy_chars (take k us)) z 0xFFFD c e in
    absurd (omega arith)

pub reads_boundary : (us prefix : List ℕ) (n : ℕ) → utf16_lossy_chars us ≡ prefix ++ utf16_lossy_chars (drop n us) → IsUnitBoundary us n
reads_boundary us prefix n is k e =
    subst (λ m. ¬ (IsSurrogatePair (get_or us k 0) (get_or us m 0))) (sym e) (inside us prefix k (is ∙ ap (λ m. prefix ++ utf16_lossy_chars (drop m us)) e))

pub reads_text : (us prefix : List ℕ) (n : ℕ) → utf16_lossy_chars us ≡ prefix ++ utf16_lossy_chars (drop n us) → prefix ≡ utf16_lossy_chars (take n us)
reads_text us prefix n is = append_cancel_right prefix (utf16_lossy_chars (take n us)) (utf16_lossy_chars (drop n us)) (sym is ∙ split_at n us (reads_boundary us prefix n is))

-- a longer prefix goes on with the next character
shorter : (us : List ℕ) (n i : ℕ) → n < i → IsUnitBoundary us n → IsUnitBoundary (take i us) n
shorter us n i more b k e p =
    let a = get_or-take i us k 0 (omega arith) in
    let d = get_or-take i us n 0 more in
    b k e (rw (← a, ← d) p)

pub longer_text : (us : List ℕ) (n i : ℕ) → n < i → i ≤ length us → IsUnitBoundary us n → IsUnitBoundary us i
    → (c : ℕ) × (more : List ℕ) × (rest : List ℕ) × (utf16_lossy_chars (take i us) ≡ utf16_lossy_chars (take n us) ++ (c ∷ more)) × (utf16_lossy_chars (drop n us) ≡ c ∷ rest)
longer_text us n i more le b d =
    let part : List ℕ = drop n (take i us) in
    let len : 0 < length part = omega (arith, length-drop n (take i us), length-take-le i us le) in
    let f = first_of part len in
    let first_piece_is : utf16_lossy_chars (take i us) ≡ utf16_lossy_chars (take n us) ++ utf16_lossy_chars part =
    split_at n (take i us) (shorter us n i more b) ∙ ap (λ l. utf16_lossy_chars l ++ utf16_lossy_chars part) (take-take n i us (omega arith)) in
    let all : utf16_lossy_chars (take n us) ++ utf16_lossy_chars (drop n us) ≡ utf16_lossy_chars (take n us) ++ (utf16_lossy_chars part ++ utf16_lossy_chars (drop i us)) =
    sym (split_at n us b) ∙ split_at i us d ∙ ap (λ l. l ++ utf16_lossy_chars (drop i us)) first_piece_is ∙ append_assoc (utf16_lossy_chars (take n us)) (utf16_lossy_chars part) (utf16_lossy_chars (drop i us)) in
    let behind = append_cancel_left (utf16_lossy_chars (take n us)) (utf16_lossy_chars (drop n us)) (utf16_lossy_chars part ++ utf16_lossy_chars (drop i us)) all in
    (f.0, f.1, f.1 ++ utf16_lossy_chars (drop i us), first_piece_is ∙ ap (λ l. utf16_lossy_chars (take n us) ++ l) f.2, behind ∙ ap (λ l. l ++ utf16_lossy_chars (drop i us)) f.2)

too_long : (t : List ℕ) (c : ℕ) (rest : List ℕ) (free : ℕ) → t ≡ c ∷ rest → NextIsTooLong t free → free < len_utf8 c
too_long t c rest free is h = subst (λ l. NextIsTooLong l free) is h

pub units_over : (us : List ℕ) (n room : ℕ) → IsUnitBoundary us n → length (units_in_utf8 (take n us)) ≤ room
    → NextIsTooLong (utf16_lossy_chars (drop n us)) (room - length (units_in_utf8 (take n us)))
    → (i : ℕ) → n < i → i ≤ length us → IsUnitBoundary us i → room < length (units_in_utf8 (take i us))
units_over us n room b fits next i more le d =
    let r = longer_text us n i more le b d in
    let tight = too_long (utf16_lossy_chars (drop n us)) r.0 r.2 (room - length (units_in_utf8 (take n us))) r.4 next in
    subst (λ l. room < length (encode_utf8_all l)) (sym r.3) (over (utf16_lossy_chars (take n us)) r.1 r.0 room (omega arith))

-- What a call of the encoder wrote.
pub written_text : (us out : List ℕ) (n free : ℕ) → ReadsLongest (utf16_lossy_chars us) out (utf16_lossy_chars (drop n us)) free → out ≡ units_in_utf8 (take n us)
written_text us out n free r = r.bytes ∙ ap encode_utf8_all (reads_text us r.prefix n r.split)

pub written_longest : (us out : List ℕ) (n room k : ℕ) → n ≤ length us → ReadsLongest (utf16_lossy_chars us) out (utf16_lossy_chars (drop n us)) (room - k)
    → length out ≡ k → k ≤ room → IsLongest (IsUnitBoundary us) (λ i. length (units_in_utf8 (take i us))) (length us) room n
written_longest us out n room k within r len fits =
    let b = reads_boundary us r.prefix n r.split in
    let size : length (units_in_utf8 (take n us)) ≡ k = ap length (sym (written_text us out n (room - k) r)) ∙ len in
    record {
      within = within;
      whole = b;
      fits = omega arith;
      longest = units_over us n room b (omega arith) (subst (λ m. NextIsTooLong (utf16_lossy_chars (drop n us)) (room - m)) (sym size) r.longest);
    }

-- No unit gives more than three bytes.
three_bytes : (u : ℕ) → u < 0x1_0000 → len_utf8 (char_of u) ≤ 3
three_bytes u h = grind (arith, nat_tests)

pub units_size : (us : List ℕ) → ((k : ℕ) → get_or us k 0 < 0x1_0000) → length (units_in_utf8 us) ≤ 3 * length us
units_size [] low = omega (arith, ap (λ l. length (encode_utf8_all l)) (no_units [] refl))
units_size (u ∷ []) low =
    let is = one u [] (λ p. absurd (omega arith)) ∙ ap (λ l. char_of u ∷ l) (no_units [] refl) in
    omega (arith, ap (λ l. length (encode_utf8_all l)) is, length-append (encode_utf8 (char_of u)) [], length-encode (char_of u), three_bytes u (low 0))
units_size (u ∷ v ∷ us) low = elim (pair_or_not u v) [
  | inl p ↦ (let is = ap (λ l. length (encode_utf8_all l)) (two u v us p) in let c = surrogate_pair_char u v in
      omega (arith, is, length-append (encode_utf8 c) (units_in_utf8 us), length-encode c, (len_utf8_bounds c).1, units_size us (λ k. low (suc (suc k)))))
  | inr apart ↦ (let is = ap (λ l. length (encode_utf8_all l)) (one u (v ∷ us) apart) in
      omega (arith, is, length-append (encode_utf8 (char_of u)) (units_in_utf8 (v ∷ us)), length-encode (char_of u), three_bytes u (low 0), units_size (v ∷ us) (λ k. low (suc k))))
]

none_there : (us : List ℕ) → get_or us (length us) 0 ≡ 0
none_there [] = refl
none_there (u ∷ us) = none_there us

at_end : (us : List ℕ) → IsUnitBoundary us (length us)
at_end us k e p = let z = none_there us in absurd (omega arith)

pub whole_units : (us out : List ℕ) (room n : ℕ) → ((k : ℕ) → get_or us k 0 < 0x1_0000) → 3 * length us ≤ room
    → IsLongest (IsUnitBoundary us) (λ i. length (units_in_utf8 (take i us))) (length us) room n → out ≡ units_in_utf8 (take n us) → out ≡ units_in_utf8 us
whole_units us out room n low wide l is =
    let all : take (length us) us ≡ us = take_all (length us) us (omega arith) in
    let fits : length (units_in_utf8 (take (length us) us)) ≤ room = omega (arith, ap (λ x. length (units_in_utf8 x)) all, units_size us low) in
    let n_is = reads_whole (IsUnitBoundary us) (λ i. length (units_in_utf8 (take i us))) (length us) room n l (at_end us) fits in
    is ∙ ap (λ m. units_in_utf8 (take m us)) n_is ∙ ap units_in_utf8 all
