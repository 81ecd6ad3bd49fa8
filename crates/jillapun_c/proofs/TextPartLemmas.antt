-- The part of a text that a call looks at.
use Rattle.std.proofs.Common.{◌≡◌, ◌≢◌, ℕ, zero, suc, ◌+◌, ◌<◌, ◌≤◌, ◌==◌, ◌⊎◌, inl, inr, Bool, true, false, cond, List, [], ◌∷◌, ◌++◌, length, take, drop, refl, sym, ◌∙◌, ap, subst, arith, encode_utf8_all, length-append, length-drop}
use Rattle.std.specs.Str.{IsUtf8, all_scalars, is_utf8}
use Rattle.std.specs.Str.Lossy.{utf8_valid_len, valid_len_up_to}
use Rattle.std.specs.Char.{encode_utf8}
use Rattle.std.proofs.lemmas.Bool.{cases_lt, and_parts}
use Rattle.std.proofs.Math.Utf8.{scalar}
use Rattle.std.proofs.lemmas.List.{take-append-drop, take-take, take_all, take_at, length-take-le, length-take}
use Rattle.std.proofs.lemmas.Str.{IsUtf8-append, IsUtf8-nil, IsUtf8-drop, IsUtf8-encode, IsCharBoundary-from_take, IsUtf8-from_is_utf8, is_utf8-from_IsUtf8, length-encode, len_utf8_bounds}
use Rattle.std.proofs.Math.Seq.{take-add}
use Rattle.encoding_mem.specs.Conversions.{text_prefix}
use Rattle.encoding_mem.specs.LongestPrefix.{IsLongestPrefix}
use Rattle.jillapun_c.specs.TextParts.{BeginsMalformed, IsFirstPart, IsLookedAt}

-- a text is a part of it that is text, and more: nothing more, or the part is long
pub record IsPartOf (text part : List ℕ) (least : ℕ) : Type 0 where
  pub more : List ℕ
  pub is : text ≡ part ++ more
  pub utf8 : IsUtf8 part
  pub more_utf8 : IsUtf8 more
  pub long : (more ≡ []) ⊎ (least < length part)

-- the longest prefix that is UTF-8, of those up to a length
record IsLongestTo (bs : List ℕ) (n most : ℕ) : Type 0 where
  within : n ≤ most
  utf8 : IsUtf8 (take n bs)
  longest : (m : ℕ) → n < m → m ≤ most → ¬ (IsUtf8 (take m bs))

one_more : (bs : List ℕ) (n : ℕ) (t : Bool) → is_utf8 (take (suc n) bs) ≡ t → IsLongestTo bs (valid_len_up_to bs n) n → IsLongestTo bs (cond t (suc n) (valid_len_up_to bs n)) (suc n)
one_more bs n true e h = record {
  within = omega arith;
  utf8 = IsUtf8-from_is_utf8 (take (suc n) bs) e;
  longest = λ m more most. absurd (omega (arith, more, most));
}
one_more bs n false e h = record {
  within = omega (arith, h.within);
  utf8 = h.utf8;
  longest = λ m more most. elim (cases_lt m (suc n)) [
    | inl below ↦ h.longest m more (omega (arith, below))
    | inr last ↦ (let same : m ≡ suc n = omega (arith, last, most) in
        λ u. let k = is_utf8-from_IsUtf8 (take (suc n) bs) (subst (λ i. IsUtf8 (take i bs)) same u) in absurd (let e' = e in cc))
  ];
}

longest_to : (bs : List ℕ) (n : ℕ) → IsLongestTo bs (valid_len_up_to bs n) n
longest_to bs zero = record { within = omega arith; utf8 = IsUtf8-nil; longest = λ m more most. absurd (omega (arith, more, most)) }
longest_to bs (suc n) = one_more bs n (is_utf8 (take (suc n) bs)) refl (longest_to bs n)

pub valid_longest : (bs : List ℕ) → IsLongestPrefix IsUtf8 bs (utf8_valid_len bs)
unfolding utf8_valid_len
valid_longest bs = let h = longest_to bs (length bs) in record { within = h.within; well_formed = h.utf8; longest = h.longest }

pub longest_is_prefix : (bs : List ℕ) (n : ℕ) → IsLongestPrefix IsUtf8 bs n → take n bs ≡ text_prefix bs
longest_is_prefix bs n h =
    let v = valid_longest bs in
    ap (λ k. take k bs) (elim (cases_lt n (utf8_valid_len bs)) [
      | inl less ↦ absurd (h.longest (utf8_valid_len bs) less v.within v.well_formed)
      | inr from ↦ elim (cases_lt (utf8_valid_len bs) n) [
        | inl less ↦ absurd (v.longest n less h.within h.well_formed)
        | inr to ↦ omega (arith, from, to)
      ]
    ])

pub prefix_of_text : (bs : List ℕ) → IsUtf8 bs → text_prefix bs ≡ bs
prefix_of_text bs u =
    sym (longest_is_prefix bs (length bs) (record { within = omega arith; well_formed = subst IsUtf8 (sym (take_all (length bs) bs (omega arith))) u; longest = λ m more most. absurd (omega (arith, more, most)) }))
    ∙ take_all (length bs) bs (omega arith)

pub prefix_is_text : (bs : List ℕ) → IsUtf8 (text_prefix bs)
prefix_is_text bs = (valid_longest bs).well_formed

-- a text that is not empty begins with a character
begins : (bs : List ℕ) → IsUtf8 bs → 0 < length bs → (c : ℕ) × (rest : List ℕ) × (bs ≡ encode_utf8 c ++ rest) × IsUtf8 (encode_utf8 c)
begins bs u some = by u.0 u.1.0 u.1.1
  where
    by : (cs : List ℕ) → all_scalars cs ≡ true → encode_utf8_all cs ≡ bs → (c : ℕ) × (rest : List ℕ) × (bs ≡ encode_utf8 c ++ rest) × IsUtf8 (encode_utf8 c)
    by [] are is = absurd (omega (arith, ap length is, some))
    by (c ∷ cs) are is = (c, encode_utf8_all cs, sym is, IsUtf8-encode c (and_parts (scalar c) (all_scalars cs) are).0)

-- if a prefix of a text that ends between characters is not all of it, a longer one, by four bytes at most, ends so, too
longer : (bs : List ℕ) (n : ℕ) → IsUtf8 bs → n < length bs → IsUtf8 (take n bs) → (m : ℕ) × (n < m) × (m ≤ n + 4) × (m ≤ length bs) × IsUtf8 (take m bs)
longer bs n u less front =
    let rest : IsUtf8 (drop n bs) = IsUtf8-drop bs n u (IsCharBoundary-from_take bs n u (omega (arith, less)) front) in
    let first = begins (drop n bs) rest (omega (arith, less, length-drop n bs)) in
    let size = length-encode first.0 in
    let few = len_utf8_bounds first.0 in
    let whole : n + length (encode_utf8 first.0) ≤ length bs = omega (arith, less, length-drop n bs, ap length first.2, length-append (encode_utf8 first.0) first.1) in
    let is : take (n + length (encode_utf8 first.0)) bs ≡ take n bs ++ encode_utf8 first.0 =
    take-add n (length (encode_utf8 first.0)) bs ∙ ap (λ l. take n bs ++ l) (ap (take (length (encode_utf8 first.0))) first.2 ∙ take_at (encode_utf8 first.0) first.1 (length (encode_utf8 first.0)) refl) in
    (n + length (encode_utf8 first.0), omega (arith, size, few.0), omega (arith, size, few.1), whole, subst IsUtf8 (sym is) (IsUtf8-append (take n bs) (encode_utf8 first.0) front first.3))

-- the text that is looked at of bytes is a part of the text at their start: all of it, or more than so many bytes, if four more are looked at
pub is_part : (bs : List ℕ) (most end : ℕ) → (length bs ≤ end) ⊎ (most + 4 ≤ end) → IsPartOf (text_prefix bs) (text_prefix (take end bs)) most
is_part bs most end looks =
    let n : ℕ = utf8_valid_len (take end bs) in
    let v : ℕ = utf8_valid_len bs in
    let part = valid_longest (take end bs) in
    let whole = valid_longest bs in
    let size : length (take end bs) ≤ end = omega (arith, length-take end bs) in
    let short : length (take end bs) ≤ length bs = omega (arith, length-take end bs) in
    let same : take n (take end bs) ≡ take n bs = take-take n end bs (omega (arith, part.within, size)) in
    let front : IsUtf8 (take n bs) = subst IsUtf8 same part.well_formed in
    let less : n ≤ v = elim (cases_lt v n) [ inl over ↦ absurd (whole.longest n over (omega (arith, part.within, short)) front) | inr to ↦ to ] in
    let long : length (take v bs) ≡ v = length-take-le v bs whole.within in
    let again : take n (take v bs) ≡ take n bs = take-take n v bs less in
    let behind : IsUtf8 (drop n (take v bs)) =
    IsUtf8-drop (take v bs) n whole.well_formed (IsCharBoundary-from_take (take v bs) n whole.well_formed (omega (arith, long, less)) (subst IsUtf8 (sym again) front)) in
    record {
      more = drop n (take v bs);
      is = sym (take-append-drop n (take v bs)) ∙ ap (λ l. l ++ drop n (take v bs)) (again ∙ sym same);
      utf8 = part.well_formed;
      more_utf8 = behind;
      long = elim (cases_lt n v) [
        | inr all ↦ inl (rest_is_none (drop n (take v bs)) (omega (arith, length-drop n (take v bs), long, all)))
        | inl some ↦ elim (cases_lt most n) [
          | inl enough ↦ inr (omega (arith, enough, length-take-le n (take end bs) part.within))
          | inr few ↦ (let next = longer (take v bs) n whole.well_formed (omega (arith, long, some)) (subst IsUtf8 (sym again) front) in
              let seen : next.0 ≤ end = elim looks [
                | inl all ↦ omega (arith, all, next.3, long, whole.within)
                | inr more ↦ omega (arith, more, next.2, few)
              ] in
              let at : take next.0 (take end bs) ≡ take next.0 (take v bs) =
              take-take next.0 end bs seen ∙ sym (take-take next.0 v bs (omega (arith, next.3, long))) in
              absurd (part.longest next.0 next.1 (omega (arith, seen, next.3, long, whole.within, length-take end bs)) (subst IsUtf8 (sym at) next.4)))
        ]
      ];
    }
  where
    rest_is_none : (xs : List ℕ) → length xs ≤ 0 → xs ≡ []
    rest_is_none [] none = refl
    rest_is_none (x ∷ xs) none = absurd (omega (arith, none))

-- what is UTF-8 of the bytes that are looked at
part_of_text : (text : List ℕ) (looked n : ℕ) → IsLongestPrefix IsUtf8 (take looked text) n → take n text ≡ text_prefix (take looked text)
part_of_text text looked n h = sym (take-take n looked text (omega (arith, h.within, length-take looked text))) ∙ longest_is_prefix (take looked text) n h

-- it is a part of the text
pub part_of_look : (text part : List ℕ) (most looked : ℕ) → IsLookedAt most text looked → part ≡ text_prefix (take looked text) → IsPartOf (text_prefix text) part most
part_of_look text part most looked h is =
    subst (λ p. IsPartOf (text_prefix text) p most) (sym is) (is_part text most looked (elim h.enough [ inl all ↦ inl (omega (arith, all)) | inr more ↦ inr more ]))

pub part_within : (text part : List ℕ) (most : ℕ) → IsPartOf (text_prefix text) part most → length part ≤ length text
part_within text part most h = omega (arith, ap length h.is, length-append part h.more, length-take (utf8_valid_len text) text)

-- a part with nothing in it, of a text that has some bytes, is that of a text that begins with a malformed sequence
begins_malformed : (text part : List ℕ) (most : ℕ) → IsPartOf (text_prefix text) part most → length part ≡ 0 → 0 < length text → BeginsMalformed text
begins_malformed text part most h none some = (
  λ is. absurd (omega (arith, some, ap length is)),
  elim h.long [
    | inl less ↦ no_bytes (text_prefix text) (omega (arith, ap length h.is, length-append part h.more, ap length less, none))
    | inr long ↦ absurd (omega (arith, long, none))
  ],
)
  where
    no_bytes : (xs : List ℕ) → length xs ≤ 0 → xs ≡ []
    no_bytes [] few = refl
    no_bytes (x ∷ xs) few = absurd (omega (arith, few))

-- the part of such a text is empty, and shorter than the text
nothing_to_take : (text part : List ℕ) (least : ℕ) → IsPartOf (text_prefix text) part least → BeginsMalformed text → (length part ≡ 0) × (0 < length text)
nothing_to_take text part least h begins = (omega (arith, ap length begins.1, ap length h.is, length-append part h.more), some text begins.0)
  where
    some : (xs : List ℕ) → xs ≢ [] → 0 < length xs
    some [] is = absurd (is refl)
    some (x ∷ xs) is = omega arith

-- what the test of the bytes that are looked at finds
pub malformed_at_start : (text : List ℕ) (most looked n : ℕ) → IsLookedAt most text looked → IsLongestPrefix IsUtf8 (take looked text) n → n ≡ 0 → 0 < length text → BeginsMalformed text
malformed_at_start text most looked n h longest none some =
    begins_malformed text (take n text) most (part_of_look text (take n text) most looked h (part_of_text text looked n longest)) (omega (arith, length-take n text, none)) some

pub first_is : (text part : List ℕ) (most looked n : ℕ) (is_whole : Bool) → IsLookedAt most text looked → IsLongestPrefix IsUtf8 (take looked text) n → part ≡ take n text
    → (n ≡ 0 → length text ≡ 0) → is_whole ≡ (n == length text) → IsFirstPart most text part is_whole
first_is text part most looked n is_whole h longest is none whole =
    let size : length part ≡ n = omega (arith, ap length is, length-take n text, longest.within, length-take looked text) in
    let found : part ≡ text_prefix (take looked text) = is ∙ part_of_text text looked n longest in
    record {
      begins = λ b. (let e = nothing_to_take text part most (part_of_look text part most looked h found) b in
          absurd (omega (arith, e.1, none (omega (arith, size, e.0)))));
      looked = looked;
      looks = h;
      is = found;
      whole = whole ∙ ap (λ k. k == length text) (sym size);
    }

-- bytes are text if the part that is looked at is as long as they are
pub whole_is_text : (text part : List ℕ) (least : ℕ) → IsPartOf (text_prefix text) part least → length part ≡ length text → IsUtf8 text
whole_is_text text part least h same =
    let v = valid_longest text in
    let size : length (text_prefix text) ≡ utf8_valid_len text = length-take-le (utf8_valid_len text) text v.within in
    subst IsUtf8 (take_all (utf8_valid_len text) text (omega (arith, size, ap length h.is, length-append part h.more, same))) v.well_formed
