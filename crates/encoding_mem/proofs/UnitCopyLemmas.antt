-- Copies of ASCII units as bytes, a block at a time.
use Rattle.std.proofs.Common.{◌≡◌, ℕ, suc, ◌+◌, ◌-◌, ◌<◌, ◌≤◌, inl, inr, List, [], ◌∷◌, ◌++◌, length, take, drop, set, get_or, refl, sym, ◌∙◌, ap, subst, arith, length-append, length-drop, bit_and, map, replicate}
use Rattle.std.proofs.lemmas.Bool.{cases_lt}
use Rattle.std.proofs.lemmas.List.{get_or-take, get_or-drop, length-take-le, take_at, drop_at, take_rest, take-map, take-take, take-append-le, length-map, drop-drop, length-set, take_more, take_more_set}
use Rattle.std.proofs.lemmas.Nat.{and_mask}
use Rattle.std.proofs.lemmas.Slice.{take-put_mid, drop-put_mid}
use Rattle.std.proofs.lemmas.Simd.{put_chunk_is, Each1-from_get_or, Each1-all, Each1-zip2, Each2-splat, zip2_splat}
use Rattle.std.proofs.Math.Facts.{Fits-mask}
use borrow.Rule.Slice.PartMut.{put_mid, post_of}
use lib.Lanes.{put_chunk, zip2, Each1}
use mir.Syntax.{w8}
use mir.Val.{Fits}
use Rattle.std.specs.Str.{IsAscii}
use Rattle.encoding_mem.specs.LongestPrefix.{IsLongestPrefix}
use Rattle.encoding_mem.proofs.PrefixLemmas.{each_of_list, whole_prefix}
use Rattle.encoding_mem.proofs.DestinationLemmas.{take_into, drop_into, drop_past_set}
use Rattle.encoding_mem.proofs.LongestPrefixLemmas.{length_put, behind_more, take_sum}

-- ASCII units fit bytes
pub lanes_fit : (units : List ℕ) (n : ℕ) → n ≤ length units → ((k : ℕ) → k < n → get_or units k 0 < 0x80) → Each1 (Fits w8) (take n units)
lanes_fit units n within low = Each1-from_get_or (Fits w8) (take n units) 0 (λ k inside. record {
  fits = let here : k < n = omega (arith, length-take-le n units within) in omega (arith, get_or-take n units k 0 here, low k here);
})

-- a vector of units, stored as bytes at the start of a destination
pub narrowed : (units dst : List ℕ) (n : ℕ) (lanes : List ℕ) → n ≤ length units → n ≤ length dst → lanes ≡ take n units
    → (take n (put_chunk 0 dst lanes) ≡ take n units) × (drop n (put_chunk 0 dst lanes) ≡ drop n dst)
narrowed units dst n lanes within fits are =
    let size : length lanes ≡ n = ap length are ∙ length-take-le n units within in
    let put : put_chunk 0 dst lanes ≡ lanes ++ drop n dst = put_chunk_is 0 dst lanes (omega arith) ∙ ap (λ m. lanes ++ drop m dst) size in
    (ap (take n) put ∙ take_at lanes (drop n dst) n size ∙ are, ap (drop n) put ∙ drop_at lanes (drop n dst) n size)

-- the low seven bits of each unit: those of ASCII are the unit
abbrev low_bits : List ℕ → List ℕ
low_bits units = map (λ u. bit_and u 127) units

low_bits_same : (units : List ℕ) → ((k : ℕ) → k < length units → get_or units k 0 < 0x80) → low_bits units ≡ units
low_bits_same [] low = refl
low_bits_same (u ∷ units) low =
    let here : bit_and u 127 ≡ u = omega (arith, and_mask u 7, low 0 (omega arith)) in
    ap (λ v. v ∷ low_bits units) here ∙ ap (λ l. u ∷ l) (low_bits_same units (λ k inside. low (suc k) (omega arith)))

-- they fit bytes
pub low_bits_fit : (units : List ℕ) (n : ℕ) → Each1 (Fits w8) (zip2 bit_and (take n units) (replicate n 127))
low_bits_fit units n =
    Each1-zip2 bit_and (Fits w8) (take n units) (replicate n 127) (Each2-splat (λ u m. Fits w8 (bit_and u m)) (take n units) n 127 (Each1-all (λ u. Fits w8 (bit_and u 127)) (λ u. Fits-mask u 7 tt) (take n units)))

-- a vector of units, of which the low seven bits are stored at the start of a destination: a run of ASCII is copied
pub narrowed_run : (units dst : List ℕ) (n run : ℕ) (lanes : List ℕ) → n ≤ length units → n ≤ length dst → run ≤ n → ((k : ℕ) → k < run → get_or units k 0 < 0x80)
    → lanes ≡ zip2 bit_and (take n units) (replicate n 127)
    → (take run (put_chunk 0 dst lanes) ≡ take run units) × (drop n (put_chunk 0 dst lanes) ≡ drop n dst)
narrowed_run units dst n run lanes within fits inside low are =
    let bits : lanes ≡ low_bits (take n units) = are ∙ zip2_splat bit_and (take n units) n 127 (length-take-le n units within) in
    let size : length lanes ≡ n = ap length bits ∙ length-map (take n units) (λ u. bit_and u 127) ∙ length-take-le n units within in
    let put : put_chunk 0 dst lanes ≡ lanes ++ drop n dst = put_chunk_is 0 dst lanes (omega arith) ∙ ap (λ m. lanes ++ drop m dst) size in
    let prefix : take run lanes ≡ low_bits (take run units) =
    ap (take run) bits ∙ take-map (λ u. bit_and u 127) run (take n units) ∙ ap low_bits (take-take run n units inside) in
    let same = low_bits_same (take run units) (λ k here. omega (arith, here, length-take-le run units (omega arith), get_or-take run units k 0 (omega (arith, here, length-take-le run units (omega arith))), low k (omega (arith, here, length-take-le run units (omega arith))))) in
    (ap (take run) put ∙ take-append-le run lanes (drop n dst) (omega arith) ∙ prefix ∙ same, ap (drop n) put ∙ drop_at lanes (drop n dst) n size)

-- a vector of bytes, stored at the start of a destination
pub stored : (bytes dst : List ℕ) (n : ℕ) → n ≤ length bytes → n ≤ length dst
    → (take n (put_chunk 0 dst (take n bytes)) ≡ take n bytes) × (drop n (put_chunk 0 dst (take n bytes)) ≡ drop n dst)
stored bytes dst n within fits = narrowed bytes dst n (take n bytes) within fits refl

-- so many units are copied, and the destination is otherwise as it was
pub record IsCopiedTo (src old : List ℕ) (at : ℕ) (dst : List ℕ) : Type 0 where
  pub within : at ≤ length src
  pub size : length dst ≡ length old
  pub low : (k : ℕ) → k < at → get_or src k 0 < 0x80
  pub copied : take at dst ≡ take at src
  pub behind : drop at dst ≡ drop at old

-- a block more
pub copied_more : (src old : List ℕ) (at : ℕ) (dst ys : List ℕ) (n : ℕ) → IsCopiedTo src old at dst → length src ≤ length old → at + n ≤ length src
    → length ys ≡ length (take (length dst - at) (drop at dst))
    → ((k : ℕ) → k < n → get_or (take (length src - at) (drop at src)) k 0 < 0x80)
    → take n ys ≡ take n (take (length src - at) (drop at src)) → drop n ys ≡ drop n (take (length dst - at) (drop at dst))
    → IsCopiedTo src old (at + n) (put_mid at (length dst - at) dst ys)
copied_more src old at dst ys n done room fits size low same behind =
    let here : at ≤ length dst = omega (arith, done.size, done.within) in
    let len : length ys ≡ length dst - at = size ∙ ap length (take_rest dst at) ∙ length-drop at dst in
    let enough : n ≤ length ys = omega (arith, len, done.size) in
    record {
      within = fits;
      size = length_put at (length dst - at) dst ys here refl len ∙ done.size;
      low = λ k inside. elim (cases_lt k at) [
        | inl before ↦ done.low k before
        | inr from ↦
            let e : get_or (take (length src - at) (drop at src)) (k - at) 0 ≡ get_or src k 0 =
            ap (λ l. get_or l (k - at) 0) (take_rest src at) ∙ get_or-drop at src (k - at) 0 ∙ ap (λ j. get_or src j 0) (omega arith) in
            omega (arith, e, low (k - at) (omega arith))
      ];
      copied = take_into at (length dst - at) n dst ys here enough ∙ ap (λ l. l ++ take n ys) done.copied ∙ ap (λ l. take at src ++ l) (same ∙ ap (take n) (take_rest src at)) ∙ sym (take_sum at n src done.within);
      behind = behind_more at n _ dst old (drop_into at _ n dst ys here refl enough behind) done.behind;
    }

-- what is after an offset is after any later one
pub further : (xs ys : List ℕ) (a b : ℕ) → a ≤ b → drop a xs ≡ drop a ys → drop b xs ≡ drop b ys
further xs ys a b before same =
    let e : a + (b - a) ≡ b = omega arith in
    ap (λ k. drop k xs) (sym e) ∙ sym (drop-drop (b - a) a xs) ∙ ap (drop (b - a)) same ∙ drop-drop (b - a) a ys ∙ ap (λ k. drop k ys) e

-- a vector more, which may begin within what was copied
pub vector_copied : (src old : List ℕ) (at : ℕ) (dst ys : List ℕ) (from n k m : ℕ) → IsCopiedTo src old at dst → length src ≤ length old → from ≤ at → at ≤ from + n → from + n ≤ length src → k ≡ n → m ≡ n
    → ((j : ℕ) → j < n → get_or (take (length src - from) (drop from src)) j 0 < 0x80) → ys ≡ take m (drop from src) → IsCopiedTo src old (from + n) (put_mid from k dst ys)
vector_copied src old at dst ys from n k m done room begun over fits size counted low same =
    let here : from ≤ length dst = omega (arith, done.size, done.within) in
    let part : ys ≡ take n (drop from src) = same ∙ ap (λ j. take j (drop from src)) counted in
    let len : length ys ≡ n = ap length part ∙ length-take-le n (drop from src) (omega (arith, length-drop from src)) in
    let start : take from dst ≡ take from src = sym (take-take from at dst begun) ∙ ap (take from) done.copied ∙ take-take from at src begun in
    record {
      within = fits;
      size = omega (arith, done.size, len, length-append (take from dst) (ys ++ post_of from k dst), length-append ys (post_of from k dst), length-take-le from dst here, length-drop k (drop from dst), length-drop from dst);
      low = λ j inside. elim (cases_lt j from) [
        | inl before ↦ done.low j (omega arith)
        | inr after ↦
            let e : get_or (take (length src - from) (drop from src)) (j - from) 0 ≡ get_or src j 0 =
            ap (λ l. get_or l (j - from) 0) (take_rest src from) ∙ get_or-drop from src (j - from) 0 ∙ ap (λ i. get_or src i 0) (omega arith) in
            omega (arith, e, low (j - from) (omega arith))
      ];
      copied = take-put_mid from k dst ys (from + n) (omega arith) here ∙ ap (λ l. l ++ ys) start ∙ ap (λ l. take from src ++ l) part ∙ sym (take_sum from n src (omega arith));
      behind = drop-put_mid from k dst ys (from + n) (omega arith) here (omega arith) ∙ further dst old at (from + n) over done.behind;
    }

-- the last vector, with which all is copied
pub last_copied : (src old : List ℕ) (at : ℕ) (dst ys : List ℕ) (n k m : ℕ) → IsCopiedTo src old at dst → length src ≤ length old → n ≤ length src → length src ≤ at + n → k ≡ n → m ≡ n
    → ((j : ℕ) → j < n → get_or (take (length src - (length src - n)) (drop (length src - n) src)) j 0 < 0x80) → ys ≡ take m (drop (length src - n) src)
    → let put = put_mid (length src - n) k dst ys in
    IsLongestPrefix IsAscii src (length src) × ((take (length src) put ≡ take (length src) src) × (drop (length src) put ≡ drop (length src) old))
last_copied src old at dst ys n k m done room some near size counted low same =
    let within = done.within in
    let all : length src - n + n ≡ length src = omega (arith, some) in
    let whole = vector_copied src old at dst ys (length src - n) n k m done room (omega (arith, near)) (omega (arith, within)) (omega (arith, some)) size counted low same in
    let each = each_of_list (λ b. b < 0x80) src (length src - n + n) (omega arith) (omega arith) whole.low in (
      whole_prefix IsAscii src each,
      (
        subst (λ j. take j (put_mid (length src - n) k dst ys) ≡ take j src) all whole.copied,
        subst (λ j. drop j (put_mid (length src - n) k dst ys) ≡ drop j old) all whole.behind,
      ),
    )

-- so many bytes are copied, and as many others as the source has may have changed
pub record IsCopiedOver (src old : List ℕ) (at : ℕ) (dst : List ℕ) : Type 0 where
  pub within : at ≤ length src
  pub size : length dst ≡ length old
  pub low : (k : ℕ) → k < at → get_or src k 0 < 0x80
  pub copied : take at dst ≡ take at src
  pub behind : drop (length src) dst ≡ drop (length src) old

-- the ASCII at the start of a stored vector more
pub copied_over : (src old : List ℕ) (at : ℕ) (dst ys : List ℕ) (n run : ℕ) → IsCopiedOver src old at dst → length src ≤ length old → at + n ≤ length src → run ≤ n
    → length ys ≡ length (take (length dst - at) (drop at dst))
    → ((k : ℕ) → k < run → get_or (take (length src - at) (drop at src)) k 0 < 0x80)
    → take n ys ≡ take n (take (length src - at) (drop at src)) → drop n ys ≡ drop n (take (length dst - at) (drop at dst))
    → IsCopiedOver src old (at + run) (put_mid at (length dst - at) dst ys)
copied_over src old at dst ys n run done room fits inside size low same behind =
    let here : at ≤ length dst = omega (arith, done.size, done.within) in
    let len : length ys ≡ length dst - at = size ∙ ap length (take_rest dst at) ∙ length-drop at dst in
    let enough : n ≤ length ys = omega (arith, len, done.size) in
    let begin : take run ys ≡ take run (drop at src) =
    sym (take-take run n ys inside) ∙ ap (take run) (same ∙ ap (take n) (take_rest src at)) ∙ take-take run n (drop at src) inside in
    record {
      within = omega arith;
      size = length_put at (length dst - at) dst ys here refl len ∙ done.size;
      low = λ k before. elim (cases_lt k at) [
        | inl earlier ↦ done.low k earlier
        | inr from ↦
            let e : get_or (take (length src - at) (drop at src)) (k - at) 0 ≡ get_or src k 0 =
            ap (λ l. get_or l (k - at) 0) (take_rest src at) ∙ get_or-drop at src (k - at) 0 ∙ ap (λ j. get_or src j 0) (omega arith) in
            omega (arith, e, low (k - at) (omega arith))
      ];
      copied = take_into at (length dst - at) run dst ys here (omega arith) ∙ ap (λ l. l ++ take run ys) done.copied ∙ ap (λ l. take at src ++ l) begin ∙ sym (take_sum at run src done.within);
      behind = further (put_mid at (length dst - at) dst ys) dst (at + n) (length src) fits (drop_into at _ n dst ys here refl enough behind) ∙ done.behind;
    }

-- a byte more
pub copied_one : (src old : List ℕ) (at : ℕ) (dst : List ℕ) → IsCopiedOver src old at dst → length src ≤ length old → at < length src → get_or src at 0 < 0x80
    → IsCopiedOver src old (at + 1) (set dst at (get_or src at 0))
copied_one src old at dst done room inside low =
    let b = get_or src at 0 in
    record {
      within = omega arith;
      size = length-set dst at b ∙ done.size;
      low = λ k before. elim (cases_lt k at) [
        | inl earlier ↦ done.low k earlier
        | inr from ↦ let same : k ≡ at = omega arith in rw same low
      ];
      copied = take_more_set dst at b (omega (arith, done.size)) ∙ ap (λ l. l ++ (b ∷ [])) done.copied ∙ sym (take_more src at 0 inside);
      behind = further (set dst at b) dst (at + 1) (length src) (omega arith) (drop_past_set dst at b) ∙ done.behind;
    }
