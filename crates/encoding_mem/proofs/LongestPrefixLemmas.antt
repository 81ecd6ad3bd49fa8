-- The longest prefix that fits, and what was written.
use Rattle.std.proofs.Common.{◌≡◌, ℕ, zero, suc, ◌+◌, ◌*◌, ◌-◌, ◌<◌, ◌≤◌, inl, inr, List, [], ◌∷◌, ◌++◌, length, take, drop, get_or, refl, sym, ◌∙◌, ap, subst, arith, length-append, length-drop, encode_utf8_all}
use Rattle.std.specs.Char.{encode_utf8, len_utf8}
use Rattle.std.specs.Char.Escape.{encode_utf16}
use Rattle.std.proofs.lemmas.Bool.{cases_lt}
use Rattle.std.proofs.lemmas.Bool.Decides.{nat_tests}
use Rattle.std.proofs.lemmas.List.{append-nil, take_more, take_at, drop_at, take-append-drop, length-take-le, take_all, drop-drop}
use Rattle.std.proofs.lemmas.Str.{encodes-append, length-encode}
use Rattle.std.proofs.Math.Seq.{take-append-add}
use borrow.Rule.Slice.PartMut.{put_mid, post_of}
use Rattle.encoding_mem.specs.Conversions.{IsLongest}
use Rattle.encoding_mem.specs.calls.Writing.{Adds, len_utf16, encode_utf16_all}
use Rattle.encoding_mem.specs.laws.Writing.{encode_utf16_all-append, length-encode_utf16}

-- What was written from the start on.
pub adds_prefix : (old text new : List ℕ) (k : ℕ) → Adds old 0 text new k → take k new ≡ text
adds_prefix old text new k h = ap (take k) h.list ∙ take_at text (drop k old) k (omega (arith, h.counted))

pub adds_behind : (old text new : List ℕ) (k : ℕ) → Adds old 0 text new k → drop k new ≡ drop k old
adds_behind old text new k h = ap (drop k) h.list ∙ drop_at text (drop k old) k (omega (arith, h.counted))

-- A longer prefix goes on with the next element.
pub take_next : (n i : ℕ) (xs : List ℕ) → n < i → i ≤ length xs → (more : List ℕ) × (take i xs ≡ take n xs ++ (get_or xs n 0 ∷ more))
take_next n zero xs h k = absurd (omega arith)
take_next n (suc i) [] h k = absurd (omega arith)
take_next zero (suc i) (x ∷ xs) h k = (take i xs, refl)
take_next (suc n) (suc i) (x ∷ xs) h k = let r = take_next n i xs (omega arith) (omega arith) in (r.0, ap (λ l. x ∷ l) r.1)

pub take_sum : (n k : ℕ) (xs : List ℕ) → n ≤ length xs → take (n + k) xs ≡ take n xs ++ take k (drop n xs)
take_sum n k xs h =
    ap (λ l. take (n + k) l) (sym (take-append-drop n xs)) ∙ ap (λ m. take (m + k) (take n xs ++ drop n xs)) (sym (length-take-le n xs h))
    ∙ take-append-add (take n xs) (drop n xs) k

pub over : (a b : List ℕ) (c room : ℕ) → room < length (encode_utf8_all a) + len_utf8 c → room < length (encode_utf8_all (a ++ (c ∷ b)))
over a b c room h = omega (arith, ap length (encodes-append a (c ∷ b)), length-append (encode_utf8_all a) (encode_utf8_all (c ∷ b)), length-append (encode_utf8 c) (encode_utf8_all b), length-encode c)

pub over16 : (a b : List ℕ) (c room : ℕ) → room < length (encode_utf16_all a) + len_utf16 c → room < length (encode_utf16_all (a ++ (c ∷ b)))
over16 a b c room h = omega (arith, ap length (encode_utf16_all-append a (c ∷ b)), length-append (encode_utf16_all a) (encode_utf16_all (c ∷ b)), length-append (encode_utf16 c) (encode_utf16_all b), length-encode_utf16 c)

-- if the whole source fits, it is read
pub reads_whole : (Whole : ℕ → Type 0) (size : ℕ → ℕ) (len room n : ℕ) → IsLongest Whole size len room n → Whole len → size len ≤ room → n ≡ len
reads_whole Whole size len room n l w fits = elim (cases_lt n len) [
  | inl less ↦ let h = l.longest len less (omega arith) w in absurd (omega arith)
  | inr all ↦ let h = l.within in omega arith
]

-- Latin1.
pub latin1_over : (src : List ℕ) (n room : ℕ) → room < length (encode_utf8_all (take n src)) + len_utf8 (get_or src n 0) → (i : ℕ) → n < i → i ≤ length src → room < length (encode_utf8_all (take i src))
latin1_over src n room h i more le =
    let r = take_next n i src more le in
    subst (λ l. room < length (encode_utf8_all l)) (sym r.1) (over (take n src) r.0 (get_or src n 0) room h)

two_bytes : (c : ℕ) → c < 256 → len_utf8 c ≤ 2
two_bytes c h = grind (arith, nat_tests)

pub latin1_size : (src : List ℕ) → ((k : ℕ) → get_or src k 0 < 256) → length (encode_utf8_all src) ≤ 2 * length src
latin1_size [] low = omega arith
latin1_size (c ∷ src) low = omega (arith, length-append (encode_utf8 c) (encode_utf8_all src), length-encode c, two_bytes c (low 0), latin1_size src (λ k. low (suc k)))

pub whole_latin1 : (src out : List ℕ) (room n : ℕ) → ((k : ℕ) → get_or src k 0 < 256) → 2 * length src ≤ room
    → IsLongest (λ _. Unit {0}) (λ i. length (encode_utf8_all (take i src))) (length src) room n → out ≡ encode_utf8_all (take n src) → out ≡ encode_utf8_all src
whole_latin1 src out room n low wide l is =
    let all : take (length src) src ≡ src = take_all (length src) src (omega arith) in
    let fits : length (encode_utf8_all (take (length src) src)) ≤ room = omega (arith, ap (λ x. length (encode_utf8_all x)) all, latin1_size src low) in
    let n_is = reads_whole (λ _. Unit {0}) (λ i. length (encode_utf8_all (take i src))) (length src) room n l tt fits in
    is ∙ ap (λ m. encode_utf8_all (take m src)) n_is ∙ ap encode_utf8_all all

pub length_put : (a k : ℕ) (xs ys : List ℕ) → a ≤ length xs → k ≡ length xs - a → length ys ≡ k → length (put_mid a k xs ys) ≡ length xs
length_put a k xs ys within size len =
    omega (arith, length-append (take a xs) (ys ++ post_of a k xs), length-append ys (post_of a k xs), length-take-le a xs within, length-drop k (drop a xs), length-drop a xs)

-- what is after stays, further on
pub behind_more : (w n : ℕ) (put mid old : List ℕ) → drop (w + n) put ≡ drop (w + n) mid → drop w mid ≡ drop w old → drop (w + n) put ≡ drop (w + n) old
behind_more w n put mid old h k = h ∙ sym (drop-drop n w mid) ∙ ap (drop n) k ∙ drop-drop n w old

-- a run that is the whole
pub whole_run : (run bytes : List ℕ) → run ≡ take (length run) bytes → length run ≡ length bytes → run ≡ bytes
whole_run run bytes is len = is ∙ ap (λ n. take n bytes) len ∙ take_all (length bytes) bytes (omega arith)

-- the UTF-8 of one byte more
pub encode_next : (bytes : List ℕ) (i : ℕ) → i < length bytes → encode_utf8_all (take i bytes) ++ encode_utf8 (get_or bytes i 0) ≡ encode_utf8_all (take (i + 1) bytes)
encode_next bytes i h =
    sym (ap encode_utf8_all (take_more bytes i 0 h) ∙ encodes-append (take i bytes) (get_or bytes i 0 ∷ []) ∙ ap (λ l. encode_utf8_all (take i bytes) ++ l) (append-nil (encode_utf8 (get_or bytes i 0))))
