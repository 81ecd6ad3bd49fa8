-- Two writes of neighbouring parts are one write of both. How long a line can be, and what stays after a part that
-- is written. What is read of a row that has been written: its two numbers, on either side of the first space.
use Rattle.std.proofs.Common.{◌≡◌, ◌≤◌, arith, length-drop, length-take, ℕ, ◌+◌, ◌-◌, List, ◌++◌, length, take, drop, Option, ap, sym, ◌∙◌, subst, ◌<◌, ◌^◌, length-append, false, [], ◌∷◌, get_or, codes, Some, add-one, drop-cons, append_assoc, append-nil, None, position, ◌==◌}
use Rattle.std.proofs.Math.Seq.{take-add, get_or-append_seam, take-append_seam, drop-append-add}
use Rattle.std.proofs.lemmas.List.{take_rest, drop-drop, append_cancel_left, append_cancel_right, take-append-drop}
use Rattle.std.proofs.KnownBytes.{Appends-trans}
use Rattle.std.specs.Io.KnownBytes.{Appends, Keeps}
use Rattle.std.proofs.lemmas.Fmt.{length-decimal-le, digits_decimal}
use Rattle.std.specs.Fmt.{decimal}
use Rattle.recode_log.specs.Line.{row_bytes, two_numbers}
use Rattle.std.proofs.Math.ListN.{get_or-append}
use Rattle.std.proofs.lemmas.Bool.{eqb-true, lt-ltb, ne_eqb}
use Rattle.std.proofs.lemmas.List.Quantifiers.{position-Some}
use Rattle.std.proofs.lemmas.Option.{same_Some}
use Rattle.std.proofs.lemmas.List.Sums.{position_or_len_is}
use Rattle.std.proofs.lemmas.Str.Parse.{IsNumeralModel, numerals_by_value, tells_digits, not_in_digits}
use Rattle.std.specs.List.{position_or_len}
use Rattle.std.specs.Str.Parse.{AllDigits, digits_value}

pub appends_more : (a b c : Option (List ℕ)) (i n : ℕ) (xs : List ℕ) → Appends a b (take i xs)
    → Appends b c (take n (take (length xs - i) (drop i xs))) → Appends a c (take (i + n) xs)
appends_more a b c i n xs p q =
    let same : take i xs ++ take n (take (length xs - i) (drop i xs)) ≡ take (i + n) xs =
    ap (λ l. take i xs ++ take n l) (take_rest xs i) ∙ sym (take-add i n xs) in
    subst (Appends a c) same (Appends-trans a b c _ _ p q)

-- and so it is with what was passed
pub passed_more : (a b c : List ℕ) (i n : ℕ) (xs : List ℕ) → b ≡ a ++ take i xs
    → c ≡ b ++ take n (take (length xs - i) (drop i xs)) → c ≡ a ++ take (i + n) xs
passed_more a b c i n xs p q = appends_more (Some a) (Some b) (Some c) i n xs p q

-- what was written stays after a write that takes none, and after one that fails
pub appends_none : (a b c : Option (List ℕ)) (n : ℕ) (buf xs : List ℕ) → n ≤ 0 → Appends a b xs → Appends b c (take n buf) → Appends a c xs
appends_none a b c n buf xs none p q =
    let zero : n ≡ 0 = omega (arith, none) in
    subst (Appends a c) (ap (λ k. xs ++ take k buf) zero ∙ append-nil xs) (Appends-trans a b c xs (take n buf) p q)

pub appends_kept : (a b c : Option (List ℕ)) (xs : List ℕ) → Appends a b xs → Keeps b c → Appends a c xs
appends_kept None b c xs p q = tt
appends_kept (Some x) None c xs p q = absurd p
appends_kept (Some x) (Some y) None xs p q = absurd q
appends_kept (Some x) (Some y) (Some z) xs p q = q ∙ p

pub passed_none : (a b c : List ℕ) (n : ℕ) (buf xs : List ℕ) → n ≤ 0 → b ≡ a ++ xs → c ≡ b ++ take n buf → c ≡ a ++ xs
passed_none a b c n buf xs none p q = appends_none (Some a) (Some b) (Some c) n buf xs none p q

-- a write of what is left has room for some
pub some_left : (i : ℕ) (xs : List ℕ) → i < length xs → 0 < length (take (length xs - i) (drop i xs))
some_left i xs within = omega (arith, ap length (take_rest xs i), length-drop i xs)

-- and room for all that is left
pub room_left : (i : ℕ) (xs : List ℕ) → i ≤ length xs → length (take (length xs - i) (drop i xs)) ≡ length xs - length (take i xs)
room_left i xs within = omega (arith, ap length (take_rest xs i), length-drop i xs, length-take i xs)

pub taken_within : (i n : ℕ) (xs : List ℕ) → i ≤ length xs → n ≤ length (take (length xs - i) (drop i xs)) → i + n ≤ length xs
taken_within i n xs h p =
    let q : n ≤ length xs - i = subst (λ (k : ℕ). n ≤ k) (ap length (take_rest xs i) ∙ length-drop i xs) p in
    omega arith

-- How long a line can be, and what stays after a part that is written.

-- what agrees from m on agrees from n on
pub drop-later : (m n : ℕ) (xs ys : List ℕ) → m ≤ n → drop m xs ≡ drop m ys → drop n xs ≡ drop n ys
drop-later m n xs ys le same =
    let at : m + (n - m) ≡ n = omega arith in
    let later : (zs : List ℕ) → drop n zs ≡ drop (n - m) (drop m zs) =
    λ (zs : List ℕ). ap (λ k. drop k zs) (sym at) ∙ sym (drop-drop (n - m) m zs) in
    later xs ∙ ap (drop (n - m)) same ∙ sym (later ys)

-- a row is as long as its word and its two numbers, a space and a line feed
pub length-row_bytes : (word : List ℕ) (offset value : ℕ)
    → length (row_bytes word offset value) ≡ length word + length (decimal offset) + length (decimal value) + 2
length-row_bytes word offset value =
    omega (arith, length-append {A = ℕ})

-- after a word of five bytes, fifteen digits and ten fit
pub length-row_bytes-le : (word : List ℕ) (offset value : ℕ) → length word ≤ 5 → offset ≤ 2 ^ 48 → value < 2 ^ 32
    → length (row_bytes word offset value) ≤ 32
length-row_bytes-le word offset value short low small =
    let first : length (decimal offset) ≤ 15 = length-decimal-le 15 offset (omega arith) (omega arith) (omega arith) in
    let second : length (decimal value) ≤ 10 = length-decimal-le 10 value (omega arith) (omega arith) (omega arith) in
    omega (arith, length-row_bytes word offset value)

-- after a word of 32 bytes, twenty digits and ten fit in 64
pub length-message-le : (word : List ℕ) (first second : ℕ) → length word ≤ 32 → first < 2 ^ 64 → second < 2 ^ 32 → length (row_bytes word first second) ≤ 64
length-message-le word first second short low small =
    let one : length (decimal first) ≤ 20 = length-decimal-le 20 first (omega arith) (omega arith) (omega arith) in
    let two : length (decimal second) ≤ 10 = length-decimal-le 10 second (omega arith) (omega arith) (omega arith) in
    omega (arith, length-row_bytes word first second)

-- What is read of a row that has been written: its two numbers, on either side of the first space.

-- the digits that `decimal` writes, and their value
model : IsNumeralModel (AllDigits 10) (digits_value 10)
model = numerals_by_value _ tells_digits

-- a row, part by part
pub row_bytes-parts : (word : List ℕ) (offset value : ℕ) → row_bytes word offset value ≡ word ++ (two_numbers offset value ++ codes "\n")
row_bytes-parts word offset value = simp append_assoc

-- the numbers are what is left of a row without its word and its end
pub pair-from_row : (word rest row : List ℕ) (offset value : ℕ) → row_bytes word offset value ≡ word ++ rest → rest ≡ row ++ codes "\n" → two_numbers offset value ≡ row
pair-from_row word rest row offset value whole ended =
    append_cancel_right _ _ (codes "\n")
    (append_cancel_left word _ _ (sym (row_bytes-parts word offset value) ∙ whole) ∙ ended)

-- and with them it is that row
pub row-from_pair : (word bytes rest row : List ℕ) (offset value : ℕ) → bytes ≡ word ++ rest → rest ≡ row ++ codes "\n" → two_numbers offset value ≡ row → row_bytes word offset value ≡ bytes
row-from_pair word bytes rest row offset value whole ended same =
    row_bytes-parts word offset value ∙ ap (λ xs. word ++ (xs ++ codes "\n")) same ∙ ap (λ xs. word ++ xs) (sym ended) ∙ sym whole

-- no digit is a space
not_space : (n k : ℕ) → n < 2 ^ 64 → k < length (decimal n) → (get_or (decimal n) k 0 == 32) ≡ false
not_space n k small within =
    ne_eqb _ _ (not_in_digits model (decimal n) 32 (digits_decimal model n small) (λ r. absurd (omega arith)) k within)

-- so the first space stands after the offset
pub position-pair : (bytes : List ℕ) (offset value : ℕ) → offset < 2 ^ 64 → two_numbers offset value ≡ bytes → position (λ b. b == 32) bytes ≡ Some (length (decimal offset))
position-pair bytes offset value small same =
    let parts : bytes ≡ decimal offset ++ (32 ∷ decimal value) = sym same ∙ append_assoc (decimal offset) (32 ∷ []) (decimal value) in
    let within : length (decimal offset) < length (decimal offset ++ (32 ∷ decimal value)) = omega (arith, length-append (decimal offset) (32 ∷ decimal value)) in
    let first : position_or_len (λ b. b == 32) (decimal offset ++ (32 ∷ decimal value)) ≡ length (decimal offset) =
    position_or_len_is (λ b. b == 32) (decimal offset ++ (32 ∷ decimal value)) (length (decimal offset)) 0
    (omega arith)
    (λ k before. ap (λ b. b == 32) (get_or-append (decimal offset) (32 ∷ decimal value) 0 k before) ∙ not_space offset k small before)
    (λ _. ap (λ b. b == 32) (get_or-append_seam (decimal offset) 32 (decimal value) 0)) in
    rw (parts, first, lt-ltb _ _ within)

-- the numbers of a pair are its parts before and after the first space
pub parts_of_pair : (bytes : List ℕ) (space offset value : ℕ) → offset < 2 ^ 64 → two_numbers offset value ≡ bytes → Some space ≡ position (λ b. b == 32) bytes
    → (decimal offset ≡ take space bytes) × (decimal value ≡ take (length bytes - (space + 1)) (drop (space + 1) bytes))
parts_of_pair bytes space offset value small same found =
    let parts : decimal offset ++ (32 ∷ decimal value) ≡ bytes = sym (append_assoc (decimal offset) (32 ∷ []) (decimal value)) ∙ same in
    let first : length (decimal offset) ≡ space = sym (same_Some _ _ (found ∙ position-pair bytes offset value small same)) in (
      sym (take-append_seam (decimal offset) (32 ∷ decimal value)) ∙ ap (take (length (decimal offset))) parts ∙ ap (λ n. take n bytes) first,
      sym (drop-append-add (decimal offset) (32 ∷ decimal value) 1) ∙ ap (drop (length (decimal offset) + 1)) parts ∙ ap (λ n. drop (n + 1) bytes) first
          ∙ sym (take_rest bytes (space + 1)),
    )

-- and with them it is that pair
pub pair_of_parts : (bytes : List ℕ) (space offset value : ℕ) → Some space ≡ position (λ b. b == 32) bytes
    → decimal offset ≡ take space bytes → decimal value ≡ take (length bytes - (space + 1)) (drop (space + 1) bytes) → two_numbers offset value ≡ bytes
pair_of_parts bytes space offset value found prefix behind =
    let at = position-Some (λ b. b == 32) bytes space 0 (sym found) in
    let within : space < length bytes = at.0 in
    let cut : take space bytes ++ drop space bytes ≡ take space bytes ++ (get_or bytes space 0 ∷ drop (space + 1) bytes) = rw (add-one, drop-cons bytes space 0) in
    append_assoc (decimal offset) (32 ∷ []) (decimal value)
    ∙ ap (λ xs. xs ++ (32 ∷ decimal value)) prefix
    ∙ ap (λ xs. take space bytes ++ (32 ∷ xs)) (behind ∙ take_rest bytes (space + 1))
    ∙ ap (λ b. take space bytes ++ (b ∷ drop (space + 1) bytes)) (sym (eqb-true _ _ at.1))
    ∙ sym cut ∙ take-append-drop space bytes
