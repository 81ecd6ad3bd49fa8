-- The first line of a text. A line that is skipped
-- is no row. What is read at a start. A row that is written is read.
use Rattle.std.proofs.Common.{◌≡◌, ℕ, suc, ◌+◌, ◌<◌, ◌≤◌, Bool, true, false, cond, List, [], ◌∷◌, length, take, get_or, refl, arith, eqb, drop, ap, sym, subst, ◌∙◌, None, inl, inr, codes, ◌⊎◌, ltb, ◌++◌, replicate, Option, Some}
use Rattle.std.specs.Str.Parse.{digits_value}
use Rattle.std.specs.List.{prefix_len, slice_split, position_or_len, before_first, after_first, list_all, starts_with, AllPass}
use Rattle.std.proofs.lemmas.Bool.Decides.{nat_tests}
use Rattle.std.proofs.lemmas.List.Sums.{fails_before_first, AllPass-from_list_all, prefix_len-drop_no, prefix_len-drop_all, prefix_len_passes}
use Rattle.encoding_index.specs.IndexLine.{is_decimal_digit, is_hex_digit, is_blank, is_space, is_skipped, pointer_in, row_in, is_row_end, behind, number_in}
use Rattle.std.specs.Str.Lines.{lines, lines_of_parts, strip_carriage_return}
use Rattle.std.proofs.lemmas.List.Splits.{slice_split_first, slice_split_none, length-slice_split}
use Rattle.std.specs.Prelude.{nat_eq, ◌||◌, if◌then◌else◌}
use Rattle.std.proofs.lemmas.Bool.{or_cases, cases_lt, false≢true, eqb-true, ltb-false}
use Rattle.std.proofs.lemmas.List.{take-append-drop, get_or-take, get_or-replicate, length-replicate}
use Rattle.std.proofs.lemmas.List.Folds.{length-prefix_len}
use Rattle.std.proofs.Math.Seq.{take-append_seam, drop-append_seam}
use lib.Pointwise.{bytes_decides}
use Rattle.encoding_index.specs.RowGrammar.{IsIndexRow}

abbrev pub is_newline : ℕ → Bool
is_newline b = eqb b 10

-- a part before others is a line that ends at LF
lines_of_parts_more : (part : List ℕ) (parts : List (List ℕ)) → 0 < length parts → lines_of_parts (part ∷ parts) ≡ strip_carriage_return part ∷ lines_of_parts parts
lines_of_parts_more part [] h = absurd (omega arith)
lines_of_parts_more part (next ∷ more) h = refl

lines_of_parts_last : (part : List ℕ) → 0 < length part → lines_of_parts (part ∷ []) ≡ part ∷ []
lines_of_parts_last part some = grind (arith, nat_tests)

lines_first : (text : List ℕ) → position_or_len is_newline text < length text → lines text ≡ strip_carriage_return (before_first is_newline text) ∷ lines (after_first is_newline text)
lines_first text h =
    let cut = slice_split_first is_newline text 0 h in
    ap lines_of_parts cut ∙ lines_of_parts_more (before_first is_newline text) (slice_split is_newline (after_first is_newline text)) (omega (arith, length-slice_split is_newline (after_first is_newline text)))

-- `end` bytes stand before the first LF
pub lines_first_at : (text : List ℕ) (end : ℕ) → end ≡ position_or_len is_newline text → end < length text → lines text ≡ strip_carriage_return (take end text) ∷ lines (drop (end + 1) text)
lines_first_at text end same within =
    let first = lines_first text (rw (← same) within) in
    subst (λ n. lines text ≡ strip_carriage_return (take n text) ∷ lines (drop (n + 1) text)) (sym same) first

pub lines_last : (text : List ℕ) → 0 < length text → length text ≤ position_or_len is_newline text → lines text ≡ text ∷ []
lines_last text some none =
    let whole = slice_split_none is_newline text (λ k d below. fails_before_first is_newline text k d (omega arith)) in
    ap lines_of_parts whole ∙ lines_of_parts_last text some

-- A line that is skipped is no row.

no_pointer : (bytes : List ℕ) → prefix_len is_decimal_digit bytes ≡ 0 → pointer_in bytes ≡ None
no_pointer bytes none = rw none refl

no_row : (line : List ℕ) → pointer_in (drop (prefix_len is_space line) line) ≡ None → row_in line ≡ None
unfolding row_in
no_row line none = rw none refl

no_digit : (b : ℕ) → is_blank b ≡ true → is_decimal_digit b ≡ false
no_digit b blank = grind (arith, nat_tests)

row_in-blank : (line : List ℕ) → list_all is_blank line ≡ true → row_in line ≡ None
row_in-blank line blank =
    let n = prefix_len is_space line in
    no_row line (no_pointer (drop n line) (elim (cases_lt n (length line)) [
      | inl below ↦ prefix_len-drop_no is_decimal_digit line n 0 below (no_digit (get_or line n 0) (AllPass-from_list_all is_blank line blank n 0 below))
      | inr above ↦ prefix_len-drop_all is_decimal_digit line n above
    ]))

row_in-number_sign : (line : List ℕ) → row_in (35 ∷ line) ≡ None
unfolding row_in
row_in-number_sign line = refl

row_in-comment : (line : List ℕ) → starts_with nat_eq line (codes "#") ≡ true → row_in line ≡ None
row_in-comment [] comment = absurd (false≢true comment)
row_in-comment (b ∷ line) comment =
    let same : b ≡ 35 = grind (arith, nat_tests) in
    rw same (row_in-number_sign line)

pub row_in-skipped : (line : List ℕ) → is_skipped line ≡ true → row_in line ≡ None
unfolding is_skipped
row_in-skipped line skipped = elim (or_cases _ _ skipped) [
  | inl blank ↦ row_in-blank line blank
  | inr comment ↦ row_in-comment line comment
]

-- What is read at a start. A row that is written is read.

-- ---- what is at the start

-- the elements at the start that pass, then one that does not
prefix_len-all : (p : ℕ → Bool) (xs ys : List ℕ) → AllPass p xs → prefix_len p ys ≡ 0 → prefix_len p (xs ++ ys) ≡ length xs
prefix_len-all p [] ys all none = none
prefix_len-all p (x ∷ xs) ys all none =
    let here : p x ≡ true = all 0 0 (omega arith) in
    let rest = prefix_len-all p xs ys (λ k d below. all (suc k) d (omega arith)) none in
    rw here (omega arith)

pub taken_pass : (p : ℕ → Bool) (xs : List ℕ) → AllPass p (take (prefix_len p xs) xs)
taken_pass p xs k d below =
    let within : k < prefix_len p xs = omega (arith, length-prefix_len p xs) in
    rw (get_or-take (prefix_len p xs) xs k d within) (prefix_len_passes p xs k d within)

one_plus : (n : ℕ) → 1 + n ≡ suc n
one_plus n = omega arith

taken_spaces_by : (x : ℕ) (xs : List ℕ) (n : ℕ) (space : Bool) → is_space x ≡ space → take n xs ≡ replicate n 0x20 → take (cond space (1 + n) 0) (x ∷ xs) ≡ replicate (cond space (1 + n) 0) 0x20
taken_spaces_by x xs n true space same =
    let here : x ≡ 0x20 = eqb-true x 0x20 space in
    rw (one_plus n, here, same) refl
taken_spaces_by x xs n false other same = refl

pub taken_spaces : (xs : List ℕ) → take (prefix_len is_space xs) xs ≡ replicate (prefix_len is_space xs) 0x20
taken_spaces [] = refl
taken_spaces (x ∷ xs) = taken_spaces_by x xs (prefix_len is_space xs) (is_space x) refl (taken_spaces xs)

first_piece_by : (prefix bytes rest : List ℕ) (found : Bool) → starts_with nat_eq bytes prefix ≡ found → (if found then Some (drop (length prefix) bytes) else None) ≡ Some rest → bytes ≡ prefix ++ rest
first_piece_by prefix bytes rest true found left =
    let same = (bytes_decides prefix (take (length prefix) bytes)).0 found in
    let dropped : drop (length prefix) bytes ≡ rest = cc in
    sym (take-append-drop (length prefix) bytes) ∙ ap (λ xs. xs ++ drop (length prefix) bytes) (sym same) ∙ ap (λ ys. prefix ++ ys) dropped
first_piece_by prefix bytes rest false found left = absurd cc

pub prefix_of : (prefix bytes rest : List ℕ) → behind prefix bytes ≡ Some rest → bytes ≡ prefix ++ rest
prefix_of prefix bytes rest found = first_piece_by prefix bytes rest (starts_with nat_eq bytes prefix) refl found

-- ---- read, then written

pub record IsNumber (radix least most count : ℕ) (bytes : List ℕ) (number : ℕ) (rest : List ℕ) : Type 0 where
  pub low : least ≤ count
  pub high : count ≤ most
  pub value : digits_value radix (take count bytes) ≡ number
  pub left : drop count bytes ≡ rest

number_by : (radix least most count : ℕ) (bytes : List ℕ) (number : ℕ) (rest : List ℕ) (few many : Bool) → ltb count least ≡ few → ltb most count ≡ many
    → if◌then◌else◌ {A = Option (ℕ × List ℕ)} (few || many) None (Some (digits_value radix (take count bytes), drop count bytes)) ≡ Some (number, rest) → IsNumber radix least most count bytes number rest
number_by radix least most count bytes number rest true many few_is many_is found = absurd cc
number_by radix least most count bytes number rest false true few_is many_is found = absurd cc
number_by radix least most count bytes number rest false false few_is many_is found =
    let same : ◌≡◌ {A = ℕ × List ℕ} (digits_value radix (take count bytes), drop count bytes) (number, rest) = cc in
    record { low = ltb-false count least few_is; high = ltb-false most count many_is; value = ap (λ p. p.0) same; left = ap (λ p. p.1) same }

pub number_of : (radix least most count : ℕ) (bytes : List ℕ) (number : ℕ) (rest : List ℕ) → number_in radix least most count bytes ≡ Some (number, rest) → IsNumber radix least most count bytes number rest
number_of radix least most count bytes number rest found = number_by radix least most count bytes number rest (ltb count least) (ltb most count) refl refl found

pub row_end : (bytes : List ℕ) → is_row_end bytes ≡ true → (bytes ≡ []) ⊎ ((rest : List ℕ) × (bytes ≡ 0x09 ∷ rest))
row_end [] ended = inl refl
row_end (b ∷ bytes) ended = inr (bytes, ap (λ x. x ∷ bytes) (eqb-true b 0x09 ended))

-- ---- written, then read

end_is : (end : List ℕ) → (end ≡ []) ⊎ ((rest : List ℕ) × (end ≡ 0x09 ∷ rest)) → (is_row_end end ≡ true) × (prefix_len is_hex_digit end ≡ 0)
end_is end (inl none) = rw none (refl, refl)
end_is end (inr some) = rw some.1 (refl, refl)

number_read : (radix least most : ℕ) (digits rest : List ℕ) → least ≤ length digits → length digits ≤ most → number_in radix least most (length digits) (digits ++ rest) ≡ Some (digits_value radix digits, rest)
number_read radix least most digits rest low high = rw (take-append_seam digits rest, drop-append_seam digits rest) (grind (arith, nat_tests))

no_space : (digits rest : List ℕ) → AllPass is_decimal_digit digits → 1 ≤ length digits → prefix_len is_space (digits ++ rest) ≡ 0
no_space [] rest all some = absurd (omega arith)
no_space (d ∷ digits) rest all some =
    let digit : is_decimal_digit d ≡ true = all 0 0 (omega arith) in
    let other : is_space d ≡ false = grind (arith, nat_tests) in
    rw other refl

behind_spaces : (spaces : ℕ) (body : List ℕ) → prefix_len is_space body ≡ 0 → drop (prefix_len is_space (replicate spaces 0x20 ++ body)) (replicate spaces 0x20 ++ body) ≡ body
behind_spaces spaces body none =
    let count = prefix_len-all is_space (replicate spaces 0x20) body (λ k d below. rw (get_or-replicate spaces k 0x20 d (omega (arith, length-replicate {A = ℕ} spaces 0x20))) refl) none in
    rw count (drop-append_seam (replicate spaces 0x20) body)

row_from : (spaces : ℕ) (digits hex_digits end : List ℕ) → AllPass is_decimal_digit digits → 1 ≤ length digits → length digits ≤ 7 → AllPass is_hex_digit hex_digits → 4 ≤ length hex_digits → length hex_digits ≤ 6
    → is_row_end end ≡ true → prefix_len is_hex_digit end ≡ 0 → 0 < digits_value 16 hex_digits
    → row_in (replicate spaces 0x20 ++ (digits ++ (codes "\t0x" ++ (hex_digits ++ end)))) ≡ Some (digits_value 10 digits, digits_value 16 hex_digits)
unfolding row_in
row_from spaces digits hex_digits end decimal low high hexadecimal least most ended none positive =
    let numeral = codes "\t0x" ++ (hex_digits ++ end) in
    let first = behind_spaces spaces (digits ++ numeral) (no_space digits numeral decimal low) in
    let digits_count = prefix_len-all is_decimal_digit digits numeral decimal refl in
    let hex_count = prefix_len-all is_hex_digit hex_digits end hexadecimal none in
    let some : eqb (digits_value 16 hex_digits) 0 ≡ false = grind (arith, nat_tests) in
    rw (first, digits_count, number_read 10 1 7 digits numeral low high, hex_count, number_read 16 4 6 hex_digits end least most, ended, some) refl

pub row_in-written : (line : List ℕ) (pointer code : ℕ) → IsIndexRow line pointer code → row_in line ≡ Some (pointer, code)
row_in-written line pointer code row =
    let ended = end_is row.end row.ended in
    let read = row_from row.spaces row.digits row.hex_digits row.end row.decimal row.at_least_one row.at_most_seven row.hexadecimal row.at_least_four row.at_most_six ended.0 ended.1 (omega (arith, row.positive, row.code_is)) in
    rw (row.written, read, row.pointer_is, row.code_is) refl
