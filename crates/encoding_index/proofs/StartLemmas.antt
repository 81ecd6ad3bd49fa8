-- A row at the start of a text, before its line is cut off: what it says of the line, and of the rows of the text.
use Rattle.std.proofs.Common.{◌≡◌, ℕ, suc, ◌+◌, ◌-◌, ◌<◌, ◌≤◌, Bool, true, false, cond, List, [], ◌∷◌, ◌++◌, length, take, drop, get_or, refl, sym, ap, subst, ◌∙◌, arith, eqb, not, codes, replicate, Option, None, Some, inr, length-append}
use Rattle.std.specs.Prelude.{if◌then◌else◌, ◌||◌}
use Rattle.std.specs.Option.{option_and_then}
use Rattle.std.specs.List.{prefix_len, position_or_len, AllPass}
use Rattle.std.specs.Str.Parse.{digits_value}
use Rattle.std.specs.Str.Lines.{lines, strip_carriage_return}
use Rattle.std.proofs.lemmas.Bool.Decides.{nat_tests}
use Rattle.std.proofs.lemmas.List.{append_assoc, length-replicate, take-append-drop, get_or-append-add, get_or-replicate, length-drop}
use Rattle.std.proofs.lemmas.List.Sums.{prefix_len_is, AllPass-from_list_all}
use Rattle.std.proofs.lemmas.List.Folds.{prefix_len-append, length-prefix_len}
use Rattle.std.proofs.lemmas.Option.{option_and_then_some}
use Rattle.std.specs.Prelude.{Ok}
use Rattle.encoding_index.specs.IndexLine.{is_decimal_digit, is_hex_digit, is_space, pointer_in, code_in, behind, row_in, is_row_end, is_skipped}
use Rattle.encoding_index.specs.IndexText.{row_fault}
use Rattle.encoding_index.specs.laws.Outcomes.{outcome_of, outcomes}
use Rattle.encoding_index.specs.RowGrammar.{IsIndexRow}
use Rattle.encoding_index.specs.laws.RowStarts.{row_start, BeginsWithRow}
use Rattle.encoding_index.proofs.LineLemmas.{is_newline, lines_first_at, number_of, IsNumber, prefix_of, taken_pass, taken_spaces, row_end, row_in-written, row_in-skipped}

-- ---- a row, by its start

last : ℕ × ℕ × List ℕ → Option (ℕ × ℕ)
last start = if◌then◌else◌ (eqb start.1 0 || not (is_row_end start.2)) None (Some (start.0, start.1))

behind_code : (pointer : ℕ) (code : Option (ℕ × List ℕ))
    → option_and_then (λ c. if◌then◌else◌ {A = Option (ℕ × ℕ)} (eqb c.0 0 || not (is_row_end c.1)) None (Some (pointer, c.0))) code
    ≡ option_and_then last (option_and_then (λ c. Some (pointer, c.0, c.1)) code)
unfolding last
behind_code pointer None = refl
behind_code pointer (Some code) = refl

behind_numeral : (pointer : ℕ) (numeral : Option (List ℕ))
    → option_and_then (λ n. option_and_then (λ c. if◌then◌else◌ {A = Option (ℕ × ℕ)} (eqb c.0 0 || not (is_row_end c.1)) None (Some (pointer, c.0))) (code_in n)) numeral
    ≡ option_and_then last (option_and_then (λ n. option_and_then (λ c. Some (pointer, c.0, c.1)) (code_in n)) numeral)
behind_numeral pointer None = refl
behind_numeral pointer (Some numeral) = behind_code pointer (code_in numeral)

behind_pointer : (pointer : Option (ℕ × List ℕ))
    → option_and_then (λ p. option_and_then (λ n. option_and_then (λ c. if◌then◌else◌ {A = Option (ℕ × ℕ)} (eqb c.0 0 || not (is_row_end c.1)) None (Some (p.0, c.0))) (code_in n)) (behind (codes "\t0x") p.1)) pointer
    ≡ option_and_then last (option_and_then (λ p. option_and_then (λ n. option_and_then (λ c. Some (p.0, c.0, c.1)) (code_in n)) (behind (codes "\t0x") p.1)) pointer)
behind_pointer None = refl
behind_pointer (Some pointer) = behind_numeral pointer.0 (behind (codes "\t0x") pointer.1)

row_by_start : (line : List ℕ) → row_in line ≡ option_and_then last (row_start line)
unfolding row_in row_start
row_by_start line = behind_pointer (pointer_in (drop (prefix_len is_space line) line))

pub no_start : (line : List ℕ) → row_start line ≡ None → row_in line ≡ None
no_start line none = row_by_start line ∙ ap (option_and_then last) none

row_in_start : (line : List ℕ) (pointer code : ℕ) (end : List ℕ) → row_start line ≡ Some (pointer, code, end)
    → row_in line ≡ (if◌then◌else◌ (eqb code 0 || not (is_row_end end)) None (Some (pointer, code)))
unfolding last
row_in_start line pointer code end some = row_by_start line ∙ ap (option_and_then last) some

pub row_in_zero : (line : List ℕ) (pointer code : ℕ) (end : List ℕ) → row_start line ≡ Some (pointer, code, end) → code ≡ 0 → row_in line ≡ None
row_in_zero line pointer code end some zero = row_in_start line pointer code end some ∙ rw zero refl

either_way : (pointer code : ℕ) (zero : Bool) → if◌then◌else◌ {A = Option (ℕ × ℕ)} (zero || true) None (Some (pointer, code)) ≡ None
either_way pointer code true = refl
either_way pointer code false = refl

pub row_in_open : (line : List ℕ) (pointer code : ℕ) (end : List ℕ) → row_start line ≡ Some (pointer, code, end) → is_row_end end ≡ false → row_in line ≡ None
row_in_open line pointer code end some unended = row_in_start line pointer code end some ∙ rw unended (either_way pointer code (eqb code 0))

pub row_in_ended : (line : List ℕ) (pointer code : ℕ) (end : List ℕ) → row_start line ≡ Some (pointer, code, end) → 0 < code → is_row_end end ≡ true → row_in line ≡ Some (pointer, code)
row_in_ended line pointer code end some positive ended =
    let not_zero : eqb code 0 ≡ false = grind (arith, nat_tests) in
    row_in_start line pointer code end some ∙ rw (not_zero, ended) refl

-- ---- what stands at the start of a text

-- spaces, the digits of the pointer, a tab, `0x`, the digits of the code point, and what is after
record IsStart (text : List ℕ) (pointer code : ℕ) (end : List ℕ) : Type 0 where
  pub spaces : ℕ
  pub digits : List ℕ
  pub hex_digits : List ℕ
  pub written : text ≡ replicate spaces 0x20 ++ (digits ++ (codes "\t0x" ++ (hex_digits ++ end)))
  pub decimal : AllPass is_decimal_digit digits
  pub at_least_one : 1 ≤ length digits
  pub at_most_seven : length digits ≤ 7
  pub hexadecimal : AllPass is_hex_digit hex_digits
  pub at_least_four : 4 ≤ length hex_digits
  pub at_most_six : length hex_digits ≤ 6
  pub pointer_is : digits_value 10 digits ≡ pointer
  pub code_is : digits_value 16 hex_digits ≡ code

start_of : (text : List ℕ) (pointer code : ℕ) (behind_pointer numeral end : List ℕ)
    → IsNumber 10 1 7 (prefix_len is_decimal_digit (drop (prefix_len is_space text) text)) (drop (prefix_len is_space text) text) pointer behind_pointer
    → behind_pointer ≡ codes "\t0x" ++ numeral
    → IsNumber 16 4 6 (prefix_len is_hex_digit numeral) numeral code end
    → IsStart text pointer code end
start_of text pointer code behind_pointer numeral end first middle second =
    let body = drop (prefix_len is_space text) text in
    let n = prefix_len is_decimal_digit body in
    let m = prefix_len is_hex_digit numeral in
    record {
      spaces = prefix_len is_space text;
      digits = take n body;
      hex_digits = take m numeral;
      written =
          sym (take-append-drop (prefix_len is_space text) text) ∙ ap (λ xs. xs ++ body) (taken_spaces text)
          ∙ ap (λ ys. replicate (prefix_len is_space text) 0x20 ++ ys)
          (sym (take-append-drop n body) ∙ ap (λ ys. take n body ++ ys) (first.left ∙ middle
          ∙ ap (λ ys. codes "\t0x" ++ ys) (sym (take-append-drop m numeral) ∙ ap (λ ys. take m numeral ++ ys) second.left)));
      decimal = taken_pass is_decimal_digit body;
      at_least_one = omega (arith, length-prefix_len is_decimal_digit body, first.low);
      at_most_seven = omega (arith, length-prefix_len is_decimal_digit body, first.high);
      hexadecimal = taken_pass is_hex_digit numeral;
      at_least_four = omega (arith, length-prefix_len is_hex_digit numeral, second.low);
      at_most_six = omega (arith, length-prefix_len is_hex_digit numeral, second.high);
      pointer_is = first.value;
      code_is = second.value;
    }

start_is : (text : List ℕ) (pointer code : ℕ) (end : List ℕ) → row_start text ≡ Some (pointer, code, end) → IsStart text pointer code end
unfolding row_start
start_is text pointer code end read =
    let body = drop (prefix_len is_space text) text in
    option_and_then_some _ (pointer_in body) (pointer, code, end) read (λ first first_is rest_is.
    option_and_then_some _ (behind (codes "\t0x") first.1) (pointer, code, end) rest_is (λ numeral numeral_is code_is.
    option_and_then_some _ (code_in numeral) (pointer, code, end) code_is (λ second second_is last_is.
    let same : ◌≡◌ {A = ℕ × ℕ × List ℕ} (first.0, second.0, second.1) (pointer, code, end) = cc in
    let found = start_of text first.0 second.0 first.1 numeral second.1
    (number_of 10 1 7 (prefix_len is_decimal_digit body) body first.0 first.1 first_is)
    (prefix_of (codes "\t0x") first.1 numeral numeral_is)
    (number_of 16 4 6 (prefix_len is_hex_digit numeral) numeral second.0 second.1 second_is) in
    subst (λ (s : ℕ × ℕ × List ℕ). IsStart text s.0 s.1 s.2) same found)))

-- ---- a row that is read is written

record IsLast (pointer code number : ℕ) (end : List ℕ) (own : ℕ) : Type 0 where
  pub positive : 0 < number
  pub ended : is_row_end end ≡ true
  pub pointer_is : own ≡ pointer
  pub code_is : number ≡ code

last_by : (pointer code own number : ℕ) (end : List ℕ) (none ended : Bool) → eqb number 0 ≡ none → is_row_end end ≡ ended → if◌then◌else◌ {A = Option (ℕ × ℕ)} (none || not ended) None (Some (own, number)) ≡ Some (pointer, code) → IsLast pointer code number end own
last_by pointer code own number end true ended none_is ended_is found = absurd cc
last_by pointer code own number end false false none_is ended_is found = absurd cc
last_by pointer code own number end false true none_is ended_is found =
    let same : ◌≡◌ {A = ℕ × ℕ} (own, number) (pointer, code) = cc in
    record { positive = grind (arith, nat_tests); ended = ended_is; pointer_is = ap (λ p. p.0) same; code_is = ap (λ p. p.1) same }

written_by : (line : List ℕ) (pointer code : ℕ) (start : ℕ × ℕ × List ℕ) → IsStart line start.0 start.1 start.2 → IsLast pointer code start.1 start.2 start.0 → IsIndexRow line pointer code
written_by line pointer code start own end = record {
  spaces = own.spaces;
  digits = own.digits;
  hex_digits = own.hex_digits;
  end = start.2;
  written = own.written;
  decimal = own.decimal;
  at_least_one = own.at_least_one;
  at_most_seven = own.at_most_seven;
  hexadecimal = own.hexadecimal;
  at_least_four = own.at_least_four;
  at_most_six = own.at_most_six;
  ended = row_end start.2 end.ended;
  pointer_is = own.pointer_is ∙ end.pointer_is;
  code_is = own.code_is ∙ end.code_is;
  positive = omega (arith, end.positive, end.code_is);
}

pub written-row_in : (line : List ℕ) (pointer code : ℕ) → row_in line ≡ Some (pointer, code) → IsIndexRow line pointer code
unfolding last
written-row_in line pointer code read = option_and_then_some last (row_start line) (pointer, code) (sym (row_by_start line) ∙ read) (λ start start_is_read last_is.
    written_by line pointer code start (start_is line start.0 start.1 start.2 start_is_read)
    (last_by pointer code start.0 start.1 start.2 (eqb start.1 0) (is_row_end start.2) refl refl last_is))

-- ---- the line

other : ℕ → Bool
other b = not (is_newline b)

-- no LF stands in a part, so the first LF stands after it
past : (part rest : List ℕ) → AllPass other part → position_or_len is_newline (part ++ rest) ≡ length part + position_or_len is_newline rest
unfolding other
past part rest all =
    let none = prefix_len_is other part (length part) 0 (omega arith) (λ k below. all k 0 below) (λ within. absurd (omega arith)) in
    prefix_len-append other part rest ∙ grind (arith, nat_tests)

digit_other : (b : ℕ) → is_decimal_digit b ≡ true → other b ≡ true
unfolding other
digit_other b digit = grind (arith, nat_tests)

space_other : Unit {0} → other 0x20 ≡ true
unfolding other
space_other _ = refl

middle_passes : Unit {0} → AllPass other (codes "\t0x")
unfolding other
middle_passes _ = AllPass-from_list_all other (codes "\t0x") refl

hex_other : (b : ℕ) → is_hex_digit b ≡ true → other b ≡ true
unfolding other
hex_other b digit = grind (arith, nat_tests)

take_past : (xs ys : List ℕ) (n : ℕ) → take (length xs + n) (xs ++ ys) ≡ xs ++ take n ys
take_past [] ys n =
    let same : 0 + n ≡ n = omega arith in
    rw same refl
take_past (x ∷ xs) ys n =
    let same : length (x ∷ xs) + n ≡ suc (length xs + n) = omega arith in
    rw same (ap (λ zs. x ∷ zs) (take_past xs ys n))

drop_past : (xs ys : List ℕ) (n : ℕ) → drop (length xs + n) (xs ++ ys) ≡ drop n ys
drop_past [] ys n =
    let same : 0 + n ≡ n = omega arith in
    rw same refl
drop_past (x ∷ xs) ys n =
    let same : length (x ∷ xs) + n ≡ suc (length xs + n) = omega arith in
    rw same (drop_past xs ys n)

joins : (xs few all : List ℕ) (ends : Bool) → cond ends (xs ++ few) (xs ++ all) ≡ xs ++ cond ends few all
joins xs few all true = refl
joins xs few all false = refl

-- the CR that a line may end with is the last of its bytes
strip_past : (xs ys : List ℕ) → 0 < length ys → strip_carriage_return (xs ++ ys) ≡ xs ++ strip_carriage_return ys
strip_past xs ys some =
    let size : length (xs ++ ys) - 1 ≡ length xs + (length ys - 1) = omega (arith, length-append xs ys) in
    rw (size, get_or-append-add xs ys (length ys - 1) 0, take_past xs ys (length ys - 1)) (joins xs (take (length ys - 1) ys) ys (eqb (get_or ys (length ys - 1) 0) 13))

strip_behind_tab : (ys : List ℕ) → (zs : List ℕ) × (strip_carriage_return (0x09 ∷ ys) ≡ 0x09 ∷ zs)
strip_behind_tab [] = ([], refl)
strip_behind_tab (y ∷ ys) = (strip_carriage_return (y ∷ ys), strip_past (0x09 ∷ []) (y ∷ ys) (omega arith))

-- the line ends at the LF that is the first after a tab
line_at : (text front ys : List ℕ) (e n : ℕ) → text ≡ front ++ 0x09 ∷ ys → n ≡ length front + (e + 1) → n ≡ position_or_len is_newline text → e < length ys
    → (zs : List ℕ) × (lines text ≡ (front ++ 0x09 ∷ zs) ∷ lines (drop (e + 1) ys))
line_at text front ys e n whole size first within =
    let cut = strip_behind_tab (take e ys) in
    let one : e + 1 ≡ suc e = omega arith in
    let two : n + 1 ≡ length front + suc (e + 1) = omega arith in
    let all : length text ≡ length front + length (0x09 ∷ ys) = ap length whole ∙ length-append front (0x09 ∷ ys) in
    let taken : take n text ≡ front ++ 0x09 ∷ take e ys = ap (λ k. take k text) size ∙ ap (take (length front + (e + 1))) whole ∙ take_past front (0x09 ∷ ys) (e + 1) ∙ ap (λ k. front ++ take k (0x09 ∷ ys)) one in
    let left : drop (n + 1) text ≡ drop (e + 1) ys = ap (λ k. drop k text) two ∙ ap (drop (length front + suc (e + 1))) whole ∙ drop_past front (0x09 ∷ ys) (suc (e + 1)) in
    let stripped : strip_carriage_return (take n text) ≡ front ++ 0x09 ∷ cut.0 = ap strip_carriage_return taken ∙ strip_past front (0x09 ∷ take e ys) (omega arith) ∙ ap (λ xs. front ++ xs) cut.1 in
    (cut.0, lines_first_at text n first (omega arith) ∙ ap (λ line. line ∷ lines (drop (n + 1) text)) stripped ∙ ap (λ more. (front ++ 0x09 ∷ cut.0) ∷ lines more) left)

regroup : (a b c d e : List ℕ) → (a ++ (b ++ (c ++ d))) ++ e ≡ a ++ (b ++ (c ++ (d ++ e)))
regroup a b c d e = simp append_assoc

-- how many bytes stand before the LF
length_of_start : (a b c d ys : List ℕ) (e : ℕ) → AllPass other a → AllPass other b → AllPass other c → AllPass other d → e ≡ position_or_len is_newline ys
    → length (a ++ (b ++ (c ++ d))) + (e + 1) ≡ position_or_len is_newline (a ++ (b ++ (c ++ (d ++ 0x09 ∷ ys))))
length_of_start a b c d ys e first second third fourth at =
    let past_a = past a (b ++ (c ++ (d ++ 0x09 ∷ ys))) first in
    let past_b = past b (c ++ (d ++ 0x09 ∷ ys)) second in
    let past_c = past c (d ++ 0x09 ∷ ys) third in
    let past_d = past d (0x09 ∷ ys) fourth in
    let tab : position_or_len is_newline (0x09 ∷ ys) ≡ 1 + position_or_len is_newline ys = refl in
    let size_a = length-append a (b ++ (c ++ d)) in
    let size_b = length-append b (c ++ d) in
    let size_c = length-append c d in
    omega arith

begins_by : (text : List ℕ) (pointer code : ℕ) (ys : List ℕ) (e : ℕ) → IsStart text pointer code (0x09 ∷ ys) → 0 < code → e ≡ position_or_len is_newline ys → e < length ys
    → BeginsWithRow text (pointer, code) (drop (e + 1) ys)
begins_by text pointer code ys e start some at within =
    let spaces = replicate start.spaces 0x20 in
    let front = spaces ++ (start.digits ++ (codes "\t0x" ++ start.hex_digits)) in
    let whole : text ≡ front ++ 0x09 ∷ ys = start.written ∙ sym (regroup spaces start.digits (codes "\t0x") start.hex_digits (0x09 ∷ ys)) in
    let spaces_pass : AllPass other spaces = λ k d below. rw (get_or-replicate start.spaces k 0x20 d (omega (arith, length-replicate {A = ℕ} start.spaces 0x20))) (space_other tt) in
    let digits_pass : AllPass other start.digits = λ k d below. digit_other (get_or start.digits k d) (start.decimal k d below) in
    let hex_pass : AllPass other start.hex_digits = λ k d below. hex_other (get_or start.hex_digits k d) (start.hexadecimal k d below) in
    let size = length_of_start spaces start.digits (codes "\t0x") start.hex_digits ys e spaces_pass digits_pass (middle_passes tt) hex_pass at in
    let line = line_at text front ys e (length front + (e + 1)) whole refl (size ∙ ap (position_or_len is_newline) (sym start.written)) within in
    let all : length text ≡ length front + length (0x09 ∷ ys) = ap length whole ∙ length-append front (0x09 ∷ ys) in
    record {
      line = front ++ 0x09 ∷ line.0;
      first = line.1;
      read = row_in-written (front ++ 0x09 ∷ line.0) pointer code (record {
        spaces = start.spaces;
        digits = start.digits;
        hex_digits = start.hex_digits;
        end = 0x09 ∷ line.0;
        written = regroup spaces start.digits (codes "\t0x") start.hex_digits (0x09 ∷ line.0);
        decimal = start.decimal;
        at_least_one = start.at_least_one;
        at_most_seven = start.at_most_seven;
        hexadecimal = start.hexadecimal;
        at_least_four = start.at_least_four;
        at_most_six = start.at_most_six;
        ended = inr (line.0, refl);
        pointer_is = start.pointer_is;
        code_is = start.code_is;
        positive = some;
      });
      shorter = omega (arith, all, length-drop (e + 1) ys);
    }

-- the row of the first line, read before the line is cut off
pub begins_with_row : (text : List ℕ) (pointer code : ℕ) (behind : List ℕ) (end : ℕ) → row_start text ≡ Some (pointer, code, behind) → 0 < code → get_or behind 0 0 ≡ 0x09
    → end ≡ position_or_len is_newline behind → end < length behind → BeginsWithRow text (pointer, code) (drop (end + 1) behind)
begins_with_row text pointer code [] end read some tab at within = absurd (omega arith)
begins_with_row text pointer code (b ∷ ys) end read some tab at within =
    let here : b ≡ 0x09 = tab in
    let read_tab : row_start text ≡ Some (pointer, code, 0x09 ∷ ys) = read ∙ ap (λ x. Some (pointer, code, x ∷ ys)) here in
    let at_tab : end ≡ position_or_len is_newline (0x09 ∷ ys) = at ∙ ap (λ x. position_or_len is_newline (x ∷ ys)) here in
    let e = position_or_len is_newline ys in
    let more : end ≡ e + 1 = omega (arith, at_tab) in
    let one : end + 1 ≡ suc (e + 1) = omega arith in
    let begins = begins_by text pointer code ys e (start_is text pointer code (0x09 ∷ ys) read_tab) some refl (omega arith) in
    subst (λ n. BeginsWithRow text (pointer, code) (drop n (b ∷ ys))) (sym one) begins

-- ---- what a text gives that begins with a row

no_more_than_one : {A : Type 0} {x : A} → Some x ≡ None → ⊥
no_more_than_one e = cc

not_skipped : (line : List ℕ) (row : ℕ × ℕ) (skipped : Bool) → is_skipped line ≡ skipped → row_in line ≡ Some row → is_skipped line ≡ false
not_skipped line row true skipped read = absurd (no_more_than_one (sym read ∙ row_in-skipped line skipped))
not_skipped line row false full read = full

in_order : (size least : ℕ) (row : ℕ × ℕ) → least ≤ row.0 → row.0 < size → row_fault size least row ≡ None
unfolding row_fault
in_order size least row low high = grind (arith, nat_tests)

outcome_is : (size least : ℕ) (line : List ℕ) (row : ℕ × ℕ) → row_in line ≡ Some row → row_fault size least row ≡ None → outcome_of size least line ≡ Ok row
outcome_is size least line row read right = rw (read, right, outcome_of) refl

one_line : (size least number : ℕ) (line : List ℕ) (after : List (List ℕ)) (row : ℕ × ℕ) → is_skipped line ≡ false → outcome_of size least line ≡ Ok row
    → outcomes size least number (line ∷ after) ≡ Ok row ∷ outcomes size (row.0 + 1) (number + 1) after
one_line size least number line after row full right = rw (full, right) refl

pub outcomes_begin : (size least number : ℕ) (text : List ℕ) (row : ℕ × ℕ) (rest : List ℕ) → BeginsWithRow text row rest → least ≤ row.0 → row.0 < size
    → outcomes size least number (lines text) ≡ Ok row ∷ outcomes size (row.0 + 1) (number + 1) (lines rest)
outcomes_begin size least number text row rest begins low high =
    let full = not_skipped begins.line row (is_skipped begins.line) refl begins.read in
    let right = outcome_is size least begins.line row begins.read (in_order size least row low high) in
    ap (outcomes size least number) begins.first ∙ one_line size least number begins.line (lines rest) row full right
