-- What holds of each row of the table, computed over all of them. A search through the rows of one length finds
-- what the table says.
use Rattle.std.proofs.Common.{◌≡◌, ℕ, ◌<◌, ◌≤◌, Bool, true, false, List, length, refl, sym, true≢false, arith, ◌+◌, suc, cond, [], ◌∷◌, drop, get_or, map, ap, ◌∙◌}
use Rattle.std.specs.Prelude.{◌==◌, ◌&&◌, nat_lt, nat_le, Option, None, Some, Contains, ◌↔◌, filter, IfSome}
use Rattle.std.specs.List.{list_all}
use Rattle.std.proofs.lemmas.List.Elements.{All-contains, Contains-append_right}
use Rattle.std.proofs.lemmas.List.Sums.{AllPass-from_list_all}
use Rattle.std.proofs.lemmas.Bool.Decides.{Decides-eqb, nat_tests}
use Rattle.encoding_labels.specs.Labels.{labels, label_number_in, is_label_byte, IsLabelText, number_of_label, without_leading, trimmed}
use Rattle.std.proofs.Math.Numerals.{add-one}
use Rattle.std.proofs.Math.Seq.{drop-cons}
use Rattle.std.proofs.lemmas.Slice.Eq.{bytes_eq-Decides}
use Rattle.std.proofs.lemmas.List.{length-map}
use Rattle.std.specs.Borrow.{Bor}
use Rattle.std.specs.Bool.{Decides}
use Rattle.std.specs.Str.{IsTrimAscii, bytes_eq}
use Rattle.std.proofs.lemmas.Str.Ascii.{trim_ascii_is}
use Rattle.std.specs.Char.{to_ascii_lowercase}
use Rattle.encoding_labels.specs.laws.ByLength.{entries, labels_of_length}
use Rattle.encoding_labels.specs.declared.places.TheConstants.{ENCODING_COUNT}

-- a test that all rows pass holds of each
pub at_label : (test : (ℕ × List ℕ) → Bool) (entry : ℕ × List ℕ) → list_all test labels ≡ true → Contains labels entry → test entry ≡ true
at_label test entry passed within = All-contains (λ (e : ℕ × List ℕ). test e ≡ true) labels entry (AllPass-from_list_all test labels passed) within

pub and_parts : (a b : Bool) → (a && b) ≡ true → (a ≡ true) × (b ≡ true)
and_parts true b h = (refl, h)
and_parts false b h = absurd (true≢false (sym h))

abbrev pub is_label_text : List ℕ → Bool
is_label_text text = (nat_le 2 (length text) && nat_le (length text) 19) && list_all is_label_byte text

-- each label has 2 to 19 bytes, of those that labels are made of
pub all_texts : list_all (λ (entry : ℕ × List ℕ). is_label_text entry.1) labels ≡ true
unfolding labels
all_texts = refl

-- each number is that of an encoding
pub all_places : list_all (λ (entry : ℕ × List ℕ). nat_lt entry.0 ENCODING_COUNT) labels ≡ true
unfolding labels
all_places = refl

abbrev pub is_number : Option ℕ → ℕ → Bool
is_number None number = false
is_number (Some n) number = n == number

-- a search finds each row: no label stands in two
pub all_first : list_all (λ (entry : ℕ × List ℕ). is_number (label_number_in labels entry.1) entry.0) labels ≡ true
unfolding labels
all_first = refl

pub le_from_test : (a b : ℕ) → nat_le a b ≡ true → a ≤ b
le_from_test a b h = grind (arith, nat_tests)

pub lt_from_test : (a b : ℕ) → nat_lt a b ≡ true → a < b
lt_from_test a b h = grind (arith, nat_tests)

pub text_from_test : (text : List ℕ) → is_label_text text ≡ true → IsLabelText text
text_from_test text h =
    let parts = and_parts (nat_le 2 (length text) && nat_le (length text) 19) (list_all is_label_byte text) h in
    let sizes = and_parts (nat_le 2 (length text)) (nat_le (length text) 19) parts.0 in
    record {
      shortest = le_from_test 2 (length text) sizes.0;
      longest = le_from_test (length text) 19 sizes.1;
      bytes = AllPass-from_list_all is_label_byte text parts.1;
    }

pub is_number-some : (found : Option ℕ) (number : ℕ) → is_number found number ≡ true → found ≡ Some number
is_number-some None number h = absurd (true≢false (sym h))
is_number-some (Some n) number h = let e : n ≡ number = (Decides-eqb n number).0 h in cc

-- A search through the rows of one length finds what the table says.

-- a test is false if what it decides does not hold
false_from : (b : Bool) {P : Type 0} → Decides b P → (P → ⊥) → b ≡ false
false_from true h other = absurd (other (h.0 refl))
false_from false h other = refl

bytes_eq_not : (xs ys : List ℕ) → (xs ≡ ys → ⊥) → bytes_eq xs ys ≡ false
bytes_eq_not xs ys = false_from (bytes_eq xs ys) (bytes_eq-Decides xs ys)

-- the row at i has the text
pub label_number_in-found : (rows : List (Bor (List ℕ) × ℕ)) (i : ℕ) (d : Bor (List ℕ) × ℕ) (text : List ℕ) → i < length rows
    → map to_ascii_lowercase (get_or rows i d).0.now ≡ text
    → label_number_in (entries (drop i rows)) text ≡ Some (get_or rows i d).1
label_number_in-found rows i d text lt same =
    ap (λ (l : List (Bor (List ℕ) × ℕ)). label_number_in (entries l) text) (drop-cons rows i d lt)
    ∙ ap (λ (b : Bool). cond b (Some (get_or rows i d).1) (label_number_in (entries (drop (suc i) rows)) text))
    ((bytes_eq-Decides (map to_ascii_lowercase (get_or rows i d).0.now) text).1 same)

-- the row at i has another
pub label_number_in-skip : (rows : List (Bor (List ℕ) × ℕ)) (i : ℕ) (d : Bor (List ℕ) × ℕ) (text : List ℕ) → i < length rows
    → (map to_ascii_lowercase (get_or rows i d).0.now ≡ text → ⊥)
    → label_number_in (entries (drop (i + 1) rows)) text ≡ label_number_in (entries (drop i rows)) text
label_number_in-skip rows i d text lt other =
    ap (λ (n : ℕ). label_number_in (entries (drop n rows)) text) (add-one i)
    ∙ sym (ap (λ (l : List (Bor (List ℕ) × ℕ)). label_number_in (entries l) text) (drop-cons rows i d lt)
    ∙ ap (λ (b : Bool). cond b (Some (get_or rows i d).1) (label_number_in (entries (drop (suc i) rows)) text))
    (bytes_eq_not (map to_ascii_lowercase (get_or rows i d).0.now) text other))

-- among the rows of its length a text is found as among all
label_number_in-filter : (rows : List (ℕ × List ℕ)) (text : List ℕ) → label_number_in (filter (λ (entry : ℕ × List ℕ). length entry.1 == length text) rows) text ≡ label_number_in rows text
label_number_in-filter [] text = refl
label_number_in-filter (entry ∷ rows) text =
    let shorter = filter (λ (e : ℕ × List ℕ). length e.1 == length text) rows in
    let same : label_number_in shorter text ≡ label_number_in rows text = label_number_in-filter rows text in
    elim (length entry.1 == length text) as (λ (b : Bool). Decides b (length entry.1 ≡ length text)
    → label_number_in (cond b (entry ∷ shorter) shorter) text ≡ cond (bytes_eq entry.1 text) (Some entry.0) (label_number_in rows text)) [
      | true ↦ λ h. ap (λ (o : Option ℕ). cond (bytes_eq entry.1 text) (Some entry.0) o) same
      | false ↦ λ h. same ∙ sym (ap (λ (b : Bool). cond b (Some entry.0) (label_number_in rows text))
          (bytes_eq_not entry.1 text (λ e. true≢false (sym (h.1 (ap length e))))))
    ] (Decides-eqb (length entry.1) (length text))

same_row : (entry : ℕ × List ℕ) (number : ℕ) (text : List ℕ) → Some entry.0 ≡ Some number → entry.1 ≡ text → entry ≡ (number, text)
same_row entry number text h e =
    let first : entry.0 ≡ number = cc in
    ap (λ (n : ℕ). (n, entry.1)) first ∙ ap (λ (l : List ℕ). (number, l)) e

-- what is found is a row
label_number_in-row : (rows : List (ℕ × List ℕ)) (text : List ℕ) (number : ℕ) → label_number_in rows text ≡ Some number → Contains rows (number, text)
label_number_in-row [] text number h = absurd (cc)
label_number_in-row (entry ∷ rows) text number h =
    elim (bytes_eq entry.1 text) as (λ (b : Bool). (b ≡ true → entry.1 ≡ text)
    → cond b (Some entry.0) (label_number_in rows text) ≡ Some number → Contains (entry ∷ rows) (number, text)) [
      | true ↦ λ same found. (0, omega arith, same_row entry number text found (same refl))
      | false ↦ λ same found. Contains-append_right (entry ∷ []) rows (number, text) (label_number_in-row rows text number found)
    ] (bytes_eq-Decides entry.1 text).0 h

-- no label is shorter than 2 bytes or longer than 19
filter-none : (rows : List (ℕ × List ℕ)) (n : ℕ) → (2 ≤ n → n ≤ 19 → ⊥)
    → list_all (λ (entry : ℕ × List ℕ). is_label_text entry.1) rows ≡ true
    → filter (λ (entry : ℕ × List ℕ). length entry.1 == n) rows ≡ []
filter-none [] n other h = refl
filter-none (entry ∷ rows) n other h =
    let parts = and_parts (is_label_text entry.1) (list_all (λ (e : ℕ × List ℕ). is_label_text e.1) rows) h in
    let text = text_from_test entry.1 parts.0 in
    let shorter = filter (λ (e : ℕ × List ℕ). length e.1 == n) rows in
    ap (λ (b : Bool). cond b (entry ∷ shorter) shorter)
    (false_from (length entry.1 == n) (Decides-eqb (length entry.1) n) (λ e. other (omega (arith, text.shortest, e)) (omega (arith, text.longest, e))))
    ∙ filter-none rows n other parts.1

pub labels_of_length_other : (n : ℕ) → (2 ≤ n → n ≤ 19 → ⊥) → labels_of_length n ≡ []
labels_of_length_other n other = filter-none labels n other all_texts

pub label_number_in-labels_of_length : (text : List ℕ) → label_number_in (labels_of_length (length text)) text ≡ label_number_in labels text
label_number_in-labels_of_length text = label_number_in-filter labels text

-- a text is found exactly when it is a label, and at that label's number
pub label_number_in-labels : (text : List ℕ) (number : ℕ) → (label_number_in labels text ≡ Some number) ↔ Contains labels (number, text)
label_number_in-labels text number = (
  label_number_in-row labels text number,
  λ within. is_number-some (label_number_in labels text) number
      (at_label (λ (entry : ℕ × List ℕ). is_number (label_number_in labels entry.1) entry.0) (number, text) all_first within),
)

-- what the library's trim gives
pub trims : (label text : List ℕ) → IsTrimAscii label text → text ≡ trimmed label
trims label text h = trim_ascii_is label text (without_leading label) refl h

-- the search through the rows of one length gives the number
pub number_of_label-search : (label text : List ℕ) (rows : List (Bor (List ℕ) × ℕ)) → text ≡ trimmed label
    → entries rows ≡ labels_of_length (length text)
    → label_number_in (entries rows) (map to_ascii_lowercase text) ≡ number_of_label label
number_of_label-search label text rows trim same =
    let lower = map to_ascii_lowercase text in
    let size : length lower ≡ length text = length-map text to_ascii_lowercase in
    ap (λ (l : List (ℕ × List ℕ)). label_number_in l lower) (same ∙ ap labels_of_length (sym size))
    ∙ label_number_in-labels_of_length lower
    ∙ ap (λ (l : List ℕ). label_number_in labels (map to_ascii_lowercase l)) trim

-- what is found is the number of an encoding, and its text is a label's
pub number_of_label-below : (text : List ℕ) (number : ℕ) → label_number_in labels text ≡ Some number → number < ENCODING_COUNT
number_of_label-below text number h = lt_from_test number ENCODING_COUNT
    (at_label (λ (entry : ℕ × List ℕ). nat_lt entry.0 ENCODING_COUNT) (number, text) all_places (label_number_in-row labels text number h))

pub number_of_label-text : (text : List ℕ) (number : ℕ) → label_number_in labels text ≡ Some number → IsLabelText text
number_of_label-text text number h = text_from_test text
    (at_label (λ (entry : ℕ × List ℕ). is_label_text entry.1) (number, text) all_texts (label_number_in-row labels text number h))

-- what holds of each number that is found
pub if_some : (found : Option ℕ) (P : ℕ → Type 0) → ((number : ℕ) → found ≡ Some number → P number) → IfSome found P
if_some None P each = tt
if_some (Some number) P each = each number refl
