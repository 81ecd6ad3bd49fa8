-- Encodings by their number, and by their label. What an encoding gives to be hashed.
use Rattle.std.proofs.Common.{◌≡◌, ℕ, ◌<◌, ◌&&◌, ◌↔◌, Bool, true, false, IsTrue, Option, None, Some, List, [], ◌∷◌, refl, sym, ◌∙◌, ap, true≢false, zero-add, cond, arith}
use Rattle.std.specs.Prelude.{Contains}
use Rattle.std.specs.List.{list_all, slice_index_or}
use Rattle.std.specs.Option.{option_map}
use Rattle.std.proofs.lemmas.List.FromFn.{get_or-range_with_len}
use Rattle.std.proofs.lemmas.List.{get_or-map}
use Rattle.std.proofs.lemmas.List.Elements.{Contains-append_right}
use Rattle.std.proofs.lemmas.Slice.Eq.{bytes_eq-Decides}
use Rattle.std.specs.Str.{bytes_eq}
use Rattle.encoding_labels.specs.Labels.{IsLabelOf, label_text, labels, label_number_in}
use Rattle.encoding_labels.specs.declared.places.TheConstants.{ENCODING_COUNT}
use Rattle.encoding_tables.specs.IndexLists.{IndexLists, has}
use Rattle.encoding_tables.specs.declared.index_kind.IndexKind.{IndexKind}
use Rattle.encoding_front.specs.EncodingTable.{encodings, number_of, encoding_name, numbers_are_positions}
use Rattle.encoding_front.specs.Encodings.{AreThere, HasLabel}
use Rattle.encoding_front.specs.declared.encoding.Encoding.{Encoding}
use Rattle.encoding_front.specs.declared.encoding.Encoding.TheVariants.{Big5}
use Rattle.std.specs.Hash.{le_bytes}
use denote.Enum.Declared.{tag_of}
use Rattle.encoding_front.specs.contracts.encoding.Encoding.{the_type}

-- at the number of an encoding stands that encoding
pub at_number : (e : Encoding) → slice_index_or encodings (number_of e) Big5 ≡ e
at_number Big5 = refl
at_number _ = refl

pub same_number : (d e : Encoding) → number_of d ≡ number_of e → d ≡ e
same_number d e h = sym (at_number d) ∙ ap (λ (n : ℕ). slice_index_or encodings n Big5) h ∙ at_number e

-- the encoding at each position has that number
pub number_at : (offset : ℕ) (d : Encoding) → offset < ENCODING_COUNT → number_of (slice_index_or encodings offset d) ≡ offset
number_at offset d lt =
    sym (get_or-map number_of encodings offset d (number_of d) lt)
    ∙ ap (λ (l : List ℕ). slice_index_or l offset (number_of d)) numbers_are_positions
    ∙ get_or-range_with_len 0 ENCODING_COUNT offset (number_of d) lt
    ∙ zero-add offset

-- from the number of a label to its encoding
pub label_some : (label : List ℕ) (offset : ℕ) (d : Encoding) → number_of d ≡ offset
    → ((n : ℕ) → (Some offset ≡ Some n) ↔ IsLabelOf n label) → (e : Encoding) → (Some d ≡ Some e) ↔ HasLabel e label
label_some label offset d is found e = (
  λ same. (found (number_of e)).0 (ap Some (sym is) ∙ ap (option_map number_of) same),
  λ has.
      let at : Some offset ≡ Some (number_of e) = (found (number_of e)).1 has in
      let n : number_of d ≡ number_of e = cc in
      ap Some (same_number d e n),
)

pub label_none : (label : List ℕ) (offset : Option ℕ) (answer : Option Encoding) → offset ≡ None → answer ≡ None
    → ((n : ℕ) → (offset ≡ Some n) ↔ IsLabelOf n label) → (e : Encoding) → (answer ≡ Some e) ↔ HasLabel e label
label_none label offset answer p is found e = (
  λ same. absurd (cc),
  λ has. let at : offset ≡ Some (number_of e) = (found (number_of e)).1 has in absurd (cc),
)

-- an encoding is found by these, but for one
pub but_found : (found : Option Encoding) (d : Encoding) (P : Encoding → Type 0) → ((e : Encoding) → (found ≡ Some e) ↔ P e)
    → (answer : Option Encoding) → answer ≡ None → found ≡ Some d → (e : Encoding) → (answer ≡ Some e) ↔ (P e × ¬ (e ≡ d))
but_found found d P each answer is at e = (
  λ same. absurd (cc),
  λ h. let same : found ≡ Some e = (each e).1 h.0 in absurd (h.1 (cc)),
)

pub but_other : (found : Option Encoding) (d : Encoding) (P : Encoding → Type 0) → ((e : Encoding) → (found ≡ Some e) ↔ P e)
    → ¬ (found ≡ Some d) → (e : Encoding) → (found ≡ Some e) ↔ (P e × ¬ (e ≡ d))
but_other found d P each other e = (
  λ same. ((each e).0 same, λ is. other (same ∙ ap Some is)),
  λ h. (each e).1 h.0,
)

and_parts : (a b : Bool) → (a && b) ≡ true → (a ≡ true) × (b ≡ true)
and_parts true b h = (refl, h)
and_parts false b h = absurd (true≢false (sym h))

-- all kinds of a list are there
pub all_there : (t : IndexLists) (kinds : List IndexKind) (b : Bool) → b ≡ list_all (has t) kinds → IsTrue b ↔ AreThere t kinds
all_there t [] b h = (λ _. tt, λ _. h)
all_there t (kind ∷ kinds) b h =
    let more = all_there t kinds (list_all (has t) kinds) refl in (
      λ is. let both = and_parts (has t kind) (list_all (has t) kinds) (sym h ∙ is) in (both.0, more.0 both.1),
      λ there. h ∙ ap (λ (x : Bool). x && list_all (has t) kinds) there.0 ∙ more.1 there.1,
    )

-- no encoding was found at all
pub but_none : (found : Option Encoding) (d : Encoding) (P : Encoding → Type 0) → ((e : Encoding) → (found ≡ Some e) ↔ P e)
    → (answer : Option Encoding) → answer ≡ None → found ≡ None → (e : Encoding) → (answer ≡ Some e) ↔ (P e × ¬ (e ≡ d))
but_none found d P each answer is at e = (
  λ same. absurd (cc),
  λ h. let same : found ≡ Some e = (each e).1 h.0 in absurd (cc),
)

-- what a search finds is a row
label_number_in-row : (rows : List (ℕ × List ℕ)) (text : List ℕ) (offset : ℕ) → label_number_in rows text ≡ Some offset → Contains rows (offset, text)
label_number_in-row [] text offset h = absurd (cc)
label_number_in-row (entry ∷ rows) text offset h =
    elim (bytes_eq entry.1 text) as (λ (b : Bool). (b ≡ true → entry.1 ≡ text)
    → cond b (Some entry.0) (label_number_in rows text) ≡ Some offset → Contains (entry ∷ rows) (offset, text)) [
      | true ↦ λ same found. (0, omega arith, same_row entry offset text found (same refl))
      | false ↦ λ same found. Contains-append_right (entry ∷ []) rows (offset, text) (label_number_in-row rows text offset found)
    ] (bytes_eq-Decides entry.1 text).0 h
  where
    same_row : (entry : ℕ × List ℕ) (offset : ℕ) (text : List ℕ) → Some entry.0 ≡ Some offset → entry.1 ≡ text → entry ≡ (offset, text)
    same_row entry offset text h e =
        let first : entry.0 ≡ offset = cc in
        ap (λ (n : ℕ). (n, entry.1)) first ∙ ap (λ (l : List ℕ). (offset, l)) e

name_number : (e : Encoding) → label_number_in labels (label_text (encoding_name e)) ≡ Some (number_of e)
unfolding labels
name_number Big5 = refl
name_number _ = refl

-- the name of an encoding is a label of it
pub name_label : (e : Encoding) → HasLabel e (encoding_name e)
name_label e = label_number_in-row labels (label_text (encoding_name e)) (number_of e) (name_number e)

-- What an encoding gives to be hashed.

abbrev pub given : Encoding → List (List ℕ)
given e = le_bytes 8 (tag_of the_type e) ∷ []

-- the first byte of the first write
abbrev pub first_byte : List (List ℕ) → ℕ
first_byte [] = 0
first_byte ([] ∷ more) = 0
first_byte ((b ∷ bytes) ∷ more) = b

first_is_number : (e : Encoding) → first_byte (given e) ≡ number_of e
unfolding le_bytes
first_is_number Big5 = refl
first_is_number _ = refl

pub same_given : (d e : Encoding) → given d ≡ given e → d ≡ e
same_given d e h = same_number d e (sym (first_is_number d) ∙ ap first_byte h ∙ first_is_number e)
