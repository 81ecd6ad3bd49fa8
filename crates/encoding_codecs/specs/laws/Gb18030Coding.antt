-- Laws of the forms of gb18030 and GBK.
use Rattle.std.proofs.Common.{◌≡◌, refl, ℕ, ◌<◌, ◌≤◌, Bool, true, false, cond, nat_lt, List, [], ◌∷◌, length, arith, Option, None, Some}
use Rattle.std.specs.Prelude.{◌==◌, ◌&&◌, not, IfSome}
use Rattle.std.specs.Option.{option_map, option_or}
use Rattle.encoding_mem.specs.Coding.{IsCoding, FitsNeed, form_of_bytes}
use Rattle.encoding_mem.specs.declared.codec.form.Form.TheVariants.{Mapped}
use Rattle.encoding_mem.specs.laws.Stateless.{stateless_laws, short_one, short_none}
use Rattle.encoding_mem.specs.calls.EncodedLength.{IsRoomFor}
use Rattle.encoding_mem.specs.laws.EncodedLength.{two_byte_room, four_byte_room}
use Rattle.encoding_mem.specs.Stateless.{stateless}
use Rattle.std.proofs.lemmas.Bool.{lt-ltb}
use Rattle.encoding_tables.specs.Lookups.{first_pointer}
use Rattle.encoding_tables.specs.Ranges.{range_pointer}
use Rattle.encoding_codecs.specs.Gb18030Coding.{gb18030_fixed_pair, two_of, gb18030_pair_bytes, gb18030_four_bytes, gb18030_index_bytes, gb18030_range_bytes, gb18030_bytes, gb18030_form}
use Rattle.encoding_codecs.specs.calls.Gb18030Bounds.{gb18030_need, gb18030_encoded_length}

-- at most n bytes, if there are any
abbrev AreFew : ℕ → Option (List ℕ) → Type 0
AreFew n o = IfSome o (λ bs. length bs ≤ n)

few_if : (n : ℕ) (t : Bool) (o p : Option (List ℕ)) → AreFew n o → AreFew n p → AreFew n (cond t o p)
few_if n true o p h k = h
few_if n false o p h k = k

few_or : (n : ℕ) (o p : Option (List ℕ)) → AreFew n o → AreFew n p → AreFew n (option_or o p)
few_or n None p h k = k
few_or n (Some bs) p h k = h

few_map : {X : Type 0} (n : ℕ) (f : X → List ℕ) (o : Option X) → ((x : X) → length (f x) ≤ n) → AreFew n (option_map f o)
few_map n f None h = tt
few_map n f (Some x) h = h x

-- at most two, but in the extended range
two_enough : (extended : Bool) → 2 ≤ gb18030_need extended
two_enough true = omega arith
two_enough false = omega arith

few_in_range : (rows : List (ℕ × ℕ)) (extended : Bool) (c : ℕ) → AreFew (gb18030_need extended) (gb18030_range_bytes rows extended c)
few_in_range rows true c = few_map 4 gb18030_four_bytes (range_pointer rows c) (λ p. omega arith)
few_in_range rows false c = tt

few_bytes : (flat : List ℕ) (rows : List (ℕ × ℕ)) (extended : Bool) (c : ℕ) → AreFew (gb18030_need extended) (gb18030_bytes flat rows extended c)
few_bytes flat rows extended c =
    let n : ℕ = gb18030_need extended in
    let two : 2 ≤ n = two_enough extended in
    let tables : Option (List ℕ) = option_or (gb18030_index_bytes flat c) (gb18030_range_bytes rows extended c) in
    let others : Option (List ℕ) = option_or (option_map two_of (gb18030_fixed_pair c)) tables in
    few_if n (nat_lt c 0x80) (Some (c ∷ [])) _ (omega (arith, two))
    (few_if n (c == 0xE5E5) None _ tt
    (few_if n (c == 0x20AC && not extended) (Some (0x80 ∷ [])) others (omega (arith, two))
    (few_or n (option_map two_of (gb18030_fixed_pair c)) tables (few_map n two_of (gb18030_fixed_pair c) (λ p. omega (arith, two)))
    (few_or n (gb18030_index_bytes flat c) (gb18030_range_bytes rows extended c) (few_map n gb18030_pair_bytes (first_pointer flat c 0 23940) (λ p. omega (arith, two)))
    (few_in_range rows extended c)))))

short_form : (n c : ℕ) (o : Option (List ℕ)) → AreFew n o → FitsNeed n (form_of_bytes c o)
short_form n c None h = short_none
short_form n c (Some bs) h = record { short = h }

four_at_most : (extended : Bool) → gb18030_need extended ≤ 4
four_at_most true = omega arith
four_at_most false = omega arith

pub gb18030_laws : (flat : List ℕ) (rows : List (ℕ × ℕ)) (extended : Bool) → IsCoding (gb18030_need extended) (stateless (gb18030_form flat rows extended))
gb18030_laws flat rows extended = stateless_laws (gb18030_need extended) (gb18030_form flat rows extended) (four_at_most extended)
    (λ c. short_form (gb18030_need extended) c (gb18030_bytes flat rows extended c) (few_bytes flat rows extended c))

-- ASCII is itself, so this room is enough
pub gb18030_ascii : (flat : List ℕ) (rows : List (ℕ × ℕ)) (extended : Bool) (c : ℕ) → c < 0x80 → gb18030_form flat rows extended c ≡ Mapped (c ∷ [])
gb18030_ascii flat rows extended c low = rw (lt-ltb c 0x80 low) refl

one_byte : (flat : List ℕ) (rows : List (ℕ × ℕ)) (extended : Bool) (c : ℕ) → c < 0x80 → FitsNeed 1 (gb18030_form flat rows extended c)
one_byte flat rows extended c low = rw (lt-ltb c 0x80 low) short_one

pub gb18030_fits : (flat : List ℕ) (rows : List (ℕ × ℕ)) (extended : Bool) → IsRoomFor (stateless (gb18030_form flat rows extended)) (gb18030_encoded_length extended)
gb18030_fits flat rows true = four_byte_room (gb18030_form flat rows true) (gb18030_laws flat rows true).short (one_byte flat rows true)
gb18030_fits flat rows false = two_byte_room (gb18030_form flat rows false) (gb18030_laws flat rows false).short (one_byte flat rows false)
