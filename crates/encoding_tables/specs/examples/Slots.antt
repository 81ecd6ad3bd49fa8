-- Worked rows of `specs/calls/Slots.antt`.
use Rattle.std.specs.Prelude.{◌≡◌, [], ◌∷◌, length, map, None, Some, refl}
use Rattle.std.specs.List.{range_with_len}
use Rattle.encoding_tables.specs.declared.index_kind.IndexKind.TheVariants.{Ibm866, Iso8859_2, Big5}
use Rattle.encoding_tables.specs.calls.Slots.{slot_of, flat_in}
use Rattle.encoding_tables.specs.laws.Kinds.{all_kinds}

-- each kind has its slot in this order
places : map slot_of all_kinds ≡ range_with_len 0 (length all_kinds)
unfolding all_kinds
places = refl

-- the second slot is that of ISO-8859-2, and what no slot has is not there
lists_of_slots : map (flat_in (None ∷ Some (0x104 ∷ []) ∷ [])) (Ibm866 ∷ Iso8859_2 ∷ Big5 ∷ []) ≡ None ∷ Some (0x104 ∷ []) ∷ None ∷ []
lists_of_slots = refl
