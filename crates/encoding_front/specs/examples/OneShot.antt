-- Worked rows of `specs/calls/OneShot.antt`, and wrong outcomes of the calls for a whole input.
use Rattle.std.proofs.Common.{◌≡◌, ◌<◌, ◌↔◌, ℕ, true, false, IsTrue, Option, None, Some, Ok, Err, List, [], ◌∷◌, length, refl, ap, arith}
use Rattle.encoding_mem.specs.Coding.{lost_count}
use Rattle.encoding_mem.specs.Piece.{malformed_count}
use Rattle.encoding_mem.specs.Pieces.{pieces_in}
use Rattle.encoding_tables.specs.IndexLists.{IndexLists}
use Rattle.encoding_front.specs.Encodings.{coding_of}
use Rattle.encoding_front.specs.Marks.{marked_pieces}
use Rattle.encoding_front.specs.declared.one_shot_fault.OneShotFault.TheVariants.{Overflow, Memory}
use Rattle.encoding_mem.specs.declared.codec.room.OutputUnit.TheVariants.{Bytes, Replaced}
use Rattle.encoding_front.specs.declared.encoding.Encoding.{Encoding}
use Rattle.encoding_front.specs.declared.mark.Mark.TheVariants.{Sniff, Keep}
use Rattle.encoding_front.specs.calls.OneShot.{FailsFor, IsDecoded, room_at_start}

sniffed : room_at_start Sniff Encoding.Windows1252 Replaced 4 ≡ Some 15
sniffed = refl

kept : room_at_start Keep Encoding.Windows1252 Replaced 4 ≡ Some 12
kept = refl

kept_without_replacement : room_at_start Keep Encoding.Utf8 Bytes 4 ≡ Some 7
kept_without_replacement = refl

nothing : room_at_start Keep Encoding.Windows1252 Replaced 0 ≡ Some 0
nothing = refl

too_much : room_at_start Keep Encoding.Utf8 Replaced 0x5555555555555555 ≡ None
too_much = refl

-- `decode` returns whether there was a malformed sequence: both wrong answers are refuted.
error_is_returned : (t : IndexLists) (text : List ℕ) → IsDecoded t Keep Encoding.Utf8 (0x41 ∷ 0xFF ∷ []) text false → ⊥
unfolding pieces_in
error_is_returned t text decoded = let never : false ≡ true = decoded.malformed_.1 (omega arith) in cc

no_error_is_made_up : (t : IndexLists) (text : List ℕ) → IsDecoded t Keep Encoding.Utf8 (0x41 ∷ []) text true → ⊥
unfolding pieces_in
no_error_is_made_up t text decoded = omega (arith, decoded.malformed_.0 refl)

-- The text has U+FFFD for a malformed sequence, and no byte order mark that was skipped: text without the one, or with
-- the other, is refuted.
replacement_is_written : (t : IndexLists) → IsDecoded t Keep Encoding.Utf8 (0x41 ∷ 0xFF ∷ []) (0x41 ∷ []) true → ⊥
unfolding pieces_in lib.Utf8.encode
replacement_is_written t decoded = omega (arith, ap length decoded.bytes)

mark_is_skipped : (t : IndexLists) → IsDecoded t Sniff Encoding.Windows1252 (0xEF ∷ 0xBB ∷ 0xBF ∷ 0x41 ∷ []) (0xEF ∷ 0xBB ∷ 0xBF ∷ 0x41 ∷ []) false → ⊥
unfolding pieces_in lib.Utf8.encode
mark_is_skipped t decoded = omega (arith, ap length decoded.bytes)

-- `decode_without_bom_handling_and_without_replacement` returns no text for malformed bytes, and text for others
-- (clause `malformed`).
no_text_for_malformed_bytes : (t : IndexLists) (text : List ℕ) → (Some text ≡ None) ↔ (0 < malformed_count (marked_pieces t Keep Encoding.Utf8 (0xFF ∷ []))) → ⊥
unfolding pieces_in
no_text_for_malformed_bytes t text returned = let none : Some text ≡ None = returned.1 (omega arith) in cc

text_for_right_bytes : (t : IndexLists) (r : Option (List ℕ)) → r ≡ None → (r ≡ None) ↔ (0 < malformed_count (marked_pieces t Keep Encoding.Utf8 (0x41 ∷ []))) → ⊥
unfolding pieces_in
text_for_right_bytes t r none returned = omega (arith, returned.0 none)

-- `Memory` is returned only by a call that needs memory, and `Overflow` exactly if the room passes a `usize`.
no_memory_is_wanted : FailsFor {T = Unit {0}} (Some 0) (Err Memory) → ⊥
no_memory_is_wanted refused = by refused.0 refused.1 refused.2
  where
    by : (n : ℕ) → Some 0 ≡ Some n → 0 < n → ⊥
    by n is some = let same : n ≡ 0 = cc in omega (arith, same, some)

room_does_not_overflow : FailsFor {T = Unit {0}} (Some 12) (Err Overflow) → ⊥
room_does_not_overflow refused = by 12 refused
  where
    by : (n : ℕ) → Some n ≡ None → ⊥
    by n none = cc

overflow_is_returned : FailsFor {T = Unit {0}} None (Ok tt) → ⊥
overflow_is_returned returned = returned refl

-- `encode` returns whether a reference was written (clause `lost`): U+1F4A9 has no bytes in x-user-defined, and `false` is
-- refuted.
loss_is_returned : (t : IndexLists) → IsTrue false ↔ (0 < lost_count (coding_of t Encoding.XUserDefined) (0x41 ∷ 0x1F4A9 ∷ [])) → ⊥
loss_is_returned t told = let never : false ≡ true = told.1 (omega arith) in cc
