-- Worked rows of `specs/calls/Seeking.antt` and of `specs/calls/SavedDecoders.antt`.
use Rattle.std.specs.Prelude.{◌≡◌, ℕ, true, false, [], ◌∷◌, map, replicate, refl}
use Rattle.std.proofs.Common.{sym, ap, ◌∙◌}
use Rattle.encoding_mem.specs.Piece.{well_formed}
use Rattle.encoding_mem.specs.Pieces.{pieces_in}
use Rattle.encoding_mem.specs.declared.codec.room.OutputUnit.TheVariants.{Units, Bytes}
use Rattle.encoding_front.specs.calls.Seeking.{find_mark, mark_needs, can_be, nothing_sought, sought_by, sought_encoding, sought_pieces}
use Rattle.encoding_front.specs.calls.DecoderCall.{SeeksOn}
use Rattle.encoding_front.specs.calls.RoomRules.{saved_rule}
use Rattle.encoding_front.specs.calls.SavedDecoders.{CanBeResumed, HasReadNothing, Saves}
use Rattle.encoding_front.specs.calls.Stream.{DecoderView, Opening}
use Rattle.encoding_front.specs.Encodings.{no_lists}
use Rattle.encoding_mem.specs.calls.Resuming.{saved_bytes}
use Rattle.encoding_tables.specs.IndexLists.{IndexLists}
use Rattle.encoding_front.specs.declared.decoder.saved_decoder.SavedDecoder.{SavedDecoder}
use Rattle.encoding_front.specs.declared.encoding.Encoding.{Encoding}
use Rattle.encoding_front.specs.declared.mark.Mark.TheVariants.{Sniff, Remove, Keep}
use Rattle.encoding_front.specs.declared.seeking.ByteOrderMark.TheVariants.{Utf8, Utf16Be, Utf16Le}
use Rattle.encoding_front.specs.declared.seeking.BomMatch.TheVariants.{Prefix, Whole, Other}
use Rattle.encoding_front.specs.declared.seeking.BomSet.{BomSet}

abbrev all_marks : BomSet
all_marks = sought_by Sniff Encoding.Windows1252

-- if all three marks are looked for, these may become one
prefixes : map (find_mark all_marks) ([] ∷ (0xEF ∷ []) ∷ (0xEF ∷ 0xBB ∷ []) ∷ (0xFE ∷ []) ∷ (0xFF ∷ []) ∷ []) ≡ replicate 5 Prefix
prefixes = refl

whole_marks : map (find_mark all_marks) ((0xEF ∷ 0xBB ∷ 0xBF ∷ []) ∷ (0xFE ∷ 0xFF ∷ []) ∷ (0xFF ∷ 0xFE ∷ []) ∷ (0xEF ∷ 0xBB ∷ 0xBF ∷ 0xEF ∷ []) ∷ [])
    ≡ Whole Utf8 ∷ Whole Utf16Be ∷ Whole Utf16Le ∷ Whole Utf8 ∷ []
whole_marks = refl

no_marks : map (find_mark all_marks) ((0xEE ∷ []) ∷ (0xF0 ∷ []) ∷ (0xFD ∷ []) ∷ (0xEF ∷ 0xBA ∷ []) ∷ (0xEF ∷ 0xBC ∷ []) ∷ (0xEF ∷ 0xBB ∷ 0xBE ∷ []) ∷ (0xEF ∷ 0xBB ∷ 0xC0 ∷ []) ∷ (0xFE ∷ 0xFE ∷ []) ∷ (0xFF ∷ 0xFF ∷ []) ∷ (0xFF ∷ 0xFD ∷ []) ∷ [])
    ≡ replicate 10 Other
no_marks = refl

-- only an own mark is removed, and none is if it is kept
removed : map (find_mark (sought_by Remove Encoding.Utf16Le)) ((0xEF ∷ 0xBB ∷ 0xBF ∷ []) ∷ (0xFE ∷ 0xFF ∷ []) ∷ (0xFF ∷ 0xFE ∷ []) ∷ [])
    ≡ Other ∷ Other ∷ Whole Utf16Le ∷ []
removed = refl

kept : sought_by Keep Encoding.Utf8 ≡ nothing_sought
kept = refl

-- a mark is a piece of 3 bytes or of 2, and what follows it is in its encoding
after_marks : map (sought_pieces all_marks (λ x. [])) ((0xEF ∷ 0xBB ∷ 0xBF ∷ 0xC3 ∷ 0xA9 ∷ []) ∷ (0xFE ∷ 0xFF ∷ 0x4E ∷ 0x00 ∷ []) ∷ (0xFF ∷ 0xFE ∷ 0x00 ∷ 0x4E ∷ []) ∷ (0xEF ∷ 0xBB ∷ []) ∷ [])
    ≡ (well_formed 3 [] ∷ well_formed 2 (0xE9 ∷ []) ∷ []) ∷ (well_formed 2 [] ∷ well_formed 2 (0x4E00 ∷ []) ∷ []) ∷ (well_formed 2 [] ∷ well_formed 2 (0x4E00 ∷ []) ∷ []) ∷ [] ∷ []
unfolding pieces_in
after_marks = refl

-- a mark says the encoding, and without one it is that which the input was said to be in
marked_encodings : map (sought_encoding all_marks Encoding.Windows1252) ((0xEF ∷ 0xBB ∷ 0xBF ∷ []) ∷ (0xFE ∷ 0xFF ∷ []) ∷ (0xFF ∷ 0xFE ∷ []) ∷ (0xEF ∷ 0xBB ∷ []) ∷ (0x41 ∷ []) ∷ [])
    ≡ Encoding.Utf8 ∷ Encoding.Utf16Be ∷ Encoding.Utf16Le ∷ Encoding.Windows1252 ∷ Encoding.Windows1252 ∷ []
marked_encodings = refl

-- what held bytes may become
may_become : (map (λ held. can_be all_marks held Utf8) ([] ∷ (0xEF ∷ []) ∷ (0xEF ∷ 0xBB ∷ []) ∷ (0xFE ∷ []) ∷ (0xFF ∷ []) ∷ []) ≡ true ∷ true ∷ true ∷ false ∷ false ∷ [])
    × (map (λ held. can_be all_marks held Utf16Be) ([] ∷ (0xEF ∷ []) ∷ (0xFE ∷ []) ∷ (0xFF ∷ []) ∷ []) ≡ true ∷ false ∷ true ∷ false ∷ [])
    × (map (λ held. can_be all_marks held Utf16Le) ([] ∷ (0xEF ∷ []) ∷ (0xFE ∷ []) ∷ (0xFF ∷ []) ∷ []) ≡ true ∷ false ∷ false ∷ true ∷ [])
may_become = (refl, refl, refl)

-- after EF and 9 more bytes 7 may follow the mark of UTF-8, after FE and 8 more 7 that of UTF-16
wanted_behind_marks : (mark_needs all_marks (0xEF ∷ []) Bytes 9 Utf8 ≡ 10)
    × (mark_needs all_marks (0xFE ∷ []) Bytes 8 Utf16Be ≡ 13)
    × (mark_needs all_marks (0xFF ∷ []) Units 8 Utf16Le ≡ 5)
    × (mark_needs all_marks (0xEF ∷ []) Bytes 9 Utf16Be ≡ 0)
wanted_behind_marks = (refl, refl, refl, refl)

-- after EF it may become UTF-8, and two bytes are counted for those that are held
abbrev after_ef : SavedDecoder
after_ef = record { encoding = Encoding.Windows1252; sought = all_marks; held = record { len = 1; bytes = 0xEF ∷ 0 ∷ [] }; is_finished = false; pieces = record { mode = 0; pending = record { len = 0; bytes = 0 ∷ [] } } }

rule_after_ef : saved_rule after_ef ≡ record { encoding = Encoding.Windows1252; may_be_utf8 = true; may_be_utf16 = false; ahead = 2; pending = 0 }
rule_after_ef = refl

-- before the first byte all three marks are looked for, and no byte is held or pending; after EF one is held
abbrev before_any : SavedDecoder
before_any = record { encoding = Encoding.Windows1252; sought = all_marks; held = record { len = 0; bytes = 0xEF ∷ 0 ∷ [] }; is_finished = false; pieces = record { mode = 0; pending = record { len = 0; bytes = 0 ∷ [] } } }

nothing_was_read : HasReadNothing Sniff Encoding.Windows1252 before_any
nothing_was_read = record { in_force = refl; sought = refl; held = refl; open_ = refl; mode = refl; pending = refl }

ef_was_read : HasReadNothing Sniff Encoding.Windows1252 after_ef → ⊥
ef_was_read h = let none : 0xEF ∷ [] ≡ [] = h.held in cc

-- marks are sought on after a call that is not the last and left nothing unread, and after no other
sought_on : SeeksOn all_marks all_marks false []
sought_on is = (refl, refl, refl)

no_end : (byte : ℕ) → byte ∷ [] ≡ [] → ⊥
no_end byte none = cc

not_beside_unread : SeeksOn all_marks all_marks false (0xEF ∷ []) → ⊥
not_beside_unread seeks = no_end 0xEF (seeks refl).2

not_last : true ≡ false → ⊥
not_last never = cc

not_after_the_last : SeeksOn all_marks all_marks true [] → ⊥
not_after_the_last seeks = not_last (seeks refl).1

none_is_sought : SeeksOn all_marks nothing_sought true (0xEF ∷ [])
none_is_sought is = absurd (not_last (sym is))

-- What is saved of a decoder has the bytes that it held, the encoding of a mark that was taken, and whether the stream
-- has ended: each of them forgotten is refuted.
held_bytes_are_saved : (w : SavedDecoder) (v : DecoderView) → v.opening.held ≡ 0xEF ∷ [] → saved_bytes w.held ≡ [] → Saves w v → ⊥
held_bytes_are_saved w v held none saves = no_end 0xEF (sym held ∙ ap (λ (o : Opening). o.held) saves.opening ∙ none)

encoding_is_saved : (w : SavedDecoder) (v : DecoderView) → v.source [] ≡ Encoding.Utf8 → w.encoding ≡ Encoding.Windows1252 → Saves w v → ⊥
encoding_is_saved w v utf8 old saves = let same = saves.in_force in cc

end_is_saved : (w : SavedDecoder) (v : DecoderView) → v.finished ≡ true → w.is_finished ≡ false → Saves w v → ⊥
end_is_saved w v over open_ saves = let same = saves.finished in cc

-- A decoder can be resumed only with the index of its encoding, and with held bytes that can begin a mark: no index, and
-- `A` as a held byte, are refuted.
index_is_needed : CanBeResumed no_lists before_any → ⊥
index_is_needed resumed = not_last (sym resumed.ready.0)

abbrev after_a : SavedDecoder
after_a = record before_any { held = record { len = 1; bytes = 0x41 ∷ 0 ∷ [] } }

letter_is_not_held : (t : IndexLists) → CanBeResumed t after_a → ⊥
letter_is_not_held t resumed = let prefix : Other ≡ Prefix = resumed.sound.prefix refl in cc
