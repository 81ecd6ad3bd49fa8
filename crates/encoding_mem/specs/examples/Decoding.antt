-- Worked rows of `specs/calls/Decoding.antt`.
use Rattle.std.proofs.Common.{◌≡◌, ◌≢◌, ℕ, nat_eq, nat_lt, Bool, true, false, if◌then◌else◌, Some, ◌+◌, ◌<◌, ◌≤◌, List, [], ◌∷◌, length, refl, sym, ap, arith}
use Rattle.std.proofs.lemmas.Bool.{lt-ltb}
use Rattle.encoding_mem.specs.Piece.{Piece, well_formed, malformed, head_piece, piece_len, piece_text}
use Rattle.encoding_mem.specs.Pieces.{pieces_in}
use Rattle.encoding_mem.specs.Event.{malformed_at}
use Rattle.encoding_mem.specs.calls.Decoding.{DecoderState, IsKnown, Reports, StateCall, Suffices, TakesSoon, Waits, bytes_room, reported_event, sink_room, units_room}
use Rattle.encoding_mem.specs.Utf8.{pieces_utf8}
use Rattle.encoding_mem.specs.declared.codec.decoder_result.DecoderResult.TheVariants.{InputEmpty, Malformed, OutputFull}
use Rattle.encoding_mem.specs.declared.codec.room.OutputUnit.{OutputUnit}
use Rattle.encoding_mem.specs.declared.codec.room.OutputUnit.TheVariants.{Bytes}
use Rattle.encoding_mem.specs.Decided.{AreBytes, IsDecided, IsUndecided}

-- a malformed sequence of two bytes is reported at the offset where it ends
told_of : reported_event (Malformed 2 1) 5 ≡ malformed_at 2 5 ∷ []
told_of = refl

-- a call took `A` and a malformed sequence of four bytes, and has read two bytes after it
four_and_two : Reports (Malformed 4 2) 2 (well_formed 1 (0x41 ∷ []) ∷ malformed 4 ∷ [])
four_and_two = (refl, omega arith, omega arith, omega arith, (well_formed 1 (0x41 ∷ []) ∷ [], (tt, tt), refl))

-- three bytes after one of three, but not of four; no longer one, and no more after it
three_and_three : Reports (Malformed 3 3) 3 (malformed 3 ∷ [])
three_and_three = (refl, omega arith, omega arith, omega arith, ([], tt, refl))

not_four_and_three : ¬ (Reports (Malformed 4 3) 3 (malformed 4 ∷ []))
not_four_and_three reports = absurd (omega (arith, reports.3))

not_five : ¬ (Reports (Malformed 5 0) 0 (malformed 5 ∷ []))
not_five reports = absurd (omega (arith, reports.1))

not_four_behind : ¬ (Reports (Malformed 1 4) 4 (malformed 1 ∷ []))
not_four_behind reports = absurd (omega (arith, reports.2))

-- no malformed sequence is left untold
not_untold : ¬ (Reports InputEmpty 0 (malformed 1 ∷ []))
not_untold reports = reports.0

-- E2 82 may be the start of a character, and what AC after it makes of it is another piece
prefix_is_undecided : IsUndecided pieces_utf8 (0xE2 ∷ 0x82 ∷ [])
unfolding pieces_in
prefix_is_undecided = record { more = 0xAC ∷ []; bytes = (omega arith, tt); short = omega arith; differs = λ e. cc }

-- with `A` after them they are a malformed sequence, whatever follows
malformed_is_decided : IsDecided pieces_utf8 (0xE2 ∷ 0x82 ∷ 0x41 ∷ []) (malformed 2 ∷ well_formed 1 (0x41 ∷ []) ∷ [])
unfolding pieces_in
malformed_is_decided = λ r bytes. (_, refl)

-- of F0 three more bytes may make a character
lead_is_undecided : IsUndecided pieces_utf8 (0xF0 ∷ [])
unfolding pieces_in
lead_is_undecided = record { more = 0x9F ∷ 0x92 ∷ 0xA9 ∷ []; bytes = (omega arith, (omega arith, (omega arith, tt))); short = omega arith; differs = λ e. cc }

-- pieces for examples that four more bytes change, and no fewer
abbrev late_pieces : List ℕ → List Piece
late_pieces [] = malformed 1 ∷ []
late_pieces (a ∷ []) = malformed 1 ∷ []
late_pieces (a ∷ b ∷ []) = malformed 1 ∷ []
late_pieces (a ∷ b ∷ c ∷ []) = malformed 1 ∷ []
late_pieces (a ∷ b ∷ c ∷ d ∷ x) = well_formed 1 [] ∷ []

none_of_three : (more : List ℕ) → length more ≤ 3 → ¬ (head_piece (late_pieces []) ≢ head_piece (late_pieces more))
none_of_three [] short differs = differs refl
none_of_three (a ∷ []) short differs = differs refl
none_of_three (a ∷ b ∷ []) short differs = differs refl
none_of_three (a ∷ b ∷ c ∷ []) short differs = differs refl
none_of_three (a ∷ b ∷ c ∷ d ∷ x) short differs = absurd (omega (arith, short))

late_is_decided : ¬ (IsUndecided late_pieces [])
late_is_decided undecided = none_of_three undecided.more undecided.short undecided.differs

-- 255 is a byte, 256 is none
greatest_byte : AreBytes (0xFF ∷ [])
greatest_byte = (omega arith, tt)

not_a_byte : ¬ (AreBytes (0x100 ∷ []))
not_a_byte bytes = absurd (omega (arith, bytes.0))

-- pieces for examples that no byte changes, but greater numbers do: they are decided
abbrev wide_pieces : List ℕ → List Piece
wide_pieces [] = malformed 1 ∷ []
wide_pieces (b ∷ x) = if nat_lt b 256 then malformed 1 ∷ [] else well_formed 1 [] ∷ []

no_byte_changes : (b : ℕ) (x : List ℕ) → AreBytes (b ∷ x) → wide_pieces (b ∷ x) ≡ malformed 1 ∷ []
no_byte_changes b x bytes = rw (lt-ltb b 256 bytes.0) refl

wide_is_decided : IsDecided wide_pieces [] (malformed 1 ∷ [])
wide_is_decided [] bytes = ([], refl)
wide_is_decided (b ∷ x) bytes = ([], no_byte_changes b x bytes)

wide_is_not_undecided : ¬ (IsUndecided wide_pieces [])
wide_is_not_undecided undecided = by undecided.more undecided.bytes undecided.differs
  where
    by : (more : List ℕ) → AreBytes more → head_piece (wide_pieces []) ≢ head_piece (wide_pieces more) → ⊥
    by [] bytes differs = differs refl
    by (b ∷ x) bytes differs = differs (ap head_piece (sym (no_byte_changes b x bytes)))

-- The pieces after 1B 28 42 1B 28, which are pending in ISO-2022-JP: with 42 the first escape is a malformed sequence
-- of three bytes, else it stands for nothing.
abbrev behind_escape : List ℕ → List Piece
behind_escape [] = well_formed 3 [] ∷ malformed 1 ∷ well_formed 1 (0x28 ∷ []) ∷ []
behind_escape (b ∷ x) = if nat_eq b 0x42 then malformed 3 ∷ [] else well_formed 3 [] ∷ []

some_len : (p q : Piece) → Some p ≡ Some q → piece_len p ≡ piece_len q
some_len p q e = cc

escape_or_malformed : (t : Bool) (p : Piece) → head_piece (if t then malformed 3 ∷ [] else well_formed 3 [] ∷ []) ≡ Some p → 5 ≤ piece_len p + 2
escape_or_malformed true p e = omega (arith, some_len (malformed 3) p e)
escape_or_malformed false p e = omega (arith, some_len (well_formed 3 []) p e)

escape_is_near : (r : List ℕ) (p : Piece) → head_piece (behind_escape r) ≡ Some p → 5 ≤ piece_len p + 2
escape_is_near [] p e = omega (arith, some_len (well_formed 3 []) p e)
escape_is_near (b ∷ x) p e = escape_or_malformed (nat_eq b 0x42) p e

-- five bytes may be pending, the first piece two bytes before their end; six may not, nor a piece three bytes before it
five_wait : Waits behind_escape 5
five_wait = record {
  short = omega arith;
  undecided = record { more = 0x42 ∷ []; bytes = (omega arith, tt); short = omega arith; differs = λ e. cc };
  soon = escape_is_near;
}

six_do_not_wait : (pieces : List ℕ → List Piece) → ¬ (Waits pieces 6)
six_do_not_wait pieces waits = absurd (omega (arith, waits.short))

three_behind_do_not_wait : ¬ (Waits (λ x. well_formed 2 [] ∷ []) 5)
three_behind_do_not_wait waits = absurd (omega (arith, waits.soon [] (well_formed 2 []) refl))

-- `A` and a malformed sequence of two bytes: `A` is taken when it ends three bytes before the end, and not before
abbrev letter_and_two : List ℕ → List Piece
letter_and_two x = well_formed 1 (0x41 ∷ []) ∷ malformed 2 ∷ []

may_wait : TakesSoon letter_and_two [] false 3 []
may_wait r [] more stops is early = ([], refl)
may_wait r (p ∷ ps) more stops is early = absurd (let letter : well_formed 1 (0x41 ∷ []) ≡ p = cc in omega (arith, ap piece_len letter, early))

may_not_wait : ¬ (TakesSoon letter_and_two [] false 4 [])
may_not_wait soon = nothing_first (soon [] (well_formed 1 (0x41 ∷ []) ∷ []) (malformed 2 ∷ []) (λ last. refl) refl (omega arith))
  where
    nothing_first : (rest : List Piece) × ([] ≡ well_formed 1 (0x41 ∷ []) ∷ rest) → ⊥
    nothing_first taken = (let none : [] ≡ well_formed 1 (0x41 ∷ []) ∷ taken.0 = taken.1 in cc)

-- `A` is known whatever follows; bytes that stand for nothing need no room, and do not count as known
letter_is_known : IsKnown pieces_utf8 (0x41 ∷ []) false
unfolding pieces_in
letter_is_known = (well_formed 1 (0x41 ∷ []), λ r last. refl, omega arith)

same_text_len : (p q : Piece) → Some p ≡ Some q → length (piece_text p) ≡ length (piece_text q)
same_text_len p q e = cc

ignored_is_not_known : ¬ (IsKnown (λ x. well_formed 3 [] ∷ []) [] false)
ignored_is_not_known known = absurd (omega (arith, same_text_len (well_formed 3 []) known.0 (known.1 [] (λ last. refl)), known.2))

-- A call into bytes that ends for lack of room leaves fewer than four free; at a malformed sequence, three or more.
fewer_than_four_bytes : (before after : DecoderState) (src : List ℕ) (last : Bool) (read old new : ℕ) (W : List ℕ → Type 0)
    → StateCall before after src last read W (bytes_room old new) OutputFull → new < 4
fewer_than_four_bytes before after src last read old new W call = call.ends.0

three_bytes_of_replacement : (before after : DecoderState) (src : List ℕ) (last : Bool) (read old new a b : ℕ) (W : List ℕ → Type 0)
    → StateCall before after src last read W (bytes_room old new) (Malformed a b) → 3 ≤ new
three_bytes_of_replacement before after src last read old new a b W call = call.ends

-- into units, fewer than two, and one or more
fewer_than_two_units : (before after : DecoderState) (src : List ℕ) (last : Bool) (read old new : ℕ) (W : List ℕ → Type 0)
    → StateCall before after src last read W (units_room old new) OutputFull → new < 2
fewer_than_two_units before after src last read old new W call = call.ends.0

one_unit_of_replacement : (before after : DecoderState) (src : List ℕ) (last : Bool) (read old new a b : ℕ) (W : List ℕ → Type 0)
    → StateCall before after src last read W (units_room old new) (Malformed a b) → 1 ≤ new
one_unit_of_replacement before after src last read old new a b W call = call.ends

-- what is free in a destination is counted before the call and after it
room_of_bytes : sink_room false (length {A = ℕ}) (0x41 ∷ 0x42 ∷ 0x43 ∷ []) (0x41 ∷ []) ≡ bytes_room 3 1
room_of_bytes = refl

room_of_units : sink_room true (length {A = ℕ}) (0x41 ∷ 0x42 ∷ 0x43 ∷ []) (0x41 ∷ []) ≡ units_room 3 1
room_of_units = refl

-- A call with room enough for its bytes does not end for lack of it: `OutputFull` is refuted.
enough_is_not_refused : (before after : OutputUnit → ℕ → ℕ) (last : Bool) (unread new : ℕ) → before Bytes 3 ≡ 9 → Suffices before after false last 3 unread 9 new OutputFull → ⊥
enough_is_not_refused before after last unread new nine enough = enough Bytes 0 refl (λ _. refl) (omega (arith, nine))
