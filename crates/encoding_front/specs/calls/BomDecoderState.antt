-- The states of decoders that have held bytes before what is to come.
use Rattle.std.proofs.Common.{◌≡◌, ℕ, ◌+◌, ◌≤◌, IsTrue, List, ◌++◌, length, ◌∙◌, length-append, subst, arith}
use Rattle.encoding_mem.specs.Piece.{sizes}
use Rattle.encoding_mem.specs.calls.Decoding.{DecoderState}
use Rattle.encoding_mem.specs.calls.DecodedLength.{decoded_length}
use Rattle.encoding_mem.specs.declared.codec.room.OutputUnit.{OutputUnit}
use Rattle.encoding_front.specs.calls.Seeking.{is_sought, sought_pieces, sought_needs, room_widest}
use Rattle.encoding_front.specs.laws.Seeking.{sought_whole, sought_are_pieces, sought_covers}
use Rattle.encoding_front.specs.declared.seeking.BomSet.{BomSet}

-- a decoder's pieces of held bytes and x have as many bytes as are pending, held and in x together
pub held_whole : (own : DecoderState) (held x : List ℕ) → sizes (own.pieces (held ++ x)) ≡ (own.pending + length held) + length x
held_whole own held x = own.whole (held ++ x) ∙ omega (arith, length-append held x)

-- the room needed for held bytes and n more is at most the decoded length of these and the pending
pub held_covers : (own : DecoderState) (held : List ℕ) (k : OutputUnit) (n : ℕ) → own.needs k (length held + n) ≤ decoded_length own.room k ((own.pending + length held) + n)
held_covers own held k n = let same : own.pending + (length held + n) ≡ (own.pending + length held) + n = omega arith in subst (λ (m : ℕ). own.needs k (length held + n) ≤ decoded_length own.room k m) same (own.covers k (length held + n))

-- the state of a decoder that is to be handed held bytes before those to come
abbrev pub held_state : DecoderState → List ℕ → DecoderState
held_state own held = record {
  pieces = λ x. own.pieces (held ++ x);
  pending = own.pending + length held;
  whole = held_whole own held;
  are_pieces = λ x. own.are_pieces (held ++ x);
  needs = λ k n. own.needs k (length held + n);
  room = own.room;
  covers = held_covers own held;
}

-- the state of a decoder that holds some bytes and looks for byte order marks
abbrev pub bom_decoder_state : (s : BomSet) (own : DecoderState) (held : List ℕ) → (IsTrue (is_sought s) → own.pending ≡ 0)
    → ((k : OutputUnit) (n : ℕ) → decoded_length own.room k n ≤ decoded_length room_widest k n) → DecoderState
bom_decoder_state s own held fresh bounded = record {
  pieces = λ x. sought_pieces s own.pieces (held ++ x);
  pending = own.pending + length held;
  whole = sought_whole s own held fresh;
  are_pieces = sought_are_pieces s own held;
  needs = sought_needs s own.needs held;
  room = room_widest;
  covers = sought_covers s own held bounded;
}
