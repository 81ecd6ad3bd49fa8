-- Wrong outcomes of calls of a decoder, refuted from `specs/calls/DecoderCall.antt` and `specs/calls/Stream.antt`. The
-- calls are the first ones of a new decoder.
use Rattle.std.proofs.Common.{◌≡◌, ◌≢◌, ℕ, ◌+◌, ◌⊎◌, inl, inr, Bool, true, false, IsTrue, Some, List, [], ◌∷◌, ◌++◌, length, refl, sym, ◌∙◌, ap, subst, append-nil, arith}
use Rattle.encoding_mem.specs.Piece.{Piece, malformed, well_formed, head_piece, scalars, sizes, text, AreWellFormed}
use Rattle.encoding_mem.specs.Pieces.{pieces_in}
use Rattle.encoding_mem.specs.Utf8.{pieces_utf8}
use Rattle.encoding_mem.specs.calls.Decoding.{Waits}
use Rattle.encoding_mem.specs.declared.codec.decoder_result.DecoderResult.TheVariants.{InputEmpty, OutputFull, Malformed}
use Rattle.encoding_mem.specs.declared.codec.room.OutputUnit.TheVariants.{Bytes}
use Rattle.encoding_tables.specs.IndexLists.{IndexLists}
use Rattle.encoding_front.specs.Marks.{marked_pieces}
use Rattle.encoding_front.specs.calls.DecoderCall.{DecoderCall, IfRoomAsked, RoomLeft, TextCall}
use Rattle.encoding_front.specs.calls.Stream.{DecoderView, IsNewDecoder, room_asked}
use Rattle.encoding_front.specs.declared.coder_result.CoderResult.{CoderResult}
use Rattle.encoding_front.specs.declared.encoding.Encoding.{Encoding}
use Rattle.encoding_front.specs.declared.mark.Mark.TheVariants.{Sniff, Keep}

-- some bytes are not none
no_end : (b : ℕ) (x : List ℕ) → b ∷ x ≡ [] → ⊥
no_end b x none = cc

-- A call that returns `InputEmpty` has read all its bytes: an unread byte is refuted.
unread_byte_is_no_end : (v v' : DecoderView) (left : RoomLeft) (W : List ℕ → Type 0) → DecoderCall v v' (0x41 ∷ []) true 0 W left InputEmpty → ⊥
unread_byte_is_no_end v v' left W call = no_end 0x41 [] call.ends.0

unread_byte_is_no_end_with_replacement : (v v' : DecoderView) (had : Bool) (left : RoomLeft) (W : List ℕ → Type 0)
    → TextCall v v' (0x41 ∷ []) true 0 W left CoderResult.InputEmpty had → ⊥
unread_byte_is_no_end_with_replacement v v' had left W call = no_end 0x41 [] call.ends.0

-- the pieces of E2 82 and `A`: a malformed sequence of two bytes, and a letter
pieces_of_half : pieces_utf8 (0xE2 ∷ 0x82 ∷ 0x41 ∷ []) ≡ malformed 2 ∷ well_formed 1 (0x41 ∷ []) ∷ []
unfolding pieces_in
pieces_of_half = refl

-- if the first piece is malformed, a call that reports a malformed sequence took that piece alone
reported : (n a : ℕ) (taken prefix later ps : List Piece) → AreWellFormed prefix → taken ≡ prefix ++ malformed a ∷ [] → malformed n ∷ ps ≡ taken ++ later
    → (n ≡ a) × (sizes taken ≡ n)
reported n a taken [] later ps good is all = let one : taken ≡ malformed a ∷ [] = is in
    let first : malformed n ∷ ps ≡ malformed a ∷ later = all ∙ ap (λ l. l ++ later) one in
    let same : n ≡ a = cc in (same, rw one (omega (arith, same)))
reported n a taken (p ∷ prefix) later ps good is all = let first : malformed n ∷ ps ≡ p ∷ ((prefix ++ malformed a ∷ []) ++ later) = all ∙ ap (λ l. l ++ later) is in
    let head : p ≡ malformed n = cc in absurd (subst (λ q. AreWellFormed (q ∷ prefix)) head good).0

-- A malformed sequence is reported with its own length: three bytes for two are refuted.
other_length_is_not_reported : (t : IndexLists) (v v' : DecoderView) (last : Bool) (left : RoomLeft) (W : List ℕ → Type 0) → IsNewDecoder v t Keep Encoding.Utf8
    → DecoderCall v v' (0xE2 ∷ 0x82 ∷ 0x41 ∷ []) last 3 W left (Malformed 3 0) → ⊥
other_length_is_not_reported t v v' last left W new call = let told = call.law.well_formed.4 in
    let all : malformed 2 ∷ well_formed 1 (0x41 ∷ []) ∷ [] ≡ call.law.taken ++ v'.state.pieces []
    = sym pieces_of_half ∙ sym (new.pieces (0xE2 ∷ 0x82 ∷ 0x41 ∷ [])) ∙ call.law.rest [] (λ _. refl) in
    omega (arith, (reported 2 3 call.law.taken told.0 (v'.state.pieces []) _ told.1 told.2 all).0)

-- The result says how many bytes were read after the sequence: none, if one was, is refuted.
other_offset_is_not_reported : (t : IndexLists) (v v' : DecoderView) (last : Bool) (left : RoomLeft) (W : List ℕ → Type 0) → IsNewDecoder v t Keep Encoding.Utf8
    → DecoderCall v v' (0xE2 ∷ 0x82 ∷ 0x41 ∷ []) last 3 W left (Malformed 2 0) → ⊥
other_offset_is_not_reported t v v' last left W new call = let told = call.law.well_formed.4 in
    let all : malformed 2 ∷ well_formed 1 (0x41 ∷ []) ∷ [] ≡ call.law.taken ++ v'.state.pieces []
    = sym pieces_of_half ∙ sym (new.pieces (0xE2 ∷ 0x82 ∷ 0x41 ∷ [])) ∙ call.law.rest [] (λ _. refl) in
    omega (arith, (reported 2 2 call.law.taken told.0 (v'.state.pieces []) _ told.1 told.2 all).1, call.law.counted, call.law.well_formed.0, new.pending)

-- pieces of which the first is malformed are not all taken by a call that reports none
not_all_taken : (n : ℕ) (taken later ps : List Piece) → AreWellFormed taken → later ≡ [] → malformed n ∷ ps ≡ taken ++ later → ⊥
not_all_taken n [] later ps good none all = cc
not_all_taken n (p ∷ taken) later ps good none all = let head : p ≡ malformed n = cc in (subst (λ q. AreWellFormed (q ∷ taken)) head good).0

-- what is to come after the last call, if that returned `InputEmpty`
nothing_is_to_come : (v' : DecoderView) → (((v'.state.pending ≡ 0) × (v'.state.pieces [] ≡ [])) ⊎ ((true ≡ false) × Waits v'.state.pieces v'.state.pending)) → v'.state.pieces [] ≡ []
nothing_is_to_come v' (inl over) = over.1
nothing_is_to_come v' (inr waits) = let never = waits.0 in absurd (cc)

-- A last call reports the character that the end cuts off: `InputEmpty` after E2 82 is refuted.
cut_character_is_reported : (t : IndexLists) (v v' : DecoderView) (left : RoomLeft) (W : List ℕ → Type 0) → IsNewDecoder v t Keep Encoding.Utf8
    → DecoderCall v v' (0xE2 ∷ 0x82 ∷ []) true 2 W left InputEmpty → ⊥
unfolding pieces_in
cut_character_is_reported t v v' left W new call =
    let all : malformed 2 ∷ [] ≡ call.law.taken ++ v'.state.pieces [] = sym (new.pieces (0xE2 ∷ 0x82 ∷ [])) ∙ call.law.rest [] (λ _. refl) in
    not_all_taken 2 call.law.taken (v'.state.pieces []) [] call.law.well_formed (nothing_is_to_come v' call.ends.1) all

-- A last call that returned `InputEmpty` wrote all text: `A` alone for `AB` is refuted.
written_of : (taken later : List Piece) → later ≡ [] → well_formed 1 (0x41 ∷ []) ∷ well_formed 1 (0x42 ∷ []) ∷ [] ≡ taken ++ later → scalars taken ≡ 0x41 ∷ [] → ⊥
written_of taken later none all text = let same : taken ≡ well_formed 1 (0x41 ∷ []) ∷ well_formed 1 (0x42 ∷ []) ∷ [] = sym (append-nil taken) ∙ ap (λ l. taken ++ l) (sym none) ∙ sym all in
    let both = ap length (ap scalars (sym same) ∙ text) in omega (arith, both)

no_text_is_dropped : (t : IndexLists) (v v' : DecoderView) (left : RoomLeft) → IsNewDecoder v t Keep Encoding.Utf8
    → DecoderCall v v' (0x41 ∷ 0x42 ∷ []) true 2 (λ text. text ≡ 0x41 ∷ []) left InputEmpty → ⊥
unfolding pieces_in
no_text_is_dropped t v v' left new call =
    let all : well_formed 1 (0x41 ∷ []) ∷ well_formed 1 (0x42 ∷ []) ∷ [] ≡ call.law.taken ++ v'.state.pieces [] = sym (new.pieces (0x41 ∷ 0x42 ∷ [])) ∙ call.law.rest [] (λ _. refl) in
    written_of call.law.taken (v'.state.pieces []) (nothing_is_to_come v' call.ends.1) all call.law.writes

-- Bytes stay pending only while they decide nothing: a call that read C3 A9 and did not write `é` is refuted.
first_of_letter : (r : List ℕ) → head_piece (pieces_utf8 (0xC3 ∷ 0xA9 ∷ r)) ≡ Some (well_formed 2 (0xE9 ∷ []))
unfolding pieces_in
first_of_letter r = refl

held_letter : (taken : List Piece) (later : List ℕ → List Piece) (pending : ℕ) → ((r : List ℕ) → pieces_utf8 (0xC3 ∷ 0xA9 ∷ r) ≡ taken ++ later r) → scalars taken ≡ []
    → 2 ≡ sizes taken + pending → ((pending ≡ 0) × (later [] ≡ [])) ⊎ ((false ≡ false) × Waits later pending) → ⊥
held_letter [] later pending all none counted (inl over) = omega (arith, counted, over.0)
held_letter [] later pending all none counted (inr waits) = let more = waits.1.undecided.more in
    waits.1.undecided.differs (ap head_piece (sym (all [])) ∙ first_of_letter [] ∙ sym (first_of_letter more) ∙ ap head_piece (all more))
held_letter (p ∷ taken) later pending all none counted waits = let first : Some p ≡ Some (well_formed 2 (0xE9 ∷ [])) = sym (ap head_piece (all [])) ∙ first_of_letter [] in
    let letter : p ≡ well_formed 2 (0xE9 ∷ []) = cc in
    let text : 0xE9 ∷ scalars taken ≡ [] = subst (λ q. scalars (q ∷ taken) ≡ []) letter none in cc

false_is_not_true : IsTrue false → ⊥
false_is_not_true last = cc

decided_bytes_are_not_held : (t : IndexLists) (v v' : DecoderView) (left : RoomLeft) → IsNewDecoder v t Keep Encoding.Utf8
    → DecoderCall v v' (0xC3 ∷ 0xA9 ∷ []) false 2 (λ text. text ≡ []) left InputEmpty → ⊥
decided_bytes_are_not_held t v v' left new call = held_letter call.law.taken v'.state.pieces v'.state.pending
    (λ r. sym (new.pieces (0xC3 ∷ 0xA9 ∷ r)) ∙ call.law.rest r (λ last. absurd (false_is_not_true last))) call.law.writes (omega (arith, call.law.counted, new.pending)) call.ends.1

-- A buffer of the queried size is enough: `OutputFull` with 9 bytes for 3 bytes of windows-1252 is refuted.
asked_room_is_enough : (t : IndexLists) (v : DecoderView) → IsNewDecoder v t Keep Encoding.Windows1252 → IfRoomAsked v Bytes 3 9 (OutputFull ≢ OutputFull) → ⊥
asked_room_is_enough t v new enough = enough 9 (ap (λ o. room_asked o Bytes 3) new.opening) (omega arith) refl

-- A decoder has ended after a last call that returned `InputEmpty`, and only then.
ends_with_the_last_call : (v v' : DecoderView) (src : List ℕ) (read : ℕ) (left : RoomLeft) (W : List ℕ → Type 0) → v'.finished ≡ false → DecoderCall v v' src true read W left InputEmpty → ⊥
ends_with_the_last_call v v' src read left W open_ call = let over : v'.finished ≡ true = call.finished in cc

more_may_follow : (v v' : DecoderView) (src : List ℕ) (read : ℕ) (left : RoomLeft) (W : List ℕ → Type 0) → v'.finished ≡ true → DecoderCall v v' src false read W left InputEmpty → ⊥
more_may_follow v v' src read left W over call = let open_ : v'.finished ≡ false = call.finished in cc

-- After the mark of UTF-8 the encoding is UTF-8: the one that the decoder was made for is refuted.
mark_decides_the_encoding : (t : IndexLists) (v v' : DecoderView) (left : RoomLeft) (W : List ℕ → Type 0) → IsNewDecoder v t Sniff Encoding.Windows1252
    → v'.source [] ≡ Encoding.Windows1252 → DecoderCall v v' (0xEF ∷ 0xBB ∷ 0xBF ∷ []) false 3 W left InputEmpty → ⊥
mark_decides_the_encoding t v v' left W new stays call =
    let same : v.source (0xEF ∷ 0xBB ∷ 0xBF ∷ []) ≡ v'.source [] = call.source [] (λ _. refl) in
    let utf8 : v.source (0xEF ∷ 0xBB ∷ 0xBF ∷ []) ≡ Encoding.Utf8 = new.source (0xEF ∷ 0xBB ∷ 0xBF ∷ []) in cc

-- A mark that is skipped is no text: U+FEFF is refuted.
marked_text_of : (taken later : List Piece) → later ≡ [] → well_formed 3 [] ∷ [] ≡ taken ++ later → scalars taken ≡ 0xFEFF ∷ [] → ⊥
marked_text_of taken later none all text = let same : taken ≡ well_formed 3 [] ∷ [] = sym (append-nil taken) ∙ ap (λ l. taken ++ l) (sym none) ∙ sym all in
    let empty = ap length (ap scalars (sym same) ∙ text) in omega (arith, empty)

mark_is_no_text : (t : IndexLists) (v v' : DecoderView) (left : RoomLeft) → IsNewDecoder v t Sniff Encoding.Windows1252
    → DecoderCall v v' (0xEF ∷ 0xBB ∷ 0xBF ∷ []) true 3 (λ text. text ≡ 0xFEFF ∷ []) left InputEmpty → ⊥
unfolding pieces_in
mark_is_no_text t v v' left new call =
    let all : well_formed 3 [] ∷ [] ≡ call.law.taken ++ v'.state.pieces [] = sym (new.pieces (0xEF ∷ 0xBB ∷ 0xBF ∷ [])) ∙ call.law.rest [] (λ _. refl) in
    marked_text_of call.law.taken (v'.state.pieces []) (nothing_is_to_come v' call.ends.1) all call.law.writes

-- The bytes of a mark count once: a decoder with EF BB pending, which still has two bytes pending after it read BF, is
-- refuted.
mark_counts_once_in : (taken later : List Piece) → well_formed 3 [] ∷ [] ≡ taken ++ later → sizes taken ≡ 1 → ⊥
mark_counts_once_in [] later all size = omega (arith, size)
mark_counts_once_in (p ∷ taken) later all size = let mark : p ≡ well_formed 3 [] = cc in omega (arith, subst (λ q. sizes (q ∷ taken) ≡ 1) mark size)

mark_counts_once : (t : IndexLists) (v v' : DecoderView) (left : RoomLeft) (W : List ℕ → Type 0)
    → ((x : List ℕ) → v.state.pieces x ≡ marked_pieces t Sniff Encoding.Windows1252 (0xEF ∷ 0xBB ∷ x)) → v.state.pending ≡ 2 → v'.state.pending ≡ 2
    → DecoderCall v v' (0xBF ∷ []) false 1 W left InputEmpty → ⊥
unfolding pieces_in
mark_counts_once t v v' left W held two still call =
    let all : well_formed 3 [] ∷ [] ≡ call.law.taken ++ v'.state.pieces [] = sym (held (0xBF ∷ [])) ∙ call.law.rest [] (λ _. refl) in
    mark_counts_once_in call.law.taken (v'.state.pieces []) all (omega (arith, call.law.counted, two, still))

-- With replacement, a malformed sequence gives one U+FFFD, and the call returns whether there was one. `false` after
-- one, `true` without one, and a U+FFFD for each byte are refuted.
all_taken : (taken later ps : List Piece) → later ≡ [] → ps ≡ taken ++ later → taken ≡ ps
all_taken taken later ps none all = sym (append-nil taken) ∙ ap (λ l. taken ++ l) (sym none) ∙ sym all

error_is_returned : (t : IndexLists) (v v' : DecoderView) (left : RoomLeft) (W : List ℕ → Type 0) → IsNewDecoder v t Keep Encoding.Utf8
    → TextCall v v' (0xFF ∷ []) true 1 W left CoderResult.InputEmpty false → ⊥
unfolding pieces_in
error_is_returned t v v' left W new call =
    let all : malformed 1 ∷ [] ≡ call.law.taken ++ v'.state.pieces [] = sym (new.pieces (0xFF ∷ [])) ∙ call.law.rest [] (λ _. refl) in
    let same : call.law.taken ≡ malformed 1 ∷ [] = all_taken call.law.taken (v'.state.pieces []) _ (nothing_is_to_come v' call.ends.1) all in
    false_is_not_true (call.law.had.1 (rw same (omega arith)))

no_error_is_made_up : (t : IndexLists) (v v' : DecoderView) (left : RoomLeft) (W : List ℕ → Type 0) → IsNewDecoder v t Keep Encoding.Utf8
    → TextCall v v' (0x41 ∷ []) true 1 W left CoderResult.InputEmpty true → ⊥
unfolding pieces_in
no_error_is_made_up t v v' left W new call =
    let all : well_formed 1 (0x41 ∷ []) ∷ [] ≡ call.law.taken ++ v'.state.pieces [] = sym (new.pieces (0x41 ∷ [])) ∙ call.law.rest [] (λ _. refl) in
    let same : call.law.taken ≡ well_formed 1 (0x41 ∷ []) ∷ [] = all_taken call.law.taken (v'.state.pieces []) _ (nothing_is_to_come v' call.ends.1) all in
    omega (arith, rw same at (call.law.had.0 refl))

one_replacement_for_two_bytes : (t : IndexLists) (v v' : DecoderView) (had : Bool) (left : RoomLeft) → IsNewDecoder v t Keep Encoding.Utf8
    → TextCall v v' (0xE2 ∷ 0x82 ∷ []) true 2 (λ text. text ≡ 0xFFFD ∷ 0xFFFD ∷ []) left CoderResult.InputEmpty had → ⊥
unfolding pieces_in
one_replacement_for_two_bytes t v v' had left new call =
    let all : malformed 2 ∷ [] ≡ call.law.taken ++ v'.state.pieces [] = sym (new.pieces (0xE2 ∷ 0x82 ∷ [])) ∙ call.law.rest [] (λ _. refl) in
    let same : call.law.taken ≡ malformed 2 ∷ [] = all_taken call.law.taken (v'.state.pieces []) _ (nothing_is_to_come v' call.ends.1) all in
    omega (arith, ap length (ap text (sym same) ∙ call.law.writes))

-- A decoder that keeps marks decodes them as text, and one that looks for marks knows that of UTF-16LE: a mark that is
-- skipped, and one that is not seen, are refuted.
kept_mark_is_text : (t : IndexLists) (v : DecoderView) → v.state.pieces (0xEF ∷ 0xBB ∷ 0xBF ∷ []) ≡ well_formed 3 [] ∷ [] → IsNewDecoder v t Keep Encoding.Utf8 → ⊥
unfolding pieces_in
kept_mark_is_text t v taken new = let text : v.state.pieces (0xEF ∷ 0xBB ∷ 0xBF ∷ []) ≡ well_formed 3 (0xFEFF ∷ []) ∷ [] = new.pieces (0xEF ∷ 0xBB ∷ 0xBF ∷ []) in cc

mark_of_utf_16le_is_known : (t : IndexLists) (v : DecoderView) → v.source (0xFF ∷ 0xFE ∷ []) ≡ Encoding.Utf8 → IsNewDecoder v t Sniff Encoding.Utf8 → ⊥
mark_of_utf_16le_is_known t v stays new = let units : v.source (0xFF ∷ 0xFE ∷ []) ≡ Encoding.Utf16Le = new.source (0xFF ∷ 0xFE ∷ []) in cc
