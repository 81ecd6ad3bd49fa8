-- Worked rows of `specs/calls/Turns.antt`.
use Rattle.std.specs.Prelude.{◌≡◌, [], ◌∷◌, ◌++◌, None, Some, false, refl, true}
use Rattle.encoding_mem.specs.Piece.{malformed, well_formed}
use Rattle.encoding_mem.specs.declared.codec.decoder_result.DecoderResult.TheVariants as decoded
use Rattle.recode.specs.calls.Turns.{due_calls, end_count, is_last_text, pieces_of_text, reported, settled, spare_calls, stop_count, waits}
use Rattle.recode.specs.declared.converter.ConverterResult.TheVariants.{InputEmpty, OutputFull}

-- `A` and the euro sign wait, a byte each, and after them a malformed sequence of two bytes
what_waits : pieces_of_text (0x41 ∷ 0x20AC ∷ []) ++ reported (Some (decoded.Malformed 2 0)) ≡ well_formed 1 (0x41 ∷ []) ∷ well_formed 1 (0x20AC ∷ []) ∷ malformed 2 ∷ []
what_waits = refl

-- the decoder is to be called
spare_before : spare_calls None ≡ 1
spare_before = refl

due_before : due_calls None ≡ 1
due_before = refl

-- text waits, after which it is called again: the encoder's call, the one that reads back, and the decoder's
spare_of_text : spare_calls (Some decoded.OutputFull) ≡ 3
spare_of_text = refl

-- of these one may not come, if nothing is read back
due_of_text : due_calls (Some decoded.OutputFull) ≡ 2
due_of_text = refl

-- text waits before a malformed sequence, whose U+FFFD is encoded by a call of its own
spare_of_malformed : spare_calls (Some (decoded.Malformed 2 1)) ≡ 3
spare_of_malformed = refl

due_of_malformed : due_calls (Some (decoded.Malformed 2 1)) ≡ 3
due_of_malformed = refl

-- text waits, after which all is read: its calls are counted where it ends
spare_at_end : spare_calls (Some decoded.InputEmpty) ≡ 0
spare_at_end = refl

due_at_end : due_calls (Some decoded.InputEmpty) ≡ 0
due_at_end = refl

ends_once : end_count InputEmpty ≡ 1
ends_once = refl

ends_later : end_count OutputFull ≡ 0
ends_later = refl

goes_on : stop_count None ≡ 0
goes_on = refl

one_text_waits : waits (Some decoded.OutputFull) ≡ 1
one_text_waits = refl

none_waits : waits None ≡ 0
none_waits = refl

-- text that was the last of the bytes so far: it is the last of all, or the decoder is asked again after it
last_of_all : is_last_text (Some decoded.InputEmpty) true ≡ true
last_of_all = refl

last_so_far : settled (Some decoded.InputEmpty) false ≡ Some decoded.OutputFull
last_so_far = refl

kept_at_end : settled (Some decoded.InputEmpty) true ≡ Some decoded.InputEmpty
kept_at_end = refl
