-- Worked rows of the destinations of a call of a decoder, and of the room that it leaves
-- (`specs/calls/DecoderCall.antt`).
use Rattle.std.proofs.Common.{◌≡◌, ℕ, ◌<◌, ◌≤◌, Bool, true, false, List, [], ◌∷◌, refl, arith}
use Rattle.encoding_mem.specs.declared.codec.decoder_result.DecoderResult.{DecoderResult}
use Rattle.encoding_mem.specs.declared.codec.decoder_result.DecoderResult.TheVariants.{Malformed}
use Rattle.encoding_front.specs.calls.DecoderCall.{DecoderCall, HasText, TextCall, buffer, free_bytes, free_in_sink, free_units, grown_string, text_buffer}
use Rattle.encoding_front.specs.calls.Stream.{DecoderView}
use Rattle.encoding_front.specs.declared.coder_result.CoderResult.{CoderResult}
use Rattle.std.specs.Prelude.{encode_utf8_all}

-- U+00E9 is C3 A9 at the end of a string
grown : HasText (grown_string (0x41 ∷ []) (0x41 ∷ 0xC3 ∷ 0xA9 ∷ [])) (0xE9 ∷ [])
unfolding lib.Utf8.encode
grown = refl

not_in_its_place : ¬ (HasText (grown_string (0x41 ∷ []) (0xC3 ∷ 0xA9 ∷ [])) (0xE9 ∷ []))
not_in_its_place is = cc

-- at the start of a buffer, of which no more changes
in_a_buffer : HasText (buffer encode_utf8_all (0x41 ∷ 0x42 ∷ 0x43 ∷ []) (0xC3 ∷ 0xA9 ∷ 0x43 ∷ []) 2) (0xE9 ∷ [])
unfolding lib.Utf8.encode
in_a_buffer = record { counted = refl; within = omega arith; list = refl }

-- and of a text, of which what is left of a character becomes 00
in_a_text : HasText (text_buffer (0xC3 ∷ 0xA9 ∷ []) (0x41 ∷ 0x00 ∷ []) 1) (0x41 ∷ [])
unfolding lib.Utf8.encode
in_a_text = record { counted = refl; within = omega arith; list = refl }

-- A call into bytes that ends for lack of room leaves fewer than four free; at a malformed sequence, three or more.
fewer_than_four_bytes : (before after : DecoderView) (src : List ℕ) (last : Bool) (read free : ℕ) (W : List ℕ → Type 0)
    → DecoderCall before after src last read W (free_bytes free) DecoderResult.OutputFull → free < 4
fewer_than_four_bytes before after src last read free W call = call.ends.0

three_bytes_of_replacement : (before after : DecoderView) (src : List ℕ) (last : Bool) (read free a b : ℕ) (W : List ℕ → Type 0)
    → DecoderCall before after src last read W (free_bytes free) (Malformed a b) → 3 ≤ free
three_bytes_of_replacement before after src last read free a b W call = call.ends

-- into units, fewer than two, and one or more
fewer_than_two_units : (before after : DecoderView) (src : List ℕ) (last : Bool) (read free : ℕ) (W : List ℕ → Type 0)
    → DecoderCall before after src last read W (free_units free) DecoderResult.OutputFull → free < 2
fewer_than_two_units before after src last read free W call = call.ends.0

one_unit_of_replacement : (before after : DecoderView) (src : List ℕ) (last : Bool) (read free a b : ℕ) (W : List ℕ → Type 0)
    → DecoderCall before after src last read W (free_units free) (Malformed a b) → 1 ≤ free
one_unit_of_replacement before after src last read free a b W call = call.ends

-- also if U+FFFD is written for each malformed sequence
fewer_than_four_bytes_of_text : (before after : DecoderView) (src : List ℕ) (last had : Bool) (read free : ℕ) (W : List ℕ → Type 0)
    → TextCall before after src last read W (free_bytes free) CoderResult.OutputFull had → free < 4
fewer_than_four_bytes_of_text before after src last had read free W call = call.ends.0

fewer_than_two_units_of_text : (before after : DecoderView) (src : List ℕ) (last had : Bool) (read free : ℕ) (W : List ℕ → Type 0)
    → TextCall before after src last read W (free_units free) CoderResult.OutputFull had → free < 2
fewer_than_two_units_of_text before after src last had read free W call = call.ends.0

-- what is free in any destination is counted in its units
bytes_are_free : free_in_sink false 3 ≡ free_bytes 3
bytes_are_free = refl

units_are_free : free_in_sink true 3 ≡ free_units 3
units_are_free = refl
