-- Worked rows of `specs/calls/Slices.antt`.
use Rattle.std.specs.Prelude.{◌≡◌, [], ◌∷◌, refl}
use Rattle.encoding_mem.specs.Pieces.{pieces_in}
use Rattle.encoding_mem.specs.Utf8.{pieces_utf8}
use Rattle.recode.specs.calls.Slices.{piece_bytes}

-- `Aé`, and a byte that begins nothing
of_text : piece_bytes (pieces_utf8 (0x41 ∷ 0xC3 ∷ 0xA9 ∷ 0x80 ∷ [])) (0x41 ∷ 0xC3 ∷ 0xA9 ∷ 0x80 ∷ []) ≡ (0x41 ∷ []) ∷ (0xC3 ∷ 0xA9 ∷ []) ∷ (0x80 ∷ []) ∷ []
unfolding pieces_in
of_text = refl
