-- Worked rows of `specs/ReadBack.antt`.
use Rattle.std.proofs.Common.{[], ◌∷◌, length, refl, ap, arith}
use Rattle.encoding_mem.specs.Pieces.{pieces_in}
use Rattle.encoding_mem.specs.ReadBack.{ReadsAs, ReadsBackExactly}
use Rattle.encoding_mem.specs.declared.codec.reference.Reference.TheVariants.{Decimal}
use Rattle.encoding_mem.specs.examples.SampleCoding.{sample_coding}
use Rattle.encoding_mem.specs.Utf8.{pieces_utf8}

-- `Aé` is read as its two characters
letters_are_read : ReadsAs pieces_utf8 (0x41 ∷ 0xC3 ∷ 0xA9 ∷ []) (0x41 ∷ 0xE9 ∷ [])
unfolding pieces_in
letters_are_read = record { well_formed = (tt, (tt, tt)); same = refl }

-- a malformed sequence is not read as U+FFFD, though that is its text
malformed_is_not_read : ¬ (ReadsAs pieces_utf8 (0xFF ∷ []) (0xFFFD ∷ []))
unfolding pieces_in
malformed_is_not_read reads = reads.well_formed.0

-- A target is said to read back exactly only by its own decoder: the sample target, read as UTF-8, is refuted, since an
-- escape and `\` stand for `¥`.
escape_is_no_text : ¬ (ReadsBackExactly pieces_utf8 sample_coding)
unfolding pieces_in
escape_is_no_text exact = omega (arith, ap length ((exact Decimal (0xA5 ∷ []) refl).1 (tt, tt)).same)
