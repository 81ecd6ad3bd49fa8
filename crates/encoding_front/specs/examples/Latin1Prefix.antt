-- Worked rows of `specs/calls/Latin1Prefix.antt`, and of `TellsLatin1Prefix` of `specs/calls/Stream.antt`.
use Rattle.std.proofs.Common.{◌≡◌, ℕ, zero, suc, ◌<◌, true, false, Some, List, [], ◌∷◌, refl, ap, arith}
use Rattle.std.specs.Prelude.{slice_index}
use Rattle.encoding_mem.specs.Piece.{Piece}
use Rattle.encoding_tables.specs.IndexLists.{IndexLists}
use Rattle.encoding_front.specs.declared.encoding.Encoding.{Encoding}
use Rattle.encoding_front.specs.declared.mark.Mark.TheVariants.{Sniff}
use Rattle.encoding_front.specs.calls.Seeking.{is_sought}
use Rattle.encoding_front.specs.calls.Stream.{DecoderView, IsNewDecoder, Opening, TellsLatin1Prefix}
use Rattle.encoding_front.specs.calls.Latin1Prefix.{IsLatin1Prefix, latin1_rule, by_index, by_mode, by_ascii, untold}

of_windows_1252 : latin1_rule Encoding.Windows1252 ≡ by_index
of_windows_1252 = refl

of_iso_2022_jp : latin1_rule Encoding.Iso2022Jp ≡ by_mode
of_iso_2022_jp = refl

of_utf_8 : latin1_rule Encoding.Utf8 ≡ by_ascii
of_utf_8 = refl

of_user_defined : latin1_rule Encoding.XUserDefined ≡ by_ascii
of_user_defined = refl

of_utf_16 : latin1_rule Encoding.Utf16Le ≡ untold
of_utf_16 = refl

of_replacement : latin1_rule Encoding.Replacement ≡ untold
of_replacement = refl

-- While a byte order mark can still come, the length of the prefix is unknown: a number is refuted.
mark_can_come : (t : IndexLists) (v : DecoderView) (bytes : List ℕ) (n : ℕ) → IsNewDecoder v t Sniff Encoding.Utf8 → TellsLatin1Prefix v bytes (Some n) → ⊥
mark_can_come t v bytes n new tells = let sought : is_sought v.opening.sought ≡ true = ap (λ (o : Opening). is_sought o.sought) new.opening in
    let none : is_sought v.opening.sought ≡ false = tells.0.0 in cc

-- The prefix ends before the first byte that is not ASCII: 0 and 2 for `Aé` are refuted.
ascii_letter : (i : ℕ) → slice_index (0x41 ∷ []) i < 128
ascii_letter zero = omega arith
ascii_letter (suc i) = omega arith

none_of_letter : (pieces : List ℕ → List Piece) → IsLatin1Prefix by_ascii pieces (0x41 ∷ 0xC3 ∷ 0xA9 ∷ []) 0 → ⊥
none_of_letter pieces prefix = prefix.longest 1 (omega arith) (omega arith) ascii_letter

accent_is_not_ascii : (pieces : List ℕ → List Piece) → IsLatin1Prefix by_ascii pieces (0x41 ∷ 0xC3 ∷ 0xA9 ∷ []) 2 → ⊥
accent_is_not_ascii pieces prefix = omega (arith, prefix.well_formed 1)
