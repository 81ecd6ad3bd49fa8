-- The modes of ISO-2022-JP by number, as they are saved.
use Rattle.std.specs.Prelude.{ℕ, ◌==◌, List, if◌then◌else◌}
use Rattle.encoding_mem.specs.calls.DecodedLength.{decoded_length, decoded_length_multibyte}
use Rattle.encoding_mem.specs.calls.Resuming.{Reading, reading_after}
use Rattle.encoding_codecs.specs.Iso2022Jp.{pieces_in_mode}
use Rattle.encoding_codecs.specs.declared.iso_2022_jp_decoder.Mode.{Mode}
use Rattle.encoding_codecs.specs.declared.iso_2022_jp_decoder.Mode.TheVariants.{Ascii, Roman, Katakana, Jis}

-- the mode of ISO-2022-JP that has a number: ASCII, if no other has it
abbrev pub mode_at : ℕ → Mode
mode_at n = if n == 1 then Roman else (if n == 2 then Katakana else (if n == 3 then Jis else Ascii))

-- how the bytes to come are read in ISO-2022-JP, by index jis0208, if a mode, by its number, and
-- pending bytes are resumed
abbrev pub resumed_iso_2022_jp : List ℕ → ℕ → List ℕ → Reading
resumed_iso_2022_jp jis0208 number pending =
    reading_after (pieces_in_mode jis0208 (mode_at number)) (decoded_length decoded_length_multibyte) decoded_length_multibyte pending
