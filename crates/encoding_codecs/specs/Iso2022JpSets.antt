-- The sets of ISO-2022-JP as modes of its decoder.
use Rattle.std.specs.Prelude.{ℕ, List}
use Rattle.encoding_mem.specs.Piece.{Piece}
use Rattle.encoding_mem.specs.declared.codec.form.EscapeState.{EscapeState}
use Rattle.encoding_mem.specs.declared.codec.form.EscapeState.TheVariants.{Ascii, Roman, Jis}
use Rattle.encoding_codecs.specs.Iso2022Jp.{ascii_mode, roman_mode, jis_mode, pieces_in_mode}
use Rattle.encoding_codecs.specs.declared.iso_2022_jp_decoder.Mode.{Mode}

-- the mode of a decoder of ISO-2022-JP to which the escape to an encoder's set switches
abbrev pub mode_of : EscapeState → Mode
mode_of Ascii = ascii_mode
mode_of Roman = roman_mode
mode_of Jis = jis_mode

-- the pieces of bytes of ISO-2022-JP that are read from the mode of an encoder's set on
abbrev pub pieces_from_set : List ℕ → EscapeState → List ℕ → List Piece
pieces_from_set jis0208 s x = pieces_in_mode jis0208 (mode_of s) x
