-- A small target with three sets, for examples and tests: a yen sign is 5C in Roman, あ is 24 22 in JIS, ASCII is
-- itself in ASCII or Roman, and the rest has no bytes and is referred to in ASCII or Roman.
use Rattle.std.specs.Prelude.{ℕ, List, [], ◌∷◌, nat_lt, nat_eq, if◌then◌else◌}
use Rattle.encoding_mem.specs.Coding.{Coding}
use Rattle.encoding_mem.specs.calls.DecodedLength.{linear_bound}
use Rattle.encoding_mem.specs.declared.codec.room.EncodedLength.{EncodedLength}
use Rattle.encoding_mem.specs.declared.codec.form.Form.{Form}
use Rattle.encoding_mem.specs.declared.codec.form.Form.TheVariants.{Mapped, Unmapped}
use Rattle.encoding_mem.specs.declared.codec.form.EscapeState.{EscapeState}
use Rattle.encoding_mem.specs.declared.codec.form.EscapeState.TheVariants.{Ascii, Roman, Jis}

-- out of JIS to ASCII
abbrev pub out_of_jis : EscapeState → EscapeState
out_of_jis Ascii = Ascii
out_of_jis Roman = Roman
out_of_jis Jis = Ascii

abbrev pub sample_escape_to : EscapeState → List ℕ
sample_escape_to Ascii = 0x1B ∷ 0x28 ∷ 0x42 ∷ []
sample_escape_to Roman = 0x1B ∷ 0x28 ∷ 0x4A ∷ []
sample_escape_to Jis = 0x1B ∷ 0x24 ∷ 0x42 ∷ []

abbrev pub escape_between : EscapeState → EscapeState → List ℕ
escape_between Ascii Ascii = []
escape_between Roman Roman = []
escape_between Jis Jis = []
escape_between s s' = sample_escape_to s'

abbrev pub sample_form : ℕ → Form
sample_form c = if nat_lt c 0x80 then Mapped (c ∷ []) else if nat_eq c 0xA5 then Mapped (0x5C ∷ [])
    else if nat_eq c 0x3042 then Mapped (0x24 ∷ 0x22 ∷ []) else Unmapped c

abbrev pub sample_set : EscapeState → ℕ → EscapeState
sample_set s c = if nat_eq c 0xA5 then Roman else if nat_eq c 0x3042 then Jis else out_of_jis s

-- more room than is needed
abbrev pub sample_room : EncodedLength
sample_room = record { units = linear_bound 6 3; bytes = linear_bound 6 3 }

abbrev pub sample_coding : Coding
sample_coding = record { form = sample_form; set = sample_set; escape = escape_between }
