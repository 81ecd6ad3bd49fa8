-- What an encoder has to write for a text (the Encoding Standard, section 4.1, "encoder").
use Rattle.std.specs.Prelude.{◌≡◌, ℕ, ◌+◌, ◌≤◌, List, [], ◌∷◌, ◌++◌, length, codes, true, Option, None, Some}
use Rattle.std.specs.Fmt.{decimal, digits}
use Rattle.encoding_mem.specs.declared.codec.form.Form.{Form}
use Rattle.encoding_mem.specs.declared.codec.form.Form.TheVariants.{Mapped, Unmapped}
use Rattle.encoding_mem.specs.declared.codec.reference.Reference.{Reference}
use Rattle.encoding_mem.specs.declared.codec.reference.Reference.TheVariants.{Decimal, Hexadecimal}
use Rattle.encoding_mem.specs.declared.codec.form.EscapeState.{EscapeState}
use Rattle.encoding_mem.specs.declared.codec.form.EscapeState.TheVariants.{Ascii}

-- What an encoder makes of text: the form of each scalar (its bytes, or that it has none), the set
-- that it is written in after the set in force, and the escape between two sets.
pub record Coding : Type 0 where
  pub form : ℕ → Form
  pub set : EscapeState → ℕ → EscapeState
  pub escape : EscapeState → EscapeState → List ℕ

-- the form of a character: given bytes, or, if there are none, that it is unmappable, reported as
-- itself
abbrev pub form_of_bytes : ℕ → Option (List ℕ) → Form
form_of_bytes c None = Unmapped c
form_of_bytes c (Some bs) = Mapped bs

-- a scalar's numeric character reference: `&#`, decimal digits and `;`, or `&#x`, hexadecimal
-- digits in upper case and `;`
abbrev pub reference_bytes : Reference → ℕ → List ℕ
reference_bytes Decimal c = codes "&#" ++ (decimal c ++ codes ";")
reference_bytes Hexadecimal c = codes "&#x" ++ (digits 16 true c ++ codes ";")

-- the bytes of a form: none if its character is unmappable
abbrev pub mapped_bytes : Form → List ℕ
mapped_bytes (Mapped bs) = bs
mapped_bytes (Unmapped c) = []

-- what is written for a form: its bytes, or a numeric character reference if it has none
abbrev pub spelled : Reference → Form → List ℕ
spelled ref (Mapped bs) = bs
spelled ref (Unmapped c) = reference_bytes ref c

-- what is written for a text, from a set in force on, if more may follow: for each scalar its
-- escape, then its bytes, or its reference if it has none
abbrev pub open_from : Reference → Coding → EscapeState → List ℕ → List ℕ
open_from ref e s [] = []
open_from ref e s (c ∷ t) = e.escape s (e.set s c) ++ (spelled ref (e.form c) ++ open_from ref e (e.set s c) t)

-- the set in force after a text is written, by the set in force before it
abbrev pub last_set : Coding → EscapeState → List ℕ → EscapeState
last_set e s [] = s
last_set e s (c ∷ t) = last_set e (e.set s c) t

-- what is written for a text, from a set in force on, if it is the last: for each scalar its
-- escape, then its bytes or its reference, and at last the escape to ASCII
abbrev pub whole_from : Reference → Coding → EscapeState → List ℕ → List ℕ
whole_from ref e s t = open_from ref e s t ++ e.escape (last_set e s t) Ascii

-- the whole output for a text: what is written for it from ASCII on, and the escape back to ASCII
abbrev pub output : Reference → Coding → List ℕ → List ℕ
output ref e t = whole_from ref e Ascii t

-- what is written for a text, from a set in force on, without references: for each scalar its
-- escape, then its bytes, if it has some
abbrev pub bytes_from : Coding → EscapeState → List ℕ → List ℕ
bytes_from e s [] = []
bytes_from e s (c ∷ t) = e.escape s (e.set s c) ++ (mapped_bytes (e.form c) ++ bytes_from e (e.set s c) t)

-- a form has bytes: the target can write its character
abbrev pub IsMapped : Form → Type 0
IsMapped (Mapped bs) = Unit {0}
IsMapped (Unmapped c) = ⊥

-- each scalar of a text has bytes in the target
abbrev pub AllMapped : Coding → List ℕ → Type 0
AllMapped e [] = Unit {0}
AllMapped e (c ∷ t) = IsMapped (e.form c) × AllMapped e t

-- 1 for a form without bytes, else 0
abbrev pub unmapped_count : Form → ℕ
unmapped_count (Mapped bs) = 0
unmapped_count (Unmapped c) = 1

-- how many characters of a text have no bytes in the target
abbrev pub lost_count : Coding → List ℕ → ℕ
lost_count e [] = 0
lost_count e (c ∷ t) = unmapped_count (e.form c) + lost_count e t

-- a form has no more bytes than a target's need
pub record FitsNeed (need : ℕ) (f : Form) : Type 0 where
  pub short : length (mapped_bytes f) ≤ need

-- A target is sound: a scalar that comes twice stays in its set, the escape from a set to itself
-- has no bytes, and no form or escape has more bytes than the need, which is at most 4.
pub record IsCoding (need : ℕ) (e : Coding) : Type 0 where
  pub stays : (s : EscapeState) (c : ℕ) → e.set (e.set s c) c ≡ e.set s c
  pub same : (s : EscapeState) → e.escape s s ≡ []
  pub short : (c : ℕ) → FitsNeed need (e.form c)
  pub escape_short : (s s' : EscapeState) → length (e.escape s s') ≤ need
  pub few : need ≤ 4
