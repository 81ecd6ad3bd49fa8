-- What an encoder's calls write, read back as it is written: the decoder has decided all of it, but for one last escape
-- to the set in force.
use Rattle.std.specs.Prelude.{◌≡◌, ◌≢◌, ◌↔◌, ℕ, ◌⊎◌, Bool, true, IsTrue, List, [], ◌++◌}
use Rattle.std.specs.Bool.{MatchBool}
use Rattle.std.specs.Str.{all_scalars}
use Rattle.encoding_mem.specs.Agreement.{ReadsByStep}
use Rattle.encoding_mem.specs.Piece.{Piece, text, AreWellFormed}
use Rattle.encoding_mem.specs.Coding.{Coding, IsCoding, reference_bytes, whole_from}
use Rattle.encoding_mem.specs.calls.EncoderCalls.{Encodes, IsSetOfNext}
use Rattle.encoding_mem.specs.ReadBack.{ReadsAs}
use Rattle.encoding_mem.specs.Steps.{IsBroken}
use Rattle.encoding_mem.specs.declared.codec.reference.Reference.{Reference}
use Rattle.encoding_mem.specs.declared.codec.form.EscapeState.{EscapeState}
use Rattle.encoding_mem.specs.declared.codec.encoder_result.EncoderResult.{EncoderResult}
use Rattle.encoding_mem.specs.declared.codec.encoder_result.EncoderResult.TheVariants.{InputEmpty, OutputFull, Unmappable}
use Rattle.encoding_mem.specs.Decided.{IsUndecided}

-- what a decoder in one set makes of the escape from it to another and the bytes after the escape
abbrev pub behind_escape : Coding → (EscapeState → List ℕ → List Piece) → (s s' : EscapeState) → List ℕ → List Piece
behind_escape e pieces_from s s' bytes = pieces_from s (e.escape s s' ++ bytes)

-- A decoder reads along with an encoder: it has decided all that was written, but for an escape to
-- the set in force, either from that set itself or for the next character of the text.
pub record ReadsAlong (e : Coding) (pieces_from : EscapeState → List ℕ → List Piece) (pieces : List ℕ → List Piece) (s' : EscapeState) (t : List ℕ) : Type 0 where
  pub decided : EscapeState
  pub next : (s' ≡ decided) ⊎ IsSetOfNext e decided t s'
  pub same : (bytes : List ℕ) → pieces bytes ≡ behind_escape e pieces_from decided s' bytes

-- what is pending in a decoder decides no piece: it has none, or more bytes change the first
abbrev pub DecidesNothing : (List ℕ → List Piece) → Type 0
DecidesNothing pieces = (pieces [] ≡ []) ⊎ IsUndecided pieces []

-- Whatever follows some bytes, they begin with well-formed pieces of a given text; what is pending
-- after the pieces decides none (`DecidesNothing`), and a given statement holds of it.
pub record IsReadUpTo (pieces : List ℕ → List Piece) (bytes t : List ℕ) (Holds : (List ℕ → List Piece) → Type 0) : Type 0 where
  pub taken : List Piece
  pub behind : List ℕ → List Piece
  pub well_formed : AreWellFormed taken
  pub same : text taken ≡ t
  pub rest : (r : List ℕ) → pieces (bytes ++ r) ≡ taken ++ behind r
  pub nothing : DecidesNothing behind
  pub holds : Holds behind

-- after an encoder's call a decoder reads along (`ReadsAlong`), or, if the last call read all,
-- what is pending is well-formed and no text; false, if the call ended at an unmappable character
abbrev pub HoldsAfter : Coding → (EscapeState → List ℕ → List Piece) → Bool → EncoderResult → EscapeState → List ℕ → (List ℕ → List Piece) → Type 0
HoldsAfter e pieces_from last InputEmpty s' rest pieces = MatchBool last (ReadsAs pieces [] []) (ReadsAlong e pieces_from pieces s' rest)
HoldsAfter e pieces_from last OutputFull s' rest pieces = ReadsAlong e pieces_from pieces s' rest
HoldsAfter e pieces_from last (Unmappable m) s' rest pieces = ⊥

-- what an encoder's call wrote for the characters that it read is read as them, but for a last
-- escape, or is broken (`IsBroken`), as it is with the reference of an unmappable character
abbrev pub PrefixIsRead : Coding → (EscapeState → List ℕ → List Piece) → (List ℕ → List Piece) → Bool → EncoderResult → (prefix written : List ℕ) → EscapeState → (rest : List ℕ) → Type 0
PrefixIsRead e pieces_from pieces last (Unmappable m) prefix written s' rest = (ref : Reference) → IsBroken pieces (written ++ reference_bytes ref m) prefix
PrefixIsRead e pieces_from pieces last InputEmpty prefix written s' rest =
    IsReadUpTo pieces written prefix (HoldsAfter e pieces_from last InputEmpty s' rest) ⊎ IsBroken pieces written prefix
PrefixIsRead e pieces_from pieces last OutputFull prefix written s' rest =
    IsReadUpTo pieces written prefix (HoldsAfter e pieces_from last OutputFull s' rest) ⊎ IsBroken pieces written prefix

-- an encoder's call read some characters of a text, all but the rest, and what it wrote for them
-- is read as them, but for a last escape, or is broken (`PrefixIsRead`)
abbrev pub CallIsRead : Coding → (EscapeState → List ℕ → List Piece) → (List ℕ → List Piece) → Bool → EncoderResult → (t written : List ℕ) → EscapeState → (rest : List ℕ) → Type 0
CallIsRead e pieces_from pieces last outcome t written s' rest =
    (prefix : List ℕ) × (t ≡ prefix ++ rest) × PrefixIsRead e pieces_from pieces last outcome prefix written s' rest

-- A call of an encoder on a text of scalars (`Encodes`), for a target that reads back step by step
-- (`ReadsByStep`), beside a decoder that reads along when it begins (`ReadsAlong`).
pub record CallsAlong (e : Coding) (pieces_from : EscapeState → List ℕ → List Piece) (pieces : List ℕ → List Piece) (last : Bool) (outcome : EncoderResult) (s : EscapeState) (t written : List ℕ) (s' : EscapeState) (rest : List ℕ) : Type 0 where
  pub need : ℕ
  pub coding : IsCoding need e
  pub steps : ReadsByStep e pieces_from
  pub scalars : all_scalars t ≡ true
  pub encodes : Encodes e last outcome s t written s' rest
  pub along : ReadsAlong e pieces_from pieces s t

-- a decoder took given pieces from the start of some bytes, whatever follows, and what is then
-- pending decides no piece (`DecidesNothing`)
pub record HasTaken (pieces now : List ℕ → List Piece) (bytes : List ℕ) (taken : List Piece) : Type 0 where
  pub rest : (r : List ℕ) → pieces (bytes ++ r) ≡ taken ++ now r
  pub nothing : DecidesNothing now

-- a call of an encoder did not end at a character without bytes in the target
abbrev pub IsNotUnmappable : EncoderResult → Type 0
IsNotUnmappable outcome = (m : ℕ) → outcome ≢ Unmappable m

-- what is written for a text, from a set on to the escape to ASCII at the end, is read as the text
abbrev pub ReadsWhole : Reference → Coding → (List ℕ → List Piece) → EscapeState → List ℕ → Type 0
ReadsWhole ref e pieces s t = ReadsAs pieces (whole_from ref e s t) t

-- whatever text follows (none, if the call is the last), what is written for a text is read as the text exactly when
-- what is written for the rest that a call leaves is read as the rest
abbrev pub ReadsWholeAs : Coding → Bool → (pieces now : List ℕ → List Piece) → (s : EscapeState) (t : List ℕ) (s' : EscapeState) (rest : List ℕ) → Type 0
ReadsWholeAs e last pieces now s t s' rest =
    (ref : Reference) (u : List ℕ) → (IsTrue last → u ≡ []) → ReadsWhole ref e pieces s (t ++ u) ↔ ReadsWhole ref e now s' (rest ++ u)

-- whatever text follows (none, after the last call), what is written for a text never reads as it
abbrev pub NeverReadsWhole : Coding → Bool → (List ℕ → List Piece) → EscapeState → List ℕ → Type 0
NeverReadsWhole e last pieces s t = (ref : Reference) (u : List ℕ) → (IsTrue last → u ≡ []) → ¬ (ReadsWhole ref e pieces s (t ++ u))

-- The verdict on an encoder's call: if the pieces that a decoder took of its bytes are well-formed and are the
-- characters read, the text is read back exactly when the rest is, and the decoder still reads along (`HoldsAfter`). If
-- not, the text is never read back.
pub record CallVerdict (e : Coding) (pieces_from : EscapeState → List ℕ → List Piece) (pieces now : List ℕ → List Piece) (last : Bool) (outcome : EncoderResult) (s : EscapeState) (t prefix : List ℕ) (taken : List Piece) (s' : EscapeState) (rest : List ℕ) : Type 0 where
  pub along : AreWellFormed taken → text taken ≡ prefix → HoldsAfter e pieces_from last outcome s' rest now
  pub agrees : AreWellFormed taken → text taken ≡ prefix → ReadsWholeAs e last pieces now s t s' rest
  pub differs : ¬ (AreWellFormed taken × (text taken ≡ prefix)) → NeverReadsWhole e last pieces s t

-- some pieces are well-formed, and some characters begin with the pieces' text
abbrev pub AreRead : List Piece → List ℕ → Type 0
AreRead part prefix = AreWellFormed part × ((more : List ℕ) × (prefix ≡ text part ++ more))

-- a decoder took given pieces from the start of some bytes, whatever follows, and has still to
-- read the bytes that are left
pub record HasTakenPart (pieces now : List ℕ → List Piece) (bytes left : List ℕ) (taken : List Piece) : Type 0 where
  pub rest : (r : List ℕ) → pieces (bytes ++ r) ≡ taken ++ now (left ++ r)

-- A verdict so far is kept, whatever text follows (none, if the call is the last): it is true and the text is read back
-- exactly when the new verdict is true and the rest is read back.
abbrev pub KeepsVerdict : Coding → Bool → Bool → (List ℕ → List Piece) → EscapeState → List ℕ → Bool → (List ℕ → List Piece) → EscapeState → List ℕ → Type 0
KeepsVerdict e last verdict pieces s t verdict' now s' rest = (ref : Reference) (u : List ℕ) → (IsTrue last → u ≡ [])
    → (IsTrue verdict × ReadsWhole ref e pieces s (t ++ u)) ↔ (IsTrue verdict' × ReadsWhole ref e now s' (rest ++ u))
