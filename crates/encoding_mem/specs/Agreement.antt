-- What was written so far for a text, read back: it agrees with the text, or is broken, whatever follows (`IsBroken`).
-- What this follows from, target by target.
use Rattle.std.specs.Prelude.{◌≡◌, ℕ, ◌⊎◌, true, List, [], ◌∷◌, ◌++◌, drop}
use Rattle.std.specs.Char.{IsScalar}
use Rattle.std.specs.Str.{all_scalars}
use Rattle.encoding_mem.specs.Piece.{Piece, text, sizes, AreWellFormed}
use Rattle.encoding_mem.specs.Coding.{Coding, IsMapped, open_from, last_set, output}
use Rattle.encoding_mem.specs.ReadBack.{ReadsAs}
use Rattle.encoding_mem.specs.Steps.{IsBroken, StepLaw, one_from}
use Rattle.encoding_mem.specs.declared.codec.reference.Reference.{Reference}
use Rattle.encoding_mem.specs.declared.codec.form.EscapeState.{EscapeState}
use Rattle.encoding_mem.specs.declared.codec.form.EscapeState.TheVariants.{Ascii}
use Rattle.encoding_mem.specs.Decided.{IsFixed, IsUndecided}

-- bytes are a whole escape of a target, from some set to some set
abbrev pub IsEscape : Coding → List ℕ → Type 0
IsEscape e bytes = (s : EscapeState) × (s' : EscapeState) × (bytes ≡ e.escape s s')

-- Bytes agree with a text: pieces that they begin with, whatever follows, are well-formed and are
-- the text, and what is left of the bytes is empty or one whole escape of the target.
pub record AgreesWith (e : Coding) (pieces : List ℕ → List Piece) (bytes t : List ℕ) : Type 0 where
  pub taken : List Piece
  pub decided : IsFixed pieces bytes taken
  pub well_formed : AreWellFormed taken
  pub same : text taken ≡ t
  pub left : (drop (sizes taken) bytes ≡ []) ⊎ IsEscape e (drop (sizes taken) bytes)

-- bytes agree with a text (`AgreesWith`), or never read as it, whatever follows (`IsBroken`)
abbrev pub AgreesOrBreaks : Coding → (List ℕ → List Piece) → List ℕ → List ℕ → Type 0
AgreesOrBreaks e pieces bytes t = AgreesWith e pieces bytes t ⊎ IsBroken pieces bytes t

-- What is written for any text agrees with it or is broken (`IsBroken`), also with an escape after it. The whole
-- output reads as the text, or what stands before its last escape is broken.
pub record ReadsBackOrBreaks (pieces : List ℕ → List Piece) (e : Coding) : Type 0 where
  pub so_far : (ref : Reference) (t : List ℕ) → all_scalars t ≡ true → AgreesOrBreaks e pieces (open_from ref e Ascii t) t
  pub escaped : (ref : Reference) (t : List ℕ) (s : EscapeState) → all_scalars t ≡ true
      → AgreesOrBreaks e pieces (open_from ref e Ascii t ++ e.escape (last_set e Ascii t) s) t
  pub at_end : (ref : Reference) (t : List ℕ) → all_scalars t ≡ true
      → ReadsAs pieces (output ref e t) t ⊎ IsBroken pieces (open_from ref e Ascii t) t

-- A decoder reads what a target writes step by step (`StepLaw`): what is written for a scalar
-- without bytes is broken (`IsBroken`), no bytes have no pieces, and an escape alone is read as no
-- text, without malformed sequences, and is undecided if it has bytes.
pub record ReadsByStep (e : Coding) (pieces_from : EscapeState → List ℕ → List Piece) : Type 0 where
  pub steps : StepLaw e pieces_from
  pub lost : (ref : Reference) (s : EscapeState) (c : ℕ) → IsScalar c → ¬ (IsMapped (e.form c))
      → IsBroken (pieces_from s) (one_from ref e s c) (c ∷ [])
  pub nothing : (s : EscapeState) → pieces_from s [] ≡ []
  pub ignored : (s s' : EscapeState) → ReadsAs (pieces_from s) (e.escape s s') []
  pub undecided : (s s' : EscapeState) → (e.escape s s' ≡ []) ⊎ IsUndecided (pieces_from s) (e.escape s s')
