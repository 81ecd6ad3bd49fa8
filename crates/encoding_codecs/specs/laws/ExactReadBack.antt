-- What a target with one set writes reads back exactly when each scalar has bytes, and scalar by scalar, if the bytes
-- of a scalar are a piece that gives it, and no ASCII is unmappable.
use Rattle.std.proofs.Common.{◌≡◌, ℕ, ◌<◌, ◌≤◌, ◌⊎◌, inl, inr, true, List, [], ◌∷◌, ◌++◌, length, drop, refl, sym, ◌∙◌, ap, subst, arith, length-append}
use Rattle.std.specs.Char.{IsScalar}
use Rattle.std.specs.Str.{all_scalars}
use Rattle.std.proofs.Math.Utf8.{scalar}
use Rattle.std.proofs.lemmas.Bool.{and_parts}
use Rattle.std.proofs.lemmas.List.{append-nil, drop_at}
use Rattle.encoding_mem.specs.laws.Steps.{reference_behind}
use Rattle.encoding_mem.specs.declared.codec.reference.Reference.{Reference}
use Rattle.encoding_mem.specs.Piece.{Piece, well_formed, piece_len, text, AreWellFormed}
use Rattle.encoding_mem.specs.Pieces.{pieces_by}
use Rattle.encoding_mem.specs.laws.Pieces.{CutsEach, pieces_by-nil, pieces_by-first}
use Rattle.encoding_mem.specs.Agreement.{ReadsByStep}
use Rattle.encoding_mem.specs.Coding.{AllMapped, IsMapped, open_from, output, spelled, reference_bytes}
use Rattle.encoding_mem.specs.ReadBack.{ReadsAs, ReadsBackExactly}
use Rattle.encoding_mem.specs.Stateless.{stateless}
use Rattle.encoding_mem.specs.Steps.{StepLaw, in_any_set, Returns, Strays}
use Rattle.encoding_mem.specs.laws.OneSet.{one_set_by_step}
use Rattle.encoding_mem.specs.laws.Steps.{step_law}
use Rattle.encoding_mem.specs.declared.codec.form.Form.{Form}
use Rattle.encoding_mem.specs.declared.codec.form.Form.TheVariants.{Mapped, Unmapped}
use Rattle.encoding_mem.specs.declared.codec.form.EscapeState.{EscapeState}
use Rattle.encoding_mem.specs.declared.codec.form.EscapeState.TheVariants.{Ascii}
use Rattle.encoding_codecs.specs.laws.Steps.{reference_strays}

-- these bytes are a piece that gives the scalar, whatever follows; one without bytes is above ASCII
abbrev pub ReadsAsScalar : (List ℕ → Piece) → ℕ → Form → Type 0
ReadsAsScalar prefix c (Mapped bs) = (0 < length bs) × ((y : List ℕ) → prefix (bs ++ y) ≡ well_formed (length bs) (c ∷ []))
ReadsAsScalar prefix c (Unmapped d) = 0x80 ≤ c

-- What an encoding makes of each scalar reads as it by a first piece: ASCII as itself, any other
-- by its form.
pub record ReadsEach (first_piece : List ℕ → Piece) (form : ℕ → Form) : Type 0 where
  pub cuts : CutsEach first_piece
  pub ascii : (b : ℕ) (x : List ℕ) → b < 0x80 → first_piece (b ∷ x) ≡ well_formed 1 (b ∷ [])
  pub scalar : (c : ℕ) → IsScalar c → ReadsAsScalar first_piece c (form c)

-- the pieces of a scalar's bytes and what follows them, and of a reference
mapped_pieces : (first_piece : List ℕ → Piece) → CutsEach first_piece → (c : ℕ) (bs y : List ℕ) → ReadsAsScalar first_piece c (Mapped bs)
    → pieces_by first_piece (bs ++ y) ≡ well_formed (length bs) (c ∷ []) ∷ pieces_by first_piece y
mapped_pieces first_piece cuts c bs y h =
    pieces_by-first first_piece cuts (bs ++ y) (omega (arith, h.0, length-append bs y))
    ∙ ap (λ p. p ∷ pieces_by first_piece (drop (piece_len p) (bs ++ y))) (h.1 y)
    ∙ ap (λ x. well_formed (length bs) (c ∷ []) ∷ pieces_by first_piece x) (drop_at bs y (length bs) refl)

reference_pieces : (ref : Reference) (first_piece : List ℕ → Piece) (form : ℕ → Form) → ReadsEach first_piece form → (d : ℕ) (y : List ℕ)
    → (rest : List Piece) × (pieces_by first_piece (reference_bytes ref d ++ y) ≡ well_formed 1 (0x26 ∷ []) ∷ rest)
reference_pieces ref first_piece form is d y = rw (reference_behind ref d) (
  pieces_by first_piece (drop 1 (reference_bytes ref d) ++ y),
  pieces_by-first first_piece is.cuts (0x26 ∷ drop 1 (reference_bytes ref d) ++ y) (omega arith)
      ∙ ap (λ p. p ∷ pieces_by first_piece (drop (piece_len p) (0x26 ∷ drop 1 (reference_bytes ref d) ++ y))) (is.ascii 0x26 (drop 1 (reference_bytes ref d) ++ y) (omega arith)),
)

-- a text whose scalars have bytes
reads_one : (ref : Reference) (first_piece : List ℕ → Piece) → CutsEach first_piece → (c : ℕ) (f : Form) (w t : List ℕ) → ReadsAsScalar first_piece c f → IsMapped f
    → ReadsAs (pieces_by first_piece) w t → ReadsAs (pieces_by first_piece) (spelled ref f ++ w) (c ∷ t)
reads_one ref first_piece cuts c (Mapped bs) w t h mapped more =
    let pieces = mapped_pieces first_piece cuts c bs w h in
    record {
      well_formed = subst AreWellFormed (sym pieces) (tt, more.well_formed);
      same = ap text pieces ∙ ap (λ l. c ∷ l) more.same;
    }
reads_one ref first_piece cuts c (Unmapped d) w t h mapped more = absurd mapped

reads : (ref : Reference) (first_piece : List ℕ → Piece) (form : ℕ → Form) → ReadsEach first_piece form → (s : EscapeState) (t : List ℕ) → all_scalars t ≡ true
    → AllMapped (stateless form) t → ReadsAs (pieces_by first_piece) (open_from ref (stateless form) s t) t
reads ref first_piece form is s [] k mapped = record {
  well_formed = subst AreWellFormed (sym (pieces_by-nil first_piece)) tt;
  same = ap text (pieces_by-nil first_piece);
}
reads ref first_piece form is s (c ∷ t) k mapped =
    let parts = and_parts (scalar c) (all_scalars t) k in
    reads_one ref first_piece is.cuts c (form c) _ t (is.scalar c parts.0) mapped.0 (reads ref first_piece form is Ascii t parts.1 mapped.1)

-- a text that reads back
tail_reads : (first_piece : List ℕ → Piece) → CutsEach first_piece → (c : ℕ) (bs w t : List ℕ) → ReadsAsScalar first_piece c (Mapped bs)
    → ReadsAs (pieces_by first_piece) (bs ++ w) (c ∷ t) → ReadsAs (pieces_by first_piece) w t
tail_reads first_piece cuts c bs w t h back =
    let pieces = mapped_pieces first_piece cuts c bs w h in
    let well_formed_ones = subst AreWellFormed pieces back.well_formed in
    let whole : c ∷ text (pieces_by first_piece w) ≡ c ∷ t = sym (ap text pieces) ∙ back.same in
    record { well_formed = well_formed_ones.1; same = ap (drop 1) whole }

never : (ref : Reference) (first_piece : List ℕ → Piece) (form : ℕ → Form) → ReadsEach first_piece form → (c d : ℕ) (w t : List ℕ) → 0x80 ≤ c
    → ReadsAs (pieces_by first_piece) (reference_bytes ref d ++ w) (c ∷ t) → ⊥
never ref first_piece form is c d w t high back =
    let begins = reference_pieces ref first_piece form is d w in
    let whole : 0x26 ∷ text (begins.0) ≡ c ∷ t = sym (ap text begins.1) ∙ back.same in
    let same : 0x26 ≡ c = cc in
    omega (arith, same, high)

mapped_one : (ref : Reference) (first_piece : List ℕ → Piece) (form : ℕ → Form) → ReadsEach first_piece form → (c : ℕ) (f : Form) (w t : List ℕ) → ReadsAsScalar first_piece c f
    → ReadsAs (pieces_by first_piece) (spelled ref f ++ w) (c ∷ t) → IsMapped f × ReadsAs (pieces_by first_piece) w t
mapped_one ref first_piece form is c (Mapped bs) w t h back = (tt, tail_reads first_piece is.cuts c bs w t h back)
mapped_one ref first_piece form is c (Unmapped d) w t h back = absurd (never ref first_piece form is c d w t h back)

all_mapped : (ref : Reference) (first_piece : List ℕ → Piece) (form : ℕ → Form) → ReadsEach first_piece form → (s : EscapeState) (t : List ℕ) → all_scalars t ≡ true
    → ReadsAs (pieces_by first_piece) (open_from ref (stateless form) s t) t → AllMapped (stateless form) t
all_mapped ref first_piece form is s [] k back = tt
all_mapped ref first_piece form is s (c ∷ t) k back =
    let parts = and_parts (scalar c) (all_scalars t) k in
    let here = mapped_one ref first_piece form is c (form c) (open_from ref (stateless form) Ascii t) t (is.scalar c parts.0) back in
    (here.0, all_mapped ref first_piece form is Ascii t parts.1 here.1)

pub each_reads_back_exactly : (first_piece : List ℕ → Piece) (form : ℕ → Form) → ReadsEach first_piece form → ReadsBackExactly (pieces_by first_piece) (stateless form)
each_reads_back_exactly first_piece form is ref t k =
    let whole : output ref (stateless form) t ≡ open_from ref (stateless form) Ascii t = append-nil _ in (
      λ back. all_mapped ref first_piece form is Ascii t k (subst (λ l. ReadsAs (pieces_by first_piece) l t) whole back),
      λ mapped. subst (λ l. ReadsAs (pieces_by first_piece) l t) (sym whole) (reads ref first_piece form is Ascii t k mapped),
    )

-- and scalar by scalar
one_step : (ref : Reference) (first_piece : List ℕ → Piece) (form : ℕ → Form) → ReadsEach first_piece form → (c : ℕ) (f : Form) → ReadsAsScalar first_piece c f
    → Returns first_piece (spelled ref f) c ⊎ Strays first_piece (spelled ref f) c
one_step ref first_piece form is c (Mapped bs) h = inl (record { piece = h.1 })
one_step ref first_piece form is c (Unmapped d) h = inr (reference_strays ref first_piece is.ascii c d h)

pub reads_back_by_steps : (first_piece : List ℕ → Piece) (form : ℕ → Form) → ReadsEach first_piece form → StepLaw (stateless form) (in_any_set (pieces_by first_piece))
reads_back_by_steps first_piece form is = step_law first_piece form is.cuts (λ ref c scalar. one_step ref first_piece form is c (form c) (is.scalar c scalar))

-- with what is referred to, if `&` has bytes
pub each_by_step : (first_piece : List ℕ → Piece) (form : ℕ → Form) → ReadsEach first_piece form → IsMapped (form 0x26) → ReadsByStep (stateless form) (in_any_set (pieces_by first_piece))
each_by_step first_piece form is has = one_set_by_step first_piece form is.cuts (reads_back_by_steps first_piece form is) (λ x. is.ascii 0x26 x (omega arith)) has
