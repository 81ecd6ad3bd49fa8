-- What a look at the start of some bytes shows of their first piece.
use Rattle.std.proofs.Common.{◌≡◌, ℕ, suc, ◌+◌, ◌≤◌, ◌<◌, Bool, true, false, cond, IsTrue, List, [], ◌∷◌, ◌++◌, length, drop, refl, sym, ◌∙◌, ap, arith, length-append, Option, Some, None}
use Rattle.std.proofs.lemmas.List.{drop-append-le}
use Rattle.encoding_mem.specs.Piece.{Piece, well_formed, malformed, piece_len, head_piece}
use Rattle.encoding_mem.specs.Pieces.{pieces_in, pieces_by}
use Rattle.encoding_mem.specs.laws.Pieces.{AllCut, CutsEach, pieces_in-nil, pieces_in-cons}
use Rattle.encoding_mem.specs.calls.DecoderRule.{IsFirstPiece, TellsFirstPiece, IsSoon}
use Rattle.encoding_mem.specs.declared.codec.first_piece.FirstPiece.{FirstPiece}
use Rattle.encoding_mem.specs.declared.codec.first_piece.FirstPiece.TheVariants.{More, One, Two, Ignored, Malformed}
use Rattle.encoding_mem.specs.Decided.{AreBytes, IsUndecided}

-- first_piece is the first piece as a function of what follows k bytes
abbrev pub ShowsPiece : (List ℕ → Piece) → ℕ → List ℕ → Bool → Piece → Type 0
ShowsPiece first_piece k x last p = (0 < piece_len p) × (piece_len p ≤ k + length x) × ((r : List ℕ) → (IsTrue last → r ≡ []) → first_piece (x ++ r) ≡ p)

-- the bytes do not decide it
pub record Awaits (first_piece : List ℕ → Piece) (k : ℕ) (x : List ℕ) (last : Bool) : Type 0 where
  pub goes_on : last ≡ false
  pub short : k + length x < 6
  pub more : List ℕ
  pub bytes : AreBytes more
  pub few : length more ≤ 3
  pub differs : first_piece x ≡ first_piece (x ++ more) → ⊥
  pub soon : (r : List ℕ) → k + length x ≤ piece_len (first_piece (x ++ r)) + 2

-- a look at x, of which the first k bytes are passed, shows a first piece, or, with `More`, that
-- more bytes may change it
abbrev pub Shows : (List ℕ → Piece) → ℕ → List ℕ → Bool → FirstPiece → Type 0
Shows first_piece k x last More = Awaits first_piece k x last
Shows first_piece k x last (One c n) = ShowsPiece first_piece k x last (well_formed n (c ∷ []))
Shows first_piece k x last (Two c d n) = ShowsPiece first_piece k x last (well_formed n (c ∷ d ∷ [])) × (c < 0x800) × (d < 0x800)
Shows first_piece k x last (Ignored n) = ShowsPiece first_piece k x last (well_formed n [])
Shows first_piece k x last (Malformed n) = ShowsPiece first_piece k x last (malformed n) × (n ≤ 4)

pub shows_cond : (t : Bool) (f g : List ℕ → Piece) (k : ℕ) (x : List ℕ) (last : Bool) (F G : FirstPiece) → Shows f k x last F → Shows g k x last G → Shows (λ y. cond t (f y) (g y)) k x last (cond t F G)
shows_cond true f g k x last F G a b = a
shows_cond false f g k x last F G a b = b

piece_cons : (f : List ℕ → Piece) (k e : ℕ) (x : List ℕ) (last : Bool) (p : Piece) → ShowsPiece (λ y. f (e ∷ y)) (suc k) x last p → ShowsPiece f k (e ∷ x) last p
piece_cons f k e x last p h = (h.0, omega (arith, h.1), h.2)

pub shows_cons : (f : List ℕ → Piece) (k e : ℕ) (x : List ℕ) (last : Bool) (F : FirstPiece) → Shows (λ y. f (e ∷ y)) (suc k) x last F → Shows f k (e ∷ x) last F
shows_cons f k e x last More h = record { goes_on = h.goes_on; short = omega (arith, h.short); more = h.more; bytes = h.bytes; few = h.few; differs = h.differs; soon = λ r. omega (arith, h.soon r) }
shows_cons f k e x last (One c n) h = piece_cons f k e x last (well_formed n (c ∷ [])) h
shows_cons f k e x last (Two c d n) h = (piece_cons f k e x last (well_formed n (c ∷ d ∷ [])) h.0, h.1, h.2)
shows_cons f k e x last (Ignored n) h = piece_cons f k e x last (well_formed n []) h
shows_cons f k e x last (Malformed n) h = (piece_cons f k e x last (malformed n) h.0, h.1)

-- a piece that no further byte changes
pub shows_const : (p : Piece) (k : ℕ) (x : List ℕ) (last : Bool) → 0 < piece_len p → piece_len p ≤ k → ShowsPiece (λ y. p) k x last p
shows_const p k x last some fits = (some, omega (arith, fits), λ r e. refl)

pub broken_then_well_formed : (p q : Piece) (n m : ℕ) (cs : List ℕ) → p ≡ malformed n → q ≡ well_formed m cs → p ≡ q → ⊥
broken_then_well_formed p q n m cs e f h = cc

pub well_formed_then_broken : (p q : Piece) (n m : ℕ) (cs : List ℕ) → p ≡ well_formed m cs → q ≡ malformed n → p ≡ q → ⊥
well_formed_then_broken p q n m cs e f h = cc

-- the mode after x is m', whatever follows
abbrev pub SettlesMode : {M : Type 0} → (M → List ℕ → M) → M → M → List ℕ → Bool → Type 0
SettlesMode after m m' x last = (r : List ℕ) → (IsTrue last → r ≡ []) → after m (x ++ r) ≡ m'

first_of_pieces : {M : Type 0} (first_piece : M → List ℕ → Piece) (after : M → List ℕ → M) → AllCut first_piece → (m : M) (x : List ℕ) → 0 < length x → head_piece (pieces_in first_piece after m x) ≡ Some (first_piece m x)
first_of_pieces first_piece after cuts m [] h = absurd (omega (arith, h))
first_of_pieces first_piece after cuts m (b ∷ x) h = ap head_piece (pieces_in-cons first_piece after cuts m b x)

is_first : {M : Type 0} (first_piece : M → List ℕ → Piece) (after : M → List ℕ → M) → AllCut first_piece → (m m' : M) (x : List ℕ) (last : Bool) (p : Piece) → 0 < length x → SettlesMode after m m' x last → ShowsPiece (first_piece m) 0 x last p → IsFirstPiece (pieces_in first_piece after m) (pieces_in first_piece after m') x last p
is_first first_piece after cuts m m' [] last p h t s = absurd (omega (arith, h))
is_first first_piece after cuts m m' (b ∷ x) last p h t s = record {
  some = s.0;
  within = omega (arith, s.1);
  rest = λ r e.
      let same : first_piece m (b ∷ (x ++ r)) ≡ p = s.2 r e in
      let fits : piece_len p ≤ length (b ∷ x) = omega (arith, s.1) in
      pieces_in-cons first_piece after cuts m b (x ++ r)
      ∙ ap (λ q. q ∷ pieces_in first_piece after (after m (b ∷ (x ++ r))) (drop (piece_len q) ((b ∷ x) ++ r))) same
      ∙ ap (λ n. p ∷ pieces_in first_piece after n (drop (piece_len p) ((b ∷ x) ++ r))) (t r e)
      ∙ ap (λ y. p ∷ pieces_in first_piece after m' y) (drop-append-le (piece_len p) (b ∷ x) r fits);
}

differ : (p q : Piece) (a b : Option Piece) → a ≡ Some p → b ≡ Some q → (p ≡ q → ⊥) → a ≡ b → ⊥
differ p q a b e f h i = h (let same : p ≡ q = cc in same)

first_of : {M : Type 0} (first_piece : M → List ℕ → Piece) (after : M → List ℕ → M) → AllCut first_piece → (m : M) (x : List ℕ) (p : Piece) → head_piece (pieces_in first_piece after m x) ≡ Some p → first_piece m x ≡ p
first_of first_piece after cuts m [] p e = let none : head_piece (pieces_in first_piece after m []) ≡ None = ap head_piece (pieces_in-nil first_piece after m) in cc
first_of first_piece after cuts m (b ∷ x) p e = let here : head_piece (pieces_in first_piece after m (b ∷ x)) ≡ Some (first_piece m (b ∷ x)) = ap head_piece (pieces_in-cons first_piece after cuts m b x) in cc

soon_of : {M : Type 0} (first_piece : M → List ℕ → Piece) (after : M → List ℕ → M) → AllCut first_piece → (m : M) (x : List ℕ) → ((r : List ℕ) → 0 + length x ≤ piece_len (first_piece m (x ++ r)) + 2) → IsSoon (pieces_in first_piece after m) x
soon_of first_piece after cuts m x soon r p e = omega (arith, soon r, ap piece_len (first_of first_piece after cuts m (x ++ r) p e))

pub shows_first_piece_in : {M : Type 0} (first_piece : M → List ℕ → Piece) (after : M → List ℕ → M) → AllCut first_piece → (m m' : M) (x : List ℕ) (last : Bool) (F : FirstPiece) → 0 < length x → ((F ≡ More → ⊥) → SettlesMode after m m' x last) → Shows (first_piece m) 0 x last F → TellsFirstPiece (pieces_in first_piece after m) (pieces_in first_piece after m') x last F
shows_first_piece_in first_piece after cuts m m' x last More h t s = (
  s.goes_on,
  omega (arith, s.short),
  record {
    more = s.more;
    bytes = s.bytes;
    short = s.few;
    differs = differ (first_piece m x) (first_piece m (x ++ s.more)) _ _ (first_of_pieces first_piece after cuts m x h) (first_of_pieces first_piece after cuts m (x ++ s.more) (omega (arith, h, length-append x s.more))) s.differs;
  },
  soon_of first_piece after cuts m x s.soon,
)
shows_first_piece_in first_piece after cuts m m' x last (One c n) h t s = is_first first_piece after cuts m m' x last (well_formed n (c ∷ [])) h (t (λ e. cc)) s
shows_first_piece_in first_piece after cuts m m' x last (Two c d n) h t s = (is_first first_piece after cuts m m' x last (well_formed n (c ∷ d ∷ [])) h (t (λ e. cc)) s.0, s.1, s.2)
shows_first_piece_in first_piece after cuts m m' x last (Ignored n) h t s = is_first first_piece after cuts m m' x last (well_formed n []) h (t (λ e. cc)) s
shows_first_piece_in first_piece after cuts m m' x last (Malformed n) h t s = (is_first first_piece after cuts m m' x last (malformed n) h (t (λ e. cc)) s.0, s.1)

-- the same if there is one mode
pub shows_first_piece : (first_piece : List ℕ → Piece) → CutsEach first_piece → (x : List ℕ) (last : Bool) (F : FirstPiece) → 0 < length x → Shows first_piece 0 x last F → TellsFirstPiece (pieces_by first_piece) (pieces_by first_piece) x last F
shows_first_piece first_piece cuts x last F h s = shows_first_piece_in {M = Unit {0}} (λ _. first_piece) (λ m _. m) (λ _. cuts) tt tt x last F h (λ _ _ _. refl) s

-- if the first byte decides, nothing is undecided
pub decided_in : {M : Type 0} (first_piece : M → List ℕ → Piece) (after : M → List ℕ → M) → AllCut first_piece → ((m : M) (b : ℕ) (x y : List ℕ) → first_piece m (b ∷ x) ≡ first_piece m (b ∷ y)) → (m : M) (x : List ℕ) → 0 < length x → IsUndecided (pieces_in first_piece after m) x → ⊥
decided_in first_piece after cuts same m [] some h = absurd (omega (arith, some))
decided_in first_piece after cuts same m (b ∷ x) some h = h.differs (first_of_pieces first_piece after cuts m (b ∷ x) some ∙ ap Some (same m b x (x ++ h.more)) ∙ sym (first_of_pieces first_piece after cuts m (b ∷ (x ++ h.more)) (omega arith)))

pub decided_by : (first_piece : List ℕ → Piece) → CutsEach first_piece → ((b : ℕ) (x y : List ℕ) → first_piece (b ∷ x) ≡ first_piece (b ∷ y)) → (x : List ℕ) → 0 < length x → IsUndecided (pieces_by first_piece) x → ⊥
decided_by first_piece cuts same x some h = decided_in {M = Unit {0}} (λ _. first_piece) (λ m _. m) (λ _. cuts) (λ _. same) tt x some h
