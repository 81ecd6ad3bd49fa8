-- The pieces of a whole input, one at a time. first_piece is the first piece of bytes in a mode, after the mode that
-- follows.
use Rattle.std.proofs.Common.{◌≡◌, ℕ, zero, suc, ◌+◌, ◌-◌, ◌≤◌, ◌<◌, List, [], ◌∷◌, length, drop, refl, ap, arith, length-drop}
use Rattle.encoding_mem.specs.Piece.{Piece, piece_len, sizes, ArePieces, Cuts}
use Rattle.encoding_mem.specs.Pieces.{pieces_within, pieces_in, pieces_by}

-- each first piece is some of the bytes
abbrev pub AllCut : {M : Type 0} → (M → List ℕ → Piece) → Type 0
AllCut {M} first_piece = (m : M) (b : ℕ) (x : List ℕ) → Cuts (first_piece m (b ∷ x)) (1 + length x)

pub pieces_in-nil : {M : Type 0} (first_piece : M → List ℕ → Piece) (after : M → List ℕ → M) (m : M) → pieces_in first_piece after m [] ≡ []
unfolding pieces_in
pieces_in-nil first_piece after m = refl

within_enough : {M : Type 0} (first_piece : M → List ℕ → Piece) (after : M → List ℕ → M) → AllCut first_piece → (n k : ℕ) (m : M) (x : List ℕ) → length x ≤ n → length x ≤ k → pieces_within first_piece after n m x ≡ pieces_within first_piece after k m x
within_enough first_piece after cuts n k m [] h j = refl
within_enough first_piece after cuts zero k m (b ∷ x) h j = absurd (omega arith)
within_enough first_piece after cuts (suc n) zero m (b ∷ x) h j = absurd (omega arith)
within_enough first_piece after cuts (suc n) (suc k) m (b ∷ x) h j =
    let some : 0 < piece_len (first_piece m (b ∷ x)) = (cuts m b x).piece.some in
    let len : length (drop (piece_len (first_piece m (b ∷ x))) (b ∷ x)) ≡ length (b ∷ x) - piece_len (first_piece m (b ∷ x)) = length-drop (piece_len (first_piece m (b ∷ x))) (b ∷ x) in
    ap (λ r. first_piece m (b ∷ x) ∷ r) (within_enough first_piece after cuts n k (after m (b ∷ x)) (drop (piece_len (first_piece m (b ∷ x))) (b ∷ x)) (omega (arith, len, some, h)) (omega (arith, len, some, j)))

pub pieces_in-cons : {M : Type 0} (first_piece : M → List ℕ → Piece) (after : M → List ℕ → M) → AllCut first_piece → (m : M) (b : ℕ) (x : List ℕ) → pieces_in first_piece after m (b ∷ x) ≡ first_piece m (b ∷ x) ∷ pieces_in first_piece after (after m (b ∷ x)) (drop (piece_len (first_piece m (b ∷ x))) (b ∷ x))
unfolding pieces_in
pieces_in-cons first_piece after cuts m b x =
    let some : 0 < piece_len (first_piece m (b ∷ x)) = (cuts m b x).piece.some in
    let rest : List ℕ = drop (piece_len (first_piece m (b ∷ x))) (b ∷ x) in
    let len : length rest ≡ length (b ∷ x) - piece_len (first_piece m (b ∷ x)) = length-drop (piece_len (first_piece m (b ∷ x))) (b ∷ x) in
    ap (λ r. first_piece m (b ∷ x) ∷ r) (within_enough first_piece after cuts (length x) (length rest) (after m (b ∷ x)) rest (omega (arith, len, some)) (omega arith))

-- the same if the bytes are not taken apart
pub pieces_in-first : {M : Type 0} (first_piece : M → List ℕ → Piece) (after : M → List ℕ → M) → AllCut first_piece → (m : M) (x : List ℕ) → 0 < length x → pieces_in first_piece after m x ≡ first_piece m x ∷ pieces_in first_piece after (after m x) (drop (piece_len (first_piece m x)) x)
pieces_in-first first_piece after cuts m [] h = absurd (omega (arith, h))
pieces_in-first first_piece after cuts m (b ∷ x) h = pieces_in-cons first_piece after cuts m b x

whole_within : {M : Type 0} (first_piece : M → List ℕ → Piece) (after : M → List ℕ → M) → AllCut first_piece → (n : ℕ) (m : M) (x : List ℕ) → length x ≤ n → sizes (pieces_within first_piece after n m x) ≡ length x
whole_within first_piece after cuts n m [] h = refl
whole_within first_piece after cuts zero m (b ∷ x) h = absurd (omega arith)
whole_within first_piece after cuts (suc n) m (b ∷ x) h =
    let s : Cuts (first_piece m (b ∷ x)) (1 + length x) = cuts m b x in
    let rest : List ℕ = drop (piece_len (first_piece m (b ∷ x))) (b ∷ x) in
    let len : length rest ≡ length (b ∷ x) - piece_len (first_piece m (b ∷ x)) = length-drop (piece_len (first_piece m (b ∷ x))) (b ∷ x) in
    omega (arith, s.piece.some, s.within, len, whole_within first_piece after cuts n (after m (b ∷ x)) rest (omega (arith, len, s.piece.some, h)))

-- the pieces, joined, are the bytes
pub pieces_in-whole : {M : Type 0} (first_piece : M → List ℕ → Piece) (after : M → List ℕ → M) → AllCut first_piece → (m : M) (x : List ℕ) → sizes (pieces_in first_piece after m x) ≡ length x
unfolding pieces_in
pieces_in-whole first_piece after cuts m x = whole_within first_piece after cuts (length x) m x (omega arith)

pieces_are_within : {M : Type 0} (first_piece : M → List ℕ → Piece) (after : M → List ℕ → M) → AllCut first_piece → (n : ℕ) (m : M) (x : List ℕ) → ArePieces (pieces_within first_piece after n m x)
pieces_are_within first_piece after cuts n m [] = tt
pieces_are_within first_piece after cuts zero m (b ∷ x) = tt
pieces_are_within first_piece after cuts (suc n) m (b ∷ x) = ((cuts m b x).piece, pieces_are_within first_piece after cuts n (after m (b ∷ x)) (drop (piece_len (first_piece m (b ∷ x))) (b ∷ x)))

-- and each is a piece
pub pieces_in-are_pieces : {M : Type 0} (first_piece : M → List ℕ → Piece) (after : M → List ℕ → M) → AllCut first_piece → (m : M) (x : List ℕ) → ArePieces (pieces_in first_piece after m x)
unfolding pieces_in
pieces_in-are_pieces first_piece after cuts m x = pieces_are_within first_piece after cuts (length x) m x

-- The same if there is one mode.
abbrev pub CutsEach : (List ℕ → Piece) → Type 0
CutsEach prefix = (b : ℕ) (x : List ℕ) → Cuts (prefix (b ∷ x)) (1 + length x)

pub pieces_by-nil : (first_piece : List ℕ → Piece) → pieces_by first_piece [] ≡ []
pieces_by-nil first_piece = pieces_in-nil {M = Unit {0}} (λ _. first_piece) (λ m _. m) tt

pub pieces_by-cons : (first_piece : List ℕ → Piece) → CutsEach first_piece → (b : ℕ) (x : List ℕ) → pieces_by first_piece (b ∷ x) ≡ first_piece (b ∷ x) ∷ pieces_by first_piece (drop (piece_len (first_piece (b ∷ x))) (b ∷ x))
pieces_by-cons first_piece cuts b x = pieces_in-cons {M = Unit {0}} (λ _. first_piece) (λ m _. m) (λ _. cuts) tt b x

pub pieces_by-first : (first_piece : List ℕ → Piece) → CutsEach first_piece → (x : List ℕ) → 0 < length x → pieces_by first_piece x ≡ first_piece x ∷ pieces_by first_piece (drop (piece_len (first_piece x)) x)
pieces_by-first first_piece cuts x h = pieces_in-first {M = Unit {0}} (λ _. first_piece) (λ m _. m) (λ _. cuts) tt x h

pub pieces_by-whole : (first_piece : List ℕ → Piece) → CutsEach first_piece → (x : List ℕ) → sizes (pieces_by first_piece x) ≡ length x
pieces_by-whole first_piece cuts x = pieces_in-whole {M = Unit {0}} (λ _. first_piece) (λ m _. m) (λ _. cuts) tt x

pub pieces_by-are_pieces : (first_piece : List ℕ → Piece) → CutsEach first_piece → (x : List ℕ) → ArePieces (pieces_by first_piece x)
pieces_by-are_pieces first_piece cuts x = pieces_in-are_pieces {M = Unit {0}} (λ _. first_piece) (λ m _. m) (λ _. cuts) tt x
