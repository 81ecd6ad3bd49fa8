-- Pieces in a row, and more pieces after them.
use Rattle.std.proofs.Common.{◌≡◌, ◌+◌, List, [], ◌∷◌, ◌++◌, refl, sym, ◌∙◌, ap, arith, append_assoc}
use Rattle.encoding_mem.specs.Piece.{Piece, well_formed, malformed, malformed_count, piece_scalars, piece_text, sizes, scalars, text, IsWellFormedPiece, AreWellFormed, ArePieces}

pub sizes-append : (a b : List Piece) → sizes (a ++ b) ≡ sizes a + sizes b
sizes-append [] b = omega arith
sizes-append (p ∷ a) b = omega (arith, sizes-append a b)

pub scalars-append : (a b : List Piece) → scalars (a ++ b) ≡ scalars a ++ scalars b
scalars-append [] b = refl
scalars-append (p ∷ a) b = ap (λ x. piece_scalars p ++ x) (scalars-append a b) ∙ sym (append_assoc (piece_scalars p) (scalars a) (scalars b))

pub text-append : (a b : List Piece) → text (a ++ b) ≡ text a ++ text b
text-append [] b = refl
text-append (p ∷ a) b = ap (λ x. piece_text p ++ x) (text-append a b) ∙ sym (append_assoc (piece_text p) (text a) (text b))

pub AreWellFormed-append : (a b : List Piece) → AreWellFormed a → AreWellFormed b → AreWellFormed (a ++ b)
AreWellFormed-append [] b h k = k
AreWellFormed-append (p ∷ a) b h k = (h.0, AreWellFormed-append a b h.1 k)

pub AreWellFormed-last : (a : List Piece) (p : Piece) → AreWellFormed a → IsWellFormedPiece p → AreWellFormed (a ++ p ∷ [])
AreWellFormed-last a p h k = AreWellFormed-append a (p ∷ []) h (k, tt)

pub ArePieces-append : (a b : List Piece) → ArePieces a → ArePieces b → ArePieces (a ++ b)
ArePieces-append [] b h k = k
ArePieces-append (p ∷ a) b h k = (h.0, ArePieces-append a b h.1 k)

pub malformed_count-append : (a b : List Piece) → malformed_count (a ++ b) ≡ malformed_count a + malformed_count b
malformed_count-append [] b = omega arith
malformed_count-append (well_formed n cs ∷ a) b = malformed_count-append a b
malformed_count-append (malformed n ∷ a) b = omega (arith, malformed_count-append a b)

-- well-formed pieces have the text of their scalars
pub well_formed_text : (ps : List Piece) → AreWellFormed ps → text ps ≡ scalars ps
well_formed_text [] h = refl
well_formed_text (well_formed n cs ∷ ps) h = ap (λ t. cs ++ t) (well_formed_text ps h.1)
well_formed_text (malformed n ∷ ps) h = absurd h.0

-- none of well-formed pieces is malformed
pub well_formed_count : (ps : List Piece) → AreWellFormed ps → malformed_count ps ≡ 0
well_formed_count [] h = refl
well_formed_count (well_formed n cs ∷ ps) h = well_formed_count ps h.1
well_formed_count (malformed n ∷ ps) h = absurd h.0
