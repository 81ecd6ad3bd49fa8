-- Laws of the pieces of UTF-16.
use Rattle.std.proofs.Common.{◌≡◌, ℕ, ◌+◌, ◌≤◌, ◌<◌, inr, Bool, true, cond, List, [], ◌∷◌, length, nat_lt, nat_le, arith, lit<, lit≤}
use Rattle.std.specs.Char.{IsScalar}
use Rattle.std.specs.Char.Utf16.{is_high_surrogate, is_low_surrogate, surrogate_pair_char}
use Rattle.std.proofs.Math.Utf8.{scalar}
use Rattle.std.proofs.lemmas.Bool.{and_parts, leb-true, ltb-true}
use Rattle.encoding_mem.specs.Piece.{well_formed, malformed, Cuts}
use Rattle.encoding_mem.specs.laws.Pieces.{CutsEach}
use Rattle.encoding_mem.specs.laws.Utf8.{cuts_cond, cuts_malformed, cuts_one, scalar_from}
use Rattle.encoding_tables.specs.Utf16.{unit_of, after_high_surrogate, after_unit, first_piece_utf16}

-- what the tests of surrogates say
pub high_from : (u : ℕ) → is_high_surrogate u ≡ true → (0xD800 ≤ u) × (u < 0xDC00)
high_from u h = let parts = and_parts (nat_le 0xD800 u) (nat_lt u 0xDC00) h in (leb-true 0xD800 u parts.0, ltb-true u 0xDC00 parts.1)

pub low_from : (u : ℕ) → is_low_surrogate u ≡ true → (0xDC00 ≤ u) × (u < 0xE000)
low_from u h = let parts = and_parts (nat_le 0xDC00 u) (nat_lt u 0xE000) h in (leb-true 0xDC00 u parts.0, ltb-true u 0xE000 parts.1)

pub pair_is_scalar : (u v : ℕ) → is_high_surrogate u ≡ true → is_low_surrogate v ≡ true → IsScalar (surrogate_pair_char u v)
pair_is_scalar u v h k =
    let high = high_from u h in
    let low = low_from v k in
    scalar_from (surrogate_pair_char u v) (inr (omega (arith, high, low), omega (arith, high, low)))

-- each first piece is some of the bytes, and gives a scalar
cuts_pair : (e : Bool) (u : ℕ) (x : List ℕ) → is_high_surrogate u ≡ true → Cuts (after_high_surrogate e u x) (2 + length x)
cuts_pair e u [] high = cuts_malformed 2 2 (lit< tt) (lit≤ tt)
cuts_pair e u (c ∷ []) high = cuts_malformed 3 3 (lit< tt) (lit≤ tt)
cuts_pair e u (c ∷ d ∷ x) high =
    cuts_cond (is_low_surrogate (unit_of e c d)) (well_formed 4 (surrogate_pair_char u (unit_of e c d) ∷ [])) (malformed 2) _
    (λ t. cuts_one 4 (surrogate_pair_char u (unit_of e c d)) _ (lit< tt) (omega arith) (pair_is_scalar u (unit_of e c d) high t))
    (λ t. cuts_malformed 2 _ (lit< tt) (omega arith))

cuts_unit : (e : Bool) (u : ℕ) (x : List ℕ) → Cuts (after_unit e u x) (2 + length x)
cuts_unit e u x =
    cuts_cond (is_high_surrogate u) (after_high_surrogate e u x) (cond (scalar u) (well_formed 2 (u ∷ [])) (malformed 2)) _
    (λ t. cuts_pair e u x t)
    (λ t. cuts_cond (scalar u) (well_formed 2 (u ∷ [])) (malformed 2) _ (λ s. cuts_one 2 u _ (lit< tt) (omega arith) s) (λ s. cuts_malformed 2 _ (lit< tt) (omega arith)))

pub cuts_utf16 : (e : Bool) → CutsEach (first_piece_utf16 e)
cuts_utf16 e a [] = cuts_malformed 1 1 (lit< tt) (lit≤ tt)
cuts_utf16 e a (b ∷ x) =
    let c : Cuts (after_unit e (unit_of e a b) x) (2 + length x) = cuts_unit e (unit_of e a b) x in
    record { piece = c.piece; within = omega (arith, c.within) }
