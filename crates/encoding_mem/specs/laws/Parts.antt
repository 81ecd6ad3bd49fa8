-- A byte that no piece of more bytes has in it: what stands before it, and what follows it, are read each as if the
-- other were not there.
use Rattle.std.proofs.Common.{◌≡◌, ℕ, zero, suc, ◌+◌, ◌<◌, ◌≤◌, Bool, true, false, cond, nat_lt, List, [], ◌∷◌, ◌++◌, length, drop, refl, sym, ◌∙◌, ap, subst, arith, append_assoc, length-drop}
use Rattle.std.specs.Int.{is_in_range}
use Rattle.std.proofs.lemmas.Bool.{lt-ltb}
use Rattle.std.proofs.lemmas.Bool.Decides.{nat_tests}
use Rattle.std.proofs.lemmas.List.{drop-append-le}
use Rattle.encoding_mem.specs.Parts.{IsCutByte, StandsAlone}
use Rattle.encoding_mem.specs.Piece.{Piece, well_formed, malformed, piece_len}
use Rattle.encoding_mem.specs.Pieces.{pieces_by}
use Rattle.encoding_mem.specs.Utf8.{first_piece_utf8, pieces_utf8, utf8_after_lead, utf8_after_three, utf8_after_two, second_max, second_min, scalar_of_two, scalar_of_three, scalar_of_four}
use Rattle.encoding_mem.specs.laws.Pieces.{CutsEach, pieces_by-cons, pieces_by-nil}
use Rattle.encoding_mem.specs.laws.Utf8.{cuts_utf8}

-- what follows changes nothing of a piece, which has at most n bytes
pub record Stays (piece : List ℕ → Piece) (n : ℕ) : Type 0 where
  pub is : Piece
  pub same : (y : List ℕ) → piece y ≡ is
  pub within : piece_len is ≤ n

pub stays_const : (p : Piece) (n : ℕ) → piece_len p ≤ n → Stays (λ _. p) n
stays_const p n h = record { is = p; same = λ y. refl; within = h }

pub stays_within : (f : List ℕ → Piece) (n m : ℕ) → n ≤ m → Stays f n → Stays f m
stays_within f n m few h = record { is = h.is; same = h.same; within = omega (arith, h.within, few) }

pub stays_cond : (t : Bool) (f g : List ℕ → Piece) (n : ℕ) → (t ≡ true → Stays f n) → (t ≡ false → Stays g n) → Stays (λ y. cond t (f y) (g y)) n
stays_cond true f g n h k = h refl
stays_cond false f g n h k = k refl

-- a byte below the least of a range is not in it
pub cut_is_below : (lo hi a : ℕ) → a < lo → is_in_range lo hi a ≡ false
cut_is_below lo hi a h = grind (arith, nat_tests)

pub not_both : (t : Bool) → t ≡ false → t ≡ true → ⊥
not_both t is other = cc

-- A byte is the first piece if it comes first; and the first piece of any other bytes before it has no more than these,
-- whatever follows.
pub record ClosesAt (first_piece : List ℕ → Piece) (a : ℕ) : Type 0 where
  pub alone : (y : List ℕ) → first_piece (a ∷ y) ≡ well_formed 1 (a ∷ [])
  pub before : (b : ℕ) (x : List ℕ) → Stays (λ y. first_piece (b ∷ (x ++ a ∷ y))) (1 + length x)

-- the pieces before a byte, which is one by itself, and those of what follows it
record Front (pieces : List ℕ → List Piece) (a : ℕ) (x : List ℕ) : Type 0 where
  pub front : List Piece
  pub same : (y : List ℕ) → pieces (x ++ a ∷ y) ≡ front ++ well_formed 1 (a ∷ []) ∷ pieces y

front_by : (first_piece : List ℕ → Piece) (a : ℕ) → CutsEach first_piece → ClosesAt first_piece a → (n : ℕ) (x : List ℕ) → length x ≤ n → Front (pieces_by first_piece) a x
front_by first_piece a cuts h n [] few = record {
  front = [];
  same = λ y. pieces_by-cons first_piece cuts a y ∙ ap (λ p. p ∷ pieces_by first_piece (drop (piece_len p) (a ∷ y))) (h.alone y);
}
front_by first_piece a cuts h zero (b ∷ x) few = absurd (omega arith)
front_by first_piece a cuts h (suc n) (b ∷ x) few =
    let s = h.before b x in
    let size : ℕ = piece_len s.is in
    let some : 0 < size = subst (λ p. 0 < piece_len p) (s.same []) (cuts b (x ++ a ∷ [])).piece.some in
    let rest : List ℕ = drop size (b ∷ x) in
    let left : length rest ≤ n = omega (arith, length-drop size (b ∷ x), few, some) in
    let fits : size ≤ length (b ∷ x) = omega (arith, s.within) in
    let more = front_by first_piece a cuts h n rest left in
    record {
      front = s.is ∷ more.front;
      same = λ y.
          pieces_by-cons first_piece cuts b (x ++ a ∷ y)
          ∙ ap (λ p. p ∷ pieces_by first_piece (drop (piece_len p) (b ∷ (x ++ a ∷ y)))) (s.same y)
          ∙ ap (λ l. s.is ∷ pieces_by first_piece l) (drop-append-le size (b ∷ x) (a ∷ y) fits)
          ∙ ap (λ l. s.is ∷ l) (more.same y);
    }

pub stands_alone : (first_piece : List ℕ → Piece) (a : ℕ) → CutsEach first_piece → ClosesAt first_piece a → StandsAlone (pieces_by first_piece) a
stands_alone first_piece a cuts h = record {
  alone = λ x. ((fronts x).front, at_end x);
  parts = λ x y.
      ap (pieces_by first_piece) (append_assoc x (a ∷ []) y)
      ∙ (fronts x).same y
      ∙ sym (append_assoc (fronts x).front (well_formed 1 (a ∷ []) ∷ []) (pieces_by first_piece y))
      ∙ ap (λ l. l ++ pieces_by first_piece y) (sym (at_end x));
}
  where
    fronts : (x : List ℕ) → Front (pieces_by first_piece) a x
    fronts x = front_by first_piece a cuts h (length x) x (omega arith)

    at_end : (x : List ℕ) → pieces_by first_piece (x ++ a ∷ []) ≡ (fronts x).front ++ well_formed 1 (a ∷ []) ∷ []
    at_end x = (fronts x).same [] ∙ ap (λ l. (fronts x).front ++ well_formed 1 (a ∷ []) ∷ l) (pieces_by-nil first_piece)

-- ---- UTF-8
module _ (a : ℕ) (h : IsCutByte a) where
  closes_three : (b c d : ℕ) (x : List ℕ) → Stays (λ y. utf8_after_three b c d (x ++ a ∷ y)) (3 + length x)
  closes_three b c d [] =
      stays_cond (is_in_range 0x80 0xBF a) (λ _. well_formed 4 (scalar_of_four b c d a ∷ [])) (λ _. malformed 3) 3 (λ t. absurd (not_both _ (cut_is_below 0x80 0xBF a (omega arith)) t)) (λ _. stays_const (malformed 3) 3 (omega arith))
  closes_three b c d (e ∷ x) =
      stays_cond (is_in_range 0x80 0xBF e) (λ _. well_formed 4 (scalar_of_four b c d e ∷ [])) (λ _. malformed 3) _ (λ _. stays_const (well_formed 4 (scalar_of_four b c d e ∷ [])) _ (omega arith)) (λ _. stays_const (malformed 3) _ (omega arith))

  closes_two : (b c : ℕ) (x : List ℕ) → Stays (λ y. utf8_after_two b c (x ++ a ∷ y)) (2 + length x)
  closes_two b c [] =
      stays_cond (is_in_range 0x80 0xBF a) (λ y. cond (nat_lt b 0xF0) (well_formed 3 (scalar_of_three b c a ∷ [])) (utf8_after_three b c a y)) (λ _. malformed 2) 2 (λ t. absurd (not_both _ (cut_is_below 0x80 0xBF a (omega arith)) t)) (λ _. stays_const (malformed 2) 2 (omega arith))
  closes_two b c (d ∷ x) =
      stays_cond (is_in_range 0x80 0xBF d) (λ y. cond (nat_lt b 0xF0) (well_formed 3 (scalar_of_three b c d ∷ [])) (utf8_after_three b c d (x ++ a ∷ y))) (λ _. malformed 2) _
      (λ _. stays_cond (nat_lt b 0xF0) (λ _. well_formed 3 (scalar_of_three b c d ∷ [])) (λ y. utf8_after_three b c d (x ++ a ∷ y)) _ (λ _. stays_const (well_formed 3 (scalar_of_three b c d ∷ [])) _ (omega arith)) (λ _. stays_within _ (3 + length x) _ (omega arith) (closes_three b c d x)))
      (λ _. stays_const (malformed 2) _ (omega arith))

  second_is_above : (b : ℕ) → 0x80 ≤ second_min b
  second_is_above b = grind (arith, nat_tests)

  closes_lead : (b : ℕ) (x : List ℕ) → Stays (λ y. utf8_after_lead b (x ++ a ∷ y)) (1 + length x)
  closes_lead b [] =
      stays_cond (is_in_range (second_min b) (second_max b) a) (λ y. cond (nat_lt b 0xE0) (well_formed 2 (scalar_of_two b a ∷ [])) (utf8_after_two b a y)) (λ _. malformed 1) 1
      (λ t. absurd (not_both _ (cut_is_below (second_min b) (second_max b) a (omega (arith, second_is_above b))) t)) (λ _. stays_const (malformed 1) 1 (omega arith))
  closes_lead b (c ∷ x) =
      stays_cond (is_in_range (second_min b) (second_max b) c) (λ y. cond (nat_lt b 0xE0) (well_formed 2 (scalar_of_two b c ∷ [])) (utf8_after_two b c (x ++ a ∷ y))) (λ _. malformed 1) _
      (λ _. stays_cond (nat_lt b 0xE0) (λ _. well_formed 2 (scalar_of_two b c ∷ [])) (λ y. utf8_after_two b c (x ++ a ∷ y)) _ (λ _. stays_const (well_formed 2 (scalar_of_two b c ∷ [])) _ (omega arith)) (λ _. stays_within _ (2 + length x) _ (omega arith) (closes_two b c x)))
      (λ _. stays_const (malformed 1) _ (omega arith))

  utf8_closes : ClosesAt first_piece_utf8 a
  utf8_closes = record {
    alone = λ y. rw (lt-ltb a 0x80 (omega arith)) refl;
    before = λ b x.
        stays_cond (nat_lt b 0x80) (λ _. well_formed 1 (b ∷ [])) (λ y. cond (is_in_range 0xC2 0xF4 b) (utf8_after_lead b (x ++ a ∷ y)) (malformed 1)) _ (λ _. stays_const (well_formed 1 (b ∷ [])) _ (omega arith))
        (λ _. stays_cond (is_in_range 0xC2 0xF4 b) (λ y. utf8_after_lead b (x ++ a ∷ y)) (λ _. malformed 1) _ (λ _. closes_lead b x) (λ _. stays_const (malformed 1) _ (omega arith)));
  }

  pub utf8_stands_alone : StandsAlone pieces_utf8 a
  utf8_stands_alone = stands_alone first_piece_utf8 a cuts_utf8 utf8_closes
