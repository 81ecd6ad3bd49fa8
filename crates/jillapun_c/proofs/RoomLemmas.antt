-- Rooms that are filled from a place on.
use Rattle.std.proofs.Common.{◌≡◌, ℕ, ◌+◌, ◌-◌, ◌≤◌, min, ◌⊎◌, true, inl, inr, List, [], ◌++◌, length, take, drop, refl, sym, ap, ◌∙◌, arith, length-append, length-drop, length-take, append-nil, append_assoc}
use Rattle.std.proofs.lemmas.List.{drop_all, drop-append-le, drop-drop, length-take-le, take_all, take_at, take-append-drop, take-append-le}
use Rattle.std.proofs.lemmas.Slice.{between_is, drop-put_mid, take-put_mid}
use Rattle.std.proofs.lemmas.Bool.{cases_lt}
use Rattle.std.proofs.Math.Seq.{drop-append-add, take-append-add}
use Rattle.std.specs.List.{copy_within}
use borrow.Rule.Slice.PartMut.{put_mid}
use Rattle.jillapun_c.specs.Room.{FillsRoom, HoldsFront}
use Rattle.jillapun_c.specs.declared.filled.Filled.{Filled}

-- a room stays as long as it was when a part of it is written
length_put : {X : Type 0} (a k : ℕ) (xs ys : List X) → a + k ≤ length xs → length ys ≡ k → length (put_mid a k xs ys) ≡ length xs
length_put a k xs ys within same =
    length-append (take a xs) (ys ++ drop k (drop a xs)) ∙ omega (arith, length-take-le a xs (omega (arith, within)), length-append ys (drop k (drop a xs)), length-drop k (drop a xs), length-drop a xs, within, same)

all_or_full : {X : Type 0} (list room : List X) (at n : ℕ) → at ≤ length room → n ≡ min (length list) (length room - at) → (drop n list ≡ []) ⊎ (at + n ≡ length room)
all_or_full list room at n within count = elim (cases_lt (length list) (length room - at)) [
  | inl short ↦ inl (drop_all n list (omega (arith, count, short)))
  | inr long ↦ inr (omega (arith, count, long, within))
]

-- as many elements as fit were put into a room from a place on
pub fills : {X : Type 0} (list room copied : List X) (at n m : ℕ) → m ≡ n → at ≤ length room → n ≡ min (length list) (length room - at) → copied ≡ take n list
    → FillsRoom list (drop m list) room (put_mid at m room copied) at (at + n)
fills list room copied at n m same within count copy =
    let size : length copied ≡ m = ap length copy ∙ length-take-le n list (omega (arith, count)) ∙ sym same in
    let room_size : length (put_mid at m room copied) ≡ length room = length_put at m room copied (omega (arith, same, within, count)) size in
    record {
      from = omega arith;
      fits = omega (arith, room_size, within, count);
      is = sym (ap (λ x. x ++ drop m list) (take-put_mid at m room copied (at + n) (omega (arith, size, same)) within) ∙ append_assoc (take at room) copied (drop m list)
          ∙ ap (λ x. take at room ++ (x ++ drop m list)) (copy ∙ ap (λ k. take k list) (sym same)) ∙ ap (λ x. take at room ++ x) (take-append-drop m list));
      after = drop-put_mid at m room copied (at + n) (omega (arith, same)) within size;
      full = elim (all_or_full list room at n within count) [ inl e ↦ inl (ap (λ k. drop k list) same ∙ e) | inr e ↦ inr (e ∙ sym room_size) ];
    }

-- what is left after the first elements moves to the start
pub shifted : (xs : List ℕ) (n len : ℕ) → n ≤ len → len ≤ length xs → take (len - n) (copy_within xs n len 0) ≡ drop n (take len xs)
shifted xs n len h k =
    let size : length (take (len - n) (drop n xs)) ≡ len - n = length-take-le (len - n) (drop n xs) (omega (arith, length-drop n xs)) in
    take_at (take (len - n) (drop n xs)) (drop (0 + (len - n)) xs) (len - n) size ∙ between_is xs n len

-- ---- what was written into all of a room after a place

nothing_behind : (at k : ℕ) (room : List ℕ) → k ≡ length room - at → drop k (drop at room) ≡ []
nothing_behind at k room size = drop-drop k at room ∙ drop_all (at + k) room (omega (arith, size))

pub part_size : (at k : ℕ) (room : List ℕ) → k ≡ length room - at → length (take k (drop at room)) ≡ k
part_size at k room size = length-take-le k (drop at room) (omega (arith, size, length-drop at room))

pub length_rest_put : (at k : ℕ) (room part : List ℕ) → at ≤ length room → k ≡ length room - at → length part ≡ length (take k (drop at room)) → length (put_mid at k room part) ≡ length room
length_rest_put at k room part within size same = length_put at k room part (omega (arith, within, size)) (same ∙ part_size at k room size)

pub take_rest_put : (at k n : ℕ) (room part : List ℕ) → at ≤ length room → n ≤ length part → take (at + n) (put_mid at k room part) ≡ take at room ++ take n part
take_rest_put at k n room part within fits =
    ap (λ m. take (m + n) (put_mid at k room part)) (sym (length-take-le at room within)) ∙ take-append-add (take at room) (part ++ drop k (drop at room)) n
    ∙ ap (λ l. take at room ++ l) (take-append-le n part (drop k (drop at room)) fits)

pub drop_rest_put : (at k n : ℕ) (room part : List ℕ) → at ≤ length room → k ≡ length room - at → n ≤ length part → drop n part ≡ drop n (take k (drop at room))
    → drop (at + n) (put_mid at k room part) ≡ drop (at + n) room
drop_rest_put at k n room part within size fits behind =
    ap (λ m. drop (m + n) (put_mid at k room part)) (sym (length-take-le at room within)) ∙ drop-append-add (take at room) (part ++ drop k (drop at room)) n
    ∙ drop-append-le n part (drop k (drop at room)) fits ∙ ap (λ l. drop n part ++ l) (nothing_behind at k room size) ∙ append-nil (drop n part)
    ∙ behind ∙ ap (drop n) (take_all k (drop at room) (omega (arith, length-drop at room, size))) ∙ drop-drop n at room

-- ---- what is put into a room as far as it fits

-- after the first part, which was made in the room
pub first_filled : {X : Type 0} (old new : List X) (n : ℕ) (filled : Filled) → n ≤ length new → drop n new ≡ drop n old → filled.put ≡ n → filled.length ≡ n → filled.is_whole ≡ true → HoldsFront (take n new) old new filled
first_filled old new n filled fits behind put size whole = record {
  rest = [];
  parts = ap (λ (m : ℕ). take m new) (sym put) ∙ sym (append-nil (take filled.put new));
  fits = omega (arith, put, fits);
  behind = ap (λ (m : ℕ). drop m new) put ∙ behind ∙ ap (λ (m : ℕ). drop m old) (sym put);
  length_is = inl (omega (arith, size, length-take n new, fits));
  whole = λ _. (refl, size ∙ sym put);
  cut = λ not. absurd (cc (sym whole ∙ not));
}
