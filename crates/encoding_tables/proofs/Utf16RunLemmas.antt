-- A run of units of UTF-16 below D800 hex: each is a piece of two bytes. Room for it.
use Rattle.std.proofs.Common.{◌≡◌, ℕ, zero, suc, ◌+◌, ◌*◌, ◌≤◌, ◌<◌, Bool, true, false, not, inl, inr, List, [], ◌∷◌, ◌++◌, length, drop, take, get_or, get_or-take, refl, sym, ◌∙◌, ap, arith, encode_utf8_all, nat_le}
use Rattle.std.specs.List.{prefix_len}
use Rattle.std.proofs.lemmas.Bool.{cases_lt, le-leb, lt-leb, lt-ltb}
use Rattle.std.proofs.lemmas.List.{length-take-le}
use Rattle.std.proofs.lemmas.List.Sums.{prefix_len-le-length}
use Rattle.encoding_mem.specs.Piece.{piece_len, well_formed}
use Rattle.encoding_mem.specs.calls.DecodedLength.{is_units, decoded_length, decoded_length_utf16}
use Rattle.encoding_mem.specs.calls.TextRun.{text_len}
use Rattle.encoding_mem.specs.calls.UnitRun.{BeginWithUnits, unit_pieces}
use Rattle.encoding_mem.specs.declared.codec.room.OutputUnit.{OutputUnit}
use Rattle.encoding_mem.specs.declared.codec.room.OutputUnit.TheVariants.{Units, Bytes, Replaced}
use Rattle.encoding_mem.specs.laws.Pieces.{pieces_by-cons}
use Rattle.encoding_mem.specs.laws.UnitRun.{unit_text_len}
use Rattle.encoding_tables.specs.Utf16.{AreUnitsOf, unit_of, after_unit, first_piece_utf16, pieces_utf16}
use Rattle.encoding_tables.specs.laws.Utf16.{cuts_utf16}

plain_piece : (e : Bool) (u : ℕ) (x : List ℕ) → u < 0xD800 → after_unit e u x ≡ well_formed 2 (u ∷ [])
plain_piece e u x low = rw (lt-leb 0xD800 u low, lt-ltb u 0xD800 low) refl

-- the units before the first that is not below D800 hex
abbrev pub plain_len : List ℕ → ℕ
plain_len us = prefix_len (λ u. not (nat_le 0xD800 u)) us

-- each of them is below; beyond the end there is none
pub all_plain : (us : List ℕ) (k : ℕ) → get_or (take (plain_len us) us) k 0 < 0xD800
all_plain [] k = omega arith
all_plain (u ∷ us) k = elim (cases_lt u 0xD800) [
  | inl low ↦ rw (lt-leb 0xD800 u low, one_more (plain_len us)) (here low (all_plain us) k)
  | inr over ↦ rw (le-leb 0xD800 u over) (omega arith)
]
  where
    one_more : (n : ℕ) → 1 + n ≡ suc n
    one_more n = omega arith

    here : u < 0xD800 → ((k : ℕ) → get_or (take (plain_len us) us) k 0 < 0xD800) → (k : ℕ) → get_or (u ∷ take (plain_len us) us) k 0 < 0xD800
    here low rest zero = low
    here low rest (suc k) = rest k

plain_pieces : (e : Bool) (us xs r : List ℕ) → length xs ≡ 2 * length us → AreUnitsOf e (length us) us xs → ((k : ℕ) → get_or us k 0 < 0xD800)
    → pieces_utf16 e (xs ++ r) ≡ unit_pieces us ++ pieces_utf16 e r
plain_pieces e [] [] r size are plain = refl
plain_pieces e [] (a ∷ xs) r size are plain = absurd (omega (arith, size))
plain_pieces e (u ∷ us) [] r size are plain = absurd (omega (arith, size))
plain_pieces e (u ∷ us) (a ∷ []) r size are plain = absurd (omega (arith, size))
plain_pieces e (u ∷ us) (a ∷ b ∷ xs) r size are plain =
    let unit : unit_of e a b ≡ u = sym (are 0 (omega arith)) in
    let is : first_piece_utf16 e (a ∷ b ∷ (xs ++ r)) ≡ well_formed 2 (u ∷ []) = ap (λ v. after_unit e v (xs ++ r)) unit ∙ plain_piece e u (xs ++ r) (plain 0) in
    let low : (k : ℕ) → 2 * suc k ≡ suc (suc (2 * k)) = λ k. omega arith in
    let high : (k : ℕ) → 2 * suc k + 1 ≡ suc (suc (2 * k + 1)) = λ k. omega arith in
    let rest : AreUnitsOf e (length us) us xs = λ k below. are (suc k) (omega (arith, below))
    ∙ ap (λ i. unit_of e (get_or (a ∷ b ∷ xs) i 0) (get_or (a ∷ b ∷ xs) (2 * suc k + 1) 0)) (low k)
    ∙ ap (λ i. unit_of e (get_or xs (2 * k) 0) (get_or (a ∷ b ∷ xs) i 0)) (high k) in
    pieces_by-cons (first_piece_utf16 e) (cuts_utf16 e) a (b ∷ (xs ++ r))
    ∙ ap (λ p. p ∷ pieces_utf16 e (drop (piece_len p) (a ∷ b ∷ (xs ++ r)))) is
    ∙ ap (λ ps. well_formed 2 (u ∷ []) ∷ ps) (plain_pieces e us xs r (omega (arith, size)) rest (λ k. plain (suc k)))

-- room for them: three bytes and one unit each
pub plain_room : (us : List ℕ) → ((k : ℕ) → get_or us k 0 < 0xD800) → (k : OutputUnit) (m : ℕ)
    → text_len (is_units k) (encode_utf8_all us) + decoded_length decoded_length_utf16 k m ≤ decoded_length decoded_length_utf16 k (2 * length us + m)
plain_room us plain Units m = omega (arith, unit_text_len true us plain)
plain_room us plain Bytes m = omega (arith, unit_text_len false us plain)
plain_room us plain Replaced m = omega (arith, unit_text_len false us plain)

-- all that is said of them
pub plain_run : (e : Bool) (us bytes : List ℕ) (n : ℕ) → n ≡ plain_len us → length us ≡ 32 → 64 ≤ length bytes → AreUnitsOf e 32 us bytes
    → BeginWithUnits (pieces_utf16 e) bytes (take n us)
plain_run e us bytes n counted whole fits are =
    let few : n ≤ 32 = omega (arith, counted, whole, prefix_len-le-length (λ u. not (nat_le 0xD800 u)) us) in
    let size : length (take n us) ≡ n = length-take-le n us (omega (arith, few, whole)) in
    let plain : (k : ℕ) → get_or (take n us) k 0 < 0xD800 = rw counted (all_plain us) in
    let m = 2 * length (take n us) in
    let here : AreUnitsOf e (length (take n us)) (take n us) (take m bytes) = λ k below. get_or-take n us k 0 (omega (arith, below, size))
    ∙ are k (omega (arith, below, size, few))
    ∙ ap (λ a. unit_of e a (get_or bytes (2 * k + 1) 0)) (sym (get_or-take m bytes (2 * k) 0 (omega (arith, below))))
    ∙ ap (λ b. unit_of e (get_or (take m bytes) (2 * k) 0) b) (sym (get_or-take m bytes (2 * k + 1) 0 (omega (arith, below)))) in
    record {
      few = omega (arith, size, few);
      within = omega (arith, size, few, fits);
      plain = plain;
      rest = λ r. plain_pieces e (take n us) (take m bytes) r (length-take-le m bytes (omega (arith, size, few, fits))) here plain;
    }

-- room for them
pub plain_run_room : (us : List ℕ) (n : ℕ) → n ≡ plain_len us → (k : OutputUnit) (m : ℕ)
    → text_len (is_units k) (encode_utf8_all (take n us)) + decoded_length decoded_length_utf16 k m ≤ decoded_length decoded_length_utf16 k (2 * n + m)
plain_run_room us n counted k m =
    let size : length (take n us) ≡ n = length-take-le n us (omega (arith, counted, prefix_len-le-length (λ u. not (nat_le 0xD800 u)) us)) in
    let room = plain_room (take n us) (rw counted (all_plain us)) k m in
    rw size at room
