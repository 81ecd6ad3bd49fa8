-- What stands in a buffer after its first bytes were forgotten, and after more were read into it.
use Rattle.std.proofs.Common.{◌≡◌, ℕ, ◌+◌, ◌-◌, ◌≤◌, List, ◌++◌, length, take, drop, ap, sym, ◌∙◌, arith, length-drop}
use Rattle.std.proofs.Math.Seq.{take-append-add}
use Rattle.std.proofs.lemmas.List.{length-take-le, take_at, take-append-le}
use Rattle.std.proofs.lemmas.Slice.{between_is}
use Rattle.std.specs.List.{copy_within}
use borrow.Rule.Slice.PartMut.{put_mid, post_of}

-- what is left moves to the start
pub moved_down : (xs : List ℕ) (n len : ℕ) → n ≤ len → len ≤ length xs → take (len - n) (copy_within xs n len 0) ≡ drop n (take len xs)
moved_down xs n len h k =
    let size = length-take-le (len - n) (drop n xs) (omega (arith, length-drop n xs)) in
    take_at (take (len - n) (drop n xs)) (drop (0 + (len - n)) xs) (len - n) size ∙ between_is xs n len

-- bytes are read in after the first a
pub read_into : (a k n : ℕ) (xs ys : List ℕ) → a ≤ length xs → n ≤ length ys → take (a + n) (put_mid a k xs ys) ≡ take a xs ++ take n ys
read_into a k n xs ys within fits =
    ap (λ m. take (m + n) (put_mid a k xs ys)) (sym (length-take-le a xs within)) ∙ take-append-add (take a xs) (ys ++ post_of a k xs) n
    ∙ ap (λ l. take a xs ++ l) (take-append-le n ys (post_of a k xs) fits)
