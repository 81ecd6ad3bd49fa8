-- Text that is added to a destination, in turn.
use Rattle.std.proofs.Common.{◌≡◌, ℕ, ◌+◌, ◌≤◌, ◌<◌, Bool, true, false, cond, nat_lt, List, [], ◌∷◌, ◌++◌, length, take, drop, refl, sym, ◌∙◌, ap, arith, append_assoc, length-append, length-drop, encode_utf8_all}
use Rattle.std.proofs.lemmas.List.{take_at, take-append-drop}
use Rattle.std.proofs.lemmas.Slice.{drop-append-drop}
use Rattle.std.proofs.lemmas.Str.{encodes-append, encodes-chars, length-encode, len_utf8_bounds}
use Rattle.std.proofs.lemmas.Bool.Decides.{nat_tests}
use Rattle.std.specs.Str.{chars, IsUtf8}
use Rattle.std.proofs.lemmas.Grind.{common_steps}
use Rattle.std.specs.Char.{len_utf8, encode_utf8}
use Rattle.std.specs.Char.Escape.{encode_utf16}
use Rattle.std.proofs.lemmas.Bool.{lt-ltb}
use Rattle.encoding_mem.specs.calls.Writing.{Adds, len_utf16, encode_utf16_all}

length_prefix : (n : ℕ) (xs : List ℕ) → n ≤ length xs → length (take n xs) ≡ n
length_prefix n xs h = grind (arith, common_steps)

pub adds_none : (old : List ℕ) (n : ℕ) → n ≤ length old → Adds old n [] old n
adds_none old n h = record { counted = omega arith; within = h; list = sym (take-append-drop n old) }

pub adds_more : (old : List ℕ) (n : ℕ) (a mid : List ℕ) (m : ℕ) (b new : List ℕ) (k : ℕ) → Adds old n a mid m → Adds mid m b new k → Adds old n (a ++ b) new k
adds_more old n a mid m b new k h j =
    let prefix : length (take n old) ≡ n = length_prefix n old (omega (arith, h.within, h.counted)) in
    let seam : length (take n old ++ a) ≡ m = length-append (take n old) a ∙ omega (arith, h.counted, prefix) in
    let mid_is : mid ≡ (take n old ++ a) ++ drop m old = h.list ∙ sym (append_assoc (take n old) a (drop m old)) in
    let len : length mid ≡ length old = ap length mid_is ∙ length-append (take n old ++ a) (drop m old) ∙ omega (arith, seam, length-drop m old, h.within) in
    let early : take m mid ≡ take n old ++ a = ap (take m) mid_is ∙ take_at (take n old ++ a) (drop m old) m seam in
    let late : drop k mid ≡ drop k old = ap (drop k) mid_is ∙ drop-append-drop m old (take n old ++ a) k (omega (arith, j.counted)) seam in
    record {
      counted = omega (arith, h.counted, j.counted, length-append a b);
      within = omega (arith, j.within, len);
      list = j.list ∙ ap (λ x. x ++ (b ++ drop k mid)) early ∙ ap (λ x. (take n old ++ a) ++ (b ++ x)) late ∙ simp append_assoc;
    }

-- what is written is as long as what was there
pub adds-length : (old : List ℕ) (n : ℕ) (text new : List ℕ) (k : ℕ) → Adds old n text new k → length new ≡ length old
adds-length old n text new k h =
    let prefix : length (take n old) ≡ n = length_prefix n old (omega (arith, h.within, h.counted)) in
    ap length h.list ∙ length-append (take n old) (text ++ drop k old) ∙ omega (arith, prefix, h.counted, h.within, length-append text (drop k old), length-drop k old)

pub cost_fits : (c : ℕ) → len_utf8 c ≤ 4
cost_fits c = (len_utf8_bounds c).1

pub cost_two : (c d : ℕ) → c < 0x800 → d < 0x800 → len_utf8 c + len_utf8 d ≤ 4
cost_two c d h k = grind (arith, common_steps)

pub adds_encoded : (old : List ℕ) (n : ℕ) (a b mid : List ℕ) (m : ℕ) (new : List ℕ) (k : ℕ) → Adds old n (encode_utf8_all a) mid m → Adds mid m (encode_utf8_all b) new k → Adds old n (encode_utf8_all (a ++ b)) new k
adds_encoded old n a b mid m new k h j = rw (encodes-append a b) (adds_more old n (encode_utf8_all a) mid m (encode_utf8_all b) new k h j)

pub encode_utf16_all-append : (a b : List ℕ) → encode_utf16_all (a ++ b) ≡ encode_utf16_all a ++ encode_utf16_all b
encode_utf16_all-append [] b = refl
encode_utf16_all-append (c ∷ a) b = ap (λ x. encode_utf16 c ++ x) (encode_utf16_all-append a b) ∙ sym (append_assoc (encode_utf16 c) (encode_utf16_all a) (encode_utf16_all b))

pub adds_encoded16 : (old : List ℕ) (n : ℕ) (a b mid : List ℕ) (m : ℕ) (new : List ℕ) (k : ℕ) → Adds old n (encode_utf16_all a) mid m → Adds mid m (encode_utf16_all b) new k → Adds old n (encode_utf16_all (a ++ b)) new k
adds_encoded16 old n a b mid m new k h j = rw (encode_utf16_all-append a b) (adds_more old n (encode_utf16_all a) mid m (encode_utf16_all b) new k h j)

either : (t : Bool) → cond t 1 2 ≤ 2
either true = omega arith
either false = omega arith

pub cost_fits16 : (c : ℕ) → len_utf16 c ≤ 2
cost_fits16 c = either (nat_lt c 0x1_0000)

pub cost_two16 : (c d : ℕ) → c < 0x800 → d < 0x800 → len_utf16 c + len_utf16 d ≤ 2
cost_two16 c d h k = rw (lt-ltb c 0x1_0000 (omega arith)) (rw (lt-ltb d 0x1_0000 (omega arith)) (omega arith))

-- what takes as many units as its form in UTF-16, or in UTF-8, has room for one of any kind, and for
-- two below U+0800
pub cost_within : (b : Bool) (cost : ℕ → ℕ) (room : ℕ) → ((c : ℕ) → cost c ≡ cond b (len_utf16 c) (len_utf8 c)) → room ≡ cond b 2 4 → (c : ℕ) → cost c ≤ room
cost_within true cost room is two c = omega (arith, is c, two, cost_fits16 c)
cost_within false cost room is four c = omega (arith, is c, four, cost_fits c)

pub costs_within : (b : Bool) (cost : ℕ → ℕ) (room : ℕ) → ((c : ℕ) → cost c ≡ cond b (len_utf16 c) (len_utf8 c)) → room ≡ cond b 2 4 → (c d : ℕ) → c < 0x800 → d < 0x800 → cost c + cost d ≤ room
costs_within true cost room is two c d low lower = omega (arith, is c, is d, two, cost_two16 c d low lower)
costs_within false cost room is four c d low lower = omega (arith, is c, is d, four, cost_two c d low lower)

pub len_utf16_le : (c : ℕ) → len_utf16 c ≤ len_utf8 c
len_utf16_le c = grind (arith, nat_tests)

length_either : (t : Bool) (c a b : ℕ) → length (cond t (c ∷ []) (a ∷ b ∷ [])) ≡ cond t 1 2
length_either true c a b = refl
length_either false c a b = refl

pub length-encode_utf16 : (c : ℕ) → length (encode_utf16 c) ≡ len_utf16 c
length-encode_utf16 c = length_either (nat_lt c 0x1_0000) c _ _

-- scalars are no longer in units than in bytes
pub length-encode_utf16_all : (cs : List ℕ) → length (encode_utf16_all cs) ≤ length (encode_utf8_all cs)
length-encode_utf16_all [] = omega arith
length-encode_utf16_all (c ∷ cs) = omega (arith, length-append (encode_utf16 c) (encode_utf16_all cs), length-append (encode_utf8 c) (encode_utf8_all cs), length-encode_utf16 c, length-encode c, len_utf16_le c, length-encode_utf16_all cs)

-- nor is a text
pub length-encode_utf16_chars : (text : List ℕ) → IsUtf8 text → length (encode_utf16_all (chars text)) ≤ length text
length-encode_utf16_chars text utf8 = omega (arith, length-encode_utf16_all (chars text), ap length (encodes-chars text utf8))
