-- A log is cut into lines in one way alone.
use Rattle.std.proofs.Common.{◌≡◌, ℕ, suc, ◌<◌, ◌≤◌, ◌^◌, List, [], ◌∷◌, ◌++◌, length, get_or, codes, refl, sym, ◌∙◌, ap, arith, append_assoc}
use Rattle.std.proofs.Math.Utf8.{scalar_fits}
use Rattle.std.specs.Char.{IsScalar}
use Rattle.std.specs.Fmt.{decimal}
use Rattle.std.specs.Str.Parse.{AllDigits, digits_value}
use Rattle.std.proofs.lemmas.Fmt.{decimal_injective, digits_decimal, length-decimal-le}
use Rattle.std.proofs.lemmas.List.{append_cancel_left, length-append}
use Rattle.std.proofs.lemmas.Str.Parse.{IsNumeralModel, numerals_by_value, tells_digits, not_in_digits}
use Rattle.recode_log.specs.Line.{line_bytes, row_bytes}
use Rattle.recode_places.specs.Logs.{CanBeLogged}
use Rattle.recode_places.specs.Places.{feeds}
use Rattle.recode_log.specs.declared.line.LogLine.{LogLine}
use Rattle.recode_log.specs.declared.line.LogLine.TheVariants.{Bad, Lost}

first_of : List ℕ → ℕ
first_of [] = 0
first_of (x ∷ xs) = x

rest_of : List ℕ → List ℕ
rest_of [] = []
rest_of (x ∷ xs) = xs

pub heads : (x y : ℕ) (xs ys : List ℕ) → x ∷ xs ≡ y ∷ ys → x ≡ y
unfolding first_of
heads x y xs ys e = ap first_of e

pub tails : (x y : ℕ) (xs ys : List ℕ) → x ∷ xs ≡ y ∷ ys → xs ≡ ys
unfolding rest_of
tails x y xs ys e = ap rest_of e

-- none of some bytes is this one
abbrev pub Lacks : ℕ → List ℕ → Type 0
Lacks d [] = Unit {0}
Lacks d (x ∷ xs) = ¬ (x ≡ d) × Lacks d xs

lacks_from_index : (d : ℕ) (xs : List ℕ) → ((k : ℕ) → k < length xs → ¬ (get_or xs k 0 ≡ d)) → Lacks d xs
lacks_from_index d [] h = tt
lacks_from_index d (x ∷ xs) h = (h 0 (omega arith), lacks_from_index d xs (λ k m. h (suc k) (omega (arith, m))))

pub lacks_from_feeds : (xs : List ℕ) → feeds xs ≡ 0 → Lacks 10 xs
lacks_from_feeds [] h = tt
lacks_from_feeds (c ∷ xs) h = ((λ e. absurd (grind (arith, h, e))), lacks_from_feeds xs (omega (arith, h)))

-- what stands before the first of a byte
pub split_first : (d : ℕ) (a b x y : List ℕ) → Lacks d a → Lacks d b → a ++ (d ∷ x) ≡ b ++ (d ∷ y) → (a ≡ b) × (x ≡ y)
split_first d [] [] x y h k e = (refl, tails d d x y e)
split_first d [] (c ∷ b) x y h k e = absurd (k.0 (sym (heads d c x (b ++ (d ∷ y)) e)))
split_first d (c ∷ a) [] x y h k e = absurd (h.0 (heads c d (a ++ (d ∷ x)) y e))
split_first d (c ∷ a) (f ∷ b) x y h k e =
    let rest = split_first d a b x y h.1 k.1 (tails c f (a ++ (d ∷ x)) (b ++ (d ∷ y)) e) in
    (ap (λ v. v ∷ a) (heads c f (a ++ (d ∷ x)) (b ++ (d ∷ y)) e) ∙ ap (λ t. f ∷ t) rest.0, rest.1)

-- ---- lines

model : IsNumeralModel (AllDigits 10) (digits_value 10)
model = numerals_by_value _ tells_digits

lacks_space : (n : ℕ) → n < 2 ^ 64 → Lacks 32 (decimal n)
lacks_space n small = lacks_from_index 32 (decimal n) (not_in_digits model (decimal n) 32 (digits_decimal model n small) (λ r. absurd (omega arith)))

lacks_feed : (n : ℕ) → n < 2 ^ 64 → Lacks 10 (decimal n)
lacks_feed n small = lacks_from_index 10 (decimal n) (not_in_digits model (decimal n) 10 (digits_decimal model n small) (λ r. absurd (omega arith)))

row_parts : (word : List ℕ) (m n : ℕ) (x : List ℕ) → row_bytes word m n ++ x ≡ word ++ (decimal m ++ (32 ∷ (decimal n ++ (10 ∷ x))))
row_parts word m n x = simp append_assoc

row_split : (word : List ℕ) (m n k l : ℕ) (x y : List ℕ) → m < 2 ^ 64 → n < 2 ^ 64 → k < 2 ^ 64 → l < 2 ^ 64 → row_bytes word m n ++ x ≡ row_bytes word k l ++ y → (m ≡ k) × (n ≡ l) × (x ≡ y)
row_split word m n k l x y hm hn hk hl e =
    let all = append_cancel_left word _ _ (sym (row_parts word m n x) ∙ e ∙ row_parts word k l y) in
    let first = split_first 32 (decimal m) (decimal k) _ _ (lacks_space m hm) (lacks_space k hk) all in
    let second = split_first 10 (decimal n) (decimal l) _ _ (lacks_feed n hn) (lacks_feed l hl) first.1 in
    (decimal_injective m k hm hk first.0, decimal_injective n l hn hl second.0, second.1)

pub line_split : (a b : LogLine) (x y : List ℕ) → CanBeLogged a → CanBeLogged b → line_bytes a ++ x ≡ line_bytes b ++ y → (a ≡ b) × (x ≡ y)
line_split (Bad m n) (Bad k l) x y h j e =
    let same = row_split (codes "bad ") m n k l x y (omega (arith, h.0.0)) (omega (arith, h.0.2)) (omega (arith, j.0.0)) (omega (arith, j.0.2)) e in
    (ap (λ p. Bad p n) same.0 ∙ ap (λ q. Bad k q) same.1, same.2)
line_split (Bad m n) (Lost k l) x y h j e = absurd (omega (arith, heads 98 108 _ _ e))
line_split (Lost m n) (Bad k l) x y h j e = absurd (omega (arith, heads 108 98 _ _ e))
line_split (Lost m n) (Lost k l) x y h j e =
    let same = row_split (codes "lost ") m n k l x y (omega (arith, h.0)) (scalar_small n h.1) (omega (arith, j.0)) (scalar_small l j.1) e in
    (ap (λ p. Lost p n) same.0 ∙ ap (λ q. Lost k q) same.1, same.2)
  where
    scalar_small : (c : ℕ) → IsScalar c → c < 2 ^ 64
    scalar_small c h = omega (arith, scalar_fits c h)

-- ---- a line by its end

lacks-append : (d : ℕ) (a b : List ℕ) → Lacks d a → Lacks d b → Lacks d (a ++ b)
lacks-append d [] b h k = k
lacks-append d (x ∷ a) b h k = (h.0, lacks-append d a b h.1 k)

-- a line is what comes before its line feed, and that
pub record EndsLine (bs : List ℕ) : Type 0 where
  pub body : List ℕ
  pub whole : bs ≡ body ++ (10 ∷ [])
  pub lacks : Lacks 10 body
  pub short : length body < 64

row_ends : (word : List ℕ) (m n : ℕ) → Lacks 10 word → length word ≤ 5 → m < 2 ^ 64 → n < 2 ^ 64 → EndsLine (row_bytes word m n)
row_ends word m n lacks short hm hn =
    let one = length-decimal-le 20 m (omega arith) (omega (arith, hm)) hm in
    let two = length-decimal-le 20 n (omega arith) (omega (arith, hn)) hn in
    let numbers = decimal m ++ (32 ∷ decimal n) in
    record {
      body = word ++ numbers;
      whole = simp append_assoc;
      lacks = lacks-append 10 word numbers lacks (lacks-append 10 (decimal m) (32 ∷ decimal n) (lacks_feed m hm) ((λ e. absurd (omega (arith, e))), lacks_feed n hn));
      short = omega (arith, one, two, short, length-append word numbers, length-append (decimal m) (32 ∷ decimal n));
    }

pub line_ends : (l : LogLine) → CanBeLogged l → EndsLine (line_bytes l)
line_ends (Bad m n) h = row_ends (codes "bad ") m n (lacks_from_feeds (codes "bad ") refl) (omega arith) (omega (arith, h.0.0)) (omega (arith, h.0.2))
line_ends (Lost m n) h = row_ends (codes "lost ") m n (lacks_from_feeds (codes "lost ") refl) (omega arith) (omega (arith, h.0)) (omega (arith, scalar_fits n h.1))

-- what lacks line feeds and is longer than a line does not begin with one
pub no_line_in : (p q x y : List ℕ) → Lacks 10 p → length q < length p → q ++ (10 ∷ x) ≡ p ++ y → ⊥
no_line_in [] q x y h k e = omega (arith, k)
no_line_in (c ∷ p) [] x y h k e = h.0 (sym (heads 10 c x (p ++ y) e))
no_line_in (c ∷ p) (d ∷ q) x y h k e = no_line_in p q x y h.1 (omega (arith, k)) (tails d c (q ++ (10 ∷ x)) (p ++ y) e)

-- bytes that lack line feeds, at the start of others, stand before the first line feed
pub begins_before : (w more p y : List ℕ) → Lacks 10 w → w ++ more ≡ p ++ (10 ∷ y) → (rest : List ℕ) × (p ≡ w ++ rest)
begins_before [] more p y h e = (p, refl)
begins_before (c ∷ w) more [] y h e = absurd (h.0 (heads c 10 (w ++ more) y e))
begins_before (c ∷ w) more (d ∷ p) y h e =
    let rest = begins_before w more p y h.1 (tails c d (w ++ more) (p ++ (10 ∷ y)) e) in
    (rest.0, ap (λ v. v ∷ p) (sym (heads c d (w ++ more) (p ++ (10 ∷ y)) e)) ∙ ap (λ t. c ∷ t) rest.1)

-- the shorter of two starts of one list begins the other
pub begins_longer : (w more p y : List ℕ) → length w ≤ length p → w ++ more ≡ p ++ y → (rest : List ℕ) × (p ≡ w ++ rest)
begins_longer [] more p y h e = (p, refl)
begins_longer (c ∷ w) more [] y h e = absurd (omega (arith, h))
begins_longer (c ∷ w) more (d ∷ p) y h e =
    let rest = begins_longer w more p y (omega (arith, h)) (tails c d (w ++ more) (p ++ y) e) in
    (rest.0, ap (λ v. v ∷ p) (sym (heads c d (w ++ more) (p ++ y) e)) ∙ ap (λ t. c ∷ t) rest.1)
