-- The first piece of UTF-16. The pieces of units in UTF-16 are the characters that the units spell. Room for the
-- pieces of UTF-16.
use Rattle.std.proofs.Common.{◌≡◌, ℕ, ◌≤◌, ◌<◌, Bool, true, false, cond, List, [], ◌∷◌, length, refl, ◌∙◌, ap, arith, lit<, lit≤, suc, ◌⊎◌, inl, inr, ◌++◌, drop, get_or, map, sym, Some, ◌+◌}
use Rattle.std.specs.Char.Utf16.{is_high_surrogate, is_low_surrogate, surrogate_pair_char, lone_unit_char, utf16_chars}
use Rattle.std.proofs.Math.Utf8.{scalar}
use Rattle.encoding_mem.specs.Piece.{Piece, well_formed, malformed, piece_len}
use Rattle.encoding_mem.specs.laws.Shows.{Shows, shows_cond, shows_cons, shows_const}
use Rattle.encoding_tables.specs.Utf16.{unit_of, after_high_surrogate, after_unit, first_piece_utf16, bytes_of_unit, bytes_of_units, pieces_utf16, piece_of_char, ReadsUnits}
use Rattle.encoding_tables.specs.laws.Utf16Decide.{decide_pair, decide_unit, decide_utf16}
use Rattle.std.specs.Int.{byte_at}
use Rattle.std.proofs.str.Utf16.{IsPair}
use Rattle.std.proofs.lemmas.Str.{utf16_chars_lone, utf16_chars_pair, utf16_chars-nil, len_utf8_bounds}
use Rattle.std.proofs.lemmas.Bool.{cases_lt, le-leb, lt-leb, lt-ltb, le-ltb}
use Rattle.encoding_mem.specs.laws.Pieces.{pieces_by-nil, pieces_by-cons}
use Rattle.encoding_tables.specs.laws.Utf16.{cuts_utf16}
use Rattle.std.specs.Char.{len_utf8}
use Rattle.std.proofs.lemmas.Bool.Decides.{nat_tests}
use Rattle.encoding_mem.specs.calls.DecoderRule.{HasRoomFor, cut_short}
use Rattle.encoding_mem.specs.calls.DecodedLength.{is_units, counts_past_malformed, cost_in, replacement_len, left_after, decoded_length, decoded_length_utf16}
use Rattle.encoding_mem.specs.calls.Writing.{len_utf16}
use Rattle.encoding_mem.specs.laws.Writing.{cost_fits16}
use Rattle.encoding_mem.specs.declared.codec.first_piece.FirstPiece.{FirstPiece}
use Rattle.encoding_mem.specs.declared.codec.first_piece.FirstPiece.TheVariants.{More, One, Two, Ignored, Malformed}
use Rattle.encoding_mem.specs.declared.codec.room.OutputUnit.{OutputUnit}
use Rattle.encoding_mem.specs.declared.codec.room.OutputUnit.TheVariants.{Units, Bytes, Replaced}
use Rattle.encoding_mem.specs.Decided.{AreBytes}

-- each piece has a byte
some_cond : (t : Bool) (p q : Piece) → 0 < piece_len p → 0 < piece_len q → 0 < piece_len (cond t p q)
some_cond true p q h k = h
some_cond false p q h k = k

some_pair : (e : Bool) (u : ℕ) (x : List ℕ) → 0 < piece_len (after_high_surrogate e u x)
some_pair e u [] = lit< tt
some_pair e u (c ∷ []) = lit< tt
some_pair e u (c ∷ d ∷ x) = some_cond (is_low_surrogate (unit_of e c d)) (well_formed 4 (surrogate_pair_char u (unit_of e c d) ∷ [])) (malformed 2) (lit< tt) (lit< tt)

some_unit : (e : Bool) (u : ℕ) (x : List ℕ) → 0 < piece_len (after_unit e u x)
some_unit e u x = some_cond (is_high_surrogate u) (after_high_surrogate e u x) (cond (scalar u) (well_formed 2 (u ∷ [])) (malformed 2)) (some_pair e u x)
    (some_cond (scalar u) (well_formed 2 (u ∷ [])) (malformed 2) (lit< tt) (lit< tt))

some_byte : (e : Bool) (a : ℕ) (x : List ℕ) → 0 < piece_len (first_piece_utf16 e (a ∷ x))
some_byte e a [] = lit< tt
some_byte e a (b ∷ x) = some_unit e (unit_of e a b) x

-- the bytes end here, and with more the piece is another
shows_cut : (f : List ℕ → Piece) (n : ℕ) (last : Bool) (more : List ℕ) → 0 < n → n ≤ 3 → ((x : List ℕ) → 0 < piece_len (f x)) → f [] ≡ malformed n → AreBytes more → length more ≤ 3 → (f [] ≡ f more → ⊥) → Shows f n [] last (cut_short n last)
shows_cut f n true more some few each now bytes short differs = ((some, omega arith, λ r e. ap f (e refl) ∙ now), omega arith)
shows_cut f n false more some few each now bytes short differs = record { goes_on = refl; short = omega arith; more = more; bytes = bytes; few = short; differs = differs; soon = λ r. omega (arith, each r, few) }

-- a pair comes with a low surrogate, which has two bytes alike
pair_comes : (e : Bool) (u : ℕ) → malformed 2 ≡ after_high_surrogate e u (0xDC ∷ 0xDC ∷ []) → ⊥
pair_comes true u h = cc
pair_comes false u h = cc

-- with a whole unit no third byte is malformed
no_third : (t : Bool) (c : ℕ) → malformed 3 ≡ cond t (well_formed 4 (c ∷ [])) (malformed 2) → ⊥
no_third true c h = cc
no_third false c h = let three : 3 ≡ 2 = ap piece_len h in absurd (omega (arith, three))

no_first : (t s : Bool) (u : ℕ) → malformed 1 ≡ cond t (malformed 2) (cond s (well_formed 2 (u ∷ [])) (malformed 2)) → ⊥
no_first true s u h = let one : 1 ≡ 2 = ap piece_len h in absurd (omega (arith, one))
no_first false true u h = cc
no_first false false u h = let one : 1 ≡ 2 = ap piece_len h in absurd (omega (arith, one))

shows_pair : (e : Bool) (u : ℕ) (x : List ℕ) (last : Bool) → Shows (after_high_surrogate e u) 2 x last (decide_pair e u x last)
shows_pair e u [] last = shows_cut (after_high_surrogate e u) 2 last (0xDC ∷ 0xDC ∷ []) (lit< tt) (lit≤ tt) (some_pair e u) refl (lit< tt, (lit< tt, tt)) (lit≤ tt) (pair_comes e u)
shows_pair e u (c ∷ []) last = shows_cons (after_high_surrogate e u) 2 c [] last _
    (shows_cut (λ y. after_high_surrogate e u (c ∷ y)) 3 last (0 ∷ []) (lit< tt) (lit≤ tt) (λ y. some_pair e u (c ∷ y)) refl (lit< tt, tt) (lit≤ tt) (no_third (is_low_surrogate (unit_of e c 0)) _))
shows_pair e u (c ∷ d ∷ x) last = shows_cons (after_high_surrogate e u) 2 c (d ∷ x) last _ (shows_cons (λ y. after_high_surrogate e u (c ∷ y)) 3 d x last _
    (shows_cond (is_low_surrogate (unit_of e c d)) (λ _. well_formed 4 (surrogate_pair_char u (unit_of e c d) ∷ [])) (λ _. malformed 2) 4 x last _ _
    (shows_const (well_formed 4 (surrogate_pair_char u (unit_of e c d) ∷ [])) 4 x last (lit< tt) (lit≤ tt))
    (shows_const (malformed 2) 4 x last (lit< tt) (lit≤ tt), lit≤ tt)))

shows_unit : (e : Bool) (u : ℕ) (x : List ℕ) (last : Bool) → Shows (after_unit e u) 2 x last (decide_unit e u x last)
shows_unit e u x last = shows_cond (is_high_surrogate u) (after_high_surrogate e u) (λ _. cond (scalar u) (well_formed 2 (u ∷ [])) (malformed 2)) 2 x last _ _ (shows_pair e u x last)
    (shows_cond (scalar u) (λ _. well_formed 2 (u ∷ [])) (λ _. malformed 2) 2 x last _ _ (shows_const (well_formed 2 (u ∷ [])) 2 x last (lit< tt) (lit≤ tt)) (shows_const (malformed 2) 2 x last (lit< tt) (lit≤ tt), lit≤ tt))

pub shows_utf16 : (e : Bool) (x : List ℕ) (last : Bool) → 0 < length x → Shows (first_piece_utf16 e) 0 x last (decide_utf16 e x last)
shows_utf16 e [] last h = absurd (omega (arith, h))
shows_utf16 e (a ∷ []) last h = shows_cons (first_piece_utf16 e) 0 a [] last _
    (shows_cut (λ y. first_piece_utf16 e (a ∷ y)) 1 last (0 ∷ []) (lit< tt) (lit≤ tt) (some_byte e a) refl (lit< tt, tt) (lit≤ tt) (no_first (is_high_surrogate (unit_of e a 0)) (scalar (unit_of e a 0)) (unit_of e a 0)))
shows_utf16 e (a ∷ b ∷ x) last h = shows_cons (first_piece_utf16 e) 0 a (b ∷ x) last _ (shows_cons (λ y. first_piece_utf16 e (a ∷ y)) 1 b x last _ (shows_unit e (unit_of e a b) x last))

-- The pieces of units in UTF-16 are the characters that the units spell.

-- the two bytes of a unit
record TwoBytes (e : Bool) (u : ℕ) : Type 0 where
  a : ℕ
  b : ℕ
  unit : unit_of e a b ≡ u
  bytes : (r : List ℕ) → bytes_of_unit e u ++ r ≡ a ∷ b ∷ r

two_bytes : (e : Bool) (u : ℕ) → u < 0x10000 → TwoBytes e u
two_bytes true u h = record { a = byte_at 1 u; b = byte_at 0 u; unit = omega arith; bytes = λ r. refl }
two_bytes false u h = record { a = byte_at 0 u; b = byte_at 1 u; unit = omega arith; bytes = λ r. refl }

-- a piece that begins with a unit and has n bytes more, then the pieces of what follows
first_unit : (e : Bool) (u : ℕ) (r : List ℕ) → u < 0x10000 → (p : Piece) (n : ℕ) → after_unit e u r ≡ p → piece_len p ≡ suc (suc n)
    → pieces_utf16 e (bytes_of_unit e u ++ r) ≡ p ∷ pieces_utf16 e (drop n r)
first_unit e u r h p n is size =
    let w = two_bytes e u h in
    ap (pieces_utf16 e) (w.bytes r)
    ∙ pieces_by-cons (first_piece_utf16 e) (cuts_utf16 e) w.a (w.b ∷ r)
    ∙ ap (λ q. q ∷ pieces_utf16 e (drop (piece_len q) (w.a ∷ w.b ∷ r))) (ap (λ v. after_unit e v r) w.unit ∙ is)
    ∙ ap (λ k. p ∷ pieces_utf16 e (drop k (w.a ∷ w.b ∷ r))) size

-- a unit that is no surrogate, a low surrogate, and a high one with no low one after it
plain : (e : Bool) (u : ℕ) (x : List ℕ) → (u < 0xD800) ⊎ ((0xE000 ≤ u) × (u < 0x10000)) → after_unit e u x ≡ piece_of_char (lone_unit_char u)
plain e u x (inl low) =
    let short : u < 0x10000 = omega arith in
    rw (lt-leb 0xD800 u low, lt-ltb u 0xD800 low, lt-ltb u 0x10000 short) refl
plain e u x (inr high) =
    let over : 0xD800 ≤ u = omega arith in
    let out : 0xDC00 ≤ u = omega arith in
    let scalar : u < 0x110000 = omega arith in
    rw (le-leb 0xD800 u over, le-ltb u 0xDC00 out, le-ltb u 0xD800 over, le-leb 0xE000 u high.0, lt-ltb u 0x110000 scalar, le-ltb u 0xE000 high.0, lt-ltb u 0x10000 high.1) refl

low_alone : (e : Bool) (u : ℕ) (x : List ℕ) → 0xDC00 ≤ u → u < 0xE000 → after_unit e u x ≡ piece_of_char (lone_unit_char u)
low_alone e u x from below =
    let over : 0xD800 ≤ u = omega arith in
    rw (le-leb 0xD800 u over, le-ltb u 0xDC00 from, le-ltb u 0xD800 over, lt-leb 0xE000 u below, lt-ltb u 0xE000 below) refl

high_is : (e : Bool) (u : ℕ) (x : List ℕ) → 0xD800 ≤ u → u < 0xDC00 → after_unit e u x ≡ after_high_surrogate e u x
high_is e u x from below = rw (le-leb 0xD800 u from, lt-ltb u 0xDC00 below) refl

not_low : (v : ℕ) → (v < 0xDC00) ⊎ (0xE000 ≤ v) → is_low_surrogate v ≡ false
not_low v (inl below) = rw (lt-leb 0xDC00 v below) refl
not_low v (inr over) = let from : 0xDC00 ≤ v = omega arith in rw (le-leb 0xDC00 v from, le-ltb v 0xE000 over) refl

apart_from : (u v : ℕ) → 0xD800 ≤ u → u < 0xDC00 → ¬ (IsPair u v) → (v < 0xDC00) ⊎ (0xE000 ≤ v)
apart_from u v from below apart = elim (cases_lt v 0xDC00) [
  | inl less ↦ inl less
  | inr more ↦ elim (cases_lt v 0xE000) [ inl low ↦ absurd (apart (from, below, more, low)) | inr over ↦ inr over ]
]

pair_or_malformed : (t : Bool) (c : ℕ) → t ≡ false → cond t (well_formed 4 (c ∷ [])) (malformed 2) ≡ malformed 2
pair_or_malformed true c h = absurd (cc)
pair_or_malformed false c h = refl

high_alone : (e : Bool) (u : ℕ) (us : List ℕ) → ((k : ℕ) → get_or us k 0 < 0x10000) → 0xD800 ≤ u → u < 0xDC00 → ¬ (IsPair u (get_or us 0 0)) → after_high_surrogate e u (bytes_of_units e us) ≡ malformed 2
high_alone e u [] h from below apart = refl
high_alone e u (v ∷ us) h from below apart =
    let w = two_bytes e v (h 0) in
    ap (after_high_surrogate e u) (w.bytes (bytes_of_units e us))
    ∙ pair_or_malformed (is_low_surrogate (unit_of e w.a w.b)) (surrogate_pair_char u (unit_of e w.a w.b)) (ap is_low_surrogate w.unit ∙ not_low v (apart_from u v from below apart))

lone_high : (u : ℕ) → 0xD800 ≤ u → u < 0xDC00 → piece_of_char (lone_unit_char u) ≡ malformed 2
lone_high u from below = let surrogate : u < 0xE000 = omega arith in rw (le-leb 0xD800 u from, lt-ltb u 0xE000 surrogate) refl

alone : (e : Bool) (u : ℕ) (us : List ℕ) → u < 0x10000 → ((k : ℕ) → get_or us k 0 < 0x10000) → ¬ (IsPair u (get_or us 0 0)) → after_unit e u (bytes_of_units e us) ≡ piece_of_char (lone_unit_char u)
alone e u us short h apart = elim (cases_lt u 0xD800) [
  | inl less ↦ plain e u (bytes_of_units e us) (inl less)
  | inr from ↦ elim (cases_lt u 0xDC00) [
    | inl below ↦ high_is e u (bytes_of_units e us) from below ∙ high_alone e u us h from below apart ∙ sym (lone_high u from below)
    | inr over ↦ elim (cases_lt u 0xE000) [
      | inl low ↦ low_alone e u (bytes_of_units e us) over low
      | inr out ↦ plain e u (bytes_of_units e us) (inr (out, short))
    ]
  ]
]

-- such a piece has two bytes
lone_size : (u : ℕ) → u < 0x10000 → piece_len (piece_of_char (lone_unit_char u)) ≡ 2
lone_size u short = elim (cases_lt u 0xD800) [
  | inl less ↦ rw (lt-leb 0xD800 u less, lt-ltb u 0x10000 short) refl
  | inr from ↦ elim (cases_lt u 0xE000) [
    | inl low ↦ rw (le-leb 0xD800 u from, lt-ltb u 0xE000 low) refl
    | inr out ↦ rw (le-leb 0xD800 u from, le-ltb u 0xE000 out, lt-ltb u 0x10000 short) refl
  ]
]

lone_step : (e : Bool) (u : ℕ) (us : List ℕ) → u < 0x10000 → ((k : ℕ) → get_or us k 0 < 0x10000) → ¬ (IsPair u (get_or us 0 0))
    → pieces_utf16 e (bytes_of_units e us) ≡ map piece_of_char (utf16_chars us)
    → pieces_utf16 e (bytes_of_units e (u ∷ us)) ≡ map piece_of_char (utf16_chars (u ∷ us))
lone_step e u us short h apart more =
    first_unit e u (bytes_of_units e us) short (piece_of_char (lone_unit_char u)) 0 (alone e u us short h apart) (lone_size u short)
    ∙ ap (λ ps. piece_of_char (lone_unit_char u) ∷ ps) more
    ∙ sym (ap (map piece_of_char) (utf16_chars_lone u us apart))

-- a pair
pair_is_well_formed : (t : Bool) (c : ℕ) → t ≡ true → cond t (well_formed 4 (c ∷ [])) (malformed 2) ≡ well_formed 4 (c ∷ [])
pair_is_well_formed true c h = refl
pair_is_well_formed false c h = absurd (cc)

low_is : (v : ℕ) → 0xDC00 ≤ v → v < 0xE000 → is_low_surrogate v ≡ true
low_is v from below = rw (le-leb 0xDC00 v from, lt-ltb v 0xE000 below) refl

pair_piece : (u v : ℕ) → piece_of_char (Some (surrogate_pair_char u v)) ≡ well_formed 4 (surrogate_pair_char u v ∷ [])
pair_piece u v = let over : 0x10000 ≤ surrogate_pair_char u v = omega arith in rw (le-ltb (surrogate_pair_char u v) 0x10000 over) refl

paired : (e : Bool) (u v : ℕ) (x : List ℕ) → v < 0x10000 → IsPair u v → after_unit e u (bytes_of_unit e v ++ x) ≡ well_formed 4 (surrogate_pair_char u v ∷ [])
paired e u v x short pair =
    let w = two_bytes e v short in
    high_is e u (bytes_of_unit e v ++ x) pair.0 pair.1
    ∙ ap (after_high_surrogate e u) (w.bytes x)
    ∙ pair_is_well_formed (is_low_surrogate (unit_of e w.a w.b)) (surrogate_pair_char u (unit_of e w.a w.b)) (ap is_low_surrogate w.unit ∙ low_is v pair.2 pair.3)
    ∙ ap (λ n. well_formed 4 (surrogate_pair_char u n ∷ [])) w.unit

pair_step : (e : Bool) (u v : ℕ) (us : List ℕ) → u < 0x10000 → v < 0x10000 → IsPair u v
    → pieces_utf16 e (bytes_of_units e us) ≡ map piece_of_char (utf16_chars us)
    → pieces_utf16 e (bytes_of_units e (u ∷ v ∷ us)) ≡ map piece_of_char (utf16_chars (u ∷ v ∷ us))
pair_step e u v us short_u short_v pair more =
    let w = two_bytes e v short_v in
    first_unit e u (bytes_of_units e (v ∷ us)) short_u (well_formed 4 (surrogate_pair_char u v ∷ [])) 2 (paired e u v (bytes_of_units e us) short_v pair) refl
    ∙ ap (λ x. well_formed 4 (surrogate_pair_char u v ∷ []) ∷ pieces_utf16 e (drop 2 x)) (w.bytes (bytes_of_units e us))
    ∙ ap (λ ps. well_formed 4 (surrogate_pair_char u v ∷ []) ∷ ps) more
    ∙ ap (λ p. p ∷ map piece_of_char (utf16_chars us)) (sym (pair_piece u v))
    ∙ sym (ap (map piece_of_char) (utf16_chars_pair u v us pair))

pair_or_apart : (u v : ℕ) → IsPair u v ⊎ ¬ (IsPair u v)
pair_or_apart u v = elim (cases_lt u 0xD800) [
  | inl less ↦ inr (λ p. omega (arith, p.0))
  | inr from ↦ elim (cases_lt u 0xDC00) [
    | inr over ↦ inr (λ p. omega (arith, p.1))
    | inl below ↦ elim (cases_lt v 0xDC00) [
      | inl less ↦ inr (λ p. omega (arith, p.2))
      | inr low ↦ elim (cases_lt v 0xE000) [ inl high ↦ inl (from, below, low, high) | inr over ↦ inr (λ p. omega (arith, p.3)) ]
    ]
  ]
]

no_pair_at_end : (u : ℕ) → ¬ (IsPair u (get_or [] 0 0))
no_pair_at_end u p = omega (arith, p.2)

pub reads_units : ReadsUnits
reads_units e [] h = pieces_by-nil (first_piece_utf16 e) ∙ sym (ap (map piece_of_char) utf16_chars-nil)
reads_units e (u ∷ []) h = lone_step e u [] (h 0) (λ k. h (suc k)) (no_pair_at_end u) (reads_units e [] (λ k. h (suc k)))
reads_units e (u ∷ v ∷ us) h = elim (pair_or_apart u v) [
  | inl pair ↦ pair_step e u v us (h 0) (h 1) pair (reads_units e us (λ k. h (suc (suc k))))
  | inr apart ↦ lone_step e u (v ∷ us) (h 0) (λ k. h (suc k)) apart (reads_units e (v ∷ us) (λ k. h (suc k)))
]

-- Room for the pieces of UTF-16.

-- What a look at bytes returns. A character of two bytes is in the basic plane, another has four; what is malformed has
-- two bytes, or is all that there is.
abbrev pub IsUtf16Prefix : List ℕ → Bool → FirstPiece → Type 0
IsUtf16Prefix x last More = Unit {0}
IsUtf16Prefix x last (One c n) = ((n ≡ 2) × (c < 0x10000)) ⊎ (n ≡ 4)
IsUtf16Prefix x last (Two c d n) = ⊥
IsUtf16Prefix x last (Ignored n) = ⊥
IsUtf16Prefix x last (Malformed n) = (n ≡ 2) ⊎ ((last ≡ true) × (0 < n) × (n ≡ length x))

of_cond : (x : List ℕ) (last t : Bool) (F G : FirstPiece) → IsUtf16Prefix x last F → IsUtf16Prefix x last G → IsUtf16Prefix x last (cond t F G)
of_cond x last true F G h k = h
of_cond x last false F G h k = k

of_cut : (x : List ℕ) (last : Bool) (n : ℕ) → 0 < n → n ≡ length x → IsUtf16Prefix x last (cut_short n last)
of_cut x true n some all = inr (refl, some, all)
of_cut x false n some all = tt

of_pair : (e : Bool) (a b u : ℕ) (x : List ℕ) (last : Bool) → IsUtf16Prefix (a ∷ b ∷ x) last (decide_pair e u x last)
of_pair e a b u [] last = of_cut (a ∷ b ∷ []) last 2 (lit< tt) refl
of_pair e a b u (c ∷ []) last = of_cut (a ∷ b ∷ c ∷ []) last 3 (lit< tt) refl
of_pair e a b u (c ∷ d ∷ x) last = of_cond (a ∷ b ∷ c ∷ d ∷ x) last (is_low_surrogate (unit_of e c d)) (One (surrogate_pair_char u (unit_of e c d)) 4) (Malformed 2) (inr refl) (inl refl)

of_unit : (e : Bool) (a b u : ℕ) (x : List ℕ) (last : Bool) → u < 0x10000 → IsUtf16Prefix (a ∷ b ∷ x) last (decide_unit e u x last)
of_unit e a b u x last short = of_cond (a ∷ b ∷ x) last (is_high_surrogate u) (decide_pair e u x last) (cond (scalar u) (One u 2) (Malformed 2)) (of_pair e a b u x last)
    (of_cond (a ∷ b ∷ x) last (scalar u) (One u 2) (Malformed 2) (inl (refl, short)) (inl refl))

unit_of_bytes : (e : Bool) (a b : ℕ) → a < 256 → b < 256 → unit_of e a b < 0x10000
unit_of_bytes true a b h k = omega arith
unit_of_bytes false a b h k = omega arith

pub of_utf16 : (e : Bool) (x : List ℕ) (last : Bool) → ((k : ℕ) → get_or x k 0 < 256) → IsUtf16Prefix x last (decide_utf16 e x last)
of_utf16 e [] last bytes = tt
of_utf16 e (a ∷ []) last bytes = of_cut (a ∷ []) last 1 (lit< tt) refl
of_utf16 e (a ∷ b ∷ x) last bytes = of_unit e a b (unit_of e a b) x last (unit_of_bytes e a b (bytes 0) (bytes 1))

len_utf8_basic : (c : ℕ) → c < 0x10000 → len_utf8 c ≤ 3
len_utf8_basic c basic = grind (arith, nat_tests)

len_utf16_basic : (c : ℕ) → c < 0x10000 → len_utf16 c ≤ 1
len_utf16_basic c basic = grind (arith, nat_tests)

-- a character of two bytes, one of four, and a malformed sequence of two
one_unit : (c n : ℕ) → n ≡ 2 → c < 0x10000 → (k : OutputUnit) (m : ℕ) → cost_in (is_units k) c + decoded_length decoded_length_utf16 k m ≤ decoded_length decoded_length_utf16 k (n + m)
one_unit c n two basic Units m = omega (arith, two, len_utf16_basic c basic)
one_unit c n two basic Bytes m = omega (arith, two, len_utf8_basic c basic)
one_unit c n two basic Replaced m = omega (arith, two, len_utf8_basic c basic)

two_units : (c n : ℕ) → n ≡ 4 → (k : OutputUnit) (m : ℕ) → cost_in (is_units k) c + decoded_length decoded_length_utf16 k m ≤ decoded_length decoded_length_utf16 k (n + m)
two_units c n four Units m = omega (arith, four, cost_fits16 c)
two_units c n four Bytes m = omega (arith, four, (len_utf8_bounds c).1)
two_units c n four Replaced m = omega (arith, four, (len_utf8_bounds c).1)

bad_unit : (n : ℕ) → n ≡ 2 → (k : OutputUnit) (m : ℕ) → left_after (counts_past_malformed k) (replacement_len (is_units k)) (decoded_length decoded_length_utf16 k m) ≤ decoded_length decoded_length_utf16 k (n + m)
bad_unit n two Units m = omega (arith, two)
bad_unit n two Bytes m = omega (arith, two)
bad_unit n two Replaced m = omega (arith, two)

-- nothing follows what the end cuts
malformed_end : (n : ℕ) → 0 < n → (k : OutputUnit) (m : ℕ) → m ≡ 0 → left_after (counts_past_malformed k) (replacement_len (is_units k)) (decoded_length decoded_length_utf16 k m) ≤ decoded_length decoded_length_utf16 k (n + m)
malformed_end n some Units m none = omega (arith, some, none)
malformed_end n some Bytes m none = omega (arith, some, none)
malformed_end n some Replaced m none = omega (arith, some, none)

pub roomy_utf16 : (x : List ℕ) (last : Bool) (F : FirstPiece) → IsUtf16Prefix x last F → HasRoomFor (decoded_length decoded_length_utf16) (decoded_length decoded_length_utf16) (length x) last F
roomy_utf16 x last More h = tt
roomy_utf16 x last (One c n) h = λ k m _. elim h [ inl two ↦ one_unit c n two.0 two.1 k m | inr four ↦ two_units c n four k m ]
roomy_utf16 x last (Two c d n) h = absurd h
roomy_utf16 x last (Ignored n) h = absurd h
roomy_utf16 x last (Malformed n) h = λ k m e. elim h [ inl two ↦ bad_unit n two k m | inr all ↦ malformed_end n all.1 k m (omega (arith, e all.0, all.2)) ]
