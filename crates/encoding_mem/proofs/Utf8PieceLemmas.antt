-- The first piece of UTF-8: it is a form or a maximal subpart.
use Rattle.std.proofs.Common.{◌≡◌, ℕ, ◌≤◌, ◌<◌, Bool, true, false, cond, List, [], ◌∷◌, length, nat_lt, refl, ◌∙◌, ap, arith, suc, zero, ◌+◌, ◌/◌, ◌%◌, ◌⊎◌, inl, inr, ◌++◌, take, drop, sym, subst, append_assoc}
use Rattle.std.specs.Int.{is_in_range, IsInRange}
use Rattle.std.proofs.lemmas.Bool.Decides.{nat_tests}
use Rattle.encoding_mem.specs.Piece.{Piece, well_formed, malformed, piece_len, piece_scalars}
use Rattle.encoding_mem.specs.Utf8.{first_piece_utf8, utf8_after_lead, utf8_after_two, utf8_after_three, second_min, second_max, scalar_of_two, scalar_of_three, scalar_of_four, pieces_utf8}
use Rattle.encoding_mem.specs.laws.Utf8Decide.{decide_utf8, utf8_decide_lead, utf8_decide_two, utf8_decide_three}
use Rattle.encoding_mem.specs.laws.Shows.{Shows, shows_cond, shows_cons, shows_const, broken_then_well_formed}
use Rattle.std.specs.Char.{IsScalar, encode_utf8}
use Rattle.std.specs.Str.{all_scalars}
use Rattle.std.proofs.Math.Utf8.{scalar}
use Rattle.std.proofs.lemmas.Bool.{cases_lt, ltb-true, ltb-false, and_parts}
use Rattle.std.proofs.lemmas.Str.{encode_ascii, length-encode}
use Rattle.std.proofs.lemmas.List.{append-nil, take-append-drop, take_at, take-take, take-append-le, length-take-le}
use Rattle.encoding_mem.specs.laws.Pieces.{pieces_by-nil, pieces_by-first}
use Rattle.encoding_mem.specs.laws.Utf8.{first_piece_utf8-encode, cuts_utf8, encode_two, encode_three, encode_four, range_from, second_low, second_high, second_least}
use Rattle.encoding_mem.specs.MaximalSubparts.{BeginsWithForm, IsFormPrefix, IsSubpart, IsMaximalSubpart, IsUtf8Piece, Utf8PiecesAreMaximal}
use Rattle.encoding_mem.specs.Decided.{AreBytes}
use Rattle.encoding_mem.specs.calls.DecoderRule.{cut_short}

-- each piece has a byte
some_cond : (t : Bool) (p q : Piece) → 0 < piece_len p → 0 < piece_len q → 0 < piece_len (cond t p q)
some_cond true p q h k = h
some_cond false p q h k = k

some_three : (b c d : ℕ) (x : List ℕ) → 0 < piece_len (utf8_after_three b c d x)
some_three b c d [] = omega arith
some_three b c d (e ∷ x) = some_cond (is_in_range 0x80 0xBF e) (well_formed 4 (scalar_of_four b c d e ∷ [])) (malformed 3) (omega arith) (omega arith)

some_two : (b c : ℕ) (x : List ℕ) → 0 < piece_len (utf8_after_two b c x)
some_two b c [] = omega arith
some_two b c (d ∷ x) = some_cond (is_in_range 0x80 0xBF d) (cond (nat_lt b 0xF0) (well_formed 3 (scalar_of_three b c d ∷ [])) (utf8_after_three b c d x)) (malformed 2) (some_cond (nat_lt b 0xF0) (well_formed 3 (scalar_of_three b c d ∷ [])) (utf8_after_three b c d x) (omega arith) (some_three b c d x)) (omega arith)

some_lead : (b : ℕ) (x : List ℕ) → 0 < piece_len (utf8_after_lead b x)
some_lead b [] = omega arith
some_lead b (c ∷ x) = some_cond (is_in_range (second_min b) (second_max b) c) (cond (nat_lt b 0xE0) (well_formed 2 (scalar_of_two b c ∷ [])) (utf8_after_two b c x)) (malformed 1) (some_cond (nat_lt b 0xE0) (well_formed 2 (scalar_of_two b c ∷ [])) (utf8_after_two b c x) (omega arith) (some_two b c x)) (omega arith)

-- the bytes end here
shows_cut : (f : List ℕ → Piece) (n : ℕ) (last : Bool) (more : List ℕ) (size : ℕ) (text : List ℕ) → 0 < n → n ≤ 3 → ((x : List ℕ) → 0 < piece_len (f x)) → f [] ≡ malformed n → AreBytes more → length more ≤ 3 → f more ≡ well_formed size text → Shows f n [] last (cut_short n last)
shows_cut f n true more size text some few each now bytes short then = ((some, omega arith, λ r e. ap f (e refl) ∙ now), omega arith)
shows_cut f n false more size text some few each now bytes short then = record { goes_on = refl; short = omega arith; more = more; bytes = bytes; few = short; differs = broken_then_well_formed (f []) (f more) n size text now then; soon = λ r. omega (arith, each r, few) }

shows_three : (b c d : ℕ) (x : List ℕ) (last : Bool) → Shows (utf8_after_three b c d) 3 x last (utf8_decide_three b c d x last)
shows_three b c d [] last = shows_cut (utf8_after_three b c d) 3 last (0x80 ∷ []) 4 (scalar_of_four b c d 0x80 ∷ []) (omega arith) (omega arith) (some_three b c d) refl (omega arith, tt) (omega arith) refl
shows_three b c d (e ∷ x) last = shows_cons (utf8_after_three b c d) 3 e x last _ (shows_cond (is_in_range 0x80 0xBF e) (λ _. well_formed 4 (scalar_of_four b c d e ∷ [])) (λ _. malformed 3) 4 x last _ _ (shows_const (well_formed 4 (scalar_of_four b c d e ∷ [])) 4 x last (omega arith) (omega arith)) (shows_const (malformed 3) 4 x last (omega arith) (omega arith), omega arith))

-- a character comes either way
abbrev Text : Piece → Type 0
Text p = (size : ℕ) × (text : List ℕ) × (p ≡ well_formed size text)

text_cond : (t : Bool) (p q : Piece) → Text p → Text q → Text (cond t p q)
text_cond true p q h k = h
text_cond false p q h k = k

shows_two : (b c : ℕ) (x : List ℕ) (last : Bool) → Shows (utf8_after_two b c) 2 x last (utf8_decide_two b c x last)
shows_two b c [] last =
    let t : Text (utf8_after_two b c (0x80 ∷ 0x80 ∷ [])) = text_cond (nat_lt b 0xF0) (well_formed 3 (scalar_of_three b c 0x80 ∷ [])) (well_formed 4 (scalar_of_four b c 0x80 0x80 ∷ [])) (_, _, refl) (_, _, refl) in
    shows_cut (utf8_after_two b c) 2 last (0x80 ∷ 0x80 ∷ []) t.0 t.1 (omega arith) (omega arith) (some_two b c) refl (omega arith, (omega arith, tt)) (omega arith) t.2
shows_two b c (d ∷ x) last = shows_cons (utf8_after_two b c) 2 d x last _
    (shows_cond (is_in_range 0x80 0xBF d) (λ y. cond (nat_lt b 0xF0) (well_formed 3 (scalar_of_three b c d ∷ [])) (utf8_after_three b c d y)) (λ _. malformed 2) 3 x last _ _
    (shows_cond (nat_lt b 0xF0) (λ _. well_formed 3 (scalar_of_three b c d ∷ [])) (utf8_after_three b c d) 3 x last _ _ (shows_const (well_formed 3 (scalar_of_three b c d ∷ [])) 3 x last (omega arith) (omega arith)) (shows_three b c d x last))
    (shows_const (malformed 2) 3 x last (omega arith) (omega arith), omega arith))

second_fits : (b : ℕ) → is_in_range (second_min b) (second_max b) (second_min b) ≡ true
second_fits b = grind (arith, nat_tests)

second_is_byte : (b : ℕ) → second_min b < 256
second_is_byte b = grind (arith, nat_tests)

shows_lead : (b : ℕ) (x : List ℕ) (last : Bool) → Shows (utf8_after_lead b) 1 x last (utf8_decide_lead b x last)
shows_lead b [] last =
    let c : ℕ = second_min b in
    let p : Piece = cond (nat_lt b 0xE0) (well_formed 2 (scalar_of_two b c ∷ [])) (utf8_after_two b c (0x80 ∷ 0x80 ∷ [])) in
    let text : Text p = text_cond (nat_lt b 0xE0) (well_formed 2 (scalar_of_two b c ∷ [])) (utf8_after_two b c (0x80 ∷ 0x80 ∷ [])) (_, _, refl) (text_cond (nat_lt b 0xF0) (well_formed 3 (scalar_of_three b c 0x80 ∷ [])) (well_formed 4 (scalar_of_four b c 0x80 0x80 ∷ [])) (_, _, refl) (_, _, refl)) in
    shows_cut (utf8_after_lead b) 1 last (c ∷ 0x80 ∷ 0x80 ∷ []) text.0 text.1 (omega arith) (omega arith) (some_lead b) refl (second_is_byte b, (omega arith, (omega arith, tt))) (omega arith) (ap (λ t. cond t p (malformed 1)) (second_fits b) ∙ text.2)
shows_lead b (c ∷ x) last = shows_cons (utf8_after_lead b) 1 c x last _
    (shows_cond (is_in_range (second_min b) (second_max b) c) (λ y. cond (nat_lt b 0xE0) (well_formed 2 (scalar_of_two b c ∷ [])) (utf8_after_two b c y)) (λ _. malformed 1) 2 x last _ _
    (shows_cond (nat_lt b 0xE0) (λ _. well_formed 2 (scalar_of_two b c ∷ [])) (utf8_after_two b c) 2 x last _ _ (shows_const (well_formed 2 (scalar_of_two b c ∷ [])) 2 x last (omega arith) (omega arith)) (shows_two b c x last))
    (shows_const (malformed 1) 2 x last (omega arith) (omega arith), omega arith))

pub shows_utf8 : (x : List ℕ) (last : Bool) → 0 < length x → Shows first_piece_utf8 0 x last (decide_utf8 x last)
shows_utf8 [] last h = absurd (omega (arith, h))
shows_utf8 (b ∷ x) last h = shows_cons first_piece_utf8 0 b x last _
    (shows_cond (nat_lt b 0x80) (λ _. well_formed 1 (b ∷ [])) (λ y. cond (is_in_range 0xC2 0xF4 b) (utf8_after_lead b y) (malformed 1)) 1 x last _ _
    (shows_const (well_formed 1 (b ∷ [])) 1 x last (omega arith) (omega arith))
    (shows_cond (is_in_range 0xC2 0xF4 b) (utf8_after_lead b) (λ _. malformed 1) 1 x last _ _ (shows_lead b x last) (shows_const (malformed 1) 1 x last (omega arith) (omega arith), omega arith)))

-- The first piece of UTF-8 is a form or a maximal subpart.

-- ---- a well-formed piece is a form

-- its bytes are the form of the scalar that it gives
record IsForm (x : List ℕ) (n : ℕ) (cs : List ℕ) : Type 0 where
  char : ℕ
  gives : cs ≡ char ∷ []
  rest : List ℕ
  size : n ≡ length (encode_utf8 char)
  is : x ≡ encode_utf8 char ++ rest

abbrev WellFormedIsForm : List ℕ → Piece → Type 0
WellFormedIsForm x (well_formed n cs) = IsForm x n cs
WellFormedIsForm x (malformed n) = Unit {0}

form_cond : (t : Bool) (x : List ℕ) (p q : Piece) → (t ≡ true → WellFormedIsForm x p) → (t ≡ false → WellFormedIsForm x q) → WellFormedIsForm x (cond t p q)
form_cond true x p q h k = h refl
form_cond false x p q h k = k refl

form_of : (x prefix rest : List ℕ) (n c : ℕ) → encode_utf8 c ≡ prefix → n ≡ length prefix → x ≡ prefix ++ rest → IsForm x n (c ∷ [])
form_of x prefix rest n c e size is = record { char = c; gives = refl; rest = rest; size = size ∙ ap length (sym e); is = is ∙ ap (λ l. l ++ rest) (sym e) }

same_two : (a b c d : ℕ) → a ≡ c → b ≡ d → a ∷ b ∷ [] ≡ c ∷ d ∷ []
same_two a b c d h k = cc

same_three : (a b c d e f : ℕ) → a ≡ d → b ≡ e → c ≡ f → a ∷ b ∷ c ∷ [] ≡ d ∷ e ∷ f ∷ []
same_three a b c d e f h k l = cc

same_four : (a b c d e f g h : ℕ) → a ≡ e → b ≡ f → c ≡ g → d ≡ h → a ∷ b ∷ c ∷ d ∷ [] ≡ e ∷ f ∷ g ∷ h ∷ []
same_four a b c d e f g h i j k l = cc

-- the bytes that a scalar was read from are written for it
bytes_of_two : (b c : ℕ) → 0xC2 ≤ b → b < 0xE0 → 0x80 ≤ c → c ≤ 0xBF → encode_utf8 (scalar_of_two b c) ≡ b ∷ c ∷ []
bytes_of_two b c b0 b1 c0 c1 =
    let s : ℕ = scalar_of_two b c in
    encode_two s (omega arith) (omega arith) ∙ same_two (192 + s / 64) (128 + s % 64) b c (omega arith) (omega arith)

bytes_of_three : (b c d : ℕ) → 0xE0 ≤ b → b < 0xF0 → 0x80 ≤ c → c ≤ 0xBF → (b ≡ 0xE0 → 0xA0 ≤ c) → 0x80 ≤ d → d ≤ 0xBF → encode_utf8 (scalar_of_three b c d) ≡ b ∷ c ∷ d ∷ []
bytes_of_three b c d b0 b1 c0 c1 e0 d0 d1 =
    let s : ℕ = scalar_of_three b c d in
    let least : 2048 ≤ s = (elim (cases_lt b 0xE1) [ inl less ↦ (let is : b ≡ 0xE0 = omega arith in omega (arith, e0 is)) | inr more ↦ omega arith ]) in
    encode_three s least (omega arith)
    ∙ same_three (224 + s / 4096) (128 + s / 64 % 64) (128 + s % 64) b c d (omega arith) (omega arith) (omega arith)

bytes_of_four : (b c d e : ℕ) → 0xF0 ≤ b → 0x80 ≤ c → c ≤ 0xBF → (b ≡ 0xF0 → 0x90 ≤ c) → 0x80 ≤ d → d ≤ 0xBF → 0x80 ≤ e → e ≤ 0xBF
    → encode_utf8 (scalar_of_four b c d e) ≡ b ∷ c ∷ d ∷ e ∷ []
bytes_of_four b c d e b0 c0 c1 f0 d0 d1 e0 e1 =
    let s : ℕ = scalar_of_four b c d e in
    let least : 65536 ≤ s = (elim (cases_lt b 0xF1) [ inl less ↦ (let is : b ≡ 0xF0 = omega arith in omega (arith, f0 is)) | inr more ↦ omega arith ]) in
    encode_four s least
    ∙ same_four (240 + s / 262144) (128 + s / 4096 % 64) (128 + s / 64 % 64) (128 + s % 64) b c d e (omega arith) (omega arith) (omega arith) (omega arith)

form_three : (b c d : ℕ) (x : List ℕ) → 0xF0 ≤ b → IsInRange (second_min b) (second_max b) c → IsInRange 0x80 0xBF d → WellFormedIsForm (b ∷ c ∷ d ∷ x) (utf8_after_three b c d x)
form_three b c d [] lead second third = tt
form_three b c d (e ∷ x) lead second third = form_cond (is_in_range 0x80 0xBF e) _ (well_formed 4 (scalar_of_four b c d e ∷ [])) (malformed 3)
    (λ t.
    let fourth = range_from 0x80 0xBF e t in
    let bytes = bytes_of_four b c d e lead (second_low b c second.0) (second_high b c second.1).0 (second_least b c second.0) third.0 third.1 fourth.0 fourth.1 in
    form_of _ (b ∷ c ∷ d ∷ e ∷ []) x 4 (scalar_of_four b c d e) bytes refl refl)
    (λ t. tt)

second_of_e0 : (b c : ℕ) → second_min b ≤ c → b ≡ 0xE0 → 0xA0 ≤ c
second_of_e0 b c h e = grind (arith, nat_tests)

form_two : (b c : ℕ) (x : List ℕ) → 0xE0 ≤ b → IsInRange (second_min b) (second_max b) c → WellFormedIsForm (b ∷ c ∷ x) (utf8_after_two b c x)
form_two b c [] lead second = tt
form_two b c (d ∷ x) lead second =
    form_cond (is_in_range 0x80 0xBF d) _ (cond (nat_lt b 0xF0) (well_formed 3 (scalar_of_three b c d ∷ [])) (utf8_after_three b c d x)) (malformed 2)
    (λ t.
    let third = range_from 0x80 0xBF d t in
    form_cond (nat_lt b 0xF0) _ (well_formed 3 (scalar_of_three b c d ∷ [])) (utf8_after_three b c d x)
    (λ u.
    let bytes = bytes_of_three b c d lead (ltb-true b 0xF0 u) (second_low b c second.0) (second_high b c second.1).0 (second_of_e0 b c second.0) third.0 third.1 in
    form_of _ (b ∷ c ∷ d ∷ []) x 3 (scalar_of_three b c d) bytes refl refl)
    (λ u. form_three b c d x (ltb-false b 0xF0 u) second third))
    (λ t. tt)

form_lead : (b : ℕ) (x : List ℕ) → 0xC2 ≤ b → WellFormedIsForm (b ∷ x) (utf8_after_lead b x)
form_lead b [] lead = tt
form_lead b (c ∷ x) lead =
    form_cond (is_in_range (second_min b) (second_max b) c) _ (cond (nat_lt b 0xE0) (well_formed 2 (scalar_of_two b c ∷ [])) (utf8_after_two b c x)) (malformed 1)
    (λ t.
    let second = range_from (second_min b) (second_max b) c t in
    form_cond (nat_lt b 0xE0) _ (well_formed 2 (scalar_of_two b c ∷ [])) (utf8_after_two b c x)
    (λ u.
    let bytes = bytes_of_two b c lead (ltb-true b 0xE0 u) (second_low b c second.0) (second_high b c second.1).0 in
    form_of _ (b ∷ c ∷ []) x 2 (scalar_of_two b c) bytes refl refl)
    (λ u. form_two b c x (ltb-false b 0xE0 u) second))
    (λ t. tt)

well_formed_is_form : (x : List ℕ) → WellFormedIsForm x (first_piece_utf8 x)
well_formed_is_form [] = tt
well_formed_is_form (b ∷ x) = form_cond (nat_lt b 0x80) _ (well_formed 1 (b ∷ [])) (cond (is_in_range 0xC2 0xF4 b) (utf8_after_lead b x) (malformed 1))
    (λ t. form_of (b ∷ x) (b ∷ []) x 1 b (encode_ascii b (ltb-true b 0x80 t)) refl refl)
    (λ t. form_cond (is_in_range 0xC2 0xF4 b) _ (utf8_after_lead b x) (malformed 1) (λ u. form_lead b x (range_from 0xC2 0xF4 b u).0) (λ u. tt))

form_at : (x : List ℕ) (n : ℕ) (cs : List ℕ) → first_piece_utf8 x ≡ well_formed n cs → IsForm x n cs
form_at x n cs e = subst (λ p. WellFormedIsForm x p) e (well_formed_is_form x)

-- and a scalar
scalar_at : (x : List ℕ) (n : ℕ) (c : ℕ) → first_piece_utf8 x ≡ well_formed n (c ∷ []) → IsScalar c
scalar_at [] n c e = absurd (cc)
scalar_at (b ∷ x) n c e =
    let all : all_scalars (piece_scalars (well_formed n (c ∷ []))) ≡ true = subst (λ p. all_scalars (piece_scalars p) ≡ true) e (cuts_utf8 b x).piece.are_scalars in
    (and_parts (scalar c) true all).0

record FormPiece (x : List ℕ) (n : ℕ) (cs : List ℕ) : Type 0 where
  char : ℕ
  begins : BeginsWithForm x char
  size : n ≡ length (encode_utf8 char)
  gives : cs ≡ char ∷ []

form_piece : (x : List ℕ) (n : ℕ) (cs : List ℕ) → first_piece_utf8 x ≡ well_formed n cs → FormPiece x n cs
form_piece x n cs e =
    let f = form_at x n cs e in
    record {
      char = f.char;
      begins = record { scalar = scalar_at x n f.char (e ∙ ap (λ l. well_formed n l) f.gives); rest = f.rest; is = f.is };
      size = f.size;
      gives = f.gives;
    }

-- if a form begins, it is the piece
form_is_piece : (x : List ℕ) (c : ℕ) → BeginsWithForm x c → first_piece_utf8 x ≡ well_formed (length (encode_utf8 c)) (c ∷ [])
form_is_piece x c h = ap first_piece_utf8 h.is ∙ first_piece_utf8-encode c h.rest h.scalar ∙ ap (λ n. well_formed n (c ∷ [])) (sym (length-encode c))

-- ---- a malformed sequence is a maximal subpart

-- a well-formed piece of k bytes or more
record IsLong (k : ℕ) (p : Piece) : Type 0 where
  size : ℕ
  text : List ℕ
  is : p ≡ well_formed size text
  long : k ≤ size

-- f is the first piece as a function of what follows k bytes: some continuation makes it such a one
record Opens (f : List ℕ → Piece) (k : ℕ) : Type 0 where
  more : List ℕ
  long : IsLong k (f more)

-- the byte after the n bytes makes it malformed, whatever follows
record Shut (f : List ℕ → Piece) (k : ℕ) (x : List ℕ) (n : ℕ) : Type 0 where
  offset : ℕ
  behind : k + offset ≡ suc n
  within : offset ≤ length x
  shut : (r : List ℕ) → f (take offset x ++ r) ≡ malformed n

record Broken (f : List ℕ → Piece) (k : ℕ) (x : List ℕ) (n : ℕ) : Type 0 where
  opens : (j : ℕ) → k + j ≡ n → 1 < n → Opens (λ y. f (take j x ++ y)) n
  ends : (n ≡ k + length x) ⊎ Shut f k x n

abbrev MalformedIsBroken : (List ℕ → Piece) → ℕ → List ℕ → Piece → Type 0
MalformedIsBroken f k x (well_formed n cs) = Unit {0}
MalformedIsBroken f k x (malformed n) = Broken f k x n

broken_cond : (t : Bool) (f g : List ℕ → Piece) (k : ℕ) (x : List ℕ) (p q : Piece) → MalformedIsBroken f k x p → MalformedIsBroken g k x q → MalformedIsBroken (λ y. cond t (f y) (g y)) k x (cond t p q)
broken_cond true f g k x p q h j = h
broken_cond false f g k x p q h j = j

-- the byte just read makes it malformed
broken_here : (k : ℕ) (x : List ℕ) → Broken (λ y. malformed k) (suc k) x k
broken_here k x = record {
  opens = λ j e more. absurd (omega arith);
  ends = inr (record { offset = 0; behind = omega arith; within = omega arith; shut = λ r. refl });
}

-- the bytes end
broken_end : (f : List ℕ → Piece) (k : ℕ) → (1 < k → Opens f k) → Broken f k [] k
broken_end f k opens = record {
  opens = λ j e more. (let none : j ≡ 0 = omega arith in rw none (opens more));
  ends = inl (omega arith);
}

opens_cons : (f : List ℕ → Piece) (k e : ℕ) (x : List ℕ) (n : ℕ) → (1 < k → Opens f k) → Broken (λ y. f (e ∷ y)) (suc k) x n
    → (j : ℕ) → k + j ≡ n → 1 < n → Opens (λ y. f (take j (e ∷ x) ++ y)) n
opens_cons f k e x n opens h zero is more = let same : k ≡ n = omega arith in rw (← same) (opens (omega arith))
opens_cons f k e x n opens h (suc j) is more = h.opens j (omega arith) more

ends_cons : (f : List ℕ → Piece) (k e : ℕ) (x : List ℕ) (n : ℕ) → (n ≡ suc k + length x) ⊎ Shut (λ y. f (e ∷ y)) (suc k) x n → (n ≡ k + length (e ∷ x)) ⊎ Shut f k (e ∷ x) n
ends_cons f k e x n (inl all) = inl (omega arith)
ends_cons f k e x n (inr s) = inr (record { offset = suc s.offset; behind = omega (arith, s.behind); within = omega (arith, s.within); shut = s.shut })

broken_cons : (f : List ℕ → Piece) (k e : ℕ) (x : List ℕ) (p : Piece) → (1 < k → Opens f k) → MalformedIsBroken (λ y. f (e ∷ y)) (suc k) x p → MalformedIsBroken f k (e ∷ x) p
broken_cons f k e x (well_formed n cs) opens h = tt
broken_cons f k e x (malformed n) opens h = record { opens = opens_cons f k e x n opens h; ends = ends_cons f k e x n h.ends }

opens_three : (b c d : ℕ) → Opens (utf8_after_three b c d) 3
opens_three b c d = record { more = 0x80 ∷ []; long = record { size = 4; text = scalar_of_four b c d 0x80 ∷ []; is = refl; long = omega arith } }

broken_three : (b c d : ℕ) (x : List ℕ) → MalformedIsBroken (utf8_after_three b c d) 3 x (utf8_after_three b c d x)
broken_three b c d [] = broken_end (utf8_after_three b c d) 3 (λ _. opens_three b c d)
broken_three b c d (e ∷ x) = broken_cons (utf8_after_three b c d) 3 e x _ (λ _. opens_three b c d)
    (broken_cond (is_in_range 0x80 0xBF e) (λ _. well_formed 4 (scalar_of_four b c d e ∷ [])) (λ _. malformed 3) 4 x _ _ tt (broken_here 3 x))

-- such a one comes either way
long_cond : (t : Bool) (k : ℕ) (p q : Piece) → IsLong k p → IsLong k q → IsLong k (cond t p q)
long_cond true k p q h j = h
long_cond false k p q h j = j

opens_two : (b c : ℕ) → Opens (utf8_after_two b c) 2
opens_two b c = record {
  more = 0x80 ∷ 0x80 ∷ [];
  long = long_cond (nat_lt b 0xF0) 2 (well_formed 3 (scalar_of_three b c 0x80 ∷ [])) (well_formed 4 (scalar_of_four b c 0x80 0x80 ∷ []))
      (record { size = 3; text = _; is = refl; long = omega arith })
      (record { size = 4; text = _; is = refl; long = omega arith });
}

broken_two : (b c : ℕ) (x : List ℕ) → MalformedIsBroken (utf8_after_two b c) 2 x (utf8_after_two b c x)
broken_two b c [] = broken_end (utf8_after_two b c) 2 (λ _. opens_two b c)
broken_two b c (d ∷ x) = broken_cons (utf8_after_two b c) 2 d x _ (λ _. opens_two b c)
    (broken_cond (is_in_range 0x80 0xBF d) (λ y. cond (nat_lt b 0xF0) (well_formed 3 (scalar_of_three b c d ∷ [])) (utf8_after_three b c d y)) (λ _. malformed 2) 3 x _ _
    (broken_cond (nat_lt b 0xF0) (λ _. well_formed 3 (scalar_of_three b c d ∷ [])) (utf8_after_three b c d) 3 x _ _ tt (broken_three b c d x))
    (broken_here 2 x))

broken_lead : (b : ℕ) (x : List ℕ) → MalformedIsBroken (utf8_after_lead b) 1 x (utf8_after_lead b x)
broken_lead b [] = broken_end (utf8_after_lead b) 1 (λ more. absurd (omega arith))
broken_lead b (c ∷ x) = broken_cons (utf8_after_lead b) 1 c x _ (λ more. absurd (omega arith))
    (broken_cond (is_in_range (second_min b) (second_max b) c) (λ y. cond (nat_lt b 0xE0) (well_formed 2 (scalar_of_two b c ∷ [])) (utf8_after_two b c y)) (λ _. malformed 1) 2 x _ _
    (broken_cond (nat_lt b 0xE0) (λ _. well_formed 2 (scalar_of_two b c ∷ [])) (utf8_after_two b c) 2 x _ _ tt (broken_two b c x))
    (broken_here 1 x))

-- the first byte is malformed
ends_alone : (x : List ℕ) → (1 ≡ 1 + length x) ⊎ Shut (λ y. malformed 1) 1 x 1
ends_alone [] = inl refl
ends_alone (e ∷ x) = inr (record { offset = 1; behind = refl; within = omega arith; shut = λ r. refl })

broken_alone : (x : List ℕ) → Broken (λ y. malformed 1) 1 x 1
broken_alone x = record { opens = λ j e more. absurd (omega arith); ends = ends_alone x }

malformed_is_broken : (b : ℕ) (x : List ℕ) → MalformedIsBroken first_piece_utf8 0 (b ∷ x) (first_piece_utf8 (b ∷ x))
malformed_is_broken b x = broken_cons first_piece_utf8 0 b x _ (λ more. absurd (omega arith))
    (broken_cond (nat_lt b 0x80) (λ _. well_formed 1 (b ∷ [])) (λ y. cond (is_in_range 0xC2 0xF4 b) (utf8_after_lead b y) (malformed 1)) 1 x _ _ tt
    (broken_cond (is_in_range 0xC2 0xF4 b) (utf8_after_lead b) (λ _. malformed 1) 1 x _ _ (broken_lead b x) (broken_alone x)))

broken_at : (b : ℕ) (x : List ℕ) (n : ℕ) → first_piece_utf8 (b ∷ x) ≡ malformed n → Broken first_piece_utf8 0 (b ∷ x) n
broken_at b x n e = subst (λ p. MalformedIsBroken first_piece_utf8 0 (b ∷ x) p) e (malformed_is_broken b x)

well_formed_not_malformed : (p : Piece) (n m : ℕ) (cs : List ℕ) → p ≡ well_formed n cs → p ≡ malformed m → ⊥
well_formed_not_malformed p n m cs e f = cc

-- a prefix of a list that is at least as long as another prefix begins with it
first_piece_is_first : (a r t x : List ℕ) (n : ℕ) → length t ≡ n → n ≤ length a → a ++ r ≡ t ++ x → a ≡ t ++ drop n a
first_piece_is_first a r t x n size longer e =
    let same : take n a ≡ t = sym (take-append-le n a r longer) ∙ ap (take n) e ∙ take_at t x n size in
    sym (take-append-drop n a) ∙ ap (λ l. l ++ drop n a) same

opened : (x : List ℕ) (n : ℕ) → n ≤ length x → Opens (λ y. first_piece_utf8 (take n x ++ y)) n → IsFormPrefix (take n x)
opened x n within h =
    let f = form_piece (take n x ++ h.more) h.long.size h.long.text h.long.is in
    record {
      char = f.char;
      scalar = f.begins.scalar;
      rest = drop n (encode_utf8 f.char);
      is = first_piece_is_first (encode_utf8 f.char) f.begins.rest (take n x) h.more n (length-take-le n x within) (omega (arith, f.size, h.long.long)) (sym f.begins.is);
    }

-- a form is no longer than a malformed sequence
no_longer : (b : ℕ) (x : List ℕ) (n m : ℕ) → first_piece_utf8 (b ∷ x) ≡ malformed n → n < m → m ≤ length (b ∷ x) → ¬ (IsFormPrefix (take m (b ∷ x)))
no_longer b x n m e less within h =
    let y : List ℕ = b ∷ x in
    let well_formed_form = form_is_piece (encode_utf8 h.char) h.char (record { scalar = h.scalar; rest = []; is = sym (append-nil (encode_utf8 h.char)) }) in
    elim (broken_at b x n e).ends [
      | inl all ↦ absurd (omega (arith, all))
      | inr s ↦
          let prefix : take s.offset (take m y) ≡ take s.offset y = take-take s.offset m y (omega (arith, s.behind)) in
          let parted : take m y ≡ take s.offset y ++ drop s.offset (take m y) = sym (take-append-drop s.offset (take m y)) ∙ ap (λ l. l ++ drop s.offset (take m y)) prefix in
          let form : encode_utf8 h.char ≡ take s.offset y ++ (drop s.offset (take m y) ++ h.rest) =
          h.is ∙ ap (λ l. l ++ h.rest) parted ∙ append_assoc (take s.offset y) (drop s.offset (take m y)) h.rest in
          well_formed_not_malformed _ _ n _ well_formed_form (ap first_piece_utf8 form ∙ s.shut (drop s.offset (take m y) ++ h.rest))
    ]

subpart_of : (b : ℕ) (x : List ℕ) (n : ℕ) → first_piece_utf8 (b ∷ x) ≡ malformed n → 0 < n → n ≤ length (b ∷ x) → IsSubpart (take n (b ∷ x))
subpart_of b x n e some within = elim (cases_lt 1 n) [
  | inl more ↦ inl (opened (b ∷ x) n within ((broken_at b x n e).opens n (omega arith) more))
  | inr one ↦ inr (omega (arith, length-take-le n (b ∷ x) within))
]

maximal : (b : ℕ) (x : List ℕ) (n : ℕ) → first_piece_utf8 (b ∷ x) ≡ malformed n → IsMaximalSubpart (b ∷ x) n
maximal b x n e =
    let cut = cuts_utf8 b x in
    let some : 0 < n = omega (arith, cut.piece.some, ap piece_len e) in
    let within : n ≤ length (b ∷ x) = omega (arith, cut.within, ap piece_len e) in
    record {
      some = some;
      no_form = λ c h. well_formed_not_malformed _ _ n _ (form_is_piece (b ∷ x) c h) e;
      longest = record {
        within = within;
        well_formed = subpart_of b x n e some within;
        longest = λ m less fits h. elim h [
          | inl form ↦ no_longer b x n m e less fits form
          | inr one ↦ absurd (omega (arith, length-take-le m (b ∷ x) fits))
        ];
      };
    }

-- ---- and there is no other such piece

is_piece : (b : ℕ) (x : List ℕ) (p : Piece) → first_piece_utf8 (b ∷ x) ≡ p → IsUtf8Piece (b ∷ x) p
is_piece b x (well_formed n cs) e = let f = form_piece (b ∷ x) n cs e in (f.char, f.begins, f.size, f.gives)
is_piece b x (malformed n) e = maximal b x n e

same_well_formed : (n m : ℕ) (cs ds : List ℕ) → n ≡ m → cs ≡ ds → well_formed n cs ≡ well_formed m ds
same_well_formed n m cs ds h k = cc

same_size : (x : List ℕ) (n m : ℕ) → IsMaximalSubpart x n → IsMaximalSubpart x m → n ≡ m
same_size x n m h k = elim (cases_lt n m) [
  | inl less ↦ absurd (h.longest.longest m less k.longest.within k.longest.well_formed)
  | inr from ↦ elim (cases_lt m n) [
    | inl more ↦ absurd (k.longest.longest n more h.longest.within h.longest.well_formed)
    | inr to ↦ omega arith
  ]
]

same_malformed : (x : List ℕ) (n : ℕ) (p : Piece) → IsMaximalSubpart x n → IsUtf8Piece x p → malformed n ≡ p
same_malformed x n (well_formed m cs) h k = absurd (h.no_form k.0 k.1)
same_malformed x n (malformed m) h k = ap malformed (same_size x n m h k)

only_piece : (b : ℕ) (x : List ℕ) (p : Piece) → IsUtf8Piece (b ∷ x) p → first_piece_utf8 (b ∷ x) ≡ p
only_piece b x (well_formed n cs) h = form_is_piece (b ∷ x) h.0 h.1 ∙ same_well_formed _ n _ cs (sym h.2) (sym h.3)
only_piece b x (malformed n) h = sym (same_malformed (b ∷ x) n (first_piece_utf8 (b ∷ x)) h (is_piece b x (first_piece_utf8 (b ∷ x)) refl))

-- the pieces of some bytes begin with it
with_rest : (x : List ℕ) → 0 < length x → pieces_utf8 x ≡ first_piece_utf8 x ∷ pieces_utf8 (drop (piece_len (first_piece_utf8 x)) x)
with_rest x some = pieces_by-first first_piece_utf8 cuts_utf8 x some

parts : (p q : Piece) (ps qs : List Piece) → p ∷ ps ≡ q ∷ qs → (p ≡ q) × (ps ≡ qs)
parts p q ps qs e = (cc, cc)

pub pieces_are_maximal : Utf8PiecesAreMaximal
pieces_are_maximal [] p ps = (
  λ e. (let none : pieces_utf8 [] ≡ [] = pieces_by-nil first_piece_utf8 in absurd (cc)),
  λ h. absurd (nothing p h.0),
)
  where
    nothing : (p : Piece) → IsUtf8Piece [] p → ⊥
    nothing (well_formed n cs) h = well_formed_not_malformed (first_piece_utf8 []) _ 1 _ (form_is_piece [] h.0 h.1) refl
    nothing (malformed n) h = omega (arith, h.some, h.longest.within)
pieces_are_maximal (b ∷ x) p ps =
    let all = with_rest (b ∷ x) (omega arith) in (
      λ e. (let two = parts _ _ _ _ (sym all ∙ e) in (is_piece b x p two.0, sym two.1 ∙ ap (λ q. pieces_utf8 (drop (piece_len q) (b ∷ x))) two.0)),
      λ h. (let same = only_piece b x p h.0 in all ∙ ap (λ q. q ∷ pieces_utf8 (drop (piece_len q) (b ∷ x))) same ∙ ap (λ qs. p ∷ qs) (sym h.1)),
    )
