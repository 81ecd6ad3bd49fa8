-- How far the loops of the driver have come.
use Rattle.std.proofs.Common.{◌≡◌, ℕ, ◌+◌, ◌*◌, ◌-◌, ◌<◌, ◌≤◌, Bool, true, false, IsTrue, Some, List, [], ◌∷◌, ◌++◌, length, take, drop, refl, subst, sym, ◌∙◌, ap, arith, append_assoc, length-take, length-append, encode_utf8_all, inl, inr}
use Rattle.std.proofs.lemmas.Bool.Decides.{nat_tests}
use Rattle.std.proofs.lemmas.List.{append-nil, drop_all, drop-append-le, length-take-le, take-append-drop}
use Rattle.std.proofs.lemmas.Str.{encodes-chars, length-encode}
use Rattle.std.specs.Char.{encode_utf8}
use Rattle.std.specs.Str.{chars, IsUtf8}
use Rattle.encoding_mem.specs.Piece.{Piece, head_piece, malformed, well_formed, piece_text, sizes, piece_len, scalars, piece_scalars, IsWellFormedPiece, AreWellFormed}
use Rattle.encoding_mem.specs.calls.Decoding.{Reports, Takes}
use Rattle.encoding_mem.specs.calls.DecodedLength.{cost_in, counts_past_malformed, is_units, left_after, replacement_len, two_in}
use Rattle.encoding_mem.specs.calls.Driver.{DriverCall}
use Rattle.encoding_mem.specs.calls.DecoderRule.{IsFirstPiece, IsSoon}
use Rattle.encoding_mem.specs.calls.TextRun.{text_pieces}
use Rattle.encoding_mem.specs.calls.UnitRun.{BeginWithUnits, unit_pieces}
use Rattle.encoding_mem.specs.declared.codec.room.OutputUnit.{OutputUnit}
use Rattle.encoding_mem.specs.declared.codec.decoder_result.DecoderResult.TheVariants.{InputEmpty, OutputFull, Malformed}
use Rattle.encoding_mem.specs.laws.Piece.{AreWellFormed-last}
use Rattle.encoding_mem.specs.laws.Writing.{cost_fits16}
use Rattle.encoding_mem.proofs.DecoderCallLemmas.{held_all, left_behind, near_few, near_soon, takes_then, took_source}
use Rattle.encoding_mem.specs.Decided.{IsUndecided}

-- Of the source rest is left, and nothing is pending; what was taken is written, and room that was enough for the source
-- is enough for the rest.
pub record HasCome (before P : List ℕ → List Piece) (needed need : OutputUnit → ℕ → ℕ) (t last : Bool) (src rest : List ℕ) (old free : ℕ) (W : List ℕ → Type 0) : Type 0 where
  pub within : length rest ≤ length src
  pub behind : rest ≡ drop (length src - length rest) src
  pub enough : (k : OutputUnit) (m : ℕ) → is_units k ≡ t → (IsTrue last → m ≡ 0) → needed k (length src + m) ≤ old → need k (length rest + m) ≤ free
  pub takes : Takes AreWellFormed before P src last 0 0 (length src - length rest) W

-- nothing is taken yet
pub come_none : (P : List ℕ → List Piece) (need : OutputUnit → ℕ → ℕ) (t last : Bool) (src : List ℕ) (free : ℕ) (W : List ℕ → Type 0) → W [] → HasCome P P need need t last src src free free W
come_none P need t last src free W none =
    let start : 0 ≡ length src - length src = omega arith in
    record {
      within = omega arith;
      behind = ap (λ n. drop n src) start;
      enough = λ k m units stops h. h;
      takes = record {
        taken = [];
        well_formed = tt;
        within = omega arith;
        counted = omega arith;
        writes = none;
        rest = λ r e. ap (λ n. P (drop n src ++ r)) start;
      };
    }

-- a piece more
pub come_piece : (before P P' : List ℕ → List Piece) (needed need need' : OutputUnit → ℕ → ℕ) (t last : Bool) (src rest : List ℕ) (old free free' : ℕ) (W W' : List ℕ → Type 0) (p : Piece) (n : ℕ)
    → HasCome before P needed need t last src rest old free W
    → IsWellFormedPiece p
    → piece_len p ≡ n
    → IsFirstPiece P P' rest last p
    → ((k : OutputUnit) (m : ℕ) → is_units k ≡ t → length rest ≤ m → (IsTrue last → m ≡ length rest) → need k m ≤ free → need' k (m - n) ≤ free')
    → ((text : List ℕ) → W text → W' (text ++ piece_scalars p))
    → HasCome before P' needed need' t last src (take (length rest - n) (drop n rest)) old free' W'
come_piece before P P' needed need need' t last src rest old free free' W W' p n i fine size head_piece room step =
    let fits : n ≤ length rest = omega (arith, size, head_piece.within) in
    let left = left_behind src rest n i.within i.behind fits in
    record {
      within = left.within;
      behind = left.behind;
      enough = λ k m units stops h. (
          let e : (length rest + m) - n ≡ length (take (length rest - n) (drop n rest)) + m = omega (arith, fits, left.size) in
          subst (λ (x : ℕ). need' k x ≤ free') e (room k (length rest + m) units (omega arith) (λ l. omega (arith, stops l)) (i.enough k m units stops h)));
      takes = subst (λ (k : ℕ). Takes AreWellFormed before P' src last 0 0 k W') (sym left.read)
          (took_source AreWellFormed before P P' src rest last 0 (length src - length rest) W W' p n size i.behind i.takes head_piece (λ ps a. AreWellFormed-last ps p a fine) step);
    }

pub untrue : IsTrue false → ⊥
untrue h = cc

-- pieces more, whatever follows them
pub come_more : (before P P' : List ℕ → List Piece) (needed need need' : OutputUnit → ℕ → ℕ) (t last : Bool) (src rest : List ℕ) (old free free' : ℕ) (W W1 W' : List ℕ → Type 0) (n : ℕ)
    → HasCome before P needed need t last src rest old free W
    → Takes AreWellFormed P P' rest false 0 0 n W1
    → ((k : OutputUnit) (m : ℕ) → is_units k ≡ t → (IsTrue false → m ≡ 0) → need k (length rest + m) ≤ free → need' k ((length rest - n) + m) ≤ free')
    → ((text more : List ℕ) → W text → W1 more → W' (text ++ more))
    → HasCome before P' needed need' t last src (take (length rest - n) (drop n rest)) old free' W'
come_more before P P' needed need need' t last src rest old free free' W W1 W' n i more room step =
    let left = left_behind src rest n i.within i.behind more.within in
    let then : Takes AreWellFormed P P' rest last 0 0 n W1 = record {
      taken = more.taken;
      well_formed = more.well_formed;
      within = more.within;
      counted = more.counted;
      writes = more.writes;
      rest = λ r e. more.rest r (λ no. absurd (untrue no));
    } in
    record {
      within = left.within;
      behind = left.behind;
      enough = λ k m units stops h. subst (λ (x : ℕ). need' k (x + m) ≤ free') (sym left.size) (room k m units (λ no. absurd (untrue no)) (i.enough k m units stops h));
      takes = subst (λ (k : ℕ). Takes AreWellFormed before P' src last 0 0 k W') (sym left.read)
          (takes_then OutputFull before P P' src last 0 0 (length src - length rest) n W W1 W' step i.takes (subst (λ x. Takes AreWellFormed P P' x last 0 0 n W1) i.behind then));
    }

-- a run of text
text_well_formed : (cs : List ℕ) → AreWellFormed (text_pieces cs)
text_well_formed [] = tt
text_well_formed (c ∷ cs) = (tt, text_well_formed cs)

text_size : (cs : List ℕ) → sizes (text_pieces cs) ≡ length (encode_utf8_all cs)
text_size [] = refl
text_size (c ∷ cs) = omega (arith, text_size cs, length-encode c, length-append (encode_utf8 c) (encode_utf8_all cs))

text_scalars : (cs : List ℕ) → scalars (text_pieces cs) ≡ cs
text_scalars [] = refl
text_scalars (c ∷ cs) = ap (λ y. c ∷ y) (text_scalars cs)

-- units of UTF-16 that are characters
unit_well_formed : (us : List ℕ) → AreWellFormed (unit_pieces us)
unit_well_formed [] = tt
unit_well_formed (u ∷ us) = (tt, unit_well_formed us)

unit_size : (us : List ℕ) → sizes (unit_pieces us) ≡ 2 * length us
unit_size [] = refl
unit_size (u ∷ us) = omega (arith, unit_size us)

unit_scalars : (us : List ℕ) → scalars (unit_pieces us) ≡ us
unit_scalars [] = refl
unit_scalars (u ∷ us) = ap (λ y. u ∷ y) (unit_scalars us)

-- a run of well-formed pieces
run_taken : (P : List ℕ → List Piece) (rest run cs : List ℕ) (ps : List Piece) (W : List ℕ → Type 0)
    → run ≡ take (length run) rest
    → AreWellFormed ps → sizes ps ≡ length run → scalars ps ≡ cs
    → ((r : List ℕ) → P (run ++ r) ≡ ps ++ P r)
    → W cs
    → Takes AreWellFormed P P rest false 0 0 (length run) W
run_taken P rest run cs ps W prefix fine size chars_are gives written =
    let whole : rest ≡ run ++ drop (length run) rest = sym (take-append-drop (length run) rest) ∙ ap (λ x. x ++ drop (length run) rest) (sym prefix) in
    record {
      taken = ps;
      well_formed = fine;
      within = omega (arith, ap length prefix, length-take (length run) rest);
      counted = omega (arith, size);
      writes = rw chars_are written;
      rest = λ r e. ap (λ x. P (x ++ r)) whole ∙ ap P (append_assoc run (drop (length run) rest) r) ∙ gives (drop (length run) rest ++ r);
    }

pub text_taken : (P : List ℕ → List Piece) (rest text : List ℕ) (W : List ℕ → Type 0)
    → text ≡ take (length text) rest
    → IsUtf8 text
    → ((r : List ℕ) → P (text ++ r) ≡ text_pieces (chars text) ++ P r)
    → W (chars text)
    → Takes AreWellFormed P P rest false 0 0 (length text) W
text_taken P rest text W prefix utf8 gives written =
    run_taken P rest text (chars text) (text_pieces (chars text)) W prefix (text_well_formed (chars text)) (text_size (chars text) ∙ ap length (encodes-chars text utf8)) (text_scalars (chars text)) gives written

pub units_taken : (P : List ℕ → List Piece) (rest units : List ℕ) (W : List ℕ → Type 0) → BeginWithUnits P rest units → W units → Takes AreWellFormed P P rest false 0 0 (2 * length units) W
units_taken P rest units W run written =
    let size : length (take (2 * length units) rest) ≡ 2 * length units = length-take-le (2 * length units) rest run.within in
    subst (λ n. Takes AreWellFormed P P rest false 0 0 n W) size
    (run_taken P rest (take (2 * length units) rest) units (unit_pieces units) W (ap (λ n. take n rest) (sym size)) (unit_well_formed units) (unit_size units ∙ omega (arith, size)) (unit_scalars units) run.rest written)

-- room for a run of n bytes, and for what follows
pub run_room : (need : OutputUnit → ℕ → ℕ) (t : Bool) (len n : ℕ) (cost : Bool → ℕ) (free free' : ℕ) → n ≤ len
    → ((k : OutputUnit) (m : ℕ) → cost (is_units k) + need k m ≤ need k (n + m))
    → free' + cost t ≡ free
    → (k : OutputUnit) (m : ℕ) → is_units k ≡ t → (IsTrue false → m ≡ 0) → need k (len + m) ≤ free → need k ((len - n) + m) ≤ free'
run_room need t len n cost free free' fits room left k m units stops h =
    let sum_is : n + ((len - n) + m) ≡ len + m = omega (arith, fits) in
    omega (arith, room k ((len - n) + m), ap (need k) sum_is, ap cost units, left, h)

-- the same for a piece, which changes the state
pub piece_room : (need need' : OutputUnit → ℕ → ℕ) (t : Bool) (len n : ℕ) (cost : Bool → ℕ) (free free' : ℕ) → n ≤ len
    → ((k : OutputUnit) (m : ℕ) → cost (is_units k) + need' k m ≤ need k (n + m))
    → free' + cost t ≡ free
    → (k : OutputUnit) (m : ℕ) → is_units k ≡ t → len ≤ m → (IsTrue false → m ≡ len) → need k m ≤ free → need' k (m - n) ≤ free'
piece_room need need' t len n cost free free' fits room left k m units window stops h =
    let sum_is : n + (m - n) ≡ m = omega (arith, fits, window) in
    omega (arith, room k (m - n), ap (need k) sum_is, ap cost units, left, h)

-- The first piece of a list, whatever follows it, is that of any list that begins with it.
pub first_of_start : (P P' : List ℕ → List Piece) (start rest : List ℕ) (n : ℕ) (last : Bool) (p : Piece)
    → start ≡ take n rest → IsFirstPiece P P' start false p → IsFirstPiece P P' rest last p
first_of_start P P' start rest n last p is h =
    let whole : rest ≡ start ++ drop n rest = sym (take-append-drop n rest) ∙ ap (λ x. x ++ drop n rest) (sym is) in
    record {
      some = h.some;
      within = omega (arith, h.within, ap length whole, length-append start (drop n rest));
      rest = λ r e.
          ap (λ x. P (x ++ r)) whole ∙ ap P (append_assoc start (drop n rest) r) ∙ h.rest (drop n rest ++ r) (λ no. absurd (untrue no))
          ∙ ap (λ x. p ∷ P' x) (sym (append_assoc (drop (piece_len p) start) (drop n rest) r))
          ∙ ap (λ x. p ∷ P' (x ++ r)) (sym (drop-append-le (piece_len p) start (drop n rest) h.within) ∙ ap (drop (piece_len p)) (sym whole));
    }

-- A character of one or two bytes is taken, by what is decided of two.
pub come_character : (before P P' : List ℕ → List Piece) (needed need need' : OutputUnit → ℕ → ℕ) (t : Bool) (src rest : List ℕ) (old free free' : ℕ) (W W' : List ℕ → Type 0) (c n : ℕ)
    → HasCome before P needed need t false src rest old free W
    → IsFirstPiece P P' (take 2 rest) false (well_formed n (c ∷ []))
    → n ≤ length rest
    → ((k : OutputUnit) (m : ℕ) → cost_in (is_units k) c + need' k m ≤ need k (n + m))
    → free' + cost_in t c ≡ free
    → ((text : List ℕ) → W text → W' (text ++ (c ∷ [])))
    → HasCome before P' needed need' t false src (take (length rest - n) (drop n rest)) old free' W'
come_character before P P' needed need need' t src rest old free free' W W' c n i first some room left step =
    come_piece before P P' needed need need' t false src rest old free free' W W' (well_formed n (c ∷ [])) n i tt refl (first_of_start P P' (take 2 rest) rest 2 false _ refl first)
    (piece_room need need' t (length rest) n (λ u. cost_in u c) free free' some room left) step

-- a character of the basic plane has three bytes at most
pub basic_cost : (t : Bool) (c : ℕ) → c < 0x1_0000 → cost_in t c ≤ 3
basic_cost true c small = omega (arith, cost_fits16 c)
basic_cost false c small = grind (arith, nat_tests)

-- room for so many bytes, if nothing is pending
bare : (need : OutputUnit → ℕ → ℕ) (k : OutputUnit) (n room : ℕ) → need k (length {A = ℕ} [] + n) ≤ room → need k n ≤ room
bare need k n room h = let same : length {A = ℕ} [] + n ≡ n = omega arith in subst (λ (m : ℕ). need k m ≤ room) same h

-- How a call that has come so far ends. The next piece has no room;
pub ends_full : (before P : List ℕ → List Piece) (needed need : OutputUnit → ℕ → ℕ) (t last : Bool) (src rest : List ℕ) (old free : ℕ) (W : List ℕ → Type 0) (pending : List ℕ)
    → pending ≡ [] → HasCome before P needed need t last src rest old free W
    → free < two_in t → (p : Piece) × (then : List ℕ → List Piece) × IsFirstPiece P then rest last p × (0 < length (piece_text p))
    → ((k : OutputUnit) (m : ℕ) → is_units k ≡ t → length rest ≤ m → (IsTrue last → m ≡ length rest) → need k m ≤ free → ⊥)
    → DriverCall (record { pieces = before; needs = needed; pending = [] }) (record { pieces = P; needs = need; pending = pending }) src last (length src - length rest) W (record { in_units = t; before = old; after = free }) (Some OutputFull)
ends_full before P needed need t last src rest old free W pending none i over piece refused = rw none (record {
  law = i.takes;
  ends = (
    over,
    (piece.0, λ r e. ap (λ x. head_piece (P (x ++ r))) (sym i.behind) ∙ ap head_piece (piece.2.rest r e), piece.3),
  );
  enough = λ k m units stops h. refused k (length rest + m) units (omega arith) (λ l. omega (arith, stops l)) (i.enough k m units stops (bare needed k (length src + m) old h));
  short = omega arith;
  near = near_few P [] (omega arith);
})

-- it is not decided, and is pending;
pub ends_waiting : (before P : List ℕ → List Piece) (needed need : OutputUnit → ℕ → ℕ) (t last : Bool) (src rest : List ℕ) (old free : ℕ) (W : List ℕ → Type 0) (pending : List ℕ)
    → pending ≡ rest → HasCome before P needed need t last src rest old free W
    → last ≡ false → length rest < 6 → IsUndecided P rest → IsSoon P rest
    → DriverCall (record { pieces = before; needs = needed; pending = [] }) (record { pieces = P; needs = need; pending = pending }) src last (length src) W (record { in_units = t; before = old; after = free }) (Some InputEmpty)
ends_waiting before P needed need t last src rest old free W pending is i more short undecided soon = rw is (record {
  law = held_all before P src rest last 0 rest (length src - length rest) W i.behind refl i.takes;
  ends = (drop_all (length src) src (omega arith), inr (more, short, undecided, soon));
  enough = λ k m units stops h. i.enough k m units stops (bare needed k (length src + m) old h);
  short = omega (arith, short);
  near = near_soon P rest rest refl soon;
})

-- it is malformed;
pub ends_malformed : (before P P' : List ℕ → List Piece) (needed need need' : OutputUnit → ℕ → ℕ) (t last : Bool) (src rest : List ℕ) (old free free' : ℕ) (W W' : List ℕ → Type 0) (pending : List ℕ) (n : ℕ)
    → pending ≡ [] → HasCome before P needed need t last src rest old free W
    → IsFirstPiece P P' rest last (malformed n) → n ≤ 4 → ((text : List ℕ) → W text → W' text) → replacement_len t ≤ free'
    → ((k : OutputUnit) (m : ℕ) → is_units k ≡ t → length rest ≤ m → (IsTrue last → m ≡ length rest) → need k m ≤ free → left_after (counts_past_malformed k) (replacement_len t) (need' k (m - n)) ≤ free')
    → DriverCall (record { pieces = before; needs = needed; pending = [] }) (record { pieces = P'; needs = need'; pending = pending }) src last (length src - length rest + n) W' (record { in_units = t; before = old; after = free' }) (Some (Malformed n 0))
ends_malformed before P P' needed need need' t last src rest old free free' W W' pending n none i taken few same replaced room_left = rw none (record {
  law = took_source (Reports (Malformed n 0) 0) before P P' src rest last 0 (length src - length rest) W W' (malformed n) n refl i.behind i.takes taken
      (λ ps a. (refl, few, omega arith, omega (arith, few), (ps, a, refl))) (λ t w. rw append-nil (same t w));
  ends = replaced;
  enough = λ k m units stops h. (
      let left_over : (length rest + m) - n ≡ length {A = ℕ} [] + ((length src - (length src - length rest + n)) + m) = omega (arith, i.within, taken.within) in
      subst (λ (x : ℕ). left_after (counts_past_malformed k) (replacement_len t) (need' k x) ≤ free') left_over (room_left k (length rest + m) units (omega arith) (λ l. omega (arith, stops l)) (i.enough k m units stops (bare needed k (length src + m) old h))));
  short = omega arith;
  near = near_few P' [] (omega arith);
})

-- or nothing is left.
pub ends_empty : (before P : List ℕ → List Piece) (needed need : OutputUnit → ℕ → ℕ) (t last : Bool) (src rest : List ℕ) (old free : ℕ) (W : List ℕ → Type 0) (pending : List ℕ)
    → pending ≡ [] → HasCome before P needed need t last src rest old free W → length rest ≡ 0
    → DriverCall (record { pieces = before; needs = needed; pending = [] }) (record { pieces = P; needs = need; pending = pending }) src last (length src) W (record { in_units = t; before = old; after = free }) (Some InputEmpty)
ends_empty before P needed need t last src rest old free W pending none i size =
    let read : length src - length rest ≡ length src = omega (arith, size) in
    rw none (record {
      law = subst (λ (n : ℕ). Takes AreWellFormed before P src last 0 0 n W) read i.takes;
      ends = (drop_all (length src) src (omega arith), inl refl);
      enough = λ k m units stops h. (
          let all : length rest + m ≡ length {A = ℕ} [] + m = omega (arith, size) in
          subst (λ (n : ℕ). need k n ≤ free) all (i.enough k m units stops (bare needed k (length src + m) old h)));
      short = omega arith;
      near = near_few P [] (omega arith);
    })
