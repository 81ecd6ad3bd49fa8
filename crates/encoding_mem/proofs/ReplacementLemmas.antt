-- The text of broken UTF-8, in UTF-16: no longer than its bytes, and written part by part.
use Rattle.std.proofs.Common.{◌≡◌, ℕ, zero, suc, ◌+◌, ◌-◌, ◌<◌, ◌≤◌, Bool, true, false, cond, nat_lt, Some, List, [], ◌∷◌, ◌++◌, length, take, drop, refl, sym, ◌∙◌, ap, subst, arith, append_assoc, length-append, length-drop}
use Rattle.std.specs.Int.{is_in_range}
use Rattle.std.specs.Char.Escape.{encode_utf16}
use Rattle.std.proofs.lemmas.Bool.{lt-ltb, ltb-true}
use Rattle.std.proofs.lemmas.List.{append-nil, take_rest, drop-drop}
use Rattle.encoding_mem.specs.Piece.{Piece, well_formed, malformed, piece_len, sizes, scalars, piece_scalars, piece_text, text, head_piece, AreWellFormed, ArePieces}
use Rattle.encoding_mem.specs.laws.Pieces.{pieces_by-nil, pieces_by-cons, pieces_by-whole}
use Rattle.encoding_mem.specs.Utf8.{second_min, second_max, scalar_of_two, scalar_of_three, scalar_of_four, utf8_after_three, utf8_after_two, utf8_after_lead, first_piece_utf8, pieces_utf8}
use Rattle.encoding_mem.specs.laws.Utf8.{cuts_utf8}
use Rattle.encoding_mem.specs.calls.Writing.{Adds, len_utf16, encode_utf16_all}
use Rattle.encoding_mem.specs.laws.Writing.{adds_encoded16, adds-length, encode_utf16_all-append, length-encode_utf16, cost_fits16}
use Rattle.encoding_mem.specs.laws.Piece.{well_formed_text}

-- A piece gives some text, and no more units than it has bytes.
record Fits (p : Piece) : Type 0 where
  some : 0 < length (encode_utf16_all (piece_text p))
  few : length (encode_utf16_all (piece_text p)) ≤ piece_len p

fits_well_formed : (n c : ℕ) → 2 ≤ n → Fits (well_formed n (c ∷ []))
fits_well_formed n c h =
    let l = length-append (encode_utf16 c) [] in
    let k = length-encode_utf16 c in
    record { some = omega (arith, l, k, one_at_least (nat_lt c 0x1_0000)); few = omega (arith, l, k, cost_fits16 c) }
  where
    one_at_least : (t : Bool) → 0 < cond t 1 2
    one_at_least true = omega arith
    one_at_least false = omega arith

fits_byte : (b : ℕ) → b < 0x80 → Fits (well_formed 1 (b ∷ []))
fits_byte b h =
    let l = length-append (encode_utf16 b) [] in
    let k = length-encode_utf16 b in
    let one : len_utf16 b ≡ 1 = ap (λ t. cond t 1 2) (lt-ltb b 0x1_0000 (omega arith)) in
    record { some = omega (arith, l, k, one); few = omega (arith, l, k, one) }

fits_malformed : (n : ℕ) → 1 ≤ n → Fits (malformed n)
fits_malformed n h = record { some = omega arith; few = omega arith }

fits_if : (t : Bool) (p q : Piece) → (t ≡ true → Fits p) → Fits q → Fits (cond t p q)
fits_if true p q f g = f refl
fits_if false p q f g = g

fits_three : (b c d : ℕ) (x : List ℕ) → Fits (utf8_after_three b c d x)
fits_three b c d [] = fits_malformed 3 (omega arith)
fits_three b c d (e ∷ x) = fits_if (is_in_range 0x80 0xBF e) _ _ (λ _. fits_well_formed 4 (scalar_of_four b c d e) (omega arith)) (fits_malformed 3 (omega arith))

fits_two : (b c : ℕ) (x : List ℕ) → Fits (utf8_after_two b c x)
fits_two b c [] = fits_malformed 2 (omega arith)
fits_two b c (d ∷ x) = fits_if (is_in_range 0x80 0xBF d) (cond (nat_lt b 0xF0) (well_formed 3 (scalar_of_three b c d ∷ [])) (utf8_after_three b c d x)) (malformed 2)
    (λ _. fits_if (nat_lt b 0xF0) _ _ (λ _. fits_well_formed 3 (scalar_of_three b c d) (omega arith)) (fits_three b c d x)) (fits_malformed 2 (omega arith))

fits_lead : (b : ℕ) (x : List ℕ) → Fits (utf8_after_lead b x)
fits_lead b [] = fits_malformed 1 (omega arith)
fits_lead b (c ∷ x) = fits_if (is_in_range (second_min b) (second_max b) c) (cond (nat_lt b 0xE0) (well_formed 2 (scalar_of_two b c ∷ [])) (utf8_after_two b c x)) (malformed 1)
    (λ _. fits_if (nat_lt b 0xE0) _ _ (λ _. fits_well_formed 2 (scalar_of_two b c) (omega arith)) (fits_two b c x)) (fits_malformed 1 (omega arith))

fits_prefix : (b : ℕ) (x : List ℕ) → Fits (first_piece_utf8 (b ∷ x))
fits_prefix b x = fits_if (nat_lt b 0x80) (well_formed 1 (b ∷ [])) (cond (is_in_range 0xC2 0xF4 b) (utf8_after_lead b x) (malformed 1))
    (λ t. fits_byte b (ltb-true b 0x80 t)) (fits_if (is_in_range 0xC2 0xF4 b) _ _ (λ _. fits_lead b x) (fits_malformed 1 (omega arith)))

abbrev AllFit : List Piece → Type 0
AllFit [] = Unit {0}
AllFit (p ∷ ps) = Fits p × AllFit ps

all_fit : (n : ℕ) (x : List ℕ) → length x ≤ n → AllFit (pieces_utf8 x)
all_fit n [] h = subst AllFit (sym (pieces_by-nil first_piece_utf8)) tt
all_fit zero (b ∷ x) h = absurd (omega arith)
all_fit (suc n) (b ∷ x) h =
    let cut = cuts_utf8 b x in
    let size = cut.piece.some in
    subst AllFit (sym (pieces_by-cons first_piece_utf8 cuts_utf8 b x))
    (fits_prefix b x, all_fit n (drop (piece_len (first_piece_utf8 (b ∷ x))) (b ∷ x)) (omega (arith, length-drop (piece_len (first_piece_utf8 (b ∷ x))) (b ∷ x))))

fit_back : (ps qs : List Piece) → AllFit (ps ++ qs) → AllFit qs
fit_back [] qs h = h
fit_back (p ∷ ps) qs h = fit_back ps qs h.1

pub text-append : (ps qs : List Piece) → text (ps ++ qs) ≡ text ps ++ text qs
text-append [] qs = refl
text-append (p ∷ ps) qs = ap (λ l. piece_text p ++ l) (text-append ps qs) ∙ sym (append_assoc (piece_text p) (text ps) (text qs))

units_few : (ps : List Piece) → AllFit ps → length (encode_utf16_all (text ps)) ≤ sizes ps
units_few [] h = omega arith
units_few (p ∷ ps) h =
    let e = ap length (encode_utf16_all-append (piece_text p) (text ps)) in
    let l = length-append (encode_utf16_all (piece_text p)) (encode_utf16_all (text ps)) in
    let f = h.0.few in
    let r = units_few ps h.1 in
    omega arith

-- what was written before a piece leaves room for it
pub room_before : (src : List ℕ) (ps rest : List Piece) (p : Piece) → pieces_utf8 src ≡ ps ++ rest → head_piece rest ≡ Some p → length (encode_utf16_all (text ps)) < length src
room_before src ps [] p is at = let none = sym at in absurd (cc)
room_before src ps (q ∷ rest) p is at =
    let all = all_fit (length src) src (omega arith) in
    let fit : AllFit (ps ++ (q ∷ rest)) = subst AllFit is all in
    let some = (fit_back ps (q ∷ rest) fit).0.some in
    let few = units_few (ps ++ (q ∷ rest)) fit in
    let whole : sizes (ps ++ (q ∷ rest)) ≡ length src = ap sizes (sym is) ∙ pieces_by-whole first_piece_utf8 cuts_utf8 src in
    let t = ap (λ l. length (encode_utf16_all l)) (text-append ps (q ∷ rest)) in
    let a = ap length (encode_utf16_all-append (text ps) (text (q ∷ rest))) in
    let b = length-append (encode_utf16_all (text ps)) (encode_utf16_all (text (q ∷ rest))) in
    let d = ap length (encode_utf16_all-append (piece_text q) (text rest)) in
    let e = length-append (encode_utf16_all (piece_text q)) (encode_utf16_all (text rest)) in
    omega arith

-- What a loop over the parts has: pieces are those of what the decoder has left.
pub record HasWritten (src old : List ℕ) (start : ℕ) (pieces : List ℕ → List Piece) (read : ℕ) (new : List ℕ) (count : ℕ) : Type 0 where
  pub taken : List Piece
  pub whole : pieces_utf8 src ≡ taken ++ pieces (drop read src)
  pub adds : Adds old start (encode_utf16_all (text taken)) new count

pieces_on : (src : List ℕ) (read more : ℕ) (before after : List ℕ → List Piece) (prefix taken : List Piece) → pieces_utf8 src ≡ prefix ++ before (drop read src)
    → before (take (length src - read) (drop read src) ++ []) ≡ taken ++ after (drop more (take (length src - read) (drop read src)) ++ [])
    → pieces_utf8 src ≡ (prefix ++ taken) ++ after (drop (read + more) src)
pieces_on src read more before after prefix taken whole rest =
    let part : take (length src - read) (drop read src) ≡ drop read src = take_rest src read in
    whole ∙ ap (λ l. prefix ++ before l) (sym part ∙ sym (append-nil (take (length src - read) (drop read src)))) ∙ ap (λ l. prefix ++ l) rest
    ∙ sym (append_assoc prefix taken _) ∙ ap (λ l. (prefix ++ taken) ++ after l) (append-nil (drop more (take (length src - read) (drop read src))) ∙ ap (drop more) part ∙ drop-drop more read src)

-- after a call without a malformed sequence
pub goes_on : (src old : List ℕ) (start : ℕ) (before after : List ℕ → List Piece) (read more : ℕ) (mid : List ℕ) (m : ℕ) (new : List ℕ) (n : ℕ) (taken : List Piece)
    → HasWritten src old start before read mid m → AreWellFormed taken
    → before (take (length src - read) (drop read src) ++ []) ≡ taken ++ after (drop more (take (length src - read) (drop read src)) ++ [])
    → Adds mid m (encode_utf16_all (scalars taken)) new n → HasWritten src old start after (read + more) new n
goes_on src old start before after read more mid m new n taken h are rest adds = record {
  taken = h.taken ++ taken;
  whole = pieces_on src read more before after h.taken taken h.whole rest;
  adds = subst (λ l. Adds old start (encode_utf16_all l) new n) (ap (λ l. text h.taken ++ l) (sym (well_formed_text taken are)) ∙ sym (text-append h.taken taken))
      (adds_encoded16 old start (text h.taken) (scalars taken) mid m new n h.adds adds);
}

scalars-malformed : (ps : List Piece) (a : ℕ) → scalars (ps ++ (malformed a ∷ [])) ≡ scalars ps
scalars-malformed [] a = refl
scalars-malformed (p ∷ ps) a = ap (λ l. piece_scalars p ++ l) (scalars-malformed ps a)

-- after a call that ended with a malformed sequence, and its U+FFFD
pub goes_on_malformed : (src old : List ℕ) (start : ℕ) (before after : List ℕ → List Piece) (read more : ℕ) (mid : List ℕ) (m : ℕ) (new : List ℕ) (n : ℕ) (end : List ℕ) (k : ℕ) (taken prefix : List Piece) (a : ℕ)
    → HasWritten src old start before read mid m → AreWellFormed prefix → taken ≡ prefix ++ (malformed a ∷ [])
    → before (take (length src - read) (drop read src) ++ []) ≡ taken ++ after (drop more (take (length src - read) (drop read src)) ++ [])
    → Adds mid m (encode_utf16_all (scalars taken)) new n → Adds new n (encode_utf16_all (0xFFFD ∷ [])) end k → HasWritten src old start after (read + more) end k
goes_on_malformed src old start before after read more mid m new n end k taken prefix a h are is rest adds mark =
    let t : text taken ≡ scalars taken ++ (0xFFFD ∷ []) =
    ap text is ∙ text-append prefix (malformed a ∷ []) ∙ ap (λ l. l ++ (0xFFFD ∷ [])) (well_formed_text prefix are ∙ sym (scalars-malformed prefix a) ∙ ap scalars (sym is)) in
    record {
      taken = h.taken ++ taken;
      whole = pieces_on src read more before after h.taken taken h.whole rest;
      adds = subst (λ l. Adds old start (encode_utf16_all l) end k) (ap (λ l. text h.taken ++ l) (sym t) ∙ sym (text-append h.taken taken))
          (adds_encoded16 old start (text h.taken) (scalars taken ++ (0xFFFD ∷ [])) mid m end k h.adds (adds_encoded16 mid m (scalars taken) (0xFFFD ∷ []) new n end k adds mark));
    }

-- a call that ended with a malformed sequence took some bytes
pub some_taken : (taken rest prefix : List Piece) (a : ℕ) → taken ≡ prefix ++ (malformed a ∷ []) → ArePieces (taken ++ rest) → 0 < sizes taken
some_taken [] rest prefix a is h = let l = ap length is in absurd (omega (arith, length-append prefix (malformed a ∷ [])))
some_taken (p ∷ taken) rest prefix a is h = omega (arith, h.0.some)

-- at the end
pub all_written : (src old : List ℕ) (start : ℕ) (pieces : List ℕ → List Piece) (read : ℕ) (new : List ℕ) (count : ℕ) → HasWritten src old start pieces read new count → pieces (drop read src) ≡ []
    → Adds old start (encode_utf16_all (text (pieces_utf8 src))) new count
all_written src old start pieces read new count h none =
    subst (λ ps. Adds old start (encode_utf16_all (text ps)) new count) (sym (h.whole ∙ ap (λ ps. h.taken ++ ps) none ∙ append-nil h.taken)) h.adds

-- If a first piece is left, there is room for any character.
pub never_full : (src old : List ℕ) (start : ℕ) (pieces : List ℕ → List Piece) (read : ℕ) (new : List ℕ) (count : ℕ) (p : Piece) → HasWritten src old start pieces read new count
    → head_piece (pieces (drop read src)) ≡ Some p → length src < length old - start → 2 ≤ length new - count
never_full src old start pieces read new count p h at room =
    let before = room_before src h.taken (pieces (drop read src)) p h.whole at in
    omega (arith, h.adds.counted, adds-length old start (encode_utf16_all (text h.taken)) new count h.adds)
