-- What some bytes show of a mark, and more bytes do not change. What a look for a mark does. The mark that a look
-- for it finds is the one that is taken. Held bytes that are decoded before a source.
use Rattle.std.proofs.Common.{◌≡◌, ℕ, suc, ◌+◌, ◌≤◌, ◌<◌, ◌==◌, ◌&&◌, ◌||◌, Bool, true, false, cond, List, [], ◌∷◌, ◌++◌, length, refl, arith, zero, ◌-◌, IsTrue, take, drop, sym, ◌∙◌, ap, subst, append_assoc, length-append, length-take, Some, None, ◌⊎◌, inl, inr, length-drop}
use Rattle.encoding_front.specs.calls.Seeking.{mark_len, is_sought, find_mark, find_second, find_end, mark_head, seeks, pieces_after_mark, pieces_seen, sought_pieces, can_be, mark_needs, sought_needs, nothing_sought, encoding_of_mark, sought_by, sought_encoding, encoding_seen}
use Rattle.encoding_front.specs.declared.seeking.ByteOrderMark.{ByteOrderMark}
use Rattle.encoding_front.specs.declared.seeking.ByteOrderMark.TheVariants.{Utf8, Utf16Be, Utf16Le}
use Rattle.encoding_front.specs.declared.seeking.BomSet.{BomSet}
use Rattle.encoding_front.specs.declared.seeking.BomMatch.{BomMatch}
use Rattle.encoding_front.specs.declared.seeking.BomMatch.TheVariants.{Prefix, Whole, Other}
use Rattle.std.proofs.lemmas.List.{append-nil, take-append-drop, drop_all, drop-append-le, nil_from_length}
use Rattle.encoding_mem.specs.Piece.{Piece, malformed, well_formed, head_piece, piece_len, sizes, AreWellFormed, scalars}
use Rattle.encoding_mem.specs.calls.Decoding.{DecoderState, Takes, Waits, Reports, EndsWith, StateLaw, Suffices}
use Rattle.encoding_mem.specs.calls.DecodedLength.{decoded_length, counts_past_malformed, replacement_len, left_after}
use Rattle.encoding_mem.specs.declared.codec.room.OutputUnit.{OutputUnit}
use Rattle.encoding_front.specs.calls.TakesMark.{LeavesRoom}
use Rattle.std.specs.Prelude.{eqb}
use Rattle.std.specs.List.{starts_with}
use Rattle.std.proofs.lemmas.Bool.{eqb-true}
use Rattle.std.specs.Option.{unwrap_or}
use Rattle.encoding_tables.specs.IndexLists.{IndexLists}
use Rattle.encoding_front.specs.Encodings.{IsReady, first_mark, needs_of, pieces_of}
use Rattle.encoding_front.specs.calls.CodecBounds.{decoded_length_of}
use Rattle.encoding_front.specs.Marks.{source_of, pieces_from, marked_pieces}
use Rattle.encoding_mem.specs.declared.codec.room.DecodedLength.{DecodedLength}
use Rattle.encoding_front.specs.calls.Stream.{Opening}
use Rattle.encoding_front.specs.declared.encoding.Encoding.{Encoding}
use Rattle.encoding_front.specs.declared.mark.Mark.{Mark}
use Rattle.encoding_mem.specs.declared.codec.decoder_result.DecoderResult.{DecoderResult}
use Rattle.encoding_mem.specs.declared.codec.decoder_result.DecoderResult.TheVariants.{InputEmpty, OutputFull, Malformed}
use Rattle.encoding_mem.specs.laws.Piece.{sizes-append, scalars-append, AreWellFormed-append}
use Rattle.encoding_mem.specs.Decided.{AreBytes}
use Rattle.encoding_front.specs.calls.BomDecoderState.{held_state}

-- less than a mark, which more bytes complete
pub record Opens (find : List ℕ → BomMatch) (k : ℕ) (x : List ℕ) : Type 0 where
  pub mark : ByteOrderMark
  pub more : List ℕ
  pub bytes : AreBytes more
  pub few : length more ≤ 3
  pub short : k + length x < mark_len mark
  pub whole : find (x ++ more) ≡ Whole mark

-- k bytes stand before x
abbrev pub Shows : (List ℕ → BomMatch) → ℕ → List ℕ → BomMatch → Type 0
Shows find k x Prefix = Opens find k x
Shows find k x (Whole m) = ((r : List ℕ) → find (x ++ r) ≡ Whole m) × (mark_len m ≤ k + length x)
Shows find k x Other = (r : List ℕ) → find (x ++ r) ≡ Other

shows_cond : (t : Bool) (f g : List ℕ → BomMatch) (k : ℕ) (x : List ℕ) (F G : BomMatch) → Shows f k x F → Shows g k x G → Shows (λ y. cond t (f y) (g y)) k x (cond t F G)
shows_cond true f g k x F G a b = a
shows_cond false f g k x F G a b = b

shows_cons : (f : List ℕ → BomMatch) (k e : ℕ) (x : List ℕ) (F : BomMatch) → Shows (λ y. f (e ∷ y)) (suc k) x F → Shows f k (e ∷ x) F
shows_cons f k e x Prefix h = record { mark = h.mark; more = h.more; bytes = h.bytes; few = h.few; short = omega (arith, h.short); whole = h.whole }
shows_cons f k e x (Whole m) h = (h.0, omega (arith, h.1))
shows_cons f k e x Other h = h

same_byte : (b : ℕ) → (b == b) ≡ true
same_byte b = grind (arith)

shows_end : (byte : ℕ) (mark : ByteOrderMark) (k : ℕ) (x : List ℕ) → byte < 256 → mark_len mark ≡ suc k → Shows (find_end byte mark) k x (find_end byte mark x)
shows_end byte mark k [] is_byte e = record { mark = mark; more = byte ∷ []; bytes = (is_byte, tt); few = omega arith; short = omega (arith, e); whole = rw (same_byte byte) refl }
shows_end byte mark k (c ∷ x) is_byte e = shows_cons (find_end byte mark) k c x _ (shows_cond (c == byte) (λ _. Whole mark) (λ _. Other) (suc k) x (Whole mark) Other (λ r. refl, omega (arith, e)) (λ r. refl))

shows_second : (x : List ℕ) → Shows find_second 1 x (find_second x)
shows_second [] = record { mark = Utf8; more = 0xBB ∷ 0xBF ∷ []; bytes = (omega arith, (omega arith, tt)); few = omega arith; short = omega arith; whole = refl }
shows_second (b ∷ x) = shows_cons find_second 1 b x _ (shows_cond (b == 0xBB) (find_end 0xBF Utf8) (λ _. Other) 2 x _ Other (shows_end 0xBF Utf8 2 x (omega arith) refl) (λ r. refl))

-- some mark is sought
opens_none : (utf8 be le : Bool) → ((utf8 || be) || le) ≡ true → Opens (find_mark (record { utf8 = utf8; utf16_be = be; utf16_le = le })) 0 []
opens_none true be le e = record { mark = Utf8; more = 0xEF ∷ 0xBB ∷ 0xBF ∷ []; bytes = (omega arith, (omega arith, (omega arith, tt))); few = omega arith; short = omega arith; whole = refl }
opens_none false true le e = record { mark = Utf16Be; more = 0xFE ∷ 0xFF ∷ []; bytes = (omega arith, (omega arith, tt)); few = omega arith; short = omega arith; whole = refl }
opens_none false false true e = record { mark = Utf16Le; more = 0xFF ∷ 0xFE ∷ []; bytes = (omega arith, (omega arith, tt)); few = omega arith; short = omega arith; whole = refl }
opens_none false false false e = cc

pub shows_mark : (s : BomSet) (x : List ℕ) → is_sought s ≡ true → Shows (find_mark s) 0 x (find_mark s x)
shows_mark s [] e = opens_none s.utf8 s.utf16_be s.utf16_le e
shows_mark s (a ∷ x) e = shows_cons (find_mark s) 0 a x _
    (shows_cond ((a == 0xEF) && s.utf8) find_second _ 1 x _ _ (shows_second x)
    (shows_cond ((a == 0xFE) && s.utf16_be) (find_end 0xFF Utf16Be) _ 1 x _ _ (shows_end 0xFF Utf16Be 1 x (omega arith) refl)
    (shows_cond ((a == 0xFF) && s.utf16_le) (find_end 0xFE Utf16Le) (λ _. Other) 1 x _ _ (shows_end 0xFE Utf16Le 1 x (omega arith) refl) (λ r. refl))))

-- What a look for a mark does.

len_some : (m : ByteOrderMark) → (2 ≤ mark_len m) × (mark_len m ≤ 3)
len_some Utf8 = (omega arith, omega arith)
len_some Utf16Be = (omega arith, omega arith)
len_some Utf16Le = (omega arith, omega arith)

seen_is : (s : BomSet) (own : List ℕ → List Piece) (x : List ℕ) (F : BomMatch) → is_sought s ≡ true → find_mark s x ≡ F → sought_pieces s own x ≡ pieces_seen own x F
seen_is s own x F e f = rw e (rw f refl)

named_is : (s : BomSet) (d : Encoding) (x : List ℕ) (F : BomMatch) → is_sought s ≡ true → find_mark s x ≡ F → sought_encoding s d x ≡ encoding_seen d F
named_is s d x F e f = rw e (rw f refl)

-- nothing is sought
pub unmarked : (s : BomSet) (own : List ℕ → List Piece) (x : List ℕ) → is_sought s ≡ false → sought_pieces s own x ≡ own x
unmarked s own x e = rw e refl

pub unnamed : (s : BomSet) (d : Encoding) (x : List ℕ) → is_sought s ≡ false → sought_encoding s d x ≡ d
unnamed s d x e = rw e refl

first_within : (ps : List Piece) (p : Piece) → head_piece ps ≡ Some p → piece_len p ≤ sizes ps
first_within [] p e = cc
first_within (q ∷ ps) p e = let same : q ≡ p = cc in omega (arith, ap piece_len same)

-- the three bytes that are looked at, and the rest
cut : (held src window r : List ℕ) → window ≡ take 3 (held ++ src) → held ++ (src ++ r) ≡ window ++ (drop 3 (held ++ src) ++ r)
cut held src window r e = sym (append_assoc held src r) ∙ ap (λ x. x ++ r) (sym (take-append-drop 3 (held ++ src))) ∙ ap (λ x. (x ++ drop 3 (held ++ src)) ++ r) (sym e) ∙ append_assoc window (drop 3 (held ++ src)) r

-- less than three bytes are all
all_of : (held src window : List ℕ) → window ≡ take 3 (held ++ src) → length window < 3 → window ≡ held ++ src
all_of held src window e h =
    let size : length window ≡ length (take 3 (held ++ src)) = ap length e in
    let none : drop 3 (held ++ src) ≡ [] = drop_all 3 (held ++ src) (omega (arith, size, h, length-take 3 (held ++ src))) in
    sym (append-nil window) ∙ ap (λ x. window ++ x) (sym none) ∙ ap (λ x. x ++ drop 3 (held ++ src)) e ∙ take-append-drop 3 (held ++ src)

differ : (own : DecoderState) (x : List ℕ) (n : ℕ) (rest : List Piece) → own.pending ≡ 0 → length x < n → head_piece (own.pieces x) ≡ head_piece (well_formed n [] ∷ rest) → ⊥
differ own x n rest new short e = (let h : n ≤ sizes (own.pieces x) = first_within (own.pieces x) (well_formed n []) e in let no : ⊥ = omega (arith, h, own.whole x, new, short) in no)

-- some of a mark waits
pub waits_mark : (s : BomSet) (own : DecoderState) (x : List ℕ) → is_sought s ≡ true → own.pending ≡ 0 → find_mark s x ≡ Prefix → Waits (λ r. sought_pieces s own.pieces (x ++ r)) (own.pending + length x)
waits_mark s own x e new f =
    let o : Opens (find_mark s) 0 x = subst (λ (F : BomMatch). Shows (find_mark s) 0 x F) f (shows_mark s x e) in
    let few : length x ≤ 2 = omega (arith, o.short, (len_some o.mark).1) in
    let now : sought_pieces s own.pieces (x ++ []) ≡ own.pieces x = ap (λ y. sought_pieces s own.pieces y) (append-nil x) ∙ seen_is s own.pieces x Prefix e f in
    let then : sought_pieces s own.pieces (x ++ o.more) ≡ pieces_seen own.pieces (x ++ o.more) (Whole o.mark) = seen_is s own.pieces (x ++ o.more) (Whole o.mark) e o.whole in
    record {
      short = omega (arith, new, few);
      undecided = record {
        more = o.more;
        bytes = o.bytes;
        short = o.few;
        differs = λ same. differ own x (mark_len o.mark) (pieces_after_mark o.mark (drop (mark_len o.mark) (x ++ o.more))) new (omega (arith, o.short)) (sym (ap head_piece now) ∙ same ∙ ap head_piece then);
      };
      soon = λ r p g. omega (arith, new, few);
    }

-- all is held
pub takes_all : (P : List ℕ → List Piece) (held src window : List ℕ) (last : Bool) (pending : ℕ) → window ≡ take 3 (held ++ src) → length window < 3 → Takes AreWellFormed (λ x. P (held ++ x)) (λ x. P (window ++ x)) src last (pending + length held) (pending + length window) (length src) (λ t. t ≡ [])
takes_all P held src window last pending e h =
    let all : window ≡ held ++ src = all_of held src window e h in
    record {
      taken = [];
      well_formed = tt;
      within = omega arith;
      counted = omega (arith, ap length all, length-append held src);
      writes = refl;
      rest = λ r f. ap P (sym (append_assoc held src r)) ∙ ap (λ x. P (x ++ r)) (sym all) ∙ ap (λ x. P (window ++ (x ++ r))) (sym (drop_all (length src) src (omega arith)));
    }

-- the pieces are those of the decoder
pub takes_none : (P Q : List ℕ → List Piece) (held src : List ℕ) (last : Bool) (pending : ℕ) → ((r : List ℕ) → (IsTrue last → r ≡ []) → P (held ++ (src ++ r)) ≡ Q (held ++ (src ++ r))) → Takes AreWellFormed (λ x. P (held ++ x)) (λ x. Q (held ++ x)) src last (pending + length held) (pending + length held) 0 (λ t. t ≡ [])
takes_none P Q held src last pending same = record { taken = []; well_formed = tt; within = omega arith; counted = omega arith; writes = refl; rest = same }

drop_past : (n : ℕ) (a b : List ℕ) → length a ≤ n → drop n (a ++ b) ≡ drop (n - length a) b
drop_past n [] b h = ap (λ k. drop k b) (let e : n ≡ n - 0 = omega arith in e)
drop_past zero (x ∷ a) b h = absurd (omega (arith, h))
drop_past (suc n) (x ∷ a) b h = drop_past n a b (omega (arith, h)) ∙ ap (λ k. drop k b) (let e : n - length a ≡ suc n - length (x ∷ a) = omega arith in e)

dropped : (n : ℕ) (held src r : List ℕ) → length held ≤ n → n ≤ length held + length src → drop n (held ++ (src ++ r)) ≡ drop (n - length held) src ++ r
dropped n held src r h k = drop_past n held (src ++ r) h ∙ drop-append-le (n - length held) src r (omega (arith, h, k))

-- a mark is taken, and nothing is held. A are the pieces of what follows it, by another name.
pub takes_whole : (s : BomSet) (own after : DecoderState) (A : List ℕ → List Piece) (held src window none : List ℕ) (last : Bool) (m : ByteOrderMark) (read : ℕ) → is_sought s ≡ true → own.pending ≡ 0 → length held ≤ 2 → window ≡ take 3 (held ++ src) → find_mark s window ≡ Whole m → ((x : List ℕ) → A x ≡ after.pieces x) → after.pieces ≡ pieces_after_mark m → after.pending ≡ 0 → none ≡ [] → read ≡ mark_len m - length held
    → Takes AreWellFormed (λ x. sought_pieces s own.pieces (held ++ x)) (λ x. A (none ++ x)) src last (own.pending + length held) (after.pending + length none) read (λ t. t ≡ [])
takes_whole s own after A held src window none last m read e new few cut_is f named is fresh none_is read_is =
    let sh : Shows (find_mark s) 0 window (Whole m) = subst (λ (F : BomMatch). Shows (find_mark s) 0 window F) f (shows_mark s window e) in
    let n : ℕ = mark_len m in
    let size : length window ≤ length held + length src = omega (arith, ap length cut_is, length-take 3 (held ++ src), length-append held src) in
    record {
      taken = well_formed n [] ∷ [];
      well_formed = (tt, tt);
      within = omega (arith, sh.1, size, read_is);
      counted = omega (arith, new, fresh, few, (len_some m).0, read_is, ap length none_is);
      writes = refl;
      rest = λ r g.
          seen_is s own.pieces (held ++ (src ++ r)) (Whole m) e (ap (find_mark s) (cut held src window r cut_is) ∙ sh.0 (drop 3 (held ++ src) ++ r))
          ∙ ap (λ x. well_formed n [] ∷ pieces_after_mark m x) (dropped n held src r (omega (arith, few, (len_some m).0)) (omega (arith, sh.1, size)))
          ∙ ap (λ h. well_formed n [] ∷ h (drop (n - length held) src ++ r)) (sym is)
          ∙ ap (λ k. well_formed n [] ∷ after.pieces (drop k src ++ r)) (sym read_is)
          ∙ ap (λ x. well_formed n [] ∷ after.pieces (x ++ (drop read src ++ r))) (sym none_is)
          ∙ ap (λ ps. well_formed n [] ∷ ps) (sym (named (none ++ (drop read src ++ r))));
    }

pub prefix_short : (s : BomSet) (x : List ℕ) → is_sought s ≡ true → find_mark s x ≡ Prefix → length x < 3
prefix_short s x e f =
    let o : Opens (find_mark s) 0 x = subst (λ (F : BomMatch). Shows (find_mark s) 0 x F) f (shows_mark s x e) in
    omega (arith, o.short, (len_some o.mark).1)

pub few_of : (n p : ℕ) → (0 < n → p + n ≤ 2) → n ≤ 2
few_of zero p h = omega arith
few_of (suc n) p h = omega (arith, h (omega arith))

-- no mark is there
pub other_is : (s : BomSet) (own : List ℕ → List Piece) (held src window r : List ℕ) → is_sought s ≡ true → window ≡ take 3 (held ++ src) → find_mark s window ≡ Other → sought_pieces s own (held ++ (src ++ r)) ≡ own (held ++ (src ++ r))
other_is s own held src window r e cut_is f =
    let sh : Shows (find_mark s) 0 window Other = subst (λ (F : BomMatch). Shows (find_mark s) 0 window F) f (shows_mark s window e) in
    seen_is s own (held ++ (src ++ r)) Other e (ap (find_mark s) (cut held src window r cut_is) ∙ sh (drop 3 (held ++ src) ++ r))

-- what is left at the end is no mark
pub ended_is : (s : BomSet) (own : List ℕ → List Piece) (held src window r : List ℕ) → is_sought s ≡ true → window ≡ take 3 (held ++ src) → find_mark s window ≡ Prefix → r ≡ [] → sought_pieces s own (held ++ (src ++ r)) ≡ own (held ++ (src ++ r))
ended_is s own held src window r e cut_is f ends =
    let all : window ≡ held ++ src = all_of held src window cut_is (prefix_short s window e f) in
    let whole : held ++ (src ++ r) ≡ window = ap (λ x. held ++ (src ++ x)) ends ∙ ap (λ x. held ++ x) (append-nil src) ∙ sym all in
    seen_is s own (held ++ (src ++ r)) Prefix e (ap (find_mark s) whole ∙ f)

-- the encoding that an input turns out to be in, in each case
pub named_whole : (s : BomSet) (d : Encoding) (held src window r : List ℕ) (m : ByteOrderMark) → is_sought s ≡ true → window ≡ take 3 (held ++ src) → find_mark s window ≡ Whole m → sought_encoding s d (held ++ (src ++ r)) ≡ encoding_of_mark m
named_whole s d held src window r m e cut_is f =
    let sh : Shows (find_mark s) 0 window (Whole m) = subst (λ (F : BomMatch). Shows (find_mark s) 0 window F) f (shows_mark s window e) in
    named_is s d (held ++ (src ++ r)) (Whole m) e (ap (find_mark s) (cut held src window r cut_is) ∙ sh.0 (drop 3 (held ++ src) ++ r))

pub named_other : (s : BomSet) (d : Encoding) (held src window r : List ℕ) → is_sought s ≡ true → window ≡ take 3 (held ++ src) → find_mark s window ≡ Other → sought_encoding s d (held ++ (src ++ r)) ≡ d
named_other s d held src window r e cut_is f =
    let sh : Shows (find_mark s) 0 window Other = subst (λ (F : BomMatch). Shows (find_mark s) 0 window F) f (shows_mark s window e) in
    named_is s d (held ++ (src ++ r)) Other e (ap (find_mark s) (cut held src window r cut_is) ∙ sh (drop 3 (held ++ src) ++ r))

pub named_ended : (s : BomSet) (d : Encoding) (held src window r : List ℕ) → is_sought s ≡ true → window ≡ take 3 (held ++ src) → find_mark s window ≡ Prefix → r ≡ [] → sought_encoding s d (held ++ (src ++ r)) ≡ d
named_ended s d held src window r e cut_is f ends =
    let all : window ≡ held ++ src = all_of held src window cut_is (prefix_short s window e f) in
    let whole : held ++ (src ++ r) ≡ window = ap (λ x. held ++ (src ++ x)) ends ∙ ap (λ x. held ++ x) (append-nil src) ∙ sym all in
    named_is s d (held ++ (src ++ r)) Prefix e (ap (find_mark s) whole ∙ f)

pub named_prefix : (s : BomSet) (d : Encoding) (held src window r : List ℕ) → is_sought s ≡ true → window ≡ take 3 (held ++ src) → find_mark s window ≡ Prefix → sought_encoding s d (held ++ (src ++ r)) ≡ sought_encoding s d (window ++ r)
named_prefix s d held src window r e cut_is f =
    let all : window ≡ held ++ src = all_of held src window cut_is (prefix_short s window e f) in
    ap (sought_encoding s d) (sym (append_assoc held src r) ∙ ap (λ x. x ++ r) (sym all))

-- The room that is left.

-- the first byte of what is looked at says which mark it may be
abbrev IsOf : BomSet → (a : ℕ) → BomMatch → Type 0
IsOf s a Prefix = Unit {0}
IsOf s a (Whole m) = ((a == mark_head m) && seeks s m) ≡ true
IsOf s a Other = Unit {0}

of_cond : (t : Bool) (s : BomSet) (a : ℕ) (F G : BomMatch) → (t ≡ true → IsOf s a F) → IsOf s a G → IsOf s a (cond t F G)
of_cond true s a F G h k = h refl
of_cond false s a F G h k = k

of_end : (s : BomSet) (a byte : ℕ) (m : ByteOrderMark) (x : List ℕ) → ((a == mark_head m) && seeks s m) ≡ true → IsOf s a (find_end byte m x)
of_end s a byte m [] h = tt
of_end s a byte m (c ∷ x) h = of_cond (c == byte) s a (Whole m) Other (λ _. h) tt

of_second : (s : BomSet) (a : ℕ) (x : List ℕ) → ((a == 0xEF) && s.utf8) ≡ true → IsOf s a (find_second x)
of_second s a [] h = tt
of_second s a (b ∷ x) h = of_cond (b == 0xBB) s a (find_end 0xBF Utf8 x) Other (λ _. of_end s a 0xBF Utf8 x h) tt

of_mark : (s : BomSet) (a : ℕ) (x : List ℕ) → IsOf s a (find_mark s (a ∷ x))
of_mark s a x = of_cond ((a == 0xEF) && s.utf8) s a (find_second x) _ (λ h. of_second s a x h)
    (of_cond ((a == 0xFE) && s.utf16_be) s a (find_end 0xFF Utf16Be x) _ (λ h. of_end s a 0xFF Utf16Be x h)
    (of_cond ((a == 0xFF) && s.utf16_le) s a (find_end 0xFE Utf16Le x) Other (λ h. of_end s a 0xFE Utf16Le x h) tt))

and_right : (p q : Bool) → (p && q) ≡ true → q ≡ true
and_right true q h = h
and_right false q h = cc

-- a mark that is there was possible before
could_be : (s : BomSet) (m : ByteOrderMark) (held src window : List ℕ) → window ≡ take 3 (held ++ src) → can_be s window m ≡ true → can_be s held m ≡ true
could_be s m [] src [] e h = h
could_be s m [] src (a ∷ x) e h = and_right (a == mark_head m) (seeks s m) h
could_be s m (b ∷ held) src [] e h = cc
could_be s m (b ∷ held) src (a ∷ x) e h = let same : a ≡ b = cc in subst (λ (c : ℕ). ((c == mark_head m) && seeks s m) ≡ true) same h

whole_can_be : (s : BomSet) (m : ByteOrderMark) (window : List ℕ) → find_mark s window ≡ Whole m → can_be s window m ≡ true
whole_can_be s m [] f = cc
whole_can_be s m (a ∷ x) f = subst (λ (F : BomMatch). IsOf s a F) f (of_mark s a x)

need_is : (s : BomSet) (held : List ℕ) (k : OutputUnit) (n : ℕ) (m : ByteOrderMark) → can_be s held m ≡ true → mark_needs s held k n m ≡ decoded_length (decoded_length_of (encoding_of_mark m)) k ((length held + n) - mark_len m)
need_is s held k n m h = rw h refl

in_max : (s : BomSet) (own : OutputUnit → ℕ → ℕ) (held : List ℕ) (k : OutputUnit) (n : ℕ) (m : ByteOrderMark) → mark_needs s held k n m ≤ sought_needs s own held k n
in_max s own held k n Utf8 = omega arith
in_max s own held k n Utf16Be = omega arith
in_max s own held k n Utf16Le = omega arith

-- a mark is taken
pub leaves_whole : (s : BomSet) (own : OutputUnit → ℕ → ℕ) (after : DecoderState) (held src window none : List ℕ) (m : ByteOrderMark) (read : ℕ) → length held ≤ 2 → window ≡ take 3 (held ++ src) → find_mark s window ≡ Whole m → after.pending ≡ 0 → after.room ≡ decoded_length_of (encoding_of_mark m) → none ≡ [] → read ≡ mark_len m - length held
    → LeavesRoom (sought_needs s own held) (sought_needs nothing_sought after.needs none) read
leaves_whole s own after held src window none m read few cut_is f fresh is none_is read_is k n =
    let possible : can_be s held m ≡ true = could_be s m held src window cut_is (whole_can_be s m window f) in
    let size : (length held + (read + n)) - mark_len m ≡ n = omega (arith, read_is, few, (len_some m).0) in
    let now : sought_needs nothing_sought after.needs none k n ≤ decoded_length after.room k (after.pending + n) = rw none_is (let c : after.needs k n ≤ decoded_length after.room k (after.pending + n) = after.covers k n in let zero_ : 0 + n ≡ n = omega arith in omega (arith, c, ap (after.needs k) zero_)) in
    let same : decoded_length after.room k (after.pending + n) ≡ decoded_length (decoded_length_of (encoding_of_mark m)) k ((length held + (read + n)) - mark_len m) = ap (λ r. decoded_length r k (after.pending + n)) is ∙ ap (decoded_length (decoded_length_of (encoding_of_mark m)) k) (let e : after.pending + n ≡ (length held + (read + n)) - mark_len m = omega (arith, fresh, size) in e) in
    omega (arith, now, same, need_is s held k (read + n) m possible, in_max s own held k (read + n) m)

-- all is held
need_by : (p q : Bool) (a b : ℕ) → (p ≡ true → q ≡ true) → a ≡ b → cond p a 0 ≤ cond q b 0
need_by false q a b h e = omega arith
need_by true q a b h e = rw (h refl) (omega (arith, e))

need_falls : (s : BomSet) (m : ByteOrderMark) (held window : List ℕ) (k : OutputUnit) (i j : ℕ) → (can_be s window m ≡ true → can_be s held m ≡ true) → length window + j ≡ length held + i → mark_needs s window k j m ≤ mark_needs s held k i m
need_falls s m held window k i j could same = need_by (can_be s window m) (can_be s held m) (decoded_length (decoded_length_of (encoding_of_mark m)) k ((length window + j) - mark_len m)) (decoded_length (decoded_length_of (encoding_of_mark m)) k ((length held + i) - mark_len m)) could (ap (λ n. decoded_length (decoded_length_of (encoding_of_mark m)) k (n - mark_len m)) same)

pub leaves_all : (s : BomSet) (own : OutputUnit → ℕ → ℕ) (held src window : List ℕ) → window ≡ take 3 (held ++ src) → length window < 3 → LeavesRoom (sought_needs s own held) (sought_needs s own window) (length src)
leaves_all s own held src window e h k n =
    let all : length window ≡ length held + length src = ap length (all_of held src window e h) ∙ length-append held src in
    let same : length window + n ≡ length held + (length src + n) = omega (arith, all) in
    omega (
      arith,
      ap (own k) same,
      need_falls s Utf8 held window k (length src + n) n (λ g. could_be s Utf8 held src window e g) same,
      need_falls s Utf16Be held window k (length src + n) n (λ g. could_be s Utf16Be held src window e g) same,
      need_falls s Utf16Le held window k (length src + n) n (λ g. could_be s Utf16Le held src window e g) same,
    )

-- nothing is sought any more
never : (p : Bool) (a : ℕ) → cond (p && false) a 0 ≡ 0
never true a = refl
never false a = refl

nothing_needs : (held : List ℕ) (k : OutputUnit) (n : ℕ) (m : ByteOrderMark) → mark_needs nothing_sought held k n m ≡ 0
nothing_needs [] k n Utf8 = refl
nothing_needs [] k n Utf16Be = refl
nothing_needs [] k n Utf16Le = refl
nothing_needs (b ∷ held) k n Utf8 = never (b == 0xEF) _
nothing_needs (b ∷ held) k n Utf16Be = never (b == 0xFE) _
nothing_needs (b ∷ held) k n Utf16Le = never (b == 0xFF) _

pub needs_own : (own : OutputUnit → ℕ → ℕ) (held : List ℕ) (k : OutputUnit) (n : ℕ) → sought_needs nothing_sought own held k n ≡ own k (length held + n)
needs_own own held k n = omega (arith, nothing_needs held k n Utf8, nothing_needs held k n Utf16Be, nothing_needs held k n Utf16Le)

pub leaves_none : (s : BomSet) (own : OutputUnit → ℕ → ℕ) (held : List ℕ) → LeavesRoom (sought_needs s own held) (sought_needs nothing_sought own held) 0
leaves_none s own held k n = let same : 0 + n ≡ n = omega arith in omega (arith, needs_own own held k n, ap (λ i. own k (length held + i)) same)

pub needs_settled : (s : BomSet) (own : OutputUnit → ℕ → ℕ) (held : List ℕ) → s ≡ nothing_sought → (k : OutputUnit) (n : ℕ) → sought_needs s own held k n ≡ own k (length held + n)
needs_settled s own held e k n = ap (λ (t : BomSet). sought_needs t own held k n) e ∙ needs_own own held k n

-- The mark that a look for it finds is the one that is taken.

abbrev seen_source : Encoding → BomMatch → Encoding × ℕ
seen_source e Prefix = (e, 0)
seen_source e (Whole m) = (encoding_of_mark m, mark_len m)
seen_source e Other = (e, 0)

-- one mark after another
one : (t : Bool) (m : Encoding × List ℕ) (l : List (Encoding × List ℕ)) (x : List ℕ) → first_mark (cond t (m ∷ l) l) x ≡ cond (t && starts_with eqb x m.1) (Some (m.0, length m.1)) (first_mark l x)
one true m l x = refl
one false m l x = refl

abbrev in_turn : Encoding → (p q r : Bool) → Encoding × ℕ
in_turn e p q r = unwrap_or (cond p (Some (Encoding.Utf8, 3)) (cond q (Some (Encoding.Utf16Be, 2)) (cond r (Some (Encoding.Utf16Le, 2)) None))) (e, 0)

source_in_turn : (mark : Mark) (e : Encoding) (x : List ℕ) → let s = sought_by mark e in source_of mark e x ≡ in_turn e (s.utf8 && starts_with eqb x (0xEF ∷ 0xBB ∷ 0xBF ∷ [])) (s.utf16_be && starts_with eqb x (0xFE ∷ 0xFF ∷ [])) (s.utf16_le && starts_with eqb x (0xFF ∷ 0xFE ∷ []))
source_in_turn mark e x =
    let s : BomSet = sought_by mark e in
    ap (λ o. unwrap_or o (e, 0)) (
    one s.utf8 (Encoding.Utf8, 0xEF ∷ 0xBB ∷ 0xBF ∷ []) _ x
    ∙ ap (cond (s.utf8 && starts_with eqb x (0xEF ∷ 0xBB ∷ 0xBF ∷ [])) (Some (Encoding.Utf8, 3))) (
    one s.utf16_be (Encoding.Utf16Be, 0xFE ∷ 0xFF ∷ []) _ x
    ∙ ap (cond (s.utf16_be && starts_with eqb x (0xFE ∷ 0xFF ∷ [])) (Some (Encoding.Utf16Be, 2))) (one s.utf16_le (Encoding.Utf16Le, 0xFF ∷ 0xFE ∷ []) [] x)))

and_no : (t : Bool) → (t && false) ≡ false
and_no true = refl
and_no false = refl

flip : (a b : ℕ) → (a == b) ≡ (b == a)
flip a b = grind (arith)

-- the rest of each mark
utf8_step : (e : Encoding) (t G : Bool) (F : BomMatch) → seen_source e F ≡ in_turn e G false false → seen_source e (cond t F Other) ≡ in_turn e (t && G) false false
utf8_step e true G F h = h
utf8_step e false G F h = refl

be_step : (e : Encoding) (t G : Bool) (F : BomMatch) → seen_source e F ≡ in_turn e false G false → seen_source e (cond t F Other) ≡ in_turn e false (t && G) false
be_step e true G F h = h
be_step e false G F h = refl

le_step : (e : Encoding) (t G : Bool) (F : BomMatch) → seen_source e F ≡ in_turn e false false G → seen_source e (cond t F Other) ≡ in_turn e false false (t && G)
le_step e true G F h = h
le_step e false G F h = refl

utf8_end : (e : Encoding) (x : List ℕ) → seen_source e (find_end 0xBF Utf8 x) ≡ in_turn e (starts_with eqb x (0xBF ∷ [])) false false
utf8_end e [] = refl
utf8_end e (c ∷ x) = rw (flip 0xBF c) (utf8_step e (c == 0xBF) true (Whole Utf8) refl)

utf8_rest : (e : Encoding) (x : List ℕ) → seen_source e (find_second x) ≡ in_turn e (starts_with eqb x (0xBB ∷ 0xBF ∷ [])) false false
utf8_rest e [] = refl
utf8_rest e (b ∷ x) = rw (flip 0xBB b) (utf8_step e (b == 0xBB) (starts_with eqb x (0xBF ∷ [])) (find_end 0xBF Utf8 x) (utf8_end e x))

be_rest : (e : Encoding) (x : List ℕ) → seen_source e (find_end 0xFF Utf16Be x) ≡ in_turn e false (starts_with eqb x (0xFF ∷ [])) false
be_rest e [] = refl
be_rest e (c ∷ x) = rw (flip 0xFF c) (be_step e (c == 0xFF) true (Whole Utf16Be) refl)

le_rest : (e : Encoding) (x : List ℕ) → seen_source e (find_end 0xFE Utf16Le x) ≡ in_turn e false false (starts_with eqb x (0xFE ∷ []))
le_rest e [] = refl
le_rest e (c ∷ x) = rw (flip 0xFE c) (le_step e (c == 0xFE) true (Whole Utf16Le) refl)

-- what the first byte may be, which is one thing alone
choice : (e : Encoding) (u b l p q r : Bool) (F G H : BomMatch) (f g h : Bool) → (p ≡ true → q ≡ false) → (p ≡ true → r ≡ false) → (q ≡ true → r ≡ false)
    → seen_source e F ≡ in_turn e f false false → seen_source e G ≡ in_turn e false g false → seen_source e H ≡ in_turn e false false h
    → seen_source e (cond (p && u) F (cond (q && b) G (cond (r && l) H Other))) ≡ in_turn e (u && (p && f)) (b && (q && g)) (l && (r && h))
choice e true b l true q r F G H f g h i j k x y z = rw (i refl) (rw (j refl) (rw (and_no b) (rw (and_no l) x)))
choice e false b l true q r F G H f g h i j k x y z = rw (i refl) (rw (j refl) (rw (and_no b) (rw (and_no l) refl)))
choice e u true l false true r F G H f g h i j k x y z = rw (k refl) (rw (and_no u) (rw (and_no l) y))
choice e u false l false true r F G H f g h i j k x y z = rw (k refl) (rw (and_no u) (rw (and_no l) refl))
choice e u b true false false true F G H f g h i j k x y z = rw (and_no u) (rw (and_no b) z)
choice e u b false false false true F G H f g h i j k x y z = rw (and_no u) (rw (and_no b) refl)
choice e u b l false false false F G H f g h i j k x y z = rw (and_no u) (rw (and_no b) (rw (and_no l) refl))

another : (a m n : ℕ) → (m == n) ≡ false → (a == m) ≡ true → (a == n) ≡ false
another a m n h e = ap (λ (c : ℕ). c == n) (eqb-true a m e) ∙ h

seen_in_turn : (e : Encoding) (s : BomSet) (x : List ℕ) → seen_source e (find_mark s x) ≡ in_turn e (s.utf8 && starts_with eqb x (0xEF ∷ 0xBB ∷ 0xBF ∷ [])) (s.utf16_be && starts_with eqb x (0xFE ∷ 0xFF ∷ [])) (s.utf16_le && starts_with eqb x (0xFF ∷ 0xFE ∷ []))
seen_in_turn e s [] = rw (and_no s.utf8) (rw (and_no s.utf16_be) (rw (and_no s.utf16_le) refl))
seen_in_turn e s (a ∷ x) = rw (flip 0xEF a) (rw (flip 0xFE a) (rw (flip 0xFF a) (choice e s.utf8 s.utf16_be s.utf16_le (a == 0xEF) (a == 0xFE) (a == 0xFF) (find_second x) (find_end 0xFF Utf16Be x) (find_end 0xFE Utf16Le x) _ _ _
    (another a 0xEF 0xFE refl) (another a 0xEF 0xFF refl) (another a 0xFE 0xFF refl) (utf8_rest e x) (be_rest e x) (le_rest e x))))

source_is : (mark : Mark) (e : Encoding) (x : List ℕ) → source_of mark e x ≡ seen_source e (find_mark (sought_by mark e) x)
source_is mark e x = source_in_turn mark e x ∙ sym (seen_in_turn e (sought_by mark e) x)

-- nothing is found if nothing is sought
none_by : (u b l p q r : Bool) (F G H : BomMatch) → ((u || b) || l) ≡ false → cond (p && u) F (cond (q && b) G (cond (r && l) H Other)) ≡ Other
none_by true b l p q r F G H h = cc
none_by false true l p q r F G H h = cc
none_by false false true p q r F G H h = cc
none_by false false false p q r F G H h = rw (and_no p) (rw (and_no q) (rw (and_no r) refl))

none_seen : (s : BomSet) (x : List ℕ) → is_sought s ≡ false → (find_mark s x ≡ Other) ⊎ (x ≡ [])
none_seen s [] h = inr refl
none_seen s (a ∷ x) h = inl (none_by s.utf8 s.utf16_be s.utf16_le (a == 0xEF) (a == 0xFE) (a == 0xFF) (find_second x) (find_end 0xFF Utf16Be x) (find_end 0xFE Utf16Le x) h)

after_mark : (t : IndexLists) (m : ByteOrderMark) (x : List ℕ) → pieces_from t (encoding_of_mark m, mark_len m) x ≡ well_formed (mark_len m) [] ∷ pieces_after_mark m (drop (mark_len m) x)
after_mark t Utf8 x = refl
after_mark t Utf16Be x = refl
after_mark t Utf16Le x = refl

seen_pieces : (t : IndexLists) (e : Encoding) (x : List ℕ) (F : BomMatch) → pieces_from t (seen_source e F) x ≡ pieces_seen (pieces_of t e) x F
seen_pieces t e x Prefix = refl
seen_pieces t e x (Whole m) = after_mark t m x
seen_pieces t e x Other = refl

sought_at : (b : Bool) (t : IndexLists) (e : Encoding) (x : List ℕ) (F : BomMatch) → (b ≡ false → (F ≡ Other) ⊎ (x ≡ [])) → (x ≡ [] → F ≡ Prefix) → pieces_seen (pieces_of t e) x F ≡ cond b (pieces_seen (pieces_of t e) x F) (pieces_of t e x)
sought_at true t e x F h k = refl
sought_at false t e x F h k = elim (h refl) [
  | inl other ↦ ap (pieces_seen (pieces_of t e) x) other
  | inr none ↦ ap (pieces_seen (pieces_of t e) x) (k none)
]

pub pieces_are : (t : IndexLists) (mark : Mark) (e : Encoding) (x : List ℕ) → sought_pieces (sought_by mark e) (pieces_of t e) x ≡ marked_pieces t mark e x
pieces_are t mark e x =
    let s : BomSet = sought_by mark e in
    sym (ap (λ f. pieces_from t f x) (source_is mark e x) ∙ seen_pieces t e x (find_mark s x) ∙ sought_at (is_sought s) t e x (find_mark s x) (none_seen s x) (λ none. ap (find_mark s) none))

seen_encoding : (e : Encoding) (F : BomMatch) → (seen_source e F).0 ≡ encoding_seen e F
seen_encoding e Prefix = refl
seen_encoding e (Whole m) = refl
seen_encoding e Other = refl

encoding_at : (b : Bool) (e : Encoding) (x : List ℕ) (F : BomMatch) → (b ≡ false → (F ≡ Other) ⊎ (x ≡ [])) → (x ≡ [] → F ≡ Prefix) → encoding_seen e F ≡ cond b (encoding_seen e F) e
encoding_at true e x F h k = refl
encoding_at false e x F h k = elim (h refl) [
  | inl other ↦ ap (encoding_seen e) other
  | inr none ↦ ap (encoding_seen e) (k none)
]

pub source_named : (mark : Mark) (e : Encoding) (x : List ℕ) → sought_encoding (sought_by mark e) e x ≡ (source_of mark e x).0
source_named mark e x =
    let s : BomSet = sought_by mark e in
    sym (ap (λ (f : Encoding × ℕ). f.0) (source_is mark e x) ∙ seen_encoding e (find_mark s x) ∙ encoding_at (is_sought s) e x (find_mark s x) (none_seen s x) (λ none. ap (find_mark s) none))

-- A new decoder.
pub begun_pieces : (t : IndexLists) (mark : Mark) (e : Encoding) (s : BomSet) (P : List ℕ → List Piece) (held : List ℕ) → s ≡ sought_by mark e → P ≡ pieces_of t e → held ≡ [] → (x : List ℕ) → sought_pieces s P (held ++ x) ≡ marked_pieces t mark e x
begun_pieces t mark e s P held s_is P_is held_is x = ap (λ (h : List ℕ). sought_pieces s P (h ++ x)) held_is ∙ ap (λ (f : List ℕ → List Piece). sought_pieces s f x) P_is ∙ ap (λ (r : BomSet). sought_pieces r (pieces_of t e) x) s_is ∙ pieces_are t mark e x

pub begun_source : (mark : Mark) (e : Encoding) (s : BomSet) (held : List ℕ) → s ≡ sought_by mark e → held ≡ [] → (x : List ℕ) → sought_encoding s e (held ++ x) ≡ (source_of mark e x).0
begun_source mark e s held s_is held_is x = ap (λ (h : List ℕ). sought_encoding s e (h ++ x)) held_is ∙ ap (λ (r : BomSet). sought_encoding r e x) s_is ∙ source_named mark e x

pub begun_opening : (mark : Mark) (e : Encoding) (s : BomSet) (held : List ℕ) (room : DecodedLength) (pending : ℕ) → s ≡ sought_by mark e → held ≡ [] → room ≡ decoded_length_of e → pending ≡ 0 → record { sought = s; held = held; room = room; pending = pending } ≡ (let o : Opening = record { sought = sought_by mark e; held = []; room = decoded_length_of e; pending = 0 } in o)
begun_opening mark e s held room pending s_is held_is room_is pending_is = ap (λ (r : BomSet). let o : Opening = record { sought = r; held = held; room = room; pending = pending } in o) s_is ∙ ap (λ (h : List ℕ). let o : Opening = record { sought = sought_by mark e; held = h; room = room; pending = pending } in o) held_is ∙ ap (λ (r : DecodedLength). let o : Opening = record { sought = sought_by mark e; held = []; room = r; pending = pending } in o) room_is ∙ ap (λ (p : ℕ). let o : Opening = record { sought = sought_by mark e; held = []; room = decoded_length_of e; pending = p } in o) pending_is

-- Held bytes that are decoded before a source.

-- what a second call reports, after pieces that are well-formed
pub reports_join : (outcome : DecoderResult) (p q : ℕ) → p ≡ q → (ps qs : List Piece) → AreWellFormed ps → Reports outcome q qs → Reports outcome p (ps ++ qs)
reports_join InputEmpty p q e ps qs h k = AreWellFormed-append ps qs h k
reports_join OutputFull p q e ps qs h k = AreWellFormed-append ps qs h k
reports_join (Malformed a b) p q e ps qs h k = (e ∙ k.0, k.1, k.2, k.3, (ps ++ k.4.0, AreWellFormed-append ps k.4.0 h k.4.1, ap (λ x. ps ++ x) k.4.2 ∙ sym (append_assoc ps k.4.0 _)))

pub takes_well_formed : (outcome : DecoderResult) (p : ℕ) (P M : List ℕ → List Piece) (src : List ℕ) (last : Bool) (held left n : ℕ) (W : List ℕ → Type 0) → outcome ≡ InputEmpty → Takes (Reports outcome p) P M src last held left n W → Takes AreWellFormed P M src last held left n W
takes_well_formed InputEmpty p P M src last held left n W e h = h
takes_well_formed OutputFull p P M src last held left n W e h = cc
takes_well_formed (Malformed a b) p P M src last held left n W e h = cc

pub none_left : (outcome : DecoderResult) (s : DecoderState) (unread : List ℕ) (last : Bool) (free room replacement : ℕ) → outcome ≡ InputEmpty → EndsWith s unread last free room replacement outcome → unread ≡ []
none_left InputEmpty s unread last free room replacement e h = h.0
none_left OutputFull s unread last free room replacement e h = cc
none_left (Malformed a b) s unread last free room replacement e h = cc

-- all held bytes are read by a call, and some of the source by the next
pub takes_then : (O M A : DecoderState) (outcome : DecoderResult) (held bytes after src : List ℕ) (last : Bool) (n read : ℕ) (V W Z : List ℕ → Type 0)
    → bytes ≡ held → after ≡ drop n held → drop n bytes ≡ []
    → ((s t : List ℕ) → V s → W t → Z (s ++ t))
    → Takes AreWellFormed O.pieces M.pieces bytes false O.pending M.pending n V
    → Takes (Reports outcome A.pending) M.pieces A.pieces src last M.pending A.pending read W
    → Takes (Reports outcome (A.pending + length after)) (held_state O held).pieces (held_state A after).pieces src last (O.pending + length held) (A.pending + length after) read Z
takes_then O M A outcome held bytes after src last n read V W Z same is none writes h k =
    let gone : after ≡ [] = is ∙ ap (λ x. drop n x) (sym same) ∙ none in
    let p : A.pending + length after ≡ A.pending = omega (arith, ap length gone) in
    record {
      taken = h.taken ++ k.taken;
      well_formed = reports_join outcome (A.pending + length after) A.pending p h.taken k.taken h.well_formed k.well_formed;
      within = k.within;
      counted = omega (arith, h.counted, k.counted, h.within, p, sizes-append h.taken k.taken, ap length same, ap length none, length-drop n bytes);
      writes = rw (scalars-append h.taken k.taken) (writes (scalars h.taken) (scalars k.taken) h.writes k.writes);
      rest = λ r e.
          let more : List ℕ = drop read src ++ r in
          ap (λ x. O.pieces (x ++ (src ++ r))) (sym same)
          ∙ h.rest (src ++ r) (λ t. cc)
          ∙ ap (λ x. h.taken ++ M.pieces (x ++ (src ++ r))) none
          ∙ ap (λ ps. h.taken ++ ps) (k.rest r e)
          ∙ sym (append_assoc h.taken k.taken (A.pieces more))
          ∙ ap (λ x. (h.taken ++ k.taken) ++ A.pieces (x ++ more)) (sym gone);
    }

-- if nothing is held
pub ends_none : (s : DecoderState) (held unread : List ℕ) (last : Bool) (free room replacement : ℕ) (outcome : DecoderResult) → length held ≡ 0 → EndsWith s unread last free room replacement outcome → EndsWith (held_state s held) unread last free room replacement outcome
ends_none s (b ∷ x) unread last free room replacement outcome e h = absurd (omega (arith, e))
ends_none s [] unread last free room replacement InputEmpty e h = (
  h.0,
  elim h.1 [
    | inl none ↦ inl (omega (arith, none.0), none.1)
    | inr waits ↦ inr (waits.0, record { short = omega (arith, waits.1.short); undecided = waits.1.undecided; soon = λ r p f. omega (arith, waits.1.soon r p f) })
  ],
)
ends_none s [] unread last free room replacement OutputFull e h = h
ends_none s [] unread last free room replacement (Malformed a b) e h = h

-- No byte is held.
pub law_none : (s u : DecoderState) (held src : List ℕ) (last : Bool) (read : ℕ) (W : List ℕ → Type 0) (outcome : DecoderResult) → length held ≡ 0
    → StateLaw s u src last read W outcome → StateLaw (held_state s held) (held_state u held) src last read W outcome
law_none s u held src last read W outcome none h =
    let nothing : held ≡ [] = nil_from_length held none in
    let now : u.pending + length held ≡ u.pending = omega (arith, none) in
    record {
      taken = h.taken;
      well_formed = subst (λ (n : ℕ). Reports outcome n h.taken) (sym now) h.well_formed;
      within = h.within;
      counted = omega (arith, h.counted, none);
      writes = h.writes;
      rest = λ r e. rw nothing (h.rest r e);
    }

-- Some held bytes are read by a call that ends without the source.
pub law_held : (s u : DecoderState) (held bytes after src : List ℕ) (last : Bool) (n : ℕ) (W : List ℕ → Type 0) (outcome outcome' : DecoderResult) → bytes ≡ held → after ≡ drop n held
    → (h : StateLaw s u bytes false n W outcome) → Reports outcome' (u.pending + length after) h.taken → StateLaw (held_state s held) (held_state u after) src last 0 W outcome'
law_held s u held bytes after src last n W outcome outcome' same is h reports =
    let size : length bytes ≡ length held = ap length same in
    record {
      taken = h.taken;
      well_formed = reports;
      within = omega arith;
      counted = omega (arith, h.counted, h.within, size, ap length is, length-drop n held);
      writes = h.writes;
      rest = λ r e.
          rw (← same, is, ← same) (h.rest (src ++ r) (λ no. cc));
    }

-- A malformed sequence that ends among held bytes: those after it stay held.
pub reports_held : (s u : DecoderState) (held bytes after : List ℕ) (n a b b' : ℕ) (W : List ℕ → Type 0) → bytes ≡ held → after ≡ drop n held → s.pending + length held ≤ 2 → b' ≡ b + length after
    → (h : StateLaw s u bytes false n W (Malformed a b)) → Reports (Malformed a b') (u.pending + length after) h.taken
reports_held s u held bytes after n a b b' W same is few sum h =
    let size : length bytes ≡ length held = ap length same in
    let left : length after ≡ length held - n = ap length is ∙ length-drop n held in
    let r = h.well_formed in
    let last_of : sizes h.taken ≡ sizes r.4.0 + a = ap sizes r.4.2 ∙ sizes-append r.4.0 (malformed a ∷ []) ∙ omega arith in
    (omega (arith, r.0, sum), r.1, omega (arith, h.counted, h.within, size, left, r.0, few, sum, last_of), omega (arith, h.counted, h.within, size, left, r.0, few, last_of, sum), r.4)

pub suffices_held : (s u : DecoderState) (held bytes after : List ℕ) (t last : Bool) (n size old new a b b' : ℕ) → bytes ≡ held → after ≡ drop n held
    → Suffices s.needs u.needs t false (length bytes) (length bytes - n) old new (Malformed a b) → Suffices (held_state s held).needs (held_state u after).needs t last size (size - 0) old new (Malformed a b')
suffices_held s u held bytes after t last n size old new a b b' same is h k m units stops fits =
    let long : length bytes ≡ length held = ap length same in
    let then : (length bytes - n) + (size + m) ≡ length after + ((size - 0) + m) = omega (arith, long, ap length is, length-drop n held) in
    let asked : length bytes + (size + m) ≡ length held + (size + m) = omega (arith, long) in
    subst (λ (x : ℕ). left_after (counts_past_malformed k) (replacement_len t) (u.needs k x) ≤ new) then (h k (size + m) units (λ no. cc) (subst (λ (x : ℕ). s.needs k x ≤ old) (sym asked) fits))

-- The room that is enough.
pub suffices_none : (s u : DecoderState) (held after : List ℕ) (t last : Bool) (size unread old new : ℕ) (outcome : DecoderResult) → length held ≡ 0 → length after ≡ 0 → Suffices s.needs u.needs t last size unread old new outcome → Suffices (held_state s held).needs (held_state u after).needs t last size unread old new outcome
suffices_none s u held after t last size unread old new InputEmpty e g h = λ k m is stops fits.
    let here : length held + (size + m) ≡ size + m = omega (arith, e) in
    let there : length after + m ≡ m = omega (arith, g) in
    omega (arith, ap (u.needs k) there, h k m is stops (omega (arith, ap (s.needs k) here, fits)))
suffices_none s u held after t last size unread old new OutputFull e g h = λ k m is stops fits.
    (let here : length held + (size + m) ≡ size + m = omega (arith, e) in
    h k m is stops (omega (arith, ap (s.needs k) here, fits)))
suffices_none s u held after t last size unread old new (Malformed a b) e g h = λ k m is stops fits.
    (let here : length held + (size + m) ≡ size + m = omega (arith, e) in
    let there : unread + m ≡ length after + (unread + m) = omega (arith, g) in
    subst (λ (n : ℕ). left_after (counts_past_malformed k) (replacement_len t) (u.needs k n) ≤ new) there (h k m is stops (omega (arith, ap (s.needs k) here, fits))))

-- after a call that read all held bytes, the next
pub suffices_then : (O M A : DecoderState) (held after : List ℕ) (t last : Bool) (size unread old mid new : ℕ) (first_of outcome : DecoderResult) → length after ≡ 0 → first_of ≡ InputEmpty → Suffices O.needs M.needs t false (length held) 0 old mid first_of
    → Suffices M.needs A.needs t last size unread mid new outcome → Suffices (held_state O held).needs (held_state A after).needs t last size unread old new outcome
suffices_then O M A held after t last size unread old mid new InputEmpty InputEmpty g e h j = λ k m is stops fits.
    let there : length after + m ≡ m = omega (arith, g) in
    omega (arith, ap (A.needs k) there, j k m is stops (h k (size + m) is (λ n. cc) fits))
suffices_then O M A held after t last size unread old mid new InputEmpty OutputFull g e h j = λ k m is stops fits. j k m is stops (h k (size + m) is (λ n. cc) fits)
suffices_then O M A held after t last size unread old mid new InputEmpty (Malformed a b) g e h j = λ k m is stops fits.
    (let there : unread + m ≡ length after + (unread + m) = omega (arith, g) in
    subst (λ (n : ℕ). left_after (counts_past_malformed k) (replacement_len t) (A.needs k n) ≤ new) there (j k m is stops (h k (size + m) is (λ n. cc) fits)))
suffices_then O M A held after t last size unread old mid new OutputFull outcome g e h j = cc
suffices_then O M A held after t last size unread old mid new (Malformed a b) outcome g e h j = cc

pub suffices_malformed : (O M : DecoderState) (held after : List ℕ) (t last : Bool) (size left old new a b c : ℕ) (outcome : DecoderResult) → outcome ≡ Malformed a b → length after ≡ left → Suffices O.needs M.needs t false (length held) left old new outcome → Suffices (held_state O held).needs (held_state M after).needs t last size (size - 0) old new (Malformed a c)
suffices_malformed O M held after t last size left old new a b c InputEmpty e g h = cc
suffices_malformed O M held after t last size left old new a b c OutputFull e g h = cc
suffices_malformed O M held after t last size left old new a b c (Malformed i j) e g h = λ k m is stops fits.
    (let there : left + (size + m) ≡ length after + ((size - 0) + m) = omega (arith, g) in
    subst (λ (n : ℕ). left_after (counts_past_malformed k) (replacement_len t) (M.needs k n) ≤ new) there (h k (size + m) is (λ n. cc) fits))

-- The encodings that marks name.

-- they need no index
pub mark_needs_none : (m : ByteOrderMark) → needs_of (encoding_of_mark m) ≡ []
mark_needs_none Utf8 = refl
mark_needs_none Utf16Be = refl
mark_needs_none Utf16Le = refl

pub mark_ready : (t : IndexLists) (m : ByteOrderMark) → IsReady t (encoding_of_mark m)
mark_ready t Utf8 = tt
mark_ready t Utf16Be = tt
mark_ready t Utf16Le = tt

-- what follows a mark is read in its encoding
pub mark_pieces : (t : IndexLists) (m : ByteOrderMark) → pieces_of t (encoding_of_mark m) ≡ pieces_after_mark m
mark_pieces t Utf8 = refl
mark_pieces t Utf16Be = refl
mark_pieces t Utf16Le = refl
