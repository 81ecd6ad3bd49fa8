-- Why a call ended, as a caller sees it. Room that is enough. How far a call has come.
use Rattle.std.proofs.Common.{◌≡◌, ◌≢◌, ℕ, ◌+◌, ◌<◌, ◌≤◌, inl, inr, Bool, List, [], ◌++◌, length, refl, subst, sym, ◌∙◌, ap, arith, ◌-◌, true, false, IsTrue, None, Some, ◌∷◌, take, drop, get_or, append_assoc, length-append, length-drop}
use Rattle.std.proofs.lemmas.List.{append-nil, drop-drop, drop_all, drop_more, take_rest}
use Rattle.encoding_mem.specs.Piece.{Piece, head_piece, sizes, ArePieces, malformed, piece_len, piece_scalars, scalars, AreWellFormed}
use Rattle.encoding_mem.specs.calls.Decoding.{DecoderState, EndsWith, Reports, Room, StateCall, Suffices, Takes}
use Rattle.encoding_mem.specs.calls.DecodedLength.{is_units, left_after, decoded_length, replacement_len, two_in}
use Rattle.encoding_mem.specs.declared.codec.room.OutputUnit.{OutputUnit}
use Rattle.encoding_mem.specs.declared.codec.room.DecodedLength.{DecodedLength}
use Rattle.encoding_mem.specs.calls.Driver.{DriverCall, DriverEndsWith, DriverState, IsNear, Remains, buffered, needs_to_come, to_come}
use Rattle.encoding_mem.specs.declared.codec.decoder_result.DecoderResult.{DecoderResult}
use Rattle.encoding_mem.specs.declared.codec.decoder_result.DecoderResult.TheVariants.{InputEmpty, OutputFull, Malformed}
use Rattle.encoding_mem.specs.laws.Piece.{sizes-append, scalars-append, AreWellFormed-append}
use Rattle.encoding_mem.specs.calls.DecoderRule.{IsFirstPiece, IsSoon}
use Rattle.encoding_mem.specs.Decided.{IsUndecided}

ends_with : (P : List ℕ → List Piece) (pending unread : List ℕ) (last : Bool) (room : Room) (whole : (x : List ℕ) → sizes (P x) ≡ length x) (are_pieces : (x : List ℕ) → ArePieces (P x)) (needs : OutputUnit → ℕ → ℕ) (limits : DecodedLength) (covers : (k : OutputUnit) (n : ℕ) → needs k n ≤ decoded_length limits k n) (outcome : DecoderResult) → P [] ≡ [] → DriverEndsWith (record { pieces = P; needs = needs; pending = pending }) unread last room outcome
    → EndsWith (buffered P whole are_pieces needs limits covers pending) unread last room.after (two_in room.in_units) (replacement_len room.in_units) outcome
ends_with P pending unread last room whole are_pieces needs limits covers InputEmpty e h = (
  h.0,
  elim h.1 [
    | inl none ↦ inl (ap length none, ap (λ x. P (x ++ [])) none ∙ e)
    | inr waits ↦ inr (
      waits.0,
      record {
        short = waits.1;
        undecided = record {
          more = waits.2.more;
          bytes = waits.2.bytes;
          short = waits.2.short;
          differs = λ same. waits.2.differs (ap (λ x. head_piece (P x)) (sym (append-nil pending)) ∙ same);
        };
        soon = waits.3;
      },
    )
  ],
)
ends_with P pending unread last room whole are_pieces needs limits covers OutputFull e h = h
ends_with P pending unread last room whole are_pieces needs limits covers (Malformed a b) e h = h

-- enough room is not refused
pub never_full : (before after : DecoderState) (k : OutputUnit) (last : Bool) (size unread old new : ℕ) (outcome : DecoderResult) → Suffices before.needs after.needs (is_units k) last size unread old new outcome → decoded_length before.room k (before.pending + size) ≤ old → outcome ≢ OutputFull
never_full before after k last size unread old new InputEmpty s h = λ e. cc
never_full before after k last size unread old new OutputFull s h = absurd (s k 0 refl (λ _. refl) (let same : size + 0 ≡ size = omega arith in omega (arith, before.covers k size, ap (before.needs k) same, h)))
never_full before after k last size unread old new (Malformed a b) s h = λ e. cc

-- if any bytes decide their first piece, nothing is left pending
pub nothing_remains : (P : List ℕ → List Piece) (pending : List ℕ) → ((x : List ℕ) → 0 < length x → IsUndecided P x → ⊥) → Remains P pending → pending ≡ []
nothing_remains P pending decided h = elim h [
  | inl none ↦ none
  | inr waits ↦ absurd (decided pending waits.0 waits.1)
]

-- Room that is enough.

-- what a piece of n of m bytes needs, it has
pub has_room : (before : OutputUnit → ℕ → ℕ) (want : Bool → ℕ) (n len m free : ℕ) (last t : Bool) (k : OutputUnit) → is_units k ≡ t → n ≤ len → len ≤ m → (IsTrue last → m ≡ len) → ((j : ℕ) → (IsTrue last → n + j ≡ len) → want (is_units k) ≤ before k (n + j)) → before k m ≤ free → want t ≤ free
has_room before want n len m free last t k is fits window whole wants h =
    let same : n + (m - n) ≡ m = omega (arith, fits, window) in
    let there : want (is_units k) ≤ before k m = subst (λ (x : ℕ). want (is_units k) ≤ before k x) same (wants (m - n) (λ e. omega (arith, same, whole e))) in
    subst (λ (b : Bool). want b ≤ free) is (omega (arith, there, h))

pub replacement_first : (t : Bool) (replacement more room : ℕ) → left_after t replacement more ≤ room → replacement ≤ room
replacement_first true replacement more room h = omega (arith, h)
replacement_first false replacement more room h = h

-- How far a call has come.

-- a piece more
wrote : (W W' : List ℕ → Type 0) (taken : List Piece) (p : Piece) → ((t : List ℕ) → W t → W' (t ++ piece_scalars p)) → W (scalars taken) → W' (scalars (taken ++ p ∷ []))
wrote W W' taken p step w =
    let e : scalars (taken ++ p ∷ []) ≡ scalars taken ++ piece_scalars p = scalars-append taken (p ∷ []) ∙ ap (λ x. scalars taken ++ x) (append-nil (piece_scalars p)) in
    rw e (step (scalars taken) w)

-- from the source, if nothing is pending
pub took_source : (WellFormed : List Piece → Type 0) (before P P' : List ℕ → List Piece) (src window : List ℕ) (last : Bool) (held read : ℕ) (W W' : List ℕ → Type 0) (p : Piece) (n : ℕ)
    → piece_len p ≡ n
    → window ≡ drop read src
    → Takes AreWellFormed before P src last held 0 read W
    → IsFirstPiece P P' window last p
    → ((ps : List Piece) → AreWellFormed ps → WellFormed (ps ++ p ∷ []))
    → ((t : List ℕ) → W t → W' (t ++ piece_scalars p))
    → Takes WellFormed before P' src last held 0 (read + n) W'
took_source WellFormed before P P' src window last held read W W' p n e is h given fine step =
    let here : IsFirstPiece P P' (drop read src) last p = subst (λ (x : List ℕ). IsFirstPiece P P' x last p) is given in
    record {
      taken = h.taken ++ p ∷ [];
      well_formed = fine h.taken h.well_formed;
      within = omega (arith, h.within, here.within, length-drop read src, e);
      counted = omega (arith, h.counted, sizes-append h.taken (p ∷ []), e);
      writes = wrote W W' h.taken p step h.writes;
      rest = λ r f. h.rest r f ∙ ap (λ x. h.taken ++ x) (here.rest r f ∙ ap (λ k. p ∷ P' (drop k (drop read src) ++ r)) e ∙ ap (λ x. p ∷ P' (x ++ r)) (drop-drop n read src)) ∙ sym (append_assoc h.taken (p ∷ []) (P' (drop (read + n) src ++ r)));
    }

-- all that is left is pending
pub held_all : (before P : List ℕ → List Piece) (src window : List ℕ) (last : Bool) (held : ℕ) (pending : List ℕ) (read : ℕ) (W : List ℕ → Type 0)
    → window ≡ drop read src
    → pending ≡ window
    → Takes AreWellFormed before P src last held 0 read W
    → Takes AreWellFormed before (λ x. P (pending ++ x)) src last held (length pending) (length src) W
held_all before P src window last held pending read W is all h =
    let whole : pending ≡ drop read src = all ∙ is in
    record {
      taken = h.taken;
      well_formed = h.well_formed;
      within = omega arith;
      counted = omega (arith, h.counted, h.within, length-drop read src, ap length whole);
      writes = h.writes;
      rest = λ r e. h.rest r e ∙ ap (λ x. h.taken ++ P (x ++ r)) (sym whole) ∙ ap (λ x. h.taken ++ P (pending ++ (x ++ r))) (sym (drop_all (length src) src (omega arith)));
    }

-- a part of a call, and then another
reports_after : (outcome : DecoderResult) (pending : ℕ) (a b : List Piece) → AreWellFormed a → Reports outcome pending b → Reports outcome pending (a ++ b)
reports_after InputEmpty pending a b h k = AreWellFormed-append a b h k
reports_after OutputFull pending a b h k = AreWellFormed-append a b h k
reports_after (Malformed m n) pending a b h k = (k.0, k.1, k.2, k.3, (a ++ k.4.0, AreWellFormed-append a k.4.0 h k.4.1, ap (λ y. a ++ y) k.4.2 ∙ sym (append_assoc a k.4.0 (malformed m ∷ []))))

pub takes_then : (outcome : DecoderResult) (before middle after : List ℕ → List Piece) (src : List ℕ) (last : Bool) (held now read more : ℕ) (W W' W'' : List ℕ → Type 0)
    → ((t u : List ℕ) → W t → W' u → W'' (t ++ u))
    → Takes AreWellFormed before middle src last held 0 read W
    → Takes (Reports outcome now) middle after (drop read src) last 0 now more W'
    → Takes (Reports outcome now) before after src last held now (read + more) W''
takes_then outcome before middle after src last held now read more W W' W'' join h k = record {
  taken = h.taken ++ k.taken;
  well_formed = reports_after outcome now h.taken k.taken h.well_formed k.well_formed;
  within = omega (arith, h.within, k.within, length-drop read src);
  counted = omega (arith, h.counted, k.counted, sizes-append h.taken k.taken);
  writes = rw (scalars-append h.taken k.taken) (join (scalars h.taken) (scalars k.taken) h.writes k.writes);
  rest = λ r e. h.rest r e ∙ ap (λ y. h.taken ++ y) (k.rest r e) ∙ sym (append_assoc h.taken k.taken (after (drop more (drop read src) ++ r))) ∙ ap (λ y. (h.taken ++ k.taken) ++ after (y ++ r)) (drop-drop more read src);
}

suffices_then : (outcome : DecoderResult) (before middle after : OutputUnit → ℕ → ℕ) (t last : Bool) (size left unread old mid new : ℕ)
    → ((k : OutputUnit) (m : ℕ) → is_units k ≡ t → (IsTrue last → m ≡ 0) → before k (size + m) ≤ old → middle k (left + m) ≤ mid)
    → Suffices middle after t last left unread mid new outcome
    → Suffices before after t last size unread old new outcome
suffices_then InputEmpty before middle after t last size left unread old mid new h s = λ k m is none fits. s k m is none (h k m is none fits)
suffices_then OutputFull before middle after t last size left unread old mid new h s = λ k m is none fits. s k m is none (h k m is none fits)
suffices_then (Malformed a b) before middle after t last size left unread old mid new h s = λ k m is none fits. s k m is none (h k m is none fits)

-- a part of a call that has not ended it, and the rest of it
pub calls_join : (first middle end : DriverState) (src part : List ℕ) (last : Bool) (read more : ℕ) (W1 W2 W : List ℕ → Type 0) (t : Bool) (old mid new : ℕ) (outcome : DecoderResult)
    → part ≡ drop read src → ((text more : List ℕ) → W1 text → W2 more → W (text ++ more))
    → DriverCall first middle src last read W1 (record { in_units = t; before = old; after = mid }) None
    → DriverCall (record middle { pending = [] }) end part last more W2 (record { in_units = t; before = mid; after = new }) (Some outcome)
    → DriverCall first end src last (read + more) W (record { in_units = t; before = old; after = new }) (Some outcome)
calls_join first middle end src part last read more W1 W2 W t old mid new outcome is join f s =
    let none : middle.pending ≡ [] = f.ends in
    let size : length part ≡ length src - read = ap length is ∙ length-drop read src in
    let unread : length part - more ≡ length src - (read + more) = omega (arith, size) in
    record {
      law = takes_then outcome (to_come first) middle.pieces (to_come end) src last (length first.pending) (length end.pending) read more W1 W2 W join
          (subst (λ (y : List ℕ). Takes AreWellFormed (to_come first) (λ x. middle.pieces (y ++ x)) src last (length first.pending) (length y) read W1) none f.law)
          (subst (λ (x : List ℕ). Takes (Reports outcome (length end.pending)) middle.pieces (to_come end) x last 0 (length end.pending) more W2) is s.law);
      ends = subst (λ (x : List ℕ). DriverEndsWith end x last (record { in_units = t; before = old; after = new }) outcome) (ap (drop more) is ∙ drop-drop more read src) (ends_here outcome s.ends);
      enough = subst (λ (u : ℕ). Suffices (needs_to_come first) (needs_to_come end) t last (length src) u old new outcome) unread
          (suffices_then outcome (needs_to_come first) (λ k n. middle.needs k (length {A = ℕ} [] + n)) (needs_to_come end) t last (length src) (length part) (length part - more) old mid new
          (λ k m units stops h. (let at : length middle.pending + ((length src - read) + m) ≡ length {A = ℕ} [] + (length part + m) = omega (arith, ap length none, size) in subst (λ (x : ℕ). middle.needs k x ≤ mid) at (f.enough k m units stops h)))
          s.enough);
      short = s.short;
      near = s.near;
    }
  where
    -- it does not matter what was free before
    ends_here : (o : DecoderResult) → DriverEndsWith end (drop more part) last (record { in_units = t; before = mid; after = new }) o → DriverEndsWith end (drop more part) last (record { in_units = t; before = old; after = new }) o
    ends_here InputEmpty h = h
    ends_here OutputFull h = h
    ends_here (Malformed a b) h = h

-- A call of the driver is one of a decoder.
pub state_call : (P P' : List ℕ → List Piece) (whole : (x : List ℕ) → sizes (P x) ≡ length x) (whole' : (x : List ℕ) → sizes (P' x) ≡ length x)
    → (pieces : (x : List ℕ) → ArePieces (P x)) (pieces' : (x : List ℕ) → ArePieces (P' x)) (need need' : OutputUnit → ℕ → ℕ) (limits limits' : DecodedLength)
    → (covers : (k : OutputUnit) (n : ℕ) → need k n ≤ decoded_length limits k n) (covers' : (k : OutputUnit) (n : ℕ) → need' k n ≤ decoded_length limits' k n)
    → (pending pending' src : List ℕ) (last : Bool) (read : ℕ) (W : List ℕ → Type 0) (room : Room) (outcome : DecoderResult)
    → P' [] ≡ [] → limits' ≡ limits
    → DriverCall (record { pieces = P; needs = need; pending = pending }) (record { pieces = P'; needs = need'; pending = pending' }) src last read W room (Some outcome)
    → StateCall (buffered P whole pieces need limits covers pending) (buffered P' whole' pieces' need' limits' covers' pending') src last read W room outcome
state_call P P' whole whole' pieces pieces' need need' limits limits' covers covers' pending pending' src last read W room outcome nil same c = record {
  law = c.law;
  ends = ends_with P' pending' (drop read src) last room whole' pieces' need' limits' covers' outcome nil c.ends;
  enough = c.enough;
  limits = same;
}

-- from what is pending; here says that nothing comes after it
pub took_pending : (WellFormed : List Piece → Type 0) (before P P' : List ℕ → List Piece) (src : List ℕ) (last here : Bool) (held : ℕ) (pending : List ℕ) (read : ℕ) (W W' : List ℕ → Type 0) (p : Piece)
    → (IsTrue here → IsTrue last × (length src ≤ read))
    → Takes AreWellFormed before (λ x. P (pending ++ x)) src last held (length pending) read W
    → IsFirstPiece P P' pending here p
    → ((ps : List Piece) → AreWellFormed ps → WellFormed (ps ++ p ∷ []))
    → ((t : List ℕ) → W t → W' (t ++ piece_scalars p))
    → Takes WellFormed before (λ x. P' (drop (piece_len p) pending ++ x)) src last held (length (drop (piece_len p) pending)) read W'
took_pending WellFormed before P P' src last here held pending read W W' p ends h head_piece fine step = record {
  taken = h.taken ++ p ∷ [];
  well_formed = fine h.taken h.well_formed;
  within = h.within;
  counted = omega (arith, h.counted, sizes-append h.taken (p ∷ []), length-drop (piece_len p) pending, head_piece.within);
  writes = wrote W W' h.taken p step h.writes;
  rest = λ r e.
      let none : IsTrue here → drop read src ++ r ≡ [] = λ t. rw (drop_all read src (ends t).1) (e (ends t).0) in
      h.rest r e ∙ ap (λ x. h.taken ++ x) (head_piece.rest (drop read src ++ r) none) ∙ sym (append_assoc h.taken (p ∷ []) (P' (drop (piece_len p) pending ++ (drop read src ++ r))));
}

-- one more byte is pending
pub held_byte : (before P : List ℕ → List Piece) (src : List ℕ) (last : Bool) (held : ℕ) (pending : List ℕ) (read : ℕ) (W : List ℕ → Type 0)
    → read < length src
    → Takes AreWellFormed before (λ x. P (pending ++ x)) src last held (length pending) read W
    → Takes AreWellFormed before (λ x. P ((pending ++ get_or src read 0 ∷ []) ++ x)) src last held (length (pending ++ get_or src read 0 ∷ [])) (read + 1) W
held_byte before P src last held pending read W lt h = record {
  taken = h.taken;
  well_formed = h.well_formed;
  within = omega arith;
  counted = omega (arith, h.counted, length-append pending (get_or src read 0 ∷ []));
  writes = h.writes;
  rest = λ r e. h.rest r e ∙ ap (λ x. h.taken ++ P x) (ap (λ x. pending ++ (x ++ r)) (drop_more src read 0 lt) ∙ sym (append_assoc pending (get_or src read 0 ∷ []) (drop (read + 1) src ++ r)));
}

pub took_pending_of : (WellFormed : List ℕ → List Piece → Type 0) (before P P' : List ℕ → List Piece) (src window : List ℕ) (last here : Bool) (held : ℕ) (pending now : List ℕ) (read : ℕ) (W W' : List ℕ → Type 0) (p : Piece) (n : ℕ)
    → piece_len p ≡ n
    → window ≡ pending
    → now ≡ drop n pending
    → (IsTrue here → IsTrue last × (length src ≤ read))
    → Takes AreWellFormed before (λ x. P (pending ++ x)) src last held (length pending) read W
    → IsFirstPiece P P' window here p
    → ((ps : List Piece) → AreWellFormed ps → WellFormed now (ps ++ p ∷ []))
    → ((t : List ℕ) → W t → W' (t ++ piece_scalars p))
    → Takes (WellFormed now) before (λ x. P' (now ++ x)) src last held (length now) read W'
took_pending_of WellFormed before P P' src window last here held pending now read W W' p n e whole is ends h head_piece fine step =
    let same : drop (piece_len p) pending ≡ now = ap (λ k. drop k pending) e ∙ sym is in
    let head_piece' : IsFirstPiece P P' pending here p = subst (λ (x : List ℕ). IsFirstPiece P P' x here p) whole head_piece in
    let fine' : (ps : List Piece) → AreWellFormed ps → WellFormed (drop (piece_len p) pending) (ps ++ p ∷ []) = λ ps a. subst (λ (x : List ℕ). WellFormed x (ps ++ p ∷ [])) (sym same) (fine ps a) in
    subst (λ (y : List ℕ). Takes (WellFormed y) before (λ x. P' (y ++ x)) src last held (length y) read W') same
    (took_pending (WellFormed (drop (piece_len p) pending)) before P P' src last here held pending read W W' p ends h head_piece' fine' step)

-- A step on what is pending. The first piece of what is left, if its bytes are decided but have no room;
pub known_next : (P rest : List ℕ → List Piece) (window pending src : List ℕ) (last here : Bool) (read : ℕ) (p : Piece)
    → window ≡ pending → (IsTrue here → IsTrue last × (length src ≤ read)) → IsFirstPiece P rest window here p
    → (r : List ℕ) → (IsTrue last → r ≡ []) → head_piece (P (pending ++ (drop read src ++ r))) ≡ Some p
known_next P rest window pending src last here read p same ends first_is r e =
    let none : IsTrue here → drop read src ++ r ≡ [] = λ t. rw (drop_all read src (ends t).1) (e (ends t).0) in
    ap (λ x. head_piece (P (x ++ (drop read src ++ r)))) (sym same) ∙ ap head_piece (first_is.rest (drop read src ++ r) none)

-- and what it leaves of room that is enough.
pub pending_room : (need : OutputUnit → ℕ → ℕ) (here last t : Bool) (size read mid : ℕ) (window pending now : List ℕ) (n : ℕ) (Q : OutputUnit → ℕ → Type 0)
    → window ≡ pending → now ≡ drop n pending → n ≤ length pending → (IsTrue here → IsTrue last × (size ≤ read))
    → ((k : OutputUnit) (m : ℕ) → is_units k ≡ t → length window ≤ m → (IsTrue here → m ≡ length window) → need k m ≤ mid → Q k (m - n))
    → (k : OutputUnit) (m : ℕ) → is_units k ≡ t → (IsTrue last → m ≡ 0) → need k (length pending + ((size - read) + m)) ≤ mid → Q k (length now + ((size - read) + m))
pending_room need here last t size read mid window pending now n Q same is fits ends room k m units stops h =
    let all : ℕ = length pending + ((size - read) + m) in
    let len : length window ≡ length pending = ap length same in
    let whole : IsTrue here → all ≡ length window = λ t. omega (arith, len, stops (ends t).0, (ends t).1) in
    let left_over : all - n ≡ length now + ((size - read) + m) = omega (arith, fits, ap length is, length-drop n pending) in
    subst (Q k) left_over (room k all units (omega (arith, len)) whole h)

-- what is pending ends soon after its first piece
pub near_few : (P : List ℕ → List Piece) (x : List ℕ) → length x ≤ 3 → IsNear P x
near_few P x h r p e = omega (arith, h)

pub near_soon : (P : List ℕ → List Piece) (x y : List ℕ) → y ≡ x → IsSoon P x → IsNear P y
near_soon P x y e h r p f = let same : length y ≡ length x = ap length e in let there : head_piece (P (x ++ r)) ≡ Some p = ap (λ z. head_piece (P (z ++ r))) (sym e) ∙ f in omega (arith, h r p there, same)

pub near_push : (P : List ℕ → List Piece) (x y z : List ℕ) (b : ℕ) → y ≡ x → z ≡ x ++ b ∷ [] → IsSoon P y → IsNear P z
near_push P x y z b e f h r p k =
    let there : head_piece (P (y ++ (b ∷ r))) ≡ Some p = ap (λ s. head_piece (P s)) (ap (λ s. s ++ (b ∷ r)) e ∙ sym (append_assoc x (b ∷ []) r) ∙ ap (λ s. s ++ r) (sym f)) ∙ k in
    omega (arith, h (b ∷ r) p there, ap length e, ap length f, length-append x (b ∷ []))

pub left_few : (P P' : List ℕ → List Piece) (window pending now : List ℕ) (here : Bool) (p : Piece) (n : ℕ) → piece_len p ≡ n → window ≡ pending → now ≡ drop n pending → IsNear P pending → IsFirstPiece P P' window here p → length now ≤ 3
left_few P P' window pending now here p n s e f near first_is =
    let there : head_piece (P (pending ++ [])) ≡ Some p = ap (λ x. head_piece (P (x ++ []))) (sym e) ∙ ap head_piece (first_is.rest [] (λ _. refl)) in
    omega (arith, near [] p there, ap length f, length-drop n pending, s)

-- What is left of the source after n more bytes: how long it is, and where it begins.
pub record LeftBehind (src rest new : List ℕ) (n : ℕ) : Type 0 where
  pub within : length new ≤ length src
  pub behind : new ≡ drop (length src - length new) src
  pub read : length src - length new ≡ (length src - length rest) + n
  pub size : length new ≡ length rest - n

pub left_behind : (src rest : List ℕ) (n : ℕ) → length rest ≤ length src → rest ≡ drop (length src - length rest) src → n ≤ length rest → LeftBehind src rest (take (length rest - n) (drop n rest)) n
left_behind src rest n within behind fits =
    let read : ℕ = length src - length rest in
    let new : List ℕ = take (length rest - n) (drop n rest) in
    let is : new ≡ drop n rest = take_rest rest n in
    let size : length new ≡ length rest - n = ap length is ∙ length-drop n rest in
    let later : length src - length new ≡ read + n = omega (arith, size, within, fits) in
    record {
      within = omega (arith, size, within);
      behind = is ∙ ap (drop n) behind ∙ drop-drop n read src ∙ ap (λ k. drop k src) (sym later);
      read = later;
      size = size;
    }
