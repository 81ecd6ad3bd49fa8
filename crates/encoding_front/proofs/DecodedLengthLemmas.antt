-- Room that was asked for is enough.
use Rattle.std.proofs.Common.{◌≡◌, ◌≢◌, ℕ, ◌+◌, ◌*◌, ◌-◌, ◌≤◌, ◌||◌, nat_lt, Bool, true, false, cond, Option, None, Some, List, [], ◌∷◌, length, refl, ap, arith}
use Rattle.std.proofs.Math.Nat.{mul-le-mul_left}
use Rattle.std.proofs.lemmas.Bool.Decides.{nat_tests}
use Rattle.encoding_mem.specs.calls.Decoding.{DecoderState, Suffices}
use Rattle.encoding_mem.specs.calls.DecodedLength.{counts_past_malformed, is_units, decoded_length, queried, counted, bound_of, decoded_length_utf8, decoded_length_utf16}
use Rattle.encoding_mem.specs.declared.codec.decoder_result.DecoderResult.{DecoderResult}
use Rattle.encoding_mem.specs.declared.codec.decoder_result.DecoderResult.TheVariants.{InputEmpty, OutputFull, Malformed}
use Rattle.encoding_mem.specs.declared.codec.room.OutputUnit.{OutputUnit}
use Rattle.encoding_mem.specs.declared.codec.room.DecodedLength.{DecodedLength}
use Rattle.encoding_front.specs.calls.DecodedText.{NeverFull}
use Rattle.encoding_front.specs.declared.coder_result.CoderResult.{CoderResult}
use Rattle.encoding_front.specs.calls.Seeking.{can_be, sought_needs}
use Rattle.encoding_front.specs.calls.Stream.{ahead, greater, greater_if, room_asked}
use Rattle.encoding_front.specs.declared.seeking.ByteOrderMark.TheVariants.{Utf8, Utf16Be, Utf16Le}
use Rattle.encoding_front.specs.declared.seeking.BomSet.{BomSet}

-- more bytes need more room
line_rises : (f e m n : ℕ) → m ≤ n → f * m + e ≤ f * n + e
line_rises f e m n h = omega (arith, mul-le-mul_left f h)

counted_rises : (b : Bool) (m n : ℕ) → m ≤ n → counted b m ≤ counted b n
counted_rises true m n h = omega (arith, h)
counted_rises false m n h = h

room_rises : (room : DecodedLength) (k : OutputUnit) (m n : ℕ) → m ≤ n → decoded_length room k m ≤ decoded_length room k n
room_rises room k m n h = line_rises (bound_of room k).factor (bound_of room k).extra (counted room.in_pairs m) (counted room.in_pairs n) (counted_rises room.in_pairs m n h)

-- what is returned is that room
cond_some : (t : Bool) (m n : ℕ) → cond t (Some m) None ≡ Some n → m ≡ n
cond_some true m n e = cc
cond_some false m n e = cc

cond_in : (t : Bool) (o : Option ℕ) (n : ℕ) → cond t o None ≡ Some n → o ≡ Some n
cond_in true o n e = e
cond_in false o n e = cc

queried_is : (room : DecodedLength) (k : OutputUnit) (m n : ℕ) → queried room k m ≡ Some n → decoded_length room k m ≡ n
queried_is room k m n e = cond_some _ _ n (cond_in _ _ n e)

-- the greater of two is as much as both
greater_left : (m n : ℕ) → m ≤ cond (nat_lt m n) n m
greater_left m n = grind (arith, nat_tests)

greater_right : (m n : ℕ) → n ≤ cond (nat_lt m n) n m
greater_right m n = grind (arith, nat_tests)

greater_both : (a b : Option ℕ) (r : ℕ) → greater a b ≡ Some r → (m : ℕ) × (n : ℕ) × (a ≡ Some m) × (b ≡ Some n) × (m ≤ r) × (n ≤ r)
greater_both None b r e = cc
greater_both (Some m) None r e = cc
greater_both (Some m) (Some n) r e =
    let is : cond (nat_lt m n) n m ≡ r = cc in
    (m, n, refl, refl, omega (arith, greater_left m n, is), omega (arith, greater_right m n, is))

greater_own : (t : Bool) (other own : Option ℕ) (r : ℕ) → greater_if t other own ≡ Some r → (m : ℕ) × (own ≡ Some m) × (m ≤ r)
greater_own true other own r e = let g = greater_both own other r e in (g.0, g.2, g.4)
greater_own false other own r e = (r, e, omega arith)

greater_other : (t : Bool) (room : DecodedLength) (k : OutputUnit) (m : ℕ) (own : Option ℕ) (r : ℕ) → greater_if t (queried room k m) own ≡ Some r → t ≡ true → decoded_length room k m ≤ r
greater_other true room k m own r e h = let g = greater_both own (queried room k m) r e in omega (arith, queried_is room k m g.1 g.3, g.5)
greater_other false room k m own r e h = cc

or_left : (p q : Bool) → p ≡ true → (p || q) ≡ true
or_left true q h = refl
or_left false q h = cc

or_right : (p q : Bool) → q ≡ true → (p || q) ≡ true
or_right true q h = refl
or_right false q h = h

few_ahead : (held : List ℕ) → length held ≤ 2 → length held ≤ ahead held
few_ahead [] h = omega arith
few_ahead (b ∷ held) h = h

needs_by : (t : Bool) (room : DecodedLength) (k : OutputUnit) (m n r : ℕ) → m ≤ n → (t ≡ true → decoded_length room k n ≤ r) → cond t (decoded_length room k m) 0 ≤ r
needs_by true room k m n r h f = omega (arith, room_rises room k m n h, f refl)
needs_by false room k m n r h f = omega arith

pub asked_covers : (s : BomSet) (own : DecoderState) (held : List ℕ) (k : OutputUnit) (n r : ℕ) → length held ≤ 2 → room_asked (record { sought = s; held = held; room = own.room; pending = own.pending }) k n ≡ Some r → sought_needs s own.needs held k n ≤ r
asked_covers s own held k n r few e =
    let m : ℕ = n + ahead held in
    let more : length held ≤ ahead held = few_ahead held few in
    let first_ : (i : ℕ) × (greater_if (can_be s held Utf8) (queried decoded_length_utf8 k m) (queried own.room k (own.pending + m)) ≡ Some i) × (i ≤ r) = greater_own (can_be s held Utf16Be || can_be s held Utf16Le) (queried decoded_length_utf16 k m) _ r e in
    let last_ : (i : ℕ) × (queried own.room k (own.pending + m) ≡ Some i) × (i ≤ first_.0) = greater_own (can_be s held Utf8) (queried decoded_length_utf8 k m) _ first_.0 first_.1 in
    let mine : own.needs k (length held + n) ≤ r = omega (arith, own.covers k (length held + n), room_rises own.room k (own.pending + (length held + n)) (own.pending + m) (omega (arith, more)), queried_is own.room k (own.pending + m) last_.0 last_.1, last_.2, first_.2) in
    omega (
      arith,
      mine,
      needs_by (can_be s held Utf8) decoded_length_utf8 k ((length held + n) - 3) m r (omega (arith, more)) (λ t. omega (arith, greater_other (can_be s held Utf8) decoded_length_utf8 k m _ first_.0 first_.1 t, first_.2)),
      needs_by (can_be s held Utf16Be) decoded_length_utf16 k ((length held + n) - 2) m r (omega (arith, more)) (λ t. greater_other _ decoded_length_utf16 k m _ r e (or_left _ _ t)),
      needs_by (can_be s held Utf16Le) decoded_length_utf16 k ((length held + n) - 2) m r (omega (arith, more)) (λ t. greater_other _ decoded_length_utf16 k m _ r e (or_right _ _ t)),
    )

pub asked_never_full : (before after : OutputUnit → ℕ → ℕ) (k : OutputUnit) (last : Bool) (size unread old new : ℕ) (outcome : DecoderResult) → Suffices before after (is_units k) last size unread old new outcome → (n : ℕ) → before k size ≤ n → n ≤ old → outcome ≢ OutputFull
asked_never_full before after k last size unread old new InputEmpty s n h j = λ e. cc
asked_never_full before after k last size unread old new OutputFull s n h j = absurd (s k 0 refl (λ _. refl) (let same : size + 0 ≡ size = omega arith in omega (arith, ap (before k) same, h, j)))
asked_never_full before after k last size unread old new (Malformed a b) s n h j = λ e. cc

pub asked_never_full_text : (before : OutputUnit → ℕ → ℕ) (k : OutputUnit) (last : Bool) (size old : ℕ) (outcome : CoderResult) → counts_past_malformed k ≡ true → NeverFull before (is_units k) last size old outcome → (n : ℕ) → before k size ≤ n → n ≤ old → outcome ≢ CoderResult.OutputFull
asked_never_full_text before k last size old CoderResult.InputEmpty on s n h j = λ e. cc
asked_never_full_text before k last size old CoderResult.OutputFull on s n h j = absurd (s k 0 on refl (λ _. refl) (let same : size + 0 ≡ size = omega arith in omega (arith, ap (before k) same, h, j)))
