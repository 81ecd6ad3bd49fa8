-- A call on the part of a text that is looked at is one on the text, or on what is before its first malformed sequence.
use Rattle.std.proofs.Common.{◌≡◌, ◌≢◌, ℕ, ◌-◌, ◌<◌, ◌≤◌, ◌==◌, inl, inr, Bool, true, false, Option, Some, List, [], ◌∷◌, ◌++◌, length, take, drop, refl, sym, ◌∙◌, ap, subst, arith, encode_utf8_all, length-append}
use Rattle.std.specs.Prelude.{◌&&◌, ◌^◌, min, MatchOption}
use Rattle.std.specs.Str.{IsUtf8, chars}
use Rattle.std.proofs.Math.Nat.{mul-le-mul_left}
use Rattle.std.proofs.lemmas.Bool.{eqb-true, eq-eqb}
use Rattle.std.proofs.lemmas.List.{append-nil, drop-append-le, length-take}
use Rattle.std.proofs.lemmas.Str.{encodes-chars, IsUtf8-append, IsUtf8-drop, IsCharBoundary-from_drop, chars-append}
use Rattle.encoding_mem.specs.Conversions.{text_prefix}
use Rattle.encoding_mem.specs.calls.DecodedLength.{bound_at}
use Rattle.encoding_mem.specs.calls.EncodedLength.{bound_for}
use Rattle.encoding_mem.specs.declared.codec.room.Bound.{Bound}
use Rattle.encoding_mem.specs.declared.codec.encoder_result.EncoderResult.{EncoderResult}
use Rattle.encoding_mem.specs.declared.codec.encoder_result.EncoderResult.TheVariants as raw_
use Rattle.encoding_front.specs.Encodings.{output_encoding_of}
use Rattle.encoding_front.specs.calls.CodecBounds.{encoded_length_of}
use Rattle.encoding_front.specs.calls.Encoder.{Encoded, EncoderState, ReadsText, Replaces}
use Rattle.encoding_front.specs.declared.coder_result.CoderResult.{CoderResult}
use Rattle.encoding_front.specs.declared.coder_result.CoderResult.TheVariants as text_
use Rattle.encoding_front.specs.declared.encoding.Encoding.{Encoding}
use Rattle.jillapun_c.specs.DecoderCalls.{text_outcome}
use Rattle.jillapun_c.specs.EncoderCalls.{EncodesAll, EncodesUpToLost, IsEncoderOutcome}
use Rattle.jillapun_c.specs.TextParts.{IsToldOfPart, most_read, told_outcome}
use Rattle.jillapun_c.specs.declared.encoder_progress.EncoderProgress.{EncoderProgress}
use Rattle.jillapun_c.proofs.FrontPartLemmas.{encoded_more, more_read, most_encoded, most_replaced, replaced_more}
use Rattle.jillapun_c.proofs.TextPartLemmas.{IsPartOf, whole_is_text}

-- ---- texts and their parts

whole_chars : (text part : List ℕ) (least : ℕ) (h : IsPartOf text part least) → chars text ≡ chars part ++ chars h.more
whole_chars text part least h = ap chars h.is ∙ chars-append part h.more h.utf8

left_bytes : (text part : List ℕ) (least n : ℕ) (h : IsPartOf text part least) → n ≤ length part → drop n text ≡ drop n part ++ h.more
left_bytes text part least n h within = ap (drop n) h.is ∙ drop-append-le n part h.more within

left_chars : (text part : List ℕ) (least n : ℕ) (h : IsPartOf text part least) → ReadsText part n → chars (drop n text) ≡ chars (drop n part) ++ chars h.more
left_chars text part least n h reads =
    ap chars (left_bytes text part least n h reads.within) ∙ chars-append (drop n part) h.more (IsUtf8-drop part n h.utf8 reads.boundary)

-- what ends between characters of the part does so in the text
pub reads_text : (text part : List ℕ) (least n : ℕ) → IsPartOf text part least → ReadsText part n → ReadsText text n
reads_text text part least n h reads =
    let within : n ≤ length text = omega (arith, reads.within, ap length h.is, length-append part h.more) in
    record {
      within = within;
      boundary = IsCharBoundary-from_drop text n within
          (subst IsUtf8 (sym (left_bytes text part least n h reads.within)) (IsUtf8-append (drop n part) h.more (IsUtf8-drop part n h.utf8 reads.boundary) h.more_utf8));
    }

-- a part that is not shorter is the text
same_text : (text part : List ℕ) (least : ℕ) (h : IsPartOf text part least) → h.more ≡ [] → part ≡ text
same_text text part least h none = sym (h.is ∙ ap (λ l. part ++ l) none ∙ append-nil part)

none_more : (text part : List ℕ) (least : ℕ) (h : IsPartOf text part least) → length part ≡ length text → h.more ≡ []
none_more text part least h same = none h.more (omega (arith, same, ap length h.is, length-append part h.more))
  where
    none : (xs : List ℕ) → length xs ≤ 0 → xs ≡ []
    none [] few = refl
    none (x ∷ xs) few = absurd (omega (arith, few))

-- ---- what holds of a long part, told

-- a call on a part that is long did the same of the text, and its outcome is told as it is
abbrev Goes : (Did : Bool → List ℕ → List ℕ → ℕ → EncoderProgress → Type 0) → Bool → (text part : List ℕ) → EncoderProgress → Type 0
Goes Did last text part q = Did false (chars part) (chars (drop q.read part)) (length part) q
    → Did last (chars text) (chars (drop q.read text)) (length text) q × (told_outcome false q.outcome ≡ q.outcome)

cut : (Did : Bool → List ℕ → List ℕ → ℕ → EncoderProgress → Type 0) (last : Bool) (text part : List ℕ) (least : ℕ) (p : EncoderProgress) (h : IsPartOf text part least)
    → false ≡ (length part == length text) → (least < length part → (outcome : ℕ) → Goes Did last text part (record p { outcome = outcome }))
    → IsToldOfPart false p (Did false (chars part) (chars (drop p.read part)) (length part))
    → Did last (chars text) (chars (drop p.read text)) (length text) p
cut Did last text part least p h is goes (o, did, told) = elim h.long [
  | inl none ↦ (let equal = eq-eqb (length part) (length text) (ap length (same_text text part least h none)) in absurd (cc))
  | inr long ↦ (let made = goes long o did in
      subst (λ n. Did last (chars text) (chars (drop p.read text)) (length text) (record p { outcome = n })) (sym (told ∙ made.1)) made.0)
]

pub whole_of_part : (Did : Bool → List ℕ → List ℕ → ℕ → EncoderProgress → Type 0) (last whole : Bool) (text part : List ℕ) (least : ℕ) (p : EncoderProgress) → IsPartOf text part least
    → whole ≡ (length part == length text) → (least < length part → (outcome : ℕ) → Goes Did last text part (record p { outcome = outcome }))
    → IsToldOfPart whole p (Did (last && whole) (chars part) (chars (drop p.read part)) (length part))
    → Did last (chars text) (chars (drop p.read text)) (length text) p
whole_of_part Did true true text part least p h is goes (o, did, told) =
    let same = same_text text part least h (none_more text part least h (eqb-true (length part) (length text) (sym is))) in
    subst (λ t. Did true (chars t) (chars (drop p.read t)) (length t) p) same
    (subst (λ n. Did true (chars part) (chars (drop p.read part)) (length part) (record p { outcome = n })) (sym told) did)
whole_of_part Did false true text part least p h is goes (o, did, told) =
    let same = same_text text part least h (none_more text part least h (eqb-true (length part) (length text) (sym is))) in
    subst (λ t. Did false (chars t) (chars (drop p.read t)) (length t) p) same
    (subst (λ n. Did false (chars part) (chars (drop p.read part)) (length part) (record p { outcome = n })) (sym told) did)
whole_of_part Did true false text part least p h is goes (o, did, told) = cut Did true text part least p h is goes (o, did, told)
whole_of_part Did false false text part least p h is goes (o, did, told) = cut Did false text part least p h is goes (o, did, told)

before_of_part : (Did : Bool → List ℕ → List ℕ → ℕ → EncoderProgress → Type 0) (text part : List ℕ) (least : ℕ) (p : EncoderProgress) → IsPartOf text part least
    → (least < length part → (outcome : ℕ) → Goes Did false text part (record p { outcome = outcome }))
    → IsToldOfPart false p (Did false (chars part) (chars (drop p.read part)) (length part))
    → IsToldOfPart false p (Did false (chars text) (chars (drop p.read text)) (length text))
before_of_part Did text part least p h goes (o, did, told) = elim h.long [
  | inl none ↦ subst (λ t. IsToldOfPart false p (Did false (chars t) (chars (drop p.read t)) (length t))) (same_text text part least h none) (o, did, told)
  | inr long ↦ (o, (goes long o did).0, told)
]

pub before_of_text : (Did : Bool → List ℕ → List ℕ → ℕ → EncoderProgress → Type 0) (last whole : Bool) (text part : List ℕ) (least : ℕ) (p : EncoderProgress) → IsPartOf (text_prefix text) part least
    → ¬ (IsUtf8 text) → whole ≡ (length part == length text) → (least < length part → (outcome : ℕ) → Goes Did false (text_prefix text) part (record p { outcome = outcome }))
    → IsToldOfPart whole p (Did (last && whole) (chars part) (chars (drop p.read part)) (length part))
    → IsToldOfPart false p (Did false (chars (text_prefix text)) (chars (drop p.read (text_prefix text))) (length (text_prefix text)))
before_of_text Did last true text part least p h none is goes did = absurd (none (whole_is_text text part least h (eqb-true (length part) (length text) (sym is))))
before_of_text Did true false text part least p h none is goes did = before_of_part Did (text_prefix text) part least p h goes did
before_of_text Did false false text part least p h none is goes did = before_of_part Did (text_prefix text) part least p h goes did

-- ---- of both calls

wider : (l : Bound) (m n : ℕ) → m ≤ n → bound_at l m ≤ bound_at l n
wider l m n h = omega (arith, mul-le-mul_left l.factor h)

-- a part that is longer than what is read into the room is not read
too_many : (e : Encoding) (part new : List ℕ) (written room : ℕ) → IsUtf8 part → length new ≡ room → most_read e room < length part
    → ¬ (length (encode_utf8_all (chars part)) ≤ most_read e (length (take written new)))
too_many e part new written room u size long few =
    absurd (omega (arith, ap length (encodes-chars part u), long, few, more_read (output_encoding_of e) (length (take written new)) room (omega (arith, size, length-take written new))))

-- a part that is longer than the number that is told of a handle's encoder is longer than what that reads
pub long_enough : (held : Option EncoderState) (e : EncoderState) (most room size : ℕ) → held ≡ Some e → MatchOption held (most ≡ 0) (λ x. most ≡ min (most_read x.encoding room) (2 ^ 64 - 1))
    → size < 2 ^ 64 → most < size → most_read e.encoding room < size
long_enough held e most room size is told fits long =
    more (most_read e.encoding room) (subst (λ o. MatchOption o (most ≡ 0) (λ x. most ≡ min (most_read x.encoding room) (2 ^ 64 - 1))) is told)
  where
    more : (n : ℕ) → most ≡ min n (2 ^ 64 - 1) → n < size
    more n least = omega (arith, least, fits, long)

told_full : (o : CoderResult) → o ≢ text_.InputEmpty → told_outcome false (text_outcome o) ≡ text_outcome o
told_full text_.InputEmpty ends = absurd (ends refl)
told_full text_.OutputFull ends = refl

pub all_goes : (e : EncoderState) (after : Option EncoderState) (last : Bool) (text part old new : List ℕ) (least : ℕ) (p : EncoderProgress) (h : IsPartOf text part least) → length new ≡ length old
    → ReadsText part p.read → most_read e.encoding (length old) < length part → (outcome : ℕ)
    → Goes (λ l t r n q. EncodesAll false e after l t r n old new q) last text part (record p { outcome = outcome })
all_goes e after last text part old new least p h size reads long o did =
    let left : List ℕ = chars (drop p.read part) in
    let w : List ℕ = take p.written new in
    let ends : did.outcome ≢ text_.InputEmpty = λ is. too_many e.encoding part new p.written (length old) h.utf8 size long
    (most_replaced e false (chars part) w did.encoder left p.had_unmappable (length new)
    (subst (λ u. Replaces e false u (chars part) w did.encoder left p.had_unmappable (length new)) is did.call)) in
    let more : Replaces e last did.outcome (chars part ++ chars h.more) w did.encoder (left ++ chars h.more) p.had_unmappable (length new) =
    replaced_more e last did.outcome (chars part) w did.encoder left (chars h.more) p.had_unmappable (length new) ends did.call in (
      record {
        encoder = did.encoder;
        held = did.held;
        outcome = did.outcome;
        told = did.told;
        no_scalar = did.no_scalar;
        wrote = did.wrote;
        call = subst (λ t. Replaces e last did.outcome t w did.encoder (chars (drop p.read text)) p.had_unmappable (length new)) (sym (whole_chars text part least h))
            (subst (λ r. Replaces e last did.outcome (chars part ++ chars h.more) w did.encoder r p.had_unmappable (length new)) (sym (left_chars text part least p.read h reads)) more);
        enough = λ room none. did.enough (omega (arith, room, wider (bound_for (encoded_length_of e.encoding) false) (length part) (length text) (omega (arith, ap length h.is, length-append part h.more)))) none;
      },
      ap (told_outcome false) did.told ∙ told_full did.outcome ends ∙ sym did.told,
    )

told_number : (o : EncoderResult) (number scalar : ℕ) → o ≢ raw_.InputEmpty → IsEncoderOutcome o number scalar → told_outcome false number ≡ number
told_number raw_.InputEmpty number scalar ends h = absurd (ends refl)
told_number raw_.OutputFull number scalar ends h = rw h.0 refl
told_number (raw_.Unmappable c) number scalar ends h = rw h.0 refl

pub part_goes : (e : EncoderState) (after : Option EncoderState) (last : Bool) (text part old new : List ℕ) (least : ℕ) (p : EncoderProgress) (h : IsPartOf text part least) → length new ≡ length old
    → ReadsText part p.read → most_read e.encoding (length old) < length part → (outcome : ℕ)
    → Goes (λ l t r n q. EncodesUpToLost false e after l t r n old new q) last text part (record p { outcome = outcome })
part_goes e after last text part old new least p h size reads long o did =
    let left : List ℕ = chars (drop p.read part) in
    let w : List ℕ = take p.written new in
    let room : ℕ = length new - p.written in
    let ends : did.outcome ≢ raw_.InputEmpty = λ is. too_many e.encoding part new p.written (length old) h.utf8 size long
    (most_encoded e false (chars part) w did.encoder left room
    (subst (λ u. Encoded e false u (chars part) w did.encoder left room) is did.call)) in
    let more : Encoded e last did.outcome (chars part ++ chars h.more) w did.encoder (left ++ chars h.more) room =
    encoded_more e last did.outcome (chars part) w did.encoder left (chars h.more) room ends did.call in (
      record {
        encoder = did.encoder;
        held = did.held;
        outcome = did.outcome;
        told = did.told;
        none_replaced = did.none_replaced;
        wrote = did.wrote;
        call = subst (λ t. Encoded e last did.outcome t w did.encoder (chars (drop p.read text)) room) (sym (whole_chars text part least h))
            (subst (λ r. Encoded e last did.outcome (chars part ++ chars h.more) w did.encoder r room) (sym (left_chars text part least p.read h reads)) more);
        enough = λ free. did.enough (omega (arith, free, wider (bound_for (encoded_length_of e.encoding) false) (length part) (length text) (omega (arith, ap length h.is, length-append part h.more))));
      },
      told_number did.outcome o p.scalar ends did.told,
    )
