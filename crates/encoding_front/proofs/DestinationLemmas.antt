-- Text that a call wrote, over a text or after one. What a call wrote into the spare capacity of a vector.
use Rattle.std.proofs.Common.{◌≡◌, ℕ, ◌+◌, Bool, true, List, [], ◌∷◌, ◌++◌, take, drop, refl, sym, ◌∙◌, ap, subst, arith, encode_utf8_all, ◌-◌, ◌≤◌, length, length-drop}
use Rattle.std.proofs.lemmas.Bool.{and_parts}
use Rattle.std.proofs.lemmas.List.{take_at, drop_at, take-append-drop, length-take-le, take-append-le, take-take}
use Rattle.std.proofs.lemmas.Str.{IsUtf8-append}
use Rattle.std.proofs.Math.Utf8.{scalar}
use Rattle.std.specs.Str.{all_scalars, IsUtf8}
use Rattle.encoding_mem.specs.Piece.{Piece, well_formed, malformed, text, scalars, ArePieces}
use Rattle.encoding_mem.specs.calls.DecodedLength.{replacement_len, two_in}
use Rattle.encoding_mem.specs.calls.Decoding.{DecoderState, EndsWith, Takes}
use Rattle.encoding_mem.specs.declared.codec.decoder_result.DecoderResult.{DecoderResult}
use Rattle.encoding_mem.specs.calls.TextDestination.{cleared, Overwrites}
use Rattle.encoding_mem.specs.calls.Writing.{Adds}
use Rattle.encoding_front.specs.calls.DecodedText.{TakesText, raw_result}
use Rattle.encoding_front.specs.calls.DecoderCall.{DecoderCall, TextCall, free_in_sink}
use Rattle.encoding_front.specs.calls.Stream.{DecoderView}
use Rattle.encoding_front.specs.declared.coder_result.CoderResult.{CoderResult}
use borrow.Rule.Slice.PartMut.{put_mid}
use Rattle.encoding_front.proofs.ReferenceLemmas.{length_turn, take_into}

scalars-join : (a b : List ℕ) → all_scalars a ≡ true → all_scalars b ≡ true → all_scalars (a ++ b) ≡ true
scalars-join [] b h k = k
scalars-join (c ∷ a) b h k = let p = and_parts (scalar c) (all_scalars a) h in rw (p.0, scalars-join a b p.1 k) refl

are_text : (ps : List Piece) → ArePieces ps → all_scalars (text ps) ≡ true
are_text [] h = refl
are_text (well_formed n cs ∷ ps) h = scalars-join cs (text ps) h.0.are_scalars (are_text ps h.1)
are_text (malformed n ∷ ps) h = are_text ps h.1

are_scalars : (ps : List Piece) → ArePieces ps → all_scalars (scalars ps) ≡ true
are_scalars [] h = refl
are_scalars (well_formed n cs ∷ ps) h = scalars-join cs (scalars ps) h.0.are_scalars (are_scalars ps h.1)
are_scalars (malformed n ∷ ps) h = are_scalars ps h.1

prefix_pieces : (a b : List Piece) → ArePieces (a ++ b) → ArePieces a
prefix_pieces [] b h = tt
prefix_pieces (p ∷ a) b h = (h.0, prefix_pieces a b h.1)

-- what was written is text
pub text_is : (s : DecoderState) (A : List ℕ → List Piece) (src : List ℕ) (last : Bool) (p q n : ℕ) (W : List ℕ → Type 0) (had : Bool) → (h : TakesText s.pieces A src last p q n W had) → all_scalars (text h.taken) ≡ true
text_is s A src last p q n W had h = are_text h.taken (prefix_pieces h.taken _ (subst ArePieces (h.rest [] (λ _. refl)) (s.are_pieces (src ++ []))))

pub scalars_are : (WellFormed : List Piece → Type 0) (s : DecoderState) (A : List ℕ → List Piece) (src : List ℕ) (last : Bool) (p q n : ℕ) (W : List ℕ → Type 0) → (h : Takes WellFormed s.pieces A src last p q n W) → all_scalars (scalars h.taken) ≡ true
scalars_are WellFormed s A src last p q n W h = are_scalars h.taken (prefix_pieces h.taken _ (subst ArePieces (h.rest [] (λ _. refl)) (s.are_pieces (src ++ []))))

-- another destination, of which as much is free
pub text_into : (v v' : DecoderView) (src : List ℕ) (last : Bool) (n : ℕ) (V Z : List ℕ → Type 0) (in_units : Bool) (free free' : ℕ) (outcome : CoderResult) (had : Bool)
    → ((t : List ℕ) → V t → Z t) → free ≡ free' → TextCall v v' src last n V (free_in_sink in_units free) outcome had → TextCall v v' src last n Z (free_in_sink in_units free') outcome had
text_into v v' src last n V Z in_units free free' outcome had f e h = record {
  law = record { taken = h.law.taken; had = h.law.had; within = h.law.within; counted = h.law.counted; writes = f (text h.law.taken) h.law.writes; rest = h.law.rest };
  ends = subst (λ (k : ℕ). EndsWith v'.state (drop n src) last k (two_in in_units) (replacement_len in_units) (raw_result outcome)) e h.ends;
  source = h.source;
  marks = h.marks;
  finished = h.finished;
  made = h.made;
}

pub scalars_into : (v v' : DecoderView) (src : List ℕ) (last : Bool) (n : ℕ) (V Z : List ℕ → Type 0) (in_units : Bool) (free free' : ℕ) (outcome : DecoderResult)
    → ((t : List ℕ) → V t → Z t) → free ≡ free' → DecoderCall v v' src last n V (free_in_sink in_units free) outcome → DecoderCall v v' src last n Z (free_in_sink in_units free') outcome
scalars_into v v' src last n V Z in_units free free' outcome f e h = record {
  law = record { taken = h.law.taken; well_formed = h.law.well_formed; within = h.law.within; counted = h.law.counted; writes = f (scalars h.law.taken) h.law.writes; rest = h.law.rest };
  ends = subst (λ (k : ℕ). EndsWith v'.state (drop n src) last k (two_in in_units) (replacement_len in_units) outcome) e h.ends;
  source = h.source;
  marks = h.marks;
  finished = h.finished;
  made = h.made;
}

-- text that was added to nothing
pub added : (old text_ new : List ℕ) (w : ℕ) → Adds old 0 text_ new w → take w new ≡ text_
added old text_ new w h = ap (take w) h.list ∙ take_at text_ (drop w old) w (omega (arith, h.counted))

pub kept : (old text_ new : List ℕ) (w : ℕ) → Adds old 0 text_ new w → drop w new ≡ drop w old
kept old text_ new w h = ap (drop w) h.list ∙ drop_at text_ (drop w old) w (omega (arith, h.counted))

pub overwrites : (old text_ mid new : List ℕ) (w : ℕ) → take w new ≡ take w mid → drop w new ≡ cleared (drop w mid) → Adds old 0 text_ mid w → Overwrites old text_ new w
overwrites old text_ mid new w prefix behind h = record {
  counted = omega (arith, h.counted);
  within = h.within;
  list = sym (take-append-drop w new) ∙ ap (λ x. x ++ drop w new) (prefix ∙ added old text_ mid w h) ∙ ap (λ x. text_ ++ x) (behind ∙ ap cleared (kept old text_ mid w h));
}

-- after a text there is a text
pub utf8_behind : (old all ts : List ℕ) → IsUtf8 old → all_scalars ts ≡ true → all ≡ old ++ encode_utf8_all ts → IsUtf8 all
utf8_behind old all ts was are is = subst IsUtf8 (sym is) (IsUtf8-append old (encode_utf8_all ts) was (ts, (are, refl)))

-- What a call wrote into the spare capacity of a vector.

-- after what it held
pub vec_written : (old xs ys tail : List ℕ) (a w size : ℕ) → a ≤ length xs → w ≤ length ys → length ys ≡ length (take (length xs - a) (drop a xs)) → size ≡ length xs → take a xs ≡ old
    → take (a + w) (take size (put_mid a (length xs - a) xs ys ++ tail)) ≡ old ++ take w ys
vec_written old xs ys tail a w size within fits same all held =
    let rest = length-take-le (length xs - a) (drop a xs) (omega (arith, length-drop a xs)) in
    let room : a + w ≤ length (put_mid a (length xs - a) xs ys) = omega (arith, length_turn xs ys a within same, length-drop a xs, rest) in
    take-take (a + w) size (put_mid a (length xs - a) xs ys ++ tail) (omega (arith, length_turn xs ys a within same)) ∙ take-append-le (a + w) (put_mid a (length xs - a) xs ys) tail room
    ∙ take_into a (length xs - a) w xs ys within fits ∙ ap (λ l. l ++ take w ys) held

-- the room that there was
pub spare : (xs ys : List ℕ) (a capacity : ℕ) → a ≤ length xs → length ys ≡ length (take (length xs - a) (drop a xs)) → length xs ≡ capacity → length ys ≡ capacity - a
spare xs ys a capacity within same all = omega (arith, length-take-le (length xs - a) (drop a xs) (omega (arith, length-drop a xs)), length-drop a xs)
