-- What a call of a decoder wrote, put over a text.
use Rattle.std.proofs.Common.{◌≡◌, ◌≢◌, ℕ, Bool, true, false, Option, None, Some, List, [], ◌∷◌, ◌++◌, length, take, drop, refl, ◌∙◌, ap, subst, arith, encode_utf8_all}
use Rattle.std.proofs.lemmas.Bool.{and_parts}
use Rattle.std.proofs.lemmas.List.{drop_at, take_at}
use Rattle.std.proofs.Math.Logic.{∥∥₁_elim}
use Rattle.std.proofs.Math.Utf8.{scalar}
use Rattle.std.specs.Str.{all_scalars}
use Rattle.encoding_mem.specs.Piece.{Piece, well_formed, malformed, text, scalars, ArePieces}
use Rattle.encoding_mem.specs.calls.DecodedLength.{replacement_len, two_in}
use Rattle.encoding_mem.specs.calls.Decoding.{EndsWith}
use Rattle.encoding_mem.specs.calls.Writing.{Adds}
use Rattle.encoding_mem.specs.declared.codec.decoder_result.DecoderResult.{DecoderResult}
use Rattle.encoding_mem.specs.declared.codec.room.OutputUnit.{OutputUnit}
use Rattle.encoding_front.specs.calls.DecodedText.{raw_result}
use Rattle.encoding_front.specs.calls.DecoderCall.{DecoderCall, TextCall, free_bytes}
use Rattle.encoding_front.specs.calls.Stream.{DecoderView}
use Rattle.encoding_front.specs.declared.coder_result.CoderResult.{CoderResult}
use Rattle.encoding_front.specs.declared.decoder.saved_decoder.SavedDecoder.{SavedDecoder}
use Rattle.encoding_front.specs.laws.Input.{text_scalars}
use Rattle.jillapun_c.specs.DecoderCalls.{AnswersDecoder, Decodes, DecodesUpToFault, HoldsOne}
use Rattle.jillapun_c.specs.HeldDecoders.{saved_in}
use Rattle.jillapun_c.specs.Room.{TextIsPut}
use Rattle.jillapun_c.specs.declared.decoder.handle.DecoderHandle.{DecoderHandle}
use Rattle.jillapun_c.specs.declared.progress.Progress.{Progress}
use Rattle.jillapun_c.specs.declared.status.TheConstants.{CLOSED, FINISHED, OK}

-- ---- the text is one of characters

scalars_join : (a b : List ℕ) → all_scalars a ≡ true → all_scalars b ≡ true → all_scalars (a ++ b) ≡ true
scalars_join [] b h k = k
scalars_join (c ∷ a) b h k = let p = and_parts (scalar c) (all_scalars a) h in rw (p.0, scalars_join a b p.1 k) refl

are_scalars : (ps : List Piece) → ArePieces ps → all_scalars (scalars ps) ≡ true
are_scalars [] h = refl
are_scalars (well_formed n cs ∷ ps) h = scalars_join cs (scalars ps) h.0.are_scalars (are_scalars ps h.1)
are_scalars (malformed n ∷ ps) h = are_scalars ps h.1

prefix_pieces : (a b : List Piece) → ArePieces (a ++ b) → ArePieces a
prefix_pieces [] b h = tt
prefix_pieces (p ∷ a) b h = (h.0, prefix_pieces a b h.1)

-- ---- it is put in place of one that was added

-- what is behind a text is cleared, whatever the text
abbrev pub PutsOver : (mid new : List ℕ) (w : ℕ) → Type 0
PutsOver mid new w = (text old : List ℕ) → all_scalars text ≡ true → take w mid ≡ encode_utf8_all text → drop w mid ≡ drop w old → TextIsPut old (encode_utf8_all text) new w

put_over : (old mid new : List ℕ) (w : ℕ) → PutsOver mid new w → (t : List ℕ) → all_scalars t ≡ true → Adds old 0 (encode_utf8_all t) mid w → TextIsPut old (encode_utf8_all t) new w
put_over old mid new w puts t are h = puts t old are (ap (take w) h.list ∙ take_at (encode_utf8_all t) (drop w old) w (omega (arith, h.counted)))
    (ap (drop w) h.list ∙ drop_at (encode_utf8_all t) (drop w old) w (omega (arith, h.counted)))

text_over : (v v' : DecoderView) (src : List ℕ) (last : Bool) (n : ℕ) (old mid new : List ℕ) (w free : ℕ) (outcome : CoderResult) (had : Bool) → PutsOver mid new w
    → length (drop w mid) ≡ free → TextCall v v' src last n (λ t. Adds old 0 (encode_utf8_all t) mid w) (free_bytes (length (drop w mid))) outcome had
    → TextCall v v' src last n (λ t. TextIsPut old (encode_utf8_all t) new w) (free_bytes free) outcome had
text_over v v' src last n old mid new w free outcome had puts size h = record {
  law = record {
    taken = h.law.taken;
    had = h.law.had;
    within = h.law.within;
    counted = h.law.counted;
    writes = put_over old mid new w puts (text h.law.taken) (text_scalars h.law.taken (prefix_pieces h.law.taken _ (subst ArePieces (h.law.rest [] (λ _. refl)) (v.state.are_pieces (src ++ []))))) h.law.writes;
    rest = h.law.rest;
  };
  ends = subst (λ (k : ℕ). EndsWith v'.state (drop n src) last k (two_in false) (replacement_len false) (raw_result outcome)) size h.ends;
  source = h.source;
  marks = h.marks;
  finished = h.finished;
  made = h.made;
}

scalars_over : (v v' : DecoderView) (src : List ℕ) (last : Bool) (n : ℕ) (old mid new : List ℕ) (w free : ℕ) (outcome : DecoderResult) → PutsOver mid new w
    → length (drop w mid) ≡ free → DecoderCall v v' src last n (λ t. Adds old 0 (encode_utf8_all t) mid w) (free_bytes (length (drop w mid))) outcome
    → DecoderCall v v' src last n (λ t. TextIsPut old (encode_utf8_all t) new w) (free_bytes free) outcome
scalars_over v v' src last n old mid new w free outcome puts size h = record {
  law = record {
    taken = h.law.taken;
    well_formed = h.law.well_formed;
    within = h.law.within;
    counted = h.law.counted;
    writes = put_over old mid new w puts (scalars h.law.taken) (are_scalars h.law.taken (prefix_pieces h.law.taken _ (subst ArePieces (h.law.rest [] (λ _. refl)) (v.state.are_pieces (src ++ []))))) h.law.writes;
    rest = h.law.rest;
  };
  ends = subst (λ (k : ℕ). EndsWith v'.state (drop n src) last k (two_in false) (replacement_len false) outcome) size h.ends;
  source = h.source;
  marks = h.marks;
  finished = h.finished;
  made = h.made;
}

-- ---- of the decoder of a handle

-- what holds of each call that was made, and has one proof, holds if the status says that it was
pub if_done : (h : DecoderHandle) (status : ℕ) (Then : DecoderView → Type 0) (P : Type 0) → IsProp P → AnswersDecoder h status Then → status ≡ OK → ((v : DecoderView) → Then v → P) → P
if_done h status Then P prop answers ok then = by_words (saved_in h.words) refl
  where
    by_end : (v : DecoderView) → HoldsOne h v → (t : Bool) → v.finished ≡ t → P
    by_end v holds true ended = let is : status ≡ FINISHED = answers.finished v holds ended in absurd (cc)
    by_end v holds false live = then v (answers.done v holds live).1

    by_words : (o : Option SavedDecoder) → saved_in h.words ≡ o → P
    by_words None none = let is : status ≡ CLOSED = answers.closed none in absurd (cc)
    by_words (Some w) some = ∥∥₁_elim (h.sound w some) prop (λ s. by_end s.0 s.1 (s.0).finished refl)

-- what a call that was not made says holds of any other
pub not_done : (h : DecoderHandle) (status : ℕ) (Then Other : DecoderView → Type 0) → AnswersDecoder h status Then → status ≢ OK → AnswersDecoder h status Other
not_done h status Then Other answers other = record { closed = answers.closed; finished = answers.finished; done = λ v holds live. absurd (other (answers.done v holds live).0) }

-- with U+FFFD
pub decodes_over : (h after : DecoderHandle) (unit : OutputUnit) (src : List ℕ) (last : Bool) (old mid new : List ℕ) (size free status : ℕ) (p : Progress) → PutsOver mid new p.written
    → length (drop p.written mid) ≡ free
    → AnswersDecoder h status (λ v. Decodes unit v after src last (λ t. Adds old 0 (encode_utf8_all t) mid p.written) size (free_bytes (length (drop p.written mid))) p)
    → AnswersDecoder h status (λ v. Decodes unit v after src last (λ t. TextIsPut old (encode_utf8_all t) new p.written) size (free_bytes free) p)
decodes_over h after k src last old mid new size free status p puts same answers = record {
  closed = answers.closed;
  finished = answers.finished;
  done = λ v holds live.
      let did = (answers.done v holds live).1 in (
        (answers.done v holds live).0,
        record {
          view = did.view;
          holds = did.holds;
          outcome = did.outcome;
          told = did.told;
          no_length = did.no_length;
          call = text_over v did.view src last p.read old mid new p.written free did.outcome p.had_errors puts same did.call;
          enough = did.enough;
        },
      );
}

-- up to the first malformed sequence
pub decodes_part_over : (h after : DecoderHandle) (k : OutputUnit) (src : List ℕ) (last : Bool) (old mid new : List ℕ) (size free status : ℕ) (p : Progress) → PutsOver mid new p.written
    → length (drop p.written mid) ≡ free
    → AnswersDecoder h status (λ v. DecodesUpToFault k v after src last (λ t. Adds old 0 (encode_utf8_all t) mid p.written) size (free_bytes (length (drop p.written mid))) p)
    → AnswersDecoder h status (λ v. DecodesUpToFault k v after src last (λ t. TextIsPut old (encode_utf8_all t) new p.written) size (free_bytes free) p)
decodes_part_over h after k src last old mid new size free status p puts same answers = record {
  closed = answers.closed;
  finished = answers.finished;
  done = λ v holds live.
      let did = (answers.done v holds live).1 in (
        (answers.done v holds live).0,
        record {
          view = did.view;
          holds = did.holds;
          outcome = did.outcome;
          told = did.told;
          none_replaced = did.none_replaced;
          call = scalars_over v did.view src last p.read old mid new p.written free did.outcome puts same did.call;
          enough = did.enough;
        },
      );
}
