-- The decoder that a handle holds, as its calls see it.
use Rattle.std.proofs.Common.{◌≡◌, ◌≢◌, ℕ, Bool, true, false, List, [], length, Option, Some, None, inl, refl, sym, ◌∙◌, ap, subst, ◌+◌, unwrap_or}
use Rattle.std.proofs.Math.Logic.{∥∥₁_elim}
use Rattle.encoding_mem.specs.calls.DecodedLength.{queried, decoded_length_utf8, decoded_length_utf16}
use Rattle.encoding_mem.specs.calls.Decoding.{DecoderState}
use Rattle.encoding_mem.specs.calls.Resuming.{Reading, reading_of}
use Rattle.encoding_mem.specs.declared.codec.decoder_result.DecoderResult.{DecoderResult}
use Rattle.encoding_mem.specs.declared.codec.decoder_result.DecoderResult.TheVariants as raw_
use Rattle.encoding_mem.specs.declared.codec.room.OutputUnit.{OutputUnit}
use Rattle.encoding_mem.specs.declared.codec.room.DecodedLength.{DecodedLength}
use Rattle.encoding_tables.specs.IndexLists.{IndexLists}
use Rattle.encoding_front.specs.Encodings.{IsReady}
use Rattle.encoding_front.specs.calls.CodecBounds.{decoded_length_of}
use Rattle.encoding_front.specs.calls.DecoderCall.{DecoderCall, IfRoomAsked, RoomLeft, TextCall}
use Rattle.encoding_front.specs.calls.Latin1Prefix.{IsAtRest, IsLatin1Prefix, Latin1Rule, by_ascii, by_index, by_mode, latin1_rule, untold}
use Rattle.encoding_front.specs.calls.RoomRules.{room_by, room_rule_of}
use Rattle.encoding_front.specs.calls.SavedDecoders.{CanBeResumed, ReadsAlike, Saves}
use Rattle.encoding_front.specs.calls.Stream.{DecoderView, IsMadeFrom, Opening, SeeksNoMark, TellsLatin1Prefix, greater_if, room_asked}
use Rattle.encoding_front.specs.declared.coder_result.CoderResult.{CoderResult}
use Rattle.encoding_front.specs.declared.coder_result.CoderResult.TheVariants as text_
use Rattle.encoding_front.specs.declared.decoder.room_rule.RoomRule.{RoomRule}
use Rattle.encoding_front.specs.declared.decoder.saved_decoder.SavedDecoder.{SavedDecoder}
use Rattle.encoding_front.specs.declared.encoding.Encoding.{Encoding}
use Rattle.encoding_front.specs.declared.mark.Mark.{Mark}
use Rattle.encoding_front.specs.laws.SavedDecoders.{CanBeResumed-prop, can_be_resumed, saved_alike, call_alike, text_alike}
use Rattle.jillapun_c.proofs.EncodingNumberLemmas.{same_some}
use Rattle.jillapun_c.specs.EncodingNumbers.{encoding_at, mark_at}
use Rattle.jillapun_c.specs.DecoderCalls.{AnswersDecoder, AsksRoom, Decodes, DecodesUpToFault, GoesOnFrom, HoldsNewDecoder, HoldsOne, IsOutcome, MakesDecoder, TellsIfKnown, TellsWhyNot, text_outcome}
use Rattle.jillapun_c.specs.HeldDecoders.{HoldsDecoder, IsSoundDecoder, saved_in}
use Rattle.jillapun_c.specs.HeldTables.{held_lists}
use Rattle.jillapun_c.specs.declared.decoder.handle.DecoderHandle.{DecoderHandle}
use Rattle.jillapun_c.specs.declared.decoder.words.DecoderWords.{DecoderWords}
use Rattle.jillapun_c.specs.declared.progress.Progress.{Progress}
use Rattle.jillapun_c.specs.declared.status.TheConstants.{CLOSED, FINISHED, OK, REFUSED}

-- ---- what a handle holds

-- the words say what was saved of the decoder that is held
pub saves_held : (h : DecoderHandle) (w : SavedDecoder) (v : DecoderView) → saved_in h.words ≡ Some w → HoldsOne h v → Saves w v
saves_held h w v is holds = subst (λ (x : SavedDecoder). Saves x v) (same_some holds.saved w (sym holds.is ∙ is)) holds.saves

-- and a decoder is held whose words these are
pub held_by : (tables : Option IndexLists) (words : DecoderWords) (w : SavedDecoder) (v : DecoderView) → saved_in words ≡ Some w → Saves w v → IsMadeFrom (held_lists tables) v
    → HoldsDecoder tables words v
held_by tables words w v is saves made = record { saved = w; is = is; saves = saves; made = made }

pub sound_by : (tables : Option IndexLists) (words : DecoderWords) (v : DecoderView) → HoldsDecoder tables words v → IsSoundDecoder tables words
sound_by tables words v holds w is = ∣ (v, holds) ∣₁

nothing_held : {X : Type 0} (h : DecoderHandle) (v : DecoderView) → saved_in h.words ≡ None → HoldsOne h v → X
nothing_held h v none holds = let is : saved_in h.words ≡ Some holds.saved = holds.is in absurd (cc)

-- what the status says

pub closed_answer : (h : DecoderHandle) (Then : DecoderView → Type 0) → saved_in h.words ≡ None → AnswersDecoder h CLOSED Then
closed_answer h Then none = record {
  closed = λ _. refl;
  finished = λ v holds ended. nothing_held h v none holds;
  done = λ v holds live. nothing_held h v none holds;
}

pub finished_answer : (h : DecoderHandle) (w : SavedDecoder) (Then : DecoderView → Type 0) → saved_in h.words ≡ Some w → w.is_finished ≡ true → AnswersDecoder h FINISHED Then
finished_answer h w Then is ended = record {
  closed = λ none. absurd (cc);
  finished = λ v holds _. refl;
  done = λ v holds live. let same : v.finished ≡ w.is_finished = (saves_held h w v is holds).finished in absurd (cc);
}

pub open_answer : (h : DecoderHandle) (w : SavedDecoder) (Then : DecoderView → Type 0) → saved_in h.words ≡ Some w → w.is_finished ≡ false
    → ((v : DecoderView) → HoldsOne h v → Saves w v → Then v) → AnswersDecoder h OK Then
open_answer h w Then is live then = record {
  closed = λ none. absurd (cc);
  finished = λ v holds ended. let same : v.finished ≡ w.is_finished = (saves_held h w v is holds).finished in absurd (cc);
  done = λ v holds _. (refl, then v holds (saves_held h w v is holds));
}

-- and why none can go on

pub closed_why : (h : DecoderHandle) → saved_in h.words ≡ None → TellsWhyNot h CLOSED
closed_why h none = record { closed = λ _. refl; finished = λ v holds. nothing_held h v none holds; failed = λ e. cc }

pub finished_why : (h : DecoderHandle) (w : SavedDecoder) → saved_in h.words ≡ Some w → w.is_finished ≡ true → TellsWhyNot h FINISHED
finished_why h w is ended = record {
  closed = λ none. absurd (cc);
  finished = λ v holds. ((saves_held h w v is holds).finished ∙ ended, refl);
  failed = λ e. cc;
}

pub not_opened : (h : DecoderHandle) (status : ℕ) (Then : DecoderView → Type 0) → TellsWhyNot h status → AnswersDecoder h status Then
not_opened h status Then why = record {
  closed = why.closed;
  finished = λ v holds ended. (why.finished v holds).1;
  done = λ v holds live. let ended : v.finished ≡ true = (why.finished v holds).0 in absurd (cc);
}

-- what was done with a decoder that goes on was done with the one that is held
pub opened_answer : (h : DecoderHandle) (u : DecoderView) (Then : DecoderView → Type 0) → GoesOnFrom h u → ((v : DecoderView) → ReadsAlike v u → Then v) → AnswersDecoder h OK Then
opened_answer h u Then goes then = record {
  closed = λ none. absurd (goes.held none);
  finished = λ v holds ended. let same : v.finished ≡ u.finished = (goes.alike v holds).finished in let live : u.finished ≡ false = goes.open_ in absurd (cc);
  done = λ v holds live. (refl, then v (goes.alike v holds));
}

-- ---- a decoder goes on

pub can_go_on : (h : DecoderHandle) (w : SavedDecoder) → saved_in h.words ≡ Some w → CanBeResumed (held_lists h.tables.tables) w
can_go_on h w is = ∥∥₁_elim (h.sound w is) (CanBeResumed-prop _ w) (λ s. can_be_resumed (held_lists h.tables.tables) w s.0 (saves_held h w s.0 is s.1) (s.1).made)

pub goes_on : (h : DecoderHandle) (w : SavedDecoder) (t : IndexLists) (u : DecoderView) → saved_in h.words ≡ Some w → w.is_finished ≡ false → t ≡ held_lists h.tables.tables
    → Saves w u → IsMadeFrom t u → GoesOnFrom h u
goes_on h w t u is live over saves made =
    let by : IsMadeFrom (held_lists h.tables.tables) u = subst (λ (l : IndexLists). IsMadeFrom l u) over made in
    record {
      held = λ none. absurd (cc);
      alike = λ v holds. saved_alike (held_lists h.tables.tables) w v u (saves_held h w v is holds) saves holds.made by;
      made = by;
      open_ = saves.finished ∙ live;
    }

-- ---- calls

-- room that is enough for one is enough for the other
room_alike : (v u : DecoderView) (unit : OutputUnit) (size free : ℕ) (P : Type 0) → ReadsAlike v u → IfRoomAsked u unit size free P → IfRoomAsked v unit size free P
room_alike v u unit size free P h enough n asked within = enough n (ap (λ (o : Opening). room_asked o unit size) (sym h.opening) ∙ asked) within

-- a call that writes U+FFFD for each malformed sequence
pub decoded : (h after : DecoderHandle) (u u' : DecoderView) (unit : OutputUnit) (src : List ℕ) (last : Bool) (W : List ℕ → Type 0) (size : ℕ) (left : RoomLeft) (p : Progress) (outcome : CoderResult)
    → GoesOnFrom h u → HoldsOne after u' → p.outcome ≡ text_outcome outcome → (p.malformed_length ≡ 0) × (p.malformed_after ≡ 0)
    → TextCall u u' src last p.read W left outcome p.had_errors → IfRoomAsked u unit (length src) size (outcome ≢ text_.OutputFull)
    → AnswersDecoder h OK (λ v. Decodes unit v after src last W size left p)
decoded h after u u' unit src last W size left p outcome goes holds told no_length call enough =
    opened_answer h u (λ v. Decodes unit v after src last W size left p) goes (λ v alike. record {
      view = u';
      holds = holds;
      outcome = outcome;
      told = told;
      no_length = no_length;
      call = text_alike v u u' src last p.read W left outcome p.had_errors alike call;
      enough = room_alike v u unit (length src) size (outcome ≢ text_.OutputFull) alike enough;
    })

-- one that ends at the first
pub decoded_up_to_fault : (h after : DecoderHandle) (u u' : DecoderView) (unit : OutputUnit) (src : List ℕ) (last : Bool) (W : List ℕ → Type 0) (size : ℕ) (left : RoomLeft) (p : Progress) (outcome : DecoderResult)
    → GoesOnFrom h u → HoldsOne after u' → IsOutcome outcome p.outcome p.malformed_length p.malformed_after → p.had_errors ≡ false
    → DecoderCall u u' src last p.read W left outcome → IfRoomAsked u unit (length src) size (outcome ≢ raw_.OutputFull)
    → AnswersDecoder h OK (λ v. DecodesUpToFault unit v after src last W size left p)
decoded_up_to_fault h after u u' unit src last W size left p outcome goes holds told none_replaced call enough =
    opened_answer h u (λ v. DecodesUpToFault unit v after src last W size left p) goes (λ v alike. record {
      view = u';
      holds = holds;
      outcome = outcome;
      told = told;
      none_replaced = none_replaced;
      call = call_alike v u u' src last p.read W left outcome alike call;
      enough = room_alike v u unit (length src) size (outcome ≢ raw_.OutputFull) alike enough;
    })

-- ---- queries

-- the room that is asked is the room by the rule
pub room_told : (w : SavedDecoder) (v : DecoderView) (k : OutputUnit) (n : ℕ) (room : Option ℕ) → Saves w v → room ≡ room_by (room_rule_of v) k n
    → unwrap_or room REFUSED ≡ unwrap_or (room_asked v.opening k n) REFUSED
room_told w v k n room h is = let r = room_rule_of v in
    let own : v.opening.room ≡ decoded_length_of r.encoding = ap (λ (o : Opening). o.room) h.opening ∙ h.sound.room ∙ ap decoded_length_of (sym h.in_force) in
    ap (λ o. unwrap_or o REFUSED) (is ∙ sym (ap (λ (room : DecodedLength). greater_if r.may_be_utf16 (queried decoded_length_utf16 k (n + r.ahead))
    (greater_if r.may_be_utf8 (queried decoded_length_utf8 k (n + r.ahead)) (queried room k (r.pending + (n + r.ahead))))) own))

pub asked : (h : DecoderHandle) (w : SavedDecoder) (k : OutputUnit) (n : ℕ) (rule : RoomRule) (room : Option ℕ) → saved_in h.words ≡ Some w → w.is_finished ≡ false
    → ((v : DecoderView) → Saves w v → rule ≡ room_rule_of v) → room ≡ room_by rule k n → AsksRoom k h n (unwrap_or room REFUSED) OK
asked h w k n rule room is live ruled by_rule = open_answer h w (λ v. unwrap_or room REFUSED ≡ unwrap_or (room_asked v.opening k n) REFUSED) is live
    (λ v holds saves. room_told w v k n room saves (by_rule ∙ ap (λ r. room_by r k n) (ruled v saves)))

-- how far bytes are their own characters in Latin1
rest_alike : (rule : Latin1Rule) (a b : DecoderState) → reading_of a ≡ reading_of b → IsAtRest rule a → IsAtRest rule b
rest_alike by_index a b same h = sym (ap (λ (r : Reading). r.pending) same) ∙ h
rest_alike by_ascii a b same h = sym (ap (λ (r : Reading). r.pending) same) ∙ h
rest_alike by_mode a b same h = record {
  none = sym (ap (λ (r : Reading). r.pending) same) ∙ h.none;
  jis0208 = h.jis0208;
  start = sym (ap (λ (r : Reading). r.pieces) same) ∙ h.start;
}
rest_alike untold a b same h = h

latin1_alike : (v u : DecoderView) (bytes : List ℕ) (known : Option ℕ) → ReadsAlike v u → TellsLatin1Prefix u bytes known → TellsLatin1Prefix v bytes known
latin1_alike v u bytes None h tells = λ rest. tells (
  subst SeeksNoMark h.opening rest.0,
  subst (λ (e : Encoding). IsAtRest (latin1_rule e) u.own) (h.source []) (rest_alike (latin1_rule (v.source [])) v.own u.own h.own rest.1),
)
latin1_alike v u bytes (Some n) h tells =
    let rule : u.source [] ≡ v.source [] = sym (h.source []) in (
      subst SeeksNoMark (sym h.opening) tells.0,
      subst (λ (e : Encoding). IsAtRest (latin1_rule e) v.own) rule (rest_alike (latin1_rule (u.source [])) u.own v.own (sym h.own) tells.1),
      subst (λ (e : Encoding). IsLatin1Prefix (latin1_rule e) v.own.pieces bytes n) rule
          (subst (λ (r : Reading). IsLatin1Prefix (latin1_rule (u.source [])) r.pieces bytes n) (sym h.own) tells.2),
    )

pub latin1_told : (h : DecoderHandle) (u : DecoderView) (bytes : List ℕ) (known : Option ℕ) → GoesOnFrom h u → TellsLatin1Prefix u bytes known
    → AnswersDecoder h OK (λ v. TellsIfKnown v bytes (unwrap_or known REFUSED))
latin1_told h u bytes known goes tells = opened_answer h u (λ v. TellsIfKnown v bytes (unwrap_or known REFUSED)) goes (λ v alike. record {
  known = known;
  is = latin1_alike v u bytes known alike tells;
  told = refl;
})

-- ---- a decoder is made

pub made_new : (tables : Option IndexLists) (encoding mark : ℕ) (new : DecoderHandle) (e : Encoding) (m : Mark) → encoding_at encoding ≡ Some e → mark_at mark ≡ Some m
    → IsReady (held_lists tables) e → HoldsNewDecoder tables e m new → MakesDecoder tables encoding mark new OK
made_new tables encoding mark new e m e_is m_is ready holds = rw e_is (rw m_is (inl (ready, (refl, holds))))
