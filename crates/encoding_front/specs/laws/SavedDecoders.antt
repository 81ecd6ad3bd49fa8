-- Laws of decoders that read alike, as one that was saved and one that goes on from it.
use Rattle.std.proofs.Props.{props}
use Rattle.std.proofs.Common.{◌≡◌, ℕ, Bool, List, [], sym, subst, ◌∙◌, ap, ◌++◌}
use Rattle.encoding_mem.specs.calls.Decoding.{Reports, Takes}
use Rattle.encoding_mem.specs.calls.Resuming.{Reading, reading_of, saved_bytes, saved_pending}
use Rattle.encoding_mem.specs.declared.codec.decoder_result.DecoderResult.{DecoderResult}
use Rattle.encoding_tables.specs.IndexLists.{IndexLists}
use Rattle.encoding_front.specs.Encodings.{IsReady}
use Rattle.encoding_front.specs.calls.DecodedText.{TakesText}
use Rattle.encoding_front.specs.calls.DecoderCall.{DecoderCall, RoomLeft, TextCall}
use Rattle.encoding_front.specs.calls.Resumed.{resumed_in}
use Rattle.encoding_front.specs.calls.SavedDecoders.{CanBeResumed, IsSound, ReadsAlike, Saves, sought_reading}
use Rattle.encoding_front.specs.calls.Stream.{DecoderView, IsMadeFrom, Opening}
use Rattle.encoding_front.specs.declared.coder_result.CoderResult.{CoderResult}
use Rattle.encoding_front.specs.declared.decoder.saved_decoder.SavedDecoder.{SavedDecoder}
use Rattle.encoding_front.specs.laws.Ready.{AreThere-prop}

-- they were made from the same indexes
pub made_alike : (t : IndexLists) (v u : DecoderView) → ReadsAlike v u → IsMadeFrom t v → IsMadeFrom t u
made_alike t v u h made = record { ready = subst (IsReady t) (h.source []) made.ready; reads = sym h.resumed ∙ made.reads ∙ ap (resumed_in t) (h.source []) }

-- what a call of one does is what it does of the other
pub call_alike : (v u after : DecoderView) (src : List ℕ) (last : Bool) (read : ℕ) (W : List ℕ → Type 0) (left : RoomLeft) (outcome : DecoderResult) → ReadsAlike v u
    → DecoderCall u after src last read W left outcome → DecoderCall v after src last read W left outcome
call_alike v u after src last read W left outcome h call = record {
  law = subst (λ (r : Reading). Takes (Reports outcome after.state.pending) r.pieces after.state.pieces src last r.pending after.state.pending read W) (sym h.state) call.law;
  ends = call.ends;
  source = λ r e. h.source (src ++ r) ∙ call.source r e;
  marks = λ s. let k = call.marks s in (k.0 ∙ ap (λ (o : Opening). o.sought) (sym h.opening), k.1, k.2);
  finished = call.finished;
  made = λ t made. call.made t (made_alike t v u h made);
}

pub text_alike : (v u after : DecoderView) (src : List ℕ) (last : Bool) (read : ℕ) (W : List ℕ → Type 0) (left : RoomLeft) (outcome : CoderResult) (had_errors : Bool) → ReadsAlike v u
    → TextCall u after src last read W left outcome had_errors → TextCall v after src last read W left outcome had_errors
text_alike v u after src last read W left outcome had_errors h call = record {
  law = subst (λ (r : Reading). TakesText r.pieces after.state.pieces src last r.pending after.state.pending read W had_errors) (sym h.state) call.law;
  ends = call.ends;
  source = λ r e. h.source (src ++ r) ∙ call.source r e;
  marks = λ s. let k = call.marks s in (k.0 ∙ ap (λ (o : Opening). o.sought) (sym h.opening), k.1, k.2);
  finished = call.finished;
  made = λ t made. call.made t (made_alike t v u h made);
}

-- what was saved of a decoder over some indexes reads by them as the decoder does
pub own_resumed : (t : IndexLists) (w : SavedDecoder) (v : DecoderView) → Saves w v → IsMadeFrom t v
    → reading_of v.own ≡ resumed_in t w.encoding w.pieces.mode (saved_pending w.pieces)
own_resumed t w v h made =
    sym h.own ∙ ap (λ (f : ℕ → List ℕ → Reading). f w.pieces.mode (saved_pending w.pieces)) (made.reads ∙ ap (resumed_in t) h.in_force)

-- so it can go on over them
pub can_be_resumed : (t : IndexLists) (w : SavedDecoder) (v : DecoderView) → Saves w v → IsMadeFrom t v → CanBeResumed t w
can_be_resumed t w v h made = record { ready = subst (IsReady t) h.in_force made.ready; sound = subst (λ (r : Reading). IsSound r w) (own_resumed t w v h made) h.sound }

-- and two decoders of which the same was saved read alike
pub saved_alike : (t : IndexLists) (w : SavedDecoder) (v u : DecoderView) → Saves w v → Saves w u → IsMadeFrom t v → IsMadeFrom t u → ReadsAlike v u
saved_alike t w v u h k made by =
    let own : reading_of v.own ≡ reading_of u.own = own_resumed t w v h made ∙ sym (own_resumed t w u k by) in
    record {
      state = h.state ∙ ap (λ (r : Reading). sought_reading w.sought r (saved_bytes w.held)) own ∙ sym k.state;
      own = own;
      source = λ x. h.source x ∙ sym (k.source x);
      opening = h.opening ∙ ap (λ (r : Reading). record { sought = w.sought; held = saved_bytes w.held; room = r.room; pending = r.pending }) own ∙ sym k.opening;
      resumed = made.reads ∙ ap (resumed_in t) (h.in_force ∙ sym k.in_force) ∙ sym by.reads;
      finished = h.finished ∙ sym k.finished;
    }

-- What was saved can go on: of that there is one proof at most, so it follows from a decoder that is
-- only known to exist.
IsSound-prop : (own : Reading) (w : SavedDecoder) → IsProp (IsSound own w)
IsSound-prop own w = hlevel props

pub CanBeResumed-prop : (t : IndexLists) (w : SavedDecoder) → IsProp (CanBeResumed t w)
CanBeResumed-prop t w a b i = record { ready = AreThere-prop t _ a.ready b.ready i; sound = IsSound-prop _ w a.sound b.sound i }
