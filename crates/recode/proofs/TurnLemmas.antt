-- How turns of an engine add up, and what each is: how calls of codecs over a pivot make one.
use Rattle.std.proofs.Common.{◌≡◌, ◌↔◌, ℕ, ◌+◌, ◌-◌, ◌*◌, ◌<◌, ◌≤◌, Bool, true, false, IsTrue, List, [], ◌∷◌, ◌++◌, length, drop, Option, None, Some, refl, sym, ◌∙◌, ap, subst, arith, append_assoc, append-nil, length-append, length-drop, rules, ◌^◌, IsSome, map, take, inl, inr}
use Rattle.std.proofs.lemmas.Bool.{false≢true, false_from_ne_true}
use Rattle.encoding_front.specs.declared.encoding.Encoding.{Encoding}
use Rattle.encoding_mem.specs.Coding.{Coding, last_set, IsCoding, reference_bytes}
use Rattle.encoding_mem.specs.Items.{Item, MalformedAt, open_items, trace_from, whole_items, Byte}
use Rattle.encoding_mem.specs.Piece.{AreWellFormed, Piece, malformed_count, scalars, sizes, text}
use Rattle.encoding_mem.specs.calls.Decoding.{DecoderState}
use Rattle.encoding_mem.specs.declared.codec.decoder_result.DecoderResult.{DecoderResult}
use Rattle.encoding_mem.specs.declared.codec.decoder_result.DecoderResult.TheVariants.{Malformed, OutputFull, InputEmpty}
use Rattle.encoding_mem.specs.declared.codec.form.EscapeState.{EscapeState}
use Rattle.encoding_mem.specs.declared.codec.reference.Reference.{Reference}
use Rattle.encoding_mem.specs.laws.EncoderCalls.{last_set-append}
use Rattle.encoding_mem.specs.laws.Agreement.{well_formed_parts}
use Rattle.encoding_mem.specs.laws.Piece.{AreWellFormed-append, sizes-append, text-append, well_formed_text}
use Rattle.recode.specs.Policy.{reference_form}
use Rattle.recode.specs.State.{State}
use Rattle.recode.specs.Work.{IsCounted, ended_count}
use Rattle.recode.specs.calls.Text.{TargetState, text_items, IsEncoded}
use Rattle.recode.specs.calls.Turns.{AreCountedSoundly, EncodesTurn, Standing, TakesTurns, WillBeKept, characters_in, due_calls, owed, reported, spare_calls, pieces_of_text, waiting, TakesPieces, CanGoOn, EncodesOnce, IsOpenFor, is_last_text}
use Rattle.recode.specs.calls.Verdict.{IsFaithfulFor, VerdictIsKept, VerdictView, CanTell, IsToldAtEnd}
use Rattle.recode.specs.declared.counts.Counts.{Counts}
use Rattle.recode.proofs.CodecCallLemmas.{IsDecoded, trace_well_formed, none_owed, IsForm, spelled, text_of, utf16, utf8}
use Rattle.recode.specs.laws.Items.{AreCounted-trans, bad_line_count-append, bad_line_count-bytes, lost_line_count-append, lost_line_count-bytes}
use Rattle.recode.proofs.VerdictLemmas.{both_ways, verdict_told}
use Rattle.std.specs.Str.{all_scalars, chars}
use Rattle.std.specs.Char.Utf16.{utf16_lossy_chars}
use Rattle.encoding_front.specs.calls.Stream.{finishes, DecoderView}
use Rattle.recode.specs.Step.{IsNearlyDecided}
use Rattle.recode.specs.calls.CodecCalls.{DecodeCallEndsWith}
use Rattle.recode.specs.calls.EngineView.{HoldsBetween, chars_between, engine_target, standing}
use Rattle.recode.specs.calls.Buffers.{is_wide}
use Rattle.recode.specs.calls.PivotText.{Holds, HoldsText, IsCutInto, IsWholeText, element_count, is_in_units, pivot_chars}
use Rattle.recode.specs.declared.codec_calls.PivotText.{PivotText}
use Rattle.recode.specs.declared.codec_calls.PivotText.TheVariants as InText
use Rattle.std.proofs.lemmas.List.{drop-drop, drop-take, drop_at, length-take-le, map-append}
use borrow.Rule.Slice.PartMut.{post_of, put_mid}
use Rattle.encoding_mem.specs.calls.EncoderRule.{WritesBytes, EncoderParts}
use Rattle.encoding_mem.proofs.DestinationLemmas.{drop_into, take_into}
use Rattle.recode.specs.declared.job.Pivot.{Pivot}
use Rattle.recode.specs.declared.job.Pivot.TheVariants.{Utf8, Utf16}
use Rattle.recode.specs.declared.engine.Engine.{Engine}
use Rattle.recode.specs.declared.job.Policy.{Policy}
use Rattle.encoding_mem.specs.declared.codec.form.EscapeState.TheVariants.{Ascii}
use Rattle.recode.specs.calls.Chunk.{IsDoneWith}
use Rattle.encoding_mem.specs.calls.EncoderCalls.{reported_item}
use Rattle.encoding_mem.specs.declared.codec.encoder_result.EncoderResult.{EncoderResult}
use Rattle.encoding_mem.specs.declared.codec.encoder_result.EncoderResult.TheVariants.{Unmappable}
use Rattle.recode.specs.WrittenItems.{AreCounted, lost_line_count}

-- ---- text as pieces

pub text_pieces_fine : (t : List ℕ) → AreWellFormed (pieces_of_text t)
text_pieces_fine [] = tt
text_pieces_fine (c ∷ t) = (tt, text_pieces_fine t)

pub text_pieces_scalars : (t : List ℕ) → scalars (pieces_of_text t) ≡ t
text_pieces_scalars [] = refl
text_pieces_scalars (c ∷ t) = ap (λ x. c ∷ x) (text_pieces_scalars t)

pub text_pieces_size : (t : List ℕ) → sizes (pieces_of_text t) ≡ length t
text_pieces_size [] = refl
text_pieces_size (c ∷ t) = omega (arith, text_pieces_size t)

-- what waits
pub waiting_text : (t : List ℕ) (ps : List Piece) → text (pieces_of_text t ++ ps) ≡ t ++ text ps
waiting_text t ps =
    text-append (pieces_of_text t) ps ∙ ap (λ x. x ++ text ps) (well_formed_text (pieces_of_text t) (text_pieces_fine t) ∙ text_pieces_scalars t)

pub waiting_size : (t : List ℕ) (ps : List Piece) → sizes (pieces_of_text t ++ ps) ≡ length t + sizes ps
waiting_size t ps = omega (arith, sizes-append (pieces_of_text t) ps, text_pieces_size t)

pub waiting_count : (t : List ℕ) (ps : List Piece) → length (text (pieces_of_text t ++ ps)) ≡ length t + length (text ps)
waiting_count t ps = omega (arith, ap length (waiting_text t ps), length-append t (text ps))

pub waiting_bad : (t : List ℕ) (ps : List Piece) → malformed_count (pieces_of_text t ++ ps) ≡ malformed_count ps
waiting_bad [] ps = refl
waiting_bad (c ∷ t) ps = waiting_bad t ps

fine_before : (ps qs : List Piece) → AreWellFormed ps → AreWellFormed (ps ++ qs) ↔ AreWellFormed qs
fine_before ps qs h = (λ k. (well_formed_parts ps qs k).1, AreWellFormed-append ps qs h)

waiting_fine : (t : List ℕ) (ps : List Piece) → AreWellFormed (pieces_of_text t ++ ps) ↔ AreWellFormed ps
waiting_fine t ps = fine_before (pieces_of_text t) ps (text_pieces_fine t)

-- ---- traces

-- of pieces with the same text
swap_trace : (ref : Reference) (e : Coding) (s : EscapeState) (o o' i : ℕ) (ps qs tail : List Piece) → AreWellFormed ps → AreWellFormed qs → scalars ps ≡ scalars qs → o + sizes ps ≡ o' + sizes qs
    → trace_from ref e s o i (ps ++ tail) ≡ trace_from ref e s o' i (qs ++ tail)
swap_trace ref e s o o' i ps qs tail f g same at =
    trace_well_formed ref e s o i ps tail f
    ∙ ap (λ (t : List ℕ). open_items ref e s i t ++ trace_from ref e (last_set e s t) (o + sizes ps) (i + length t) tail) same
    ∙ ap (λ (n : ℕ). open_items ref e s i (scalars qs) ++ trace_from ref e (last_set e s (scalars qs)) n (i + length (scalars qs)) tail) at
    ∙ sym (trace_well_formed ref e s o' i qs tail g)

-- of text that waits
pub front_trace : (ref : Reference) (e : Coding) (s : EscapeState) (o i : ℕ) (t : List ℕ) (tail : List Piece)
    → trace_from ref e s o i (pieces_of_text t ++ tail) ≡ open_items ref e s i t ++ trace_from ref e (last_set e s t) (o + length t) (i + length t) tail
front_trace ref e s o i t tail =
    trace_well_formed ref e s o i (pieces_of_text t) tail (text_pieces_fine t)
    ∙ ap (λ (x : List ℕ). open_items ref e s i x ++ trace_from ref e (last_set e s x) (o + sizes (pieces_of_text t)) (i + length x) tail) (text_pieces_scalars t)
    ∙ ap (λ (n : ℕ). open_items ref e s i t ++ trace_from ref e (last_set e s t) (o + n) (i + length t) tail) (text_pieces_size t)

same_faithful : (ref : Reference) (v : VerdictView) (e : Coding) (s : EscapeState) (ps qs : List Piece) → AreWellFormed ps ↔ AreWellFormed qs → text ps ≡ text qs → IsFaithfulFor ref v e s ps ↔ IsFaithfulFor ref v e s qs
same_faithful ref v e s ps qs fine same = rw same (λ h. (h.0, fine.0 h.1, h.2), λ h. (h.0, fine.1 h.1, h.2))

-- ---- turns in a row

pub turns_start : (c : Standing) (last : Bool) (bytes : List ℕ) → AreCountedSoundly c → TakesTurns c c last bytes bytes [] 0 0
turns_start c last bytes sound =
    let none : TakesPieces c c bytes bytes = record { taken = []; rest_is = λ r. refl; set = refl; index = omega arith } in
    search (rules, arith, none)

pub turns_more : {c c1 c2 : Standing} {last : Bool} {x y z : List ℕ} {a b : List Item} {m n k l : ℕ} (most least : ℕ) → m + n ≤ most → least ≤ k + l → TakesTurns c c1 last x y a m k → TakesTurns c1 c2 last y z b n l → TakesTurns c c2 last x z (a ++ b) most least
turns_more {c} {c1} {c2} {last} {x} {y} {z} {a} {b} most least up down p q = record {
  counted = omega (arith, p.counted, q.counted);
  target = q.target ∙ p.target;
  policy = q.policy ∙ p.policy;
  sound = q.sound;
  lines = AreCounted-trans c.state.counts c1.state.counts c2.state.counts a b p.lines q.lines;
  source = λ r h. p.source r h ∙ q.source r h;
  characters = λ r h. p.characters r h ∙ q.characters r h;
  owes = λ r h. p.owes r h ∙ ap (λ l. a ++ l) (q.owes r h) ∙ sym (append_assoc a b (owed c2 (z ++ r)));
  verdict = λ r h. both_ways (p.verdict r h) (q.verdict r h);
  calls = λ r h. omega (arith, p.calls r h, q.calls r h, up);
  least_calls = λ under.
      let later = q.least_calls under in
      omega (arith, later, p.least_calls (omega (arith, under, q.grows under)), down);
  grows = λ under. let later = q.grows under in omega (arith, later, p.grows (omega (arith, under, later)));
  advances = λ on.
      let f = p.advances on in
      let g = q.advances on in
      let e = c.state.coding in
      record {
        taken = f.taken ++ g.taken;
        rest_is = λ r. f.rest_is r ∙ ap (λ l. f.taken ++ l) (g.rest_is r) ∙ sym (append_assoc f.taken g.taken (c2.state.decoder.pieces (z ++ r)));
        set = rw p.target at g.set ∙ rw (text-append f.taken g.taken, last_set-append e (last_set e c.state.set (text (waiting c))) (text f.taken) (text g.taken), f.set) refl;
        index = omega (arith, f.index, g.index, ap length (text-append f.taken g.taken), length-append (text f.taken) (text g.taken));
      };
}

-- ---- the decoder

-- where a conversion stands after a call of the decoder
abbrev pub decoded_state : State → DecoderState → Bool → (List ℕ → Encoding) → (read calls : ℕ) → State
decoded_state s d finished source read calls = record s { decoder = d; finished = finished; source = source; counts = record s.counts { read = s.counts.read + read; calls = calls } }

-- nothing waits
abbrev pub nothing_waits : State → Standing
nothing_waits s = record { state = s; answer = None; text = [] }

-- for the text and what was reported as many calls are set aside, and sure to come, as are spare and due
set_aside : (answer : DecoderResult) (t : List ℕ) → (answer ≡ OutputFull → 0 < length t)
    → (spare_calls (Some answer) ≤ 3 * (length t + length (text (reported (Some answer))))) × (3 * malformed_count (reported (Some answer)) ≤ due_calls (Some answer))
set_aside OutputFull t some = omega (arith, some refl)
set_aside _ t some = omega arith

module _ (s : State) (d : DecoderState) (finished : Bool) (source : List ℕ → Encoding) (src : List ℕ) (last : Bool) (read calls : ℕ) (answer : DecoderResult) (t : List ℕ)
    (sound : AreCountedSoundly (nothing_waits s)) (k : IsDecoded s.decoder d src last read answer t) (some : answer ≡ OutputFull → 0 < length t) (one : IsCounted 1 1 s.counts.calls calls)
    (same_source : (r : List ℕ) → (last ≡ true → r ≡ []) → s.source (src ++ r) ≡ source (drop read src ++ r)) where
  turn_owes : (r : List ℕ) → (last ≡ true → r ≡ []) → owed (nothing_waits s) (src ++ r) ≡ owed (record { state = decoded_state s d finished source read calls; answer = Some answer; text = t }) (drop read src ++ r)
  turn_owes r h =
      let tail = reported (Some answer) ++ d.pieces (drop read src ++ r) in
      let o = s.counts.read - (0 + s.decoder.pending) in
      let o' = s.counts.read + read - (sizes (pieces_of_text t ++ reported (Some answer)) + d.pending) in
      ap (trace_from (reference_form s.policy) s.coding s.set o s.counts.index) (k.rest r h)
      ∙ swap_trace (reference_form s.policy) s.coding s.set o o' s.counts.index k.front (pieces_of_text t) tail k.fine (text_pieces_fine t) (sym k.text_is ∙ sym (text_pieces_scalars t))
      (omega (arith, sound.index, k.counted, k.fits, waiting_size t (reported (Some answer)), text_pieces_size t))
      ∙ ap (trace_from (reference_form s.policy) s.coding s.set o' s.counts.index) (sym (append_assoc (pieces_of_text t) (reported (Some answer)) (d.pieces (drop read src ++ r))))

  turn_text : (r : List ℕ) → (last ≡ true → r ≡ []) → text (s.decoder.pieces (src ++ r)) ≡ text ((pieces_of_text t ++ reported (Some answer)) ++ d.pieces (drop read src ++ r))
  turn_text r h =
      let tail = reported (Some answer) ++ d.pieces (drop read src ++ r) in
      ap text (k.rest r h) ∙ text-append k.front tail ∙ ap (λ x. x ++ text tail) (well_formed_text k.front k.fine ∙ sym k.text_is) ∙ sym (waiting_text t tail)
      ∙ ap text (sym (append_assoc (pieces_of_text t) (reported (Some answer)) (d.pieces (drop read src ++ r))))

  turn_verdict : (r : List ℕ) → (last ≡ true → r ≡ []) → WillBeKept (nothing_waits s) (src ++ r) ↔ WillBeKept (record { state = decoded_state s d finished source read calls; answer = Some answer; text = t }) (drop read src ++ r)
  turn_verdict r h =
      let tail = reported (Some answer) ++ d.pieces (drop read src ++ r) in
      let now = append_assoc (pieces_of_text t) (reported (Some answer)) (d.pieces (drop read src ++ r)) in
      same_faithful (reference_form s.policy) s.verdict s.coding s.set (s.decoder.pieces (src ++ r)) ((pieces_of_text t ++ reported (Some answer)) ++ d.pieces (drop read src ++ r))
      (rw (k.rest r h, now) (both_ways (fine_before k.front tail k.fine) (let w = waiting_fine t tail in (w.1, w.0))))
      (turn_text r h)

  pub decode_turn : TakesTurns (nothing_waits s) (record { state = decoded_state s d finished source read calls; answer = Some answer; text = t }) last src (drop read src) [] 0 0
  decode_turn = record {
    counted = omega (arith, length-drop read src, k.within);
    target = refl;
    policy = refl;
    sound = omega (arith, k.counted, k.fits, waiting_size t (reported (Some answer)));
    lines = omega arith;
    source = same_source;
    characters = λ r h. ap (λ x. s.counts.index + length x) (turn_text r h);
    owes = turn_owes;
    verdict = turn_verdict;
    calls = λ r h. omega (arith, one.at_most, (set_aside answer t some).0, waiting_count t (reported (Some answer)), ap length (turn_owes r h));
    grows = λ under. omega (arith, one.at_least under);
    least_calls = λ under. omega (arith, one.at_least under, (set_aside answer t some).1, waiting_bad t (reported (Some answer)));
    advances = λ on. record {
      taken = k.front ++ reported (Some answer);
      rest_is = λ r. k.rest r (λ last_one. absurd (false≢true (sym on ∙ last_one))) ∙ sym (append_assoc k.front (reported (Some answer)) (d.pieces (drop read src ++ r)));
      set = ap (last_set s.coding s.set) (waiting_text t (reported (Some answer)) ∙ ap (λ x. x ++ text (reported (Some answer))) (k.text_is ∙ sym (well_formed_text k.front k.fine)) ∙ sym (text-append k.front (reported (Some answer))));
      index = omega (arith, waiting_count t (reported (Some answer)), ap length (text-append k.front (reported (Some answer))), length-append (text k.front) (text (reported (Some answer))), ap length (k.text_is ∙ sym (well_formed_text k.front k.fine)));
    };
  }

-- ---- the encoder

abbrev pub target_of_state : State → TargetState
target_of_state s = record { coding = s.coding; set = s.set; policy = s.policy; verdict = s.verdict; counts = s.counts }

front_faithful : (ref : Reference) (e : Coding) (last : Bool) (v v' : VerdictView) (s s' : EscapeState) (t rest : List ℕ) (tail : List Piece) → VerdictIsKept e last v s t v' s' rest → (IsTrue last → text tail ≡ [])
    → IsFaithfulFor ref v e s (pieces_of_text t ++ tail) ↔ IsFaithfulFor ref v' e s' (pieces_of_text rest ++ tail)
front_faithful ref e last v v' s s' t rest tail keeps ends =
    let both = keeps ref (text tail) ends in
    let fine = waiting_fine t tail in
    let fine' = waiting_fine rest tail in
    rw (waiting_text t tail, waiting_text rest tail) (
      λ h. let on = both.0 (h.0, h.2) in (on.0, fine'.1 (fine.0 h.1), on.1),
      λ h. let on = both.1 (h.0, h.2) in (on.0, fine.1 (fine'.0 h.1), on.1),
    )

-- what is owed for a text that waits, and what comes after it
front_owed : (ref : Reference) (e : Coding) (ended : Bool) (s s' : EscapeState) (i i' o o' : ℕ) (t rest : List ℕ) (tail : List Piece) (items : List Item) → whole_items ref e ended s i t ≡ items ++ whole_items ref e ended s' i' rest
    → i' + length rest ≡ i + length t → o + length t ≡ o' + length rest → (ended ≡ false → last_set e s t ≡ last_set e s' rest) → (ended ≡ true → tail ≡ [])
    → trace_from ref e s o i (pieces_of_text t ++ tail) ≡ items ++ trace_from ref e s' o' i' (pieces_of_text rest ++ tail)
front_owed ref e false s s' i i' o o' t rest tail items owes index at set none =
    let open_ : open_items ref e s i t ≡ items ++ open_items ref e s' i' rest = sym (append-nil (open_items ref e s i t)) ∙ owes ∙ ap (λ l. items ++ l) (append-nil (open_items ref e s' i' rest)) in
    rw (front_trace ref e s o i t tail, front_trace ref e s' o' i' rest tail, set refl, at, sym index, open_) (append_assoc items (open_items ref e s' i' rest) (trace_from ref e (last_set e s' rest) (o' + length rest) (i' + length rest) tail))
front_owed ref e true s s' i i' o o' t rest tail items owes index at set none = rw (none refl, front_trace ref e s o i t [], front_trace ref e s' o' i' rest []) owes

abbrev pub target_with : State → EscapeState → VerdictView → Counts → TargetState
target_with s set verdict counts = record { coding = s.coding; set = set; policy = s.policy; verdict = verdict; counts = counts }

-- where an engine stands after a call of the encoder
abbrev pub after_encoder : Standing → EscapeState → VerdictView → Counts → (rest : List ℕ) → Standing
after_encoder c set v x rest = record { state = record c.state { set = set; verdict = v; counts = x }; answer = c.answer; text = rest }

-- one call of the encoder on the text that waits
module _ (c : Standing) (set : EscapeState) (v : VerdictView) (x : Counts) (rest : List ℕ) (ended last : Bool) (src : List ℕ) (items : List Item) (n : ℕ)
    (sound : AreCountedSoundly c) (e : EncodesTurn (target_of_state c.state) (target_with c.state set v x) ended c.text rest items n)
    (tail_is : ended ≡ true → (r : List ℕ) → (last ≡ true → r ≡ []) → reported c.answer ++ c.state.decoder.pieces (src ++ r) ≡ []) (ends : ended ≡ true → last ≡ true) where
  encode_owes : (r : List ℕ) → (last ≡ true → r ≡ []) → owed c (src ++ r) ≡ items ++ owed (after_encoder c set v x rest) (src ++ r)
  encode_owes r h =
      let ref = reference_form c.state.policy in
      let tail = reported c.answer ++ c.state.decoder.pieces (src ++ r) in
      let o = c.state.counts.read - (sizes (pieces_of_text c.text ++ reported c.answer) + c.state.decoder.pending) in
      let o' = x.read - (sizes (pieces_of_text rest ++ reported c.answer) + c.state.decoder.pending) in
      ap (trace_from ref c.state.coding c.state.set o c.state.counts.index) (append_assoc (pieces_of_text c.text) (reported c.answer) (c.state.decoder.pieces (src ++ r)))
      ∙ front_owed ref c.state.coding ended c.state.set set c.state.counts.index x.index o o' c.text rest tail items e.owes e.index
      (omega (arith, sound.index, waiting_size c.text (reported c.answer), waiting_size rest (reported c.answer), e.read, e.index)) e.set (λ end. tail_is end r h)
      ∙ ap (λ ps. items ++ trace_from ref c.state.coding set o' x.index ps) (sym (append_assoc (pieces_of_text rest) (reported c.answer) (c.state.decoder.pieces (src ++ r))))

  encode_verdict : (r : List ℕ) → (last ≡ true → r ≡ []) → WillBeKept c (src ++ r) ↔ WillBeKept (after_encoder c set v x rest) (src ++ r)
  encode_verdict r h =
      let ref = reference_form c.state.policy in
      let tail = reported c.answer ++ c.state.decoder.pieces (src ++ r) in
      rw (append_assoc (pieces_of_text c.text) (reported c.answer) (c.state.decoder.pieces (src ++ r)), append_assoc (pieces_of_text rest) (reported c.answer) (c.state.decoder.pieces (src ++ r)))
      (front_faithful ref c.state.coding ended c.state.verdict v c.state.set set c.text rest tail e.verdict (λ end. ap text (tail_is end r h)))

  encode_count : (r : List ℕ) → characters_in c (src ++ r) ≡ characters_in (after_encoder c set v x rest) (src ++ r)
  encode_count r =
      let more : List Piece = c.state.decoder.pieces (src ++ r) in
      let tail : List Piece = reported c.answer ++ more in
      let was = ap (λ ps. length (text ps)) (append_assoc (pieces_of_text c.text) (reported c.answer) more) in
      let now = ap (λ ps. length (text ps)) (append_assoc (pieces_of_text rest) (reported c.answer) more) in
      omega (arith, e.index, was, now, waiting_count c.text tail, waiting_count rest tail)

  pub encode_turn : TakesTurns c (after_encoder c set v x rest) last src src items (2 * n) n
  encode_turn = record {
    counted = omega (arith, e.read);
    target = refl;
    policy = refl;
    sound = omega (arith, e.bad, e.lost, waiting_size c.text (reported c.answer), waiting_size rest (reported c.answer), e.read, e.index);
    lines = e.lines;
    source = λ r h. refl;
    characters = λ r h. encode_count r;
    owes = encode_owes;
    verdict = encode_verdict;
    calls = λ r h. omega (arith, e.calls, e.index, waiting_count c.text (reported c.answer), waiting_count rest (reported c.answer), ap length (encode_owes r h), ap length e.owes, length-append items (owed (after_encoder c set v x rest) (src ++ r)), length-append items (text_items (target_with c.state set v x) ended rest));
    grows = λ under. omega (arith, e.least under, e.lines.lost);
    least_calls = λ under. omega (arith, e.least under, e.bad, waiting_bad c.text (reported c.answer), waiting_bad rest (reported c.answer));
    advances = λ on. record {
      taken = [];
      rest_is = λ r. refl;
      set = rw (waiting_text rest (reported c.answer), waiting_text c.text (reported c.answer), last_set-append c.state.coding set rest (text (reported c.answer)), last_set-append c.state.coding c.state.set c.text (text (reported c.answer)), e.set (false_from_ne_true ended (λ end. false≢true (sym on ∙ ends end)))) refl;
      index = omega (arith, e.index, waiting_count c.text (reported c.answer), waiting_count rest (reported c.answer));
    };
  }

-- ---- what comes after a text that is encoded

-- a standing, by its answer and its text
pub standing_is : (c : Standing) {a : Option DecoderResult} {t : List ℕ} → c.answer ≡ a → c.text ≡ t → c ≡ record { state = c.state; answer = a; text = t }
standing_is c answer text = rw (sym answer, sym text) refl

-- the decoder is asked next, or all is read
pub finish_turn : (c c1 : Standing) (a : DecoderResult) (last : Bool) (x y : List ℕ) (items : List Item) (m l : ℕ) → c1.answer ≡ Some a → c1.text ≡ [] → reported (Some a) ≡ [] → 3 ≤ spare_calls (Some a) + m → l + due_calls (Some a) ≤ 2
    → TakesTurns c c1 last x y items 2 1 → TakesTurns c (record c1 { answer = None }) last x y items m l
finish_turn c c1 a last x y items m l answer empty none most least turned =
    let p = subst (λ (z : Standing). TakesTurns c z last x y items 2 1) (standing_is c1 answer empty) turned in
    subst (λ (t : List ℕ). TakesTurns c (record { state = c1.state; answer = None; text = t }) last x y items m l) (sym empty) (record {
      counted = p.counted;
      target = p.target;
      policy = p.policy;
      sound = record { index = omega (arith, p.sound.index); bad = p.sound.bad; lost = p.sound.lost };
      lines = p.lines;
      source = p.source;
      characters = λ r h. rw none at (p.characters r h);
      owes = λ r h. rw none at (p.owes r h);
      verdict = λ r h. rw none at (p.verdict r h);
      calls = λ r h. omega (arith, rw none at (p.calls r h), most);
      grows = p.grows;
      least_calls = λ under. omega (arith, rw none at (p.least_calls under), least);
      advances = λ on. let f = p.advances on in record { taken = f.taken; rest_is = f.rest_is; set = rw none at f.set; index = rw none at f.index };
    })

-- something is lost, and U+FFFD waits
abbrev pub replaced_state : State → State
replaced_state s = record s { verdict = record s.verdict { faithful = false }; counts = record s.counts { bad = s.counts.bad + 1 } }

-- the line of a malformed sequence is found
pub replace_turn : (c c1 : Standing) (a b : ℕ) (last : Bool) (x y : List ℕ) (items : List Item) → c1.answer ≡ Some (Malformed a b) → c1.text ≡ [] → 1 ≤ a → c1.state.decoder.pending ≡ b → TakesTurns c c1 last x y items 2 1
    → TakesTurns c (record { state = replaced_state c1.state; answer = Some OutputFull; text = 0xFFFD ∷ [] }) last x y (items ++ MalformedAt (c1.state.counts.read - b - a) a ∷ []) 0 0
replace_turn c c1 a b last x y items bad empty some pending turned =
    let s = c1.state in
    let now : Standing = record { state = s; answer = Some (Malformed a b); text = [] } in
    let next : Standing = record { state = replaced_state s; answer = Some OutputFull; text = 0xFFFD ∷ [] } in
    let p = subst (λ (z : Standing). TakesTurns c z last x y items 2 1) (standing_is c1 bad empty) turned in
    let line : List Item = MalformedAt (s.counts.read - b - a) a ∷ [] in
    let owes : (r : List ℕ) → owed now (y ++ r) ≡ line ++ owed next (y ++ r) = λ r.
    let at : s.counts.read - (a + 0 + s.decoder.pending) ≡ s.counts.read - b - a = omega (arith, p.sound.index, pending) in
    let next_at : s.counts.read - (a + 0 + s.decoder.pending) + a ≡ s.counts.read - (1 + 0 + s.decoder.pending) + 1 = omega (arith, p.sound.index, some) in
    let after : ℕ → List Item = λ n. open_items (reference_form s.policy) s.coding s.set s.counts.index (0xFFFD ∷ []) ++ trace_from (reference_form s.policy) s.coding (s.coding.set s.set 0xFFFD) n (s.counts.index + 1) (s.decoder.pieces (y ++ r)) in
    ap (λ (n : ℕ). MalformedAt n a ∷ after (s.counts.read - (a + 0 + s.decoder.pending) + a)) at ∙ ap (λ n. line ++ after n) next_at in
    record {
      counted = p.counted;
      target = p.target;
      policy = p.policy;
      sound = record { index = omega (arith, p.sound.index, some); bad = omega (arith, p.sound.bad); lost = p.sound.lost };
      lines = AreCounted-trans c.state.counts s.counts (replaced_state s).counts items line p.lines (record { bad = omega arith; lost = omega arith });
      source = p.source;
      characters = p.characters;
      owes = λ r h. p.owes r h ∙ ap (λ l. items ++ l) (owes r) ∙ sym (append_assoc items line (owed next (y ++ r)));
      verdict = λ r h. both_ways (p.verdict r h) (λ never. absurd never.1.0, λ never. absurd (false≢true never.0));
      calls = λ r h. omega (arith, p.calls r h, ap length (owes r));
      grows = p.grows;
      least_calls = λ under. omega (arith, p.least_calls under);
      advances = λ on. let f = p.advances on in record { taken = f.taken; rest_is = f.rest_is; set = f.set; index = f.index };
    }

-- ---- a pivot

pub from_start : (n : ℕ) (x : List ℕ) → take (n - 0) (drop 0 x) ≡ take n x
from_start n x = ap (λ k. take k x) (omega arith)

pub between_is : (p : Pivot) (n : ℕ) (t : List ℕ) → all_scalars t ≡ true → Holds p n t → chars_between p 0 n ≡ t
between_is (Utf8 bytes) n t h k = text_of utf8 t (take (n - 0) (drop 0 bytes.now)) h (from_start n bytes.now ∙ k.1)
between_is (Utf16 units) n t h k = text_of utf16 t (take (n - 0) (drop 0 units.now)) h (from_start n units.now ∙ k.1)

pub holds_between : (p : Pivot) (n : ℕ) → HoldsText p n → HoldsBetween p 0 n
holds_between (Utf8 bytes) n h =
    let k = spelled utf8 h.0 (take (n - 0) (drop 0 bytes.now)) h.1 (from_start n bytes.now ∙ h.2.1) in
    record { order = omega arith; within = h.2.0; scalars = k.0; whole = k.1 }
holds_between (Utf16 units) n h =
    let k = spelled utf16 h.0 (take (n - 0) (drop 0 units.now)) h.1 (from_start n units.now ∙ h.2.1) in
    record { order = omega arith; within = h.2.0; scalars = k.0; whole = k.1 }

-- ---- a call of the decoder

finishes_is : (last : Bool) (answer : DecoderResult) → finishes last answer ≡ is_last_text (Some answer) last
finishes_is true InputEmpty = refl
finishes_is false InputEmpty = refl
finishes_is _ _ = refl

pub open_after : (before after : DecoderState) (src : List ℕ) (last : Bool) (read written : ℕ) (t : List ℕ) (answer : DecoderResult) (c : Standing)
    → IsDecoded before after src last read answer t → DecodeCallEndsWith after (drop read src) last written answer → c.state.decoder ≡ after → c.state.finished ≡ finishes last answer → IsOpenFor (Some answer) c (drop read src) last
open_after before after src last read written t InputEmpty c k ends d fin =
    let nothing : last ≡ true → (c.state.decoder.pending ≡ 0) × (c.state.decoder.pieces [] ≡ []) = λ end. rw d (elim ends.1 [ inl h ↦ h | inr h ↦ absurd (false≢true (sym h.0 ∙ end)) ]) in
    (ends.0, fin ∙ finishes_is last InputEmpty, rw d (elim ends.1 [ inl h ↦ inl h | inr h ↦ inr h.1 ]), nothing)
open_after before after src last read written t OutputFull c k ends d fin = fin ∙ finishes_is last OutputFull
open_after before after src last read written t (Malformed a b) c k ends d fin =
    let size = k.malformed a b refl in
    (fin ∙ finishes_is last (Malformed a b), size.0, size.1, ap (λ (s : DecoderState). s.pending) d ∙ size.2)

-- nothing waits if there is no answer
pub none_open : (c : Standing) (src : List ℕ) (last : Bool) (a : Option DecoderResult) → a ≡ None → IsOpenFor a c src last → (c.text ≡ []) × (c.state.finished ≡ false)
none_open c src last None none h = h
none_open c src last (Some x) none h = absurd cc

pub decode_turn_from : (c : Standing) → c.answer ≡ None → c.text ≡ [] → AreCountedSoundly c → (d : DecoderState) (finished : Bool) (source : List ℕ → Encoding) (src : List ℕ) (last : Bool) (read calls : ℕ) (answer : DecoderResult) (t : List ℕ)
    → IsDecoded c.state.decoder d src last read answer t → (answer ≡ OutputFull → 0 < length t) → IsCounted 1 1 c.state.counts.calls calls → ((r : List ℕ) → (last ≡ true → r ≡ []) → c.state.source (src ++ r) ≡ source (drop read src ++ r))
    → TakesTurns c (record { state = decoded_state c.state d finished source read calls; answer = Some answer; text = t }) last src (drop read src) [] 0 0
decode_turn_from c none empty sound d finished source src last read calls answer t k some one same_source =
    let is = standing_is c none empty in
    subst (λ (z : Standing). TakesTurns z (record { state = decoded_state c.state d finished source read calls; answer = Some answer; text = t }) last src (drop read src) [] 0 0) (sym is)
    (decode_turn c.state d finished source src last read calls answer t (subst AreCountedSoundly is sound) k some one same_source)

-- ---- the text that is left in a pivot

-- the end of a stretch
tail_between : (l : List ℕ) (from to n : ℕ) (a b : List ℕ) → from ≤ to → to ≤ length l → take (to - from) (drop from l) ≡ a ++ b → length b ≡ n → take (to - (to - n)) (drop (to - n) l) ≡ b
tail_between l from to n a b order within is long =
    let y : List ℕ = drop from l in
    let total : length a + n ≡ to - from = omega (arith, ap length is, length-append a b, length-take-le (to - from) y (omega (arith, length-drop from l, order, within)), long) in
    let at : to - n ≡ from + length a = omega (arith, total, order) in
    let size : to - (from + length a) ≡ n = omega (arith, total) in
    rw (at, size, ← drop-drop (length a) from l, ← drop-take (length a) n y, total, is) (drop_at a b (length a) refl)

-- what is left of a stretch of text
left_between : {spell read : List ℕ → List ℕ} (form : IsForm spell read) (l : List ℕ) (from to : ℕ) (cp r : List ℕ) → from ≤ to → to ≤ length l → take (to - from) (drop from l) ≡ spell (read (take (to - from) (drop from l)))
    → read (take (to - from) (drop from l)) ≡ cp ++ read r → r ≡ spell (read r) → (length r ≤ to) × (take (to - (to - length r)) (drop (to - length r) l) ≡ r)
left_between {spell} {read} form l from to cp r order within whole parts rest =
    let is : take (to - from) (drop from l) ≡ spell cp ++ r = whole ∙ ap spell parts ∙ form.both cp (read r) ∙ ap (λ x. spell cp ++ x) (sym rest) in
    let few : length r ≤ to = omega (arith, ap length is, length-append (spell cp) r, length-take-le (to - from) (drop from l) (omega (arith, length-drop from l, order, within)), order) in
    (few, tail_between l from to (length r) (spell cp) r order within is refl)

-- so much of it is left
pub left_in_pivot : (p : Pivot) (from to : ℕ) (text read rest : PivotText) → HoldsBetween p from to → pivot_chars text ≡ chars_between p from to → is_in_units text ≡ is_wide p → element_count text ≡ to - from → IsWholeText text → IsCutInto text read rest
    → (element_count rest ≤ to) × (chars_between p (to - element_count rest) to ≡ pivot_chars rest) × HoldsBetween p (to - element_count rest) to
left_in_pivot (Utf8 bytes) from to (InText.Utf8 x) (InText.Utf8 read) (InText.Utf8 rest) h same form count whole cut =
    let k = left_between utf8 bytes.now from to (chars read.now) rest.now h.order h.within h.whole (sym same ∙ cut.parts) cut.rest_text.whole in
    (k.0, ap chars k.1, record { order = omega (arith, k.0); within = h.within; scalars = rw (sym k.1) at cut.rest_text.scalars; whole = rw (sym k.1) at cut.rest_text.whole })
left_in_pivot (Utf16 units) from to (InText.Utf16 x) (InText.Utf16 read) (InText.Utf16 rest) h same form count whole cut =
    let k = left_between utf16 units.now from to (utf16_lossy_chars read.now) rest.now h.order h.within h.whole (sym same ∙ cut.parts) cut.rest_text.whole in
    (k.0, ap utf16_lossy_chars k.1, record { order = omega (arith, k.0); within = h.within; scalars = rw (sym k.1) at cut.rest_text.scalars; whole = rw (sym k.1) at cut.rest_text.whole })
left_in_pivot p from to text read rest h same form count whole cut = absurd (cc (form, cut.read_form, cut.rest_form))

-- ---- a call of the encoder

-- bytes are no lines
pub items_of_bytes : (ref : Reference) (bytes : List ℕ) (c c' : Counts) (n : ℕ) (outcome : EncoderResult) → reported_item ref n outcome ≡ [] → c'.bad ≡ c.bad → c'.lost ≡ c.lost → AreCounted c c' (map Byte bytes ++ reported_item ref n outcome)
items_of_bytes ref bytes c c' n outcome none bad lost =
    rw (none, append-nil (map Byte bytes)) (omega (arith, bad_line_count-bytes bytes, lost_line_count-bytes bytes))

-- then one of a lost character
pub items_of_lost : (ref : Reference) (bytes : List ℕ) (c c' : Counts) (n m : ℕ) → c'.bad ≡ c.bad → c'.lost ≡ c.lost + 1 → AreCounted c c' (map Byte bytes ++ reported_item ref n (Unmappable m))
items_of_lost ref bytes c c' n m bad lost = record {
  bad = omega (arith, bad, bad_line_count-append (map Byte bytes) (reported_item ref n (Unmappable m)), bad_line_count-bytes bytes, bad_line_count-bytes (reference_bytes ref m));
  lost = omega (arith, lost, lost_line_count-append (map Byte bytes) (reported_item ref n (Unmappable m)), lost_line_count-bytes bytes, lost_line_count-bytes (reference_bytes ref m));
}

-- an item less is owed
pub lost_less : (ref : Reference) (a b : List Item) (bytes : List ℕ) (n m : ℕ) → a ≡ map Byte bytes ++ (reported_item ref n (Unmappable m) ++ b) → length b < length a
lost_less ref a b bytes n m e = omega (arith, ap length e, length-append (map Byte bytes) (reported_item ref n (Unmappable m) ++ b), length-append (reported_item ref n (Unmappable m)) b)

-- all is read, and the text that waits is the last
pub record IsAtEnd (a : Option DecoderResult) (c : Standing) (src : List ℕ) (is_last : Bool) : Type 0 where
  pub answer : a ≡ Some InputEmpty
  pub pending : c.state.decoder.pending ≡ 0
  pub none : c.state.decoder.pieces [] ≡ []
  pub last : is_last ≡ true
  pub read : src ≡ []

pub end_open : (a : Option DecoderResult) (c : Standing) (src : List ℕ) (last : Bool) → is_last_text a last ≡ true → IsOpenFor a c src last → IsAtEnd a c src last
end_open (Some InputEmpty) c src last e h = record { answer = refl; pending = (h.3 e).0; none = (h.3 e).1; last = e; read = h.0 }
end_open _ c src last e h = absurd (false≢true e)

-- one call of the encoder is a turn
pub encode_turn_in : (c c' : Standing) (ended last : Bool) (src : List ℕ) (items : List Item) (done : Bool) → c'.answer ≡ c.answer → c'.state ≡ record c.state { set = c'.state.set; verdict = c'.state.verdict; counts = c'.state.counts } → AreCountedSoundly c → IsOpenFor c.answer c src last
    → ended ≡ is_last_text c.answer last → EncodesOnce (target_of_state c.state) (target_of_state c'.state) ended c.text c'.text items done → TakesTurns c c' last src src items (2 * ended_count done) (ended_count done)
encode_turn_in c c' ended last src items done same is sound open_ ends once =
    let now : c' ≡ after_encoder c c'.state.set c'.state.verdict c'.state.counts c'.text = rw (sym is, sym same) refl in
    let at_end : ended ≡ true → IsAtEnd c.answer c src last = λ end. end_open c.answer c src last (sym ends ∙ end) open_ in
    subst (λ (z : Standing). TakesTurns c z last src src items (2 * ended_count done) (ended_count done)) (sym now)
    (encode_turn c c'.state.set c'.state.verdict c'.state.counts c'.text ended last src items (ended_count done) sound
    (subst (λ z. EncodesTurn (target_of_state c.state) (target_of_state z) ended c.text c'.text items (ended_count done)) is once.encodes)
    (λ end r none. let k = at_end end in rw (k.answer, k.read, none k.last) k.none) (λ end. (at_end end).last))

-- what waits is open still
pub open_still : (a : Option DecoderResult) (c c' : Standing) (src : List ℕ) (last : Bool) → IsSome a → c'.state.decoder ≡ c.state.decoder → c'.state.finished ≡ c.state.finished → IsOpenFor a c src last → IsOpenFor a c' src last
open_still None c c' src last some d f h = absurd (false≢true some)
open_still (Some InputEmpty) c c' src last some d f h = (h.0, f ∙ h.1, subst IsNearlyDecided (sym d) h.2, λ end. (ap (λ (s : DecoderState). s.pending) d ∙ (h.3 end).0, ap (λ (s : DecoderState). s.pieces []) d ∙ (h.3 end).1))
open_still (Some OutputFull) c c' src last some d f h = f ∙ h
open_still (Some (Malformed a b)) c c' src last some d f h = (f ∙ h.0, h.1, h.2, ap (λ (s : DecoderState). s.pending) d ∙ h.3)

-- the text that waits is within what was read
pub text_fits : (c : Standing) → AreCountedSoundly c → c.state.counts.index + length c.text ≤ c.state.counts.read
text_fits c h = omega (arith, h.index, waiting_size c.text (reported c.answer))

pub lost_some : (ref : Reference) (bytes : List ℕ) (n m : ℕ) → 1 ≤ lost_line_count (map Byte bytes ++ reported_item ref n (Unmappable m))
lost_some ref bytes n m = omega (arith, lost_line_count-append (map Byte bytes) (reported_item ref n (Unmappable m)))

pub offset_fits : (c : Standing) (a b : ℕ) → c.answer ≡ Some (Malformed a b) → c.state.decoder.pending ≡ b → AreCountedSoundly c → b + a ≤ c.state.counts.read
offset_fits c a b is pending sound = omega (arith, sound.index, waiting_size c.text (reported c.answer), ap (λ x. sizes (reported x)) is, pending)

-- the next text is the last if all is read and nothing comes
pub done_in : (c : Standing) (src : List ℕ) (last : Bool) (need : ℕ) → IsCoding need c.state.coding → c.answer ≡ Some InputEmpty → c.text ≡ [] → IsOpenFor (Some InputEmpty) c src last → AreCountedSoundly c
    → (last ≡ true → c.state.set ≡ Ascii) → (last ≡ false → CanTell c.state.verdict c.state.coding c.state.set []) → (last ≡ true → IsToldAtEnd c.state.verdict) → IsDoneWith c.state last
done_in c src last need law is empty open_ sound closed tells told =
    let s = c.state in
    let sound' = subst AreCountedSoundly (standing_is c is empty) sound in
    record {
      settled = open_.2;
      ready = λ on. record { open_ = open_.1 ∙ on; sound = omega (arith, sound'.index, sound'.bad, sound'.lost); tells = tells on };
      end = λ end. none_owed (reference_form s.policy) s.decoder s.coding s.set s.counts law (closed end) (open_.3 end).1;
      counted = λ end. omega (arith, ap (λ ps. length (text ps)) (open_.3 end).1);
      told = λ end. verdict_told (reference_form s.policy) s.coding need law s.verdict s.set (s.decoder.pieces []) (open_.3 end).1 (closed end) (told end);
    }

-- ---- a turn

-- What a call of the encoder is after one of the decoder: a turn, after which what waits is open still.
pub record Encoded (c0 c2 : Standing) (last ended : Bool) (x y : List ℕ) (items : List Item) (all : Bool) : Type 0 where
  pub turned : TakesTurns c0 c2 last x y items (2 * ended_count all) (ended_count all)
  pub open_ : IsOpenFor c2.answer c2 y last
  pub limit : c2.state.counts.read + length y ≤ 2 ^ 48
  pub goes_on : CanTell c2.state.verdict c2.state.coding c2.state.set c2.text → CanGoOn c2 y last
  pub more : all ≡ false → CanTell c2.state.verdict c2.state.coding c2.state.set c2.text
  pub done : all ≡ true → (c2.text ≡ []) × IsEncoded (target_of_state c2.state) ended

pub encoded : {D E : Type 0} (view : D → DecoderView) (parts : E → EncoderParts) (p : Policy) (e0 e1 e2 : Engine D E) (p0 p1 : Pivot) (last ended : Bool) (x y : List ℕ)
    → TakesTurns (standing view parts p e0 p0) (standing view parts p e1 p1) last x y [] 0 0 → CanGoOn (standing view parts Policy.Decimal e1 p1) y last → IsSome e1.answer → ended ≡ is_last_text e1.answer last
    → e2.answer ≡ e1.answer → e2.decoder ≡ e1.decoder → {items : List Item} {done : Bool}
    → EncodesOnce (engine_target view parts p e1) (engine_target view parts p e2) ended (chars_between p1 e1.from e1.to) (chars_between p1 e2.from e2.to) items done → Encoded (standing view parts p e0 p0) (standing view parts p e2 p1) last ended x y items done
encoded view parts p e0 e1 e2 p0 p1 last ended x y law next some is_end answer decoder once =
    let c1 = standing view parts p e1 p1 in
    let c2 = standing view parts p e2 p1 in
    let open_ = open_still e1.answer (standing view parts Policy.Decimal e1 p1) c1 y last some refl refl next.open_ in
    let still = subst (λ a. IsOpenFor a c2 y last) (sym answer) (open_still e1.answer c1 c2 y last some (ap (λ d. (view d).state) decoder) (ap (λ d. (view d).finished) decoder) open_) in
    let turn = encode_turn_in c1 c2 ended last y _ _ answer (rw (decoder, once.encodes.target) refl) law.sound open_ is_end once in
    let limit : c2.state.counts.read + length y ≤ 2 ^ 48 = omega (arith, next.limit, once.encodes.read) in
    record { turned = turns_more _ _ (omega arith) (omega arith) law turn; open_ = still; limit = limit; goes_on = λ tells. record { sound = turn.sound; limit = limit; tells = tells; open_ = still }; more = once.more; done = once.done }

-- ---- what is written into the part of a slice

pub items_into : (w k n : ℕ) (xs ys : List ℕ) (more : List Item) → w ≤ length xs → n ≤ length ys → map Byte (take w xs) ++ (map Byte (take n ys) ++ more) ≡ map Byte (take (w + n) (put_mid w k xs ys)) ++ more
items_into w k n xs ys more within fits =
    sym (append_assoc (map Byte (take w xs)) (map Byte (take n ys)) more)
    ∙ ap (λ l. l ++ more) (sym (map-append (λ b. Byte b) (take w xs) (take n ys)) ∙ ap (map Byte) (sym (take_into w k n xs ys within fits)))

pub wrote_into : (old xs ys : List ℕ) (w k n : ℕ) → k ≡ length xs - w → length ys ≡ k → WritesBytes old xs w → WritesBytes (take k (drop w xs)) ys n → WritesBytes old (put_mid w k xs ys) (w + n)
wrote_into old xs ys w k n size long p q = record {
  room = omega (arith, p.room, q.room, length-append (take w xs) (ys ++ post_of w k xs), length-append ys (post_of w k xs), length-take-le w xs p.room);
  behind = drop_into w k n xs ys p.room size q.room q.behind ∙ sym (drop-drop n w xs) ∙ ap (drop n) p.behind ∙ drop-drop n w old;
}

-- the bytes that are held last
pub last_is : (buffer room : List ℕ) (n m : ℕ) → n ≤ length buffer → m ≤ length room → take m (drop ((n + m) - m) (put_mid n (length buffer - n) buffer room)) ≡ take m room
last_is buffer room n m within fits =
    let after = put_mid n (length buffer - n) buffer room in
    ap (λ k. take m (drop k after)) (omega arith) ∙ sym (drop-take n m after) ∙ ap (drop n) (take_into n (length buffer - n) m buffer room within fits) ∙ drop_at (take n buffer) (take m room) n (length-take-le n buffer within)

pub size_into : (xs ys : List ℕ) (w k : ℕ) → w ≤ length xs → k ≡ length xs - w → length ys ≡ k → length (put_mid w k xs ys) ≡ length xs
size_into xs ys w k within size long =
    omega (arith, within, size, long, length-append (take w xs) (ys ++ post_of w k xs), length-append ys (post_of w k xs), length-take-le w xs within, length-drop k (drop w xs), length-drop w xs)

pub free_into : (xs ys : List ℕ) (w k n : ℕ) → w ≤ length xs → k ≡ length xs - w → length ys ≡ k → length ys - n ≡ length (put_mid w k xs ys) - (w + n)
free_into xs ys w k n within size long = omega (arith, within, size, long, size_into xs ys w k within size long)
