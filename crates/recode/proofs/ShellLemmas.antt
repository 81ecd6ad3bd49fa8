-- What the loop that calls the writers makes of the engine's calls, and what the calls of a converter are.
use Rattle.std.proofs.Common.{◌≡◌, ℕ, ◌+◌, ◌-◌, ◌≤◌, ◌^◌, Bool, true, List, [], ◌++◌, map, length, length-append, ◌<◌, Option, None, Result, Ok, Err, OnOk, IfErr, refl, sym, ◌∙◌, ap, subst, arith, append-nil, append_assoc, false, Some, inl, rules}
use Rattle.std.proofs.lemmas.Str.{chars-nil}
use Rattle.std.specs.Str.{all_scalars, encode_utf8_all}
use Rattle.encoding_mem.proofs.Utf16Lemmas.{no_units}
use Rattle.encoding_mem.specs.Items.{Byte, Item, trace_from}
use Rattle.encoding_mem.specs.calls.Writing.{encode_utf16_all}
use Rattle.encoding_mem.specs.declared.codec.reference.Reference.{Reference}
use Rattle.recode_log.specs.declared.line.LogLine.{LogLine}
use Rattle.recode_log.specs.declared.line.LogLine.TheVariants.{Bad, Lost}
use Rattle.recode.specs.Converter.{found_items, ConverterView, ConvertsPart, ConverterEndsWith, is_all_converted, owed_after, saved_job}
use Rattle.recode.specs.Policy.{reference_form}
use Rattle.recode.specs.State.{State, to_write}
use Rattle.recode.specs.TaggedByte.{tagged}
use Rattle.recode.specs.Devices.{Wrote}
use Rattle.recode.specs.WrittenItems.{IsLeft, IsSpared, WritesPrefixFor}
use Rattle.recode.specs.calls.Chunk.{CanConvert, ConvertsChunk, IsDoneWith}
use Rattle.recode.specs.calls.EngineView.{HoldsBetween, chars_between, over_text, standing, pivot_bytes}
use Rattle.recode.specs.calls.Held.{LeavesPrefixFor, Passes, WritersView, held_items}
use Rattle.recode.specs.calls.TraceToWrite.{AreSound}
use Rattle.recode.specs.calls.Turns.{AreCountedSoundly, CanGoOn, Standing, TakesTurns, owed, ConvertEndsWith, IsBetweenCalls, IsOpenFor, is_last_text, reported, settled, pieces_of_text, waiting}
use Rattle.recode.specs.calls.Writers.{AreReady, CountsWriterFault, HandsOnUnder, HoldNothing, Writers, writers_view, written_by}
use Rattle.recode.specs.declared.converter.ConverterResult.TheVariants.{Found, InputEmpty}
use Rattle.recode.specs.declared.job.Fault.{Fault}
use Rattle.recode.specs.declared.job.Pivot.{Pivot}
use Rattle.recode.specs.declared.job.Pivot.TheVariants.{Utf8, Utf16}
use Rattle.recode.specs.declared.job.Policy.{Policy}
use Rattle.recode.specs.laws.Items.{lost_line_count-bytes, spared_append, spared_nil}
use Rattle.recode.proofs.WriterLemmas.{err_map, hands_start, hands_then, left_for_of, view_none}
use Rattle.recode.proofs.TurnLemmas.{nothing_waits, standing_is, turns_more, turns_start, end_open, none_open}
use Rattle.std.proofs.Math.Bool.{and-false, and-true}
use Rattle.std.proofs.lemmas.Bool.{false_from_ne_true, true_from_ne_false}
use Rattle.std.proofs.lemmas.List.{nil_from_length}
use Rattle.std.specs.Prelude.{◌&&◌}
use Rattle.encoding_mem.specs.Piece.{Piece, sizes}
use Rattle.encoding_mem.specs.declared.codec.decoder_result.DecoderResult.{DecoderResult}
use Rattle.encoding_mem.specs.declared.codec.decoder_result.DecoderResult.TheVariants as decoded
use Rattle.encoding_front.specs.calls.Stream.{DecoderView}
use Rattle.encoding_mem.specs.calls.EncoderRule.{EncoderParts}
use Rattle.recode.specs.declared.engine.Engine.{Engine}
use Rattle.recode.specs.calls.Buffers.{is_wide}
use Rattle.recode.specs.declared.converter.ConverterResult.{ConverterResult}
use Rattle.recode.specs.declared.job.Job.{Job}
use Rattle.recode.specs.calls.Verdict.{CanTell}

-- What was passed so far, and what turns it was.
pub record Pumps {R W L : Type 0} (contents : W → Option (List ℕ)) (logged : L → Option (List ℕ)) (p : Policy) (before after : Writers R W L) (c c' : Standing) (last : Bool) (bytes rest : List ℕ) (most least : ℕ) : Type 0 where
  pub items : List Item
  pub hands : HandsOnUnder {T = Unit {0}} p contents logged before after items (Ok tt)
  pub spared : IsSpared p items
  pub turns : TakesTurns c c' last bytes rest items most least

-- what is owed if nothing waits
owed_none : (s : State) (r : List ℕ) → owed (nothing_waits s) r ≡ to_write s r
owed_none s r = ap (λ (n : ℕ). trace_from (reference_form s.policy) s.coding s.set (s.counts.read - n) s.counts.index (s.decoder.pieces r)) (omega arith)

owed_first : (c : Standing) (r : List ℕ) → c.answer ≡ None → c.text ≡ [] → owed c r ≡ to_write c.state r
owed_first c r none empty = ap (λ (z : Standing). owed z r) (standing_is c none empty) ∙ owed_none c.state r

pub spared_only : (p : Policy) (bytes : List ℕ) → IsSpared p (map Byte bytes)
spared_only p bytes = λ stops. lost_line_count-bytes bytes

-- under this policy alone
pub only_under : {p : Policy} (items : List Item) → IsSpared p items → (q : Policy) → q ≡ p → IsSpared q items
only_under items h q is = subst (λ (z : Policy). IsSpared z items) (sym is) h

module _ {R W L : Type 0} {contents : W → Option (List ℕ)} {logged : L → Option (List ℕ)} {p : Policy} {w0 : Writers R W L} {c0 : Standing} {last : Bool} {x : List ℕ} where
  pub pumps_start : AreReady w0 → AreCountedSoundly c0 → Pumps contents logged p w0 w0 c0 c0 last x x 0 0
  pumps_start ready sound = record { items = []; hands = hands_start ready; spared = spared_nil p; turns = turns_start c0 last x sound }

  -- what is held was written
  pub pumps_held : {w1 w2 : Writers R W L} {c1 : Standing} {y : List ℕ} {m l : ℕ} → Pumps contents logged p w0 w1 c0 c1 last x y m l → HandsOnUnder {T = Unit {0}} p contents logged w1 w2 [] (Ok tt) → Pumps contents logged p w0 w2 c0 c1 last x y m l
  pumps_held {w1} {w2} {c1} {y} {m} {l} h k = record {
    items = h.items;
    hands = subst (λ t. HandsOnUnder {T = Unit {0}} p contents logged w0 w2 t (Ok tt)) (append-nil h.items) (hands_then (only_under h.items h.spared) h.hands k);
    spared = h.spared;
    turns = h.turns;
  }

  -- a call of the engine, and what was passed for it
  pub pumps_more : {w1 w2 : Writers R W L} {c1 c2 : Standing} {y z : List ℕ} {items : List Item} {m l : ℕ} → Pumps contents logged p w0 w1 c0 c1 last x y 0 0 → HandsOnUnder {T = Unit {0}} p contents logged w1 w2 items (Ok tt)
      → IsSpared p items → TakesTurns c1 c2 last y z items m l → Pumps contents logged p w0 w2 c0 c2 last x z m l
  pumps_more {w1} {w2} {c1} {c2} {y} {z} {items} {m} {l} h k spared t =
      record { items = h.items ++ items; hands = hands_then (only_under h.items h.spared) h.hands k; spared = spared_append p h.items items h.spared spared; turns = turns_more m l (omega arith) (omega arith) h.turns t }

  -- a call of the engine that found nothing, and the bytes that were passed for it
  pub pumps_bytes : {w1 w2 : Writers R W L} {c1 c2 : Standing} {y z : List ℕ} {m l : ℕ} (bytes : List ℕ) → Pumps contents logged p w0 w1 c0 c1 last x y 0 0 → HandsOnUnder {T = Unit {0}} p contents logged w1 w2 (map Byte bytes) (Ok tt)
      → TakesTurns c1 c2 last y z (map Byte bytes ++ []) m l → Pumps contents logged p w0 w2 c0 c2 last x z m l
  pumps_bytes {w1} {w2} bytes h k t =
      pumps_more h (subst (λ items. HandsOnUnder {T = Unit {0}} p contents logged w1 w2 items (Ok tt)) (sym (append-nil (map Byte bytes))) k)
      (spared_append p (map Byte bytes) [] (spared_only p bytes) (spared_nil p)) t

  -- a writer may fail after it: what was taken is a prefix of what was owed at the start
  pub pumps_owed : {T : Type 0} {w1 w2 : Writers R W L} {c1 : Standing} {y : List ℕ} {items : List Item} {m l : ℕ} {r : Result T Fault} → (owes : List ℕ → List Item) → Pumps contents logged p w0 w1 c0 c1 last x y m l → HandsOnUnder p contents logged w1 w2 items r
      → c0.answer ≡ None → c0.text ≡ [] → HoldNothing w0 → ((r : List ℕ) → (last ≡ true → r ≡ []) → owed c1 (y ++ r) ≡ items ++ owes r)
      → IfErr r (λ (f : Fault). WritesPrefixFor (written_by w0) (written_by w2) p f last (λ r. to_write c0.state (x ++ r)))
  pumps_owed {T} {w1} {w2} {c1} {y} {items} {m} {l} {r} owes h k none empty nothing owed_is = err_map r ((hands_then (only_under h.items h.spared) h.hands k).err p refl) (λ f q.
      let left : LeavesPrefixFor (writers_view w0) (writers_view w2) p f last (λ r. owed c0 (x ++ r)) =
      left_for_of (writers_view w0) (writers_view w2) p f last ((h.items ++ items) ++ []) (λ r. owed c0 (x ++ r)) (q [])
      (λ r end. (owes r, h.turns.owes r end ∙ ap (λ t. h.items ++ t) (owed_is r end) ∙ sym (append_assoc h.items items (owes r)) ∙ ap (λ t. t ++ owes r) (sym (append-nil (h.items ++ items))))) in
      let from : WritesPrefixFor (written_by w0) (written_by w2) p f last (λ r. owed c0 (x ++ r)) =
      subst (λ (v : WritersView). LeavesPrefixFor v (writers_view w2) p f last (λ r. owed c0 (x ++ r))) (view_none w0 nothing) left in
      record { taken = from.taken; wrote = from.wrote; left = λ r end. subst (λ t. IsLeft p f from.taken t) (owed_first c0 (x ++ r) none empty) (from.left r end) })

  pub pumps_under : {T : Type 0} {w1 w2 : Writers R W L} {c1 c2 : Standing} {y z : List ℕ} {items : List Item} {m l m' l' : ℕ} {r : Result T Fault} → Pumps contents logged p w0 w1 c0 c1 last x y m l → HandsOnUnder p contents logged w1 w2 (items ++ []) r
      → TakesTurns c1 c2 last y z items m' l' → c0.answer ≡ None → c0.text ≡ [] → HoldNothing w0
      → IfErr r (λ (f : Fault). WritesPrefixFor (written_by w0) (written_by w2) p f last (λ r. to_write c0.state (x ++ r)))
  pumps_under {T} {w1} {w2} {c1} {c2} {y} {z} {items} h k t none empty nothing =
      pumps_owed (λ r. owed c2 (z ++ r)) h k none empty nothing (λ r end. t.owes r end ∙ ap (λ q. q ++ owed c2 (z ++ r)) (sym (append-nil items)))

  -- and the counts are those of all that was handed on
  pub pumps_counts : {T : Type 0} {w1 w2 : Writers R W L} {c1 : Standing} {y : List ℕ} {items : List Item} {m l : ℕ} {r : Result T Fault} → Pumps contents logged p w0 w1 c0 c1 last x y m l → HandsOnUnder p contents logged w1 w2 items r → CountsWriterFault w0 w2 r
  pumps_counts h k = (hands_then (only_under h.items h.spared) h.hands k).failures

  -- or while what is held is delivered
  pub pumps_stuck : {T : Type 0} {w1 w2 : Writers R W L} {c1 : Standing} {y : List ℕ} {m l : ℕ} {r : Result T Fault} → Pumps contents logged p w0 w1 c0 c1 last x y m l → HandsOnUnder p contents logged w1 w2 [] r → c0.answer ≡ None → c0.text ≡ [] → HoldNothing w0
      → IfErr r (λ (f : Fault). WritesPrefixFor (written_by w0) (written_by w2) p f last (λ r. to_write c0.state (x ++ r)))
  pumps_stuck {T} {w1} {w2} {c1} {y} h k none empty nothing = pumps_owed (λ r. owed c1 (y ++ r)) h k none empty nothing (λ r end. refl)

  -- all of a chunk was converted, and what is held is delivered
  pub pumps_done : {T : Type 0} {w1 w2 : Writers R W L} {c1 : Standing} {r : Result T Fault} → c0.answer ≡ None → c0.text ≡ [] → c1.answer ≡ None → c1.text ≡ [] → c0.state.policy ≡ p → HoldNothing w0 → IsDoneWith c1.state last
      → Pumps contents logged p w0 w1 c0 c1 last x [] 3 2 → HandsOnUnder p contents logged w1 w2 [] r → OnOk r (HoldNothing w2) → OnOk r (ConvertsChunk (written_by w0) (written_by w2) c0.state c1.state x last)
  pumps_done {r = Err f} none empty none' empty' is nothing done h k after = tt
  pumps_done {T} {w1} {w2} {c1} {r = Ok u} none empty none' empty' is nothing done h k after =
      let t : TakesTurns (nothing_waits c0.state) (nothing_waits c1.state) last x [] h.items 3 2 =
      subst (λ (a : Standing). TakesTurns a (nothing_waits c1.state) last x [] h.items 3 2) (standing_is c0 none empty)
      (subst (λ (a : Standing). TakesTurns c0 a last x [] h.items 3 2) (standing_is c1 none' empty') h.turns) in
      let passes : Passes (writers_view w0) (writers_view w2) (h.items ++ []) = (hands_then (only_under h.items h.spared) h.hands k).ok in
      let all : h.items ≡ passes.delivered =
      sym (append-nil h.items) ∙ ap (λ (v : WritersView). held_items v ++ (h.items ++ [])) (sym (view_none w0 nothing)) ∙ passes.in_order
      ∙ ap (λ (v : WritersView). passes.delivered ++ held_items v) (view_none w2 after) ∙ append-nil passes.delivered in
      record {
        counted = omega (arith, t.counted);
        target = t.target;
        policy = t.policy;
        sound = record { index = omega (arith, t.sound.index); bad = omega (arith, t.sound.bad); lost = t.sound.lost };
        source = t.source;
        characters = t.characters;
        pays = record {
          written_items = h.items;
          wrote = subst (λ items. Wrote (written_by w0) (written_by w2) (tagged items)) (sym all) passes.wrote;
          counted = t.lines;
          spared = λ stops. h.spared (sym is ∙ stops);
          equals = λ r end. sym (owed_none c0.state (x ++ r)) ∙ t.owes r end ∙ ap (λ q. h.items ++ q) (owed_none c1.state r);
        };
        verdict = t.verdict;
        calls = λ r end. omega (arith, t.calls r end, ap length (owed_none c0.state (x ++ r)), ap length (owed_none c1.state r));
        least = λ under. omega (arith, t.least_calls under, t.lines.bad);
        advances = λ on. let a = t.advances on in record { taken = a.taken; rest = a.rest_is; set = a.set; index = omega (arith, a.index) };
        done = done;
      }

pub ok_of : {T E A : Type 0} (r : Result T E) → A → OnOk r A
ok_of (Ok x) k = k
ok_of (Err e) k = tt

-- fewer items are owed
pub smaller_by : {c1 c2 : Standing} {last : Bool} {y z : List ℕ} {items : List Item} {m l : ℕ} → TakesTurns c1 c2 last y z items m l → 0 < length items → length (owed c2 z) < length (owed c1 y)
smaller_by {c1} {c2} {last} {y} {z} {items} t some =
    let is : owed c1 y ≡ items ++ owed c2 z = rw (append-nil y, append-nil z) at (t.owes [] (λ _. refl)) in
    omega (arith, ap length is, length-append items (owed c2 z))

pub between_none : (p : Pivot) → chars_between p 0 0 ≡ []
between_none (Utf8 bytes) = chars-nil
between_none (Utf16 units) = no_units [] refl

pub holds_none : (p : Pivot) → HoldsBetween p 0 0
holds_none (Utf8 bytes) = record { order = omega arith; within = omega arith; scalars = ap all_scalars chars-nil; whole = sym (ap encode_utf8_all chars-nil) }
holds_none (Utf16 units) = record { order = omega arith; within = omega arith; scalars = ap all_scalars (no_units [] refl); whole = sym (ap encode_utf16_all (no_units [] refl)) }

pub sound_start : (c : Standing) → c.answer ≡ None → c.text ≡ [] → AreSound c.state.decoder.pending c.state.counts → AreCountedSoundly c
sound_start c none empty h = subst AreCountedSoundly (sym (standing_is c none empty)) (record { index = omega (arith, h.index); bad = omega (arith, h.bad); lost = h.lost })

pub ready_start : (c : Standing) (src : List ℕ) (last : Bool) → c.answer ≡ None → c.text ≡ [] → c.state.counts.read + length src ≤ 2 ^ 48 → CanConvert c.state → CanGoOn c src last
ready_start c src last none empty limit h = subst (λ (z : Standing). CanGoOn z src last) (sym (standing_is c none empty)) (search (rules, arith))

pub found_some : (ref : Reference) (bytes : List ℕ) (line : LogLine) → 0 < length (map Byte bytes ++ found_items ref (Found line))
found_some ref bytes (Bad offset size) = omega (arith, length-append (map Byte bytes) (found_items ref (Found (Bad offset size))))
found_some ref bytes (Lost index scalar) = omega (arith, length-append (map Byte bytes) (found_items ref (Found (Lost index scalar))))

-- ---- the text that waits, in a pivot and out of it

pub holds_kept : (p : Pivot) (text : List ℕ) (from to : ℕ) → is_wide p ≡ false → text ≡ pivot_bytes p → HoldsBetween p from to → HoldsBetween (over_text text) from to
holds_kept (Utf8 bytes) text from to form same h = subst (λ t. HoldsBetween (over_text t) from to) (sym same) (record { order = h.order; within = h.within; scalars = h.scalars; whole = h.whole })
holds_kept (Utf16 units) text from to form same h = absurd (cc)

-- ---- a converter by its standing

-- a converter whose engine stands so
abbrev pub view_at : Job → Standing → (ended over : Bool) → ConverterView
view_at j c ended over = record { job = saved_job j; lists = j.tables.now; state = c.state; waiting = waiting c; ended = ended; over = over }

-- ---- when a call can be made

open_from : (a : Option DecoderResult) (c : Standing) (ended : Bool) (src : List ℕ) (last : Bool) → c.answer ≡ a → IsBetweenCalls c ended → (ended ≡ true → (src ≡ []) × (last ≡ true)) → IsOpenFor a c src last
open_from None c ended src last is h with_end = (h.none is, h.finished ∙ false_from_ne_true ended (λ e. absurd (cc (sym is ∙ (h.end e).0))))
open_from (Some decoded.OutputFull) c ended src last is h with_end = h.finished ∙ false_from_ne_true ended (λ e. absurd (cc (sym is ∙ (h.end e).0)))
open_from (Some (decoded.Malformed a b)) c ended src last is h with_end =
    let size = h.malformed a b is in
    (h.finished ∙ false_from_ne_true ended (λ e. absurd (cc (sym is ∙ (h.end e).0))), size.0, size.1, size.2)
open_from (Some decoded.InputEmpty) c ended src last is h with_end =
    let end : ended ≡ true = true_from_ne_false ended (λ e. absurd (cc (sym (ap (λ x. is_last_text x true) is) ∙ h.more e))) in
    let none = nil_from_length (c.state.decoder.pieces []) (h.end end).2 in
    ((with_end end).0, h.finished ∙ end ∙ sym (with_end end).1, inl ((h.end end).1, none), λ _. ((h.end end).1, none))

pub can_go_on : (c : Standing) (ended : Bool) (src : List ℕ) (last : Bool) → IsBetweenCalls c ended → (ended ≡ true → (src ≡ []) × (last ≡ true)) → c.state.counts.read + length src ≤ 2 ^ 48 → CanGoOn c src last
can_go_on c ended src last h with_end limit = search (rules, open_from c.answer c ended src last refl h with_end)

-- ---- what is left by a call

-- what a settled answer says of the one before
record IsSettled (a b : Option DecoderResult) (last : Bool) : Type 0 where
  pub reported : reported b ≡ reported a
  pub none : b ≡ None → a ≡ None
  pub malformed : (m n : ℕ) → b ≡ Some (decoded.Malformed m n) → a ≡ Some (decoded.Malformed m n)
  pub more : is_last_text a last ≡ false → is_last_text b true ≡ false
  pub end : is_last_text a last ≡ true → b ≡ Some decoded.InputEmpty

settles : (a : Option DecoderResult) (last : Bool) → IsSettled a (settled a last) last
settles (Some decoded.InputEmpty) true = search rules
settles (Some (decoded.Malformed a b)) last = search rules
settles _ _ = search rules

-- an engine after a call
abbrev pub after_call : Standing → Bool → Standing
after_call c last = record { state = c.state; answer = settled c.answer last; text = c.text }

pub view_after : (j : Job) (c : Standing) (last e o : Bool) → view_at j (after_call c last) e o ≡ view_at j c e o
view_after j c last e o = ap (λ (ps : List Piece). record { job = saved_job j; lists = j.tables.now; state = c.state; waiting = pieces_of_text c.text ++ ps; ended = e; over = o }) (settles c.answer last).reported

-- what a call may go on with
finished_open : (o : Option DecoderResult) (c : Standing) (x : List ℕ) (last : Bool) → IsOpenFor o c x last → c.state.finished ≡ is_last_text o last
finished_open (Some decoded.OutputFull) c x last h = h
finished_open (Some (decoded.Malformed a b)) c x last h = h.0
finished_open _ c x last h = h.1

pub rests_after : (c : Standing) (x : List ℕ) (last : Bool) → CanGoOn c x last → IsBetweenCalls (after_call c last) (is_last_text c.answer last)
rests_after c x last h =
    let k = settles c.answer last in
    let sound = h.sound in
    record {
      sound = record { index = omega (arith, sound.index, ap (λ ps. sizes (pieces_of_text c.text ++ ps)) k.reported); bad = sound.bad; lost = sound.lost };
      tells = h.tells;
      finished = finished_open c.answer c x last h.open_;
      none = λ e. (none_open c x last c.answer (k.none e) h.open_).0;
      malformed = λ a b e. let o = rw (k.malformed a b e) at h.open_ in (o.1, o.2, o.3);
      end = λ e. let is = end_open c.answer c x last e h.open_ in (k.end e, is.pending, ap length is.none);
      more = k.more;
    }

-- ---- how a call ends

pub ended_with : (c : Standing) (x : List ℕ) (last : Bool) (free : ℕ) (result : ConverterResult) → ConvertEndsWith c x last free result → is_last_text c.answer last ≡ true → (last ≡ true) × (x ≡ [])
ended_with c x last free InputEmpty h e = absurd (cc (sym e ∙ ap (λ a. is_last_text a last) h.1))
ended_with c x last free _ h e = let end = end_open c.answer c x last e h.1.open_ in (end.last, end.read)

-- the law of a converter's call, by that of its engine
pub part_of : (j : Job) (c c' : Standing) (e o e' o' last : Bool) (bytes rest : List ℕ) (items : List Item) (m l free : ℕ) (result : ConverterResult) → TakesTurns c c' last bytes rest items m l → ConvertEndsWith c' rest last free result → e' ≡ is_last_text c'.answer last
    → ConvertsPart (view_at j c e o) (view_at j (after_call c' last) e' o') last bytes rest items
part_of j c c' e o e' o' last bytes rest items m l free result t ends is = rw (view_after j c' last e' o') (search (rules, ended_with))

none_waits : (c : Standing) → c.answer ≡ None → c.text ≡ [] → waiting c ≡ []
none_waits c none empty = rw (none, empty) refl

none_owed : (s : State) → to_write s [] ≡ [] → owed_after [] s [] ≡ []
none_owed s h = ap (λ (n : ℕ). trace_from (reference_form s.policy) s.coding s.set (s.counts.read - n) s.counts.index (s.decoder.pieces [])) (omega arith) ∙ h

ends_in : (j : Job) (c : Standing) (x : List ℕ) (last : Bool) (free : ℕ) (result : ConverterResult) → ConvertEndsWith c x last free result → ConverterEndsWith (view_at j c (is_last_text c.answer last) (last && is_all_converted result)) x last free result
ends_in j c x last free InputEmpty h = record {
  all = h.0;
  none = none_waits c h.1 h.2;
  settled = h.3.settled;
  over = and-true last;
  ended = ap (λ a. is_last_text a last) h.1;
  whole = λ e. record {
    written = rw (none_waits c h.1 h.2) (none_owed c.state (h.3.end e));
    counted = rw (none_waits c h.1 h.2) (h.3.counted e);
    told = rw (none_waits c h.1 h.2) (h.3.told e);
  };
}
ends_in j c x last free _ h = (h.0, and-false last)

pub ends_of : (j : Job) (c : Standing) (x : List ℕ) (last : Bool) (free : ℕ) (result : ConverterResult) (e o : Bool) → ConvertEndsWith c x last free result → e ≡ is_last_text c.answer last → o ≡ (last && is_all_converted result)
    → ConverterEndsWith (view_at j (after_call c last) e o) x last free result
ends_of j c x last free result e o h is all =
    rw (view_after j c last e o, is, all) (ends_in j c x last free result h)

goes_on : (c : Standing) (x : List ℕ) (last : Bool) (free : ℕ) (result : ConverterResult) → c.state.counts.read ≤ 2 ^ 48 → ConvertEndsWith c x last free result → (last && is_all_converted result) ≡ false → CanGoOn c x last
goes_on c x last free InputEmpty within h open_ = ready_start c x last h.1 h.2 (omega (arith, within, ap length h.0)) (h.3.ready (sym (and-true last) ∙ open_))
goes_on c x last free _ within h open_ = h.1

-- a converter rests after a call that did not end it
pub rests_of : (c : Standing) (x : List ℕ) (last : Bool) (free : ℕ) (result : ConverterResult) (e o : Bool) → c.state.counts.read ≤ 2 ^ 48 → ConvertEndsWith c x last free result → e ≡ is_last_text c.answer last → o ≡ (last && is_all_converted result) → o ≡ false
    → IsBetweenCalls (after_call c last) e
rests_of c x last free result e o within h is all open_ = rw is (rests_after c x last (goes_on c x last free result within h (sym all ∙ open_)))

-- ---- the standing of an engine over the text that was kept
pub standing_kept : {D E : Type 0} (view : D → DecoderView) (parts : E → EncoderParts) (p : Policy) (e : Engine D E) (pivot : Pivot) (text : List ℕ) → is_wide pivot ≡ false → text ≡ pivot_bytes pivot
    → standing view parts p e pivot ≡ standing view parts p e (over_text text)
standing_kept view parts p e (Utf8 bytes) text form same = ap (λ t. standing view parts p e (over_text t)) (sym same)
standing_kept view parts p e (Utf16 units) text form same = absurd (cc)

-- an engine of which nothing is read
pub new_rests : (c : Standing) → c.answer ≡ None → c.text ≡ [] → CanConvert c.state → IsBetweenCalls c false
new_rests c none empty h =
    let tells : CanTell c.state.verdict c.state.coding c.state.set c.text = rw empty h.tells in
    search (rules, sound_start, tells)

-- no text stands between a place and itself
pub none_between : (p : Pivot) (from to : ℕ) → from ≡ 0 → to ≡ 0 → (chars_between p from to ≡ []) × HoldsBetween p from to
none_between p from to is ends = rw (is, ends) (between_none p, holds_none p)
