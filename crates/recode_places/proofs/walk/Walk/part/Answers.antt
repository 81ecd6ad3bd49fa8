use Rattle.std.proofs.Common.{◌∙◌, ◌+◌, ◌++◌, drop, arith, refl, sym, length, ap}
use Rattle.encoding_front.specs.calls.DecoderViews.{decoder_view}
use Rattle.encoding_front.specs.calls.Stream.{is_input_empty}
use Rattle.recode_places.specs.calls.FatesViews.{asked_by}
use Rattle.recode_places.specs.calls.Walks.{walk_state}
use Rattle.std.proofs.lemmas.Bool.{false≢true}
use Rattle.std.proofs.lemmas.List.{length-take}
use Rattle.recode_places.proofs.CallLemmas.{call_chars, call_is_utf8, few_chars, on_err, reported}
use Rattle.recode_places.proofs.AheadLemmas.{ahead_done, ahead_malformed, ahead_passed, ahead_text, offset_after, some_bytes, tells_done, tells_malformed}
use Rattle.recode_places.proofs.EntryLemmas.{rises_err, rising_then}
use Rattle.recode_places.proofs.FitsLemmas.{match_err}
use Rattle.recode_places.proofs.FatedLemmas.{fated_then}
use Rattle.recode_places.proofs.ReadsLemmas.{lines_then}
use Rattle.recode_places.proofs.WalkLemmas.{end_none, fewer_left, finishes_last, finishes_not, some_malformed, some_written, malformed_stops, malformed_within, text_stops, walks_malformed, walks_text}
use Rattle.recode_places.proofs.walk.Walk.part.Goals as goal

pub from_utf8_unchecked-text-requires : goal.from_utf8_unchecked-text-requires
from_utf8_unchecked-text-requires g c =
    let call = c.decode_to_utf8_without_replacement-outcome in
    call_is_utf8 (decoder_view c.args.self.now.decoder).state (decoder_view call.new.self).state _ _ _ _ _ _ _ call.ensures.call.law

pub returns-in_err-tell_text-clause-err : goal.returns-in_err-tell_text-clause-err
returns-in_err-tell_text-clause-err g c =
    let call = c.decode_to_utf8_without_replacement-outcome in
    on_err _ _ (text_stops _ _ (walk_state c.args.self.now) c.args.self.now.place (decoder_view call.new.self).state _ _ _ _ _ call.ensures.call.law _
    (call_chars (decoder_view c.args.self.now.decoder).state (decoder_view call.new.self).state _ _ _ _ _ _ _ call.ensures.call.law _ c.from_utf8_unchecked-text.ensures)
    c.in_err-tell_text.ensures.told)

pub overflow_sub-offset-in-Malformed : goal.overflow_sub-offset-in-Malformed
overflow_sub-offset-in-Malformed g c =
    let call = c.decode_to_utf8_without_replacement-outcome in
    omega (arith, c.from.ensures, c.from-in-Malformed.ensures, malformed_within (decoder_view c.args.self.now.decoder).state (decoder_view call.new.self).state _ _ _ _ _ _ _ c.args.self.now.place.index c.args.self.now.read c.in-Malformed.is call.ensures.call.law c.requires.ready.within)

pub returns-in_err-tell_malformed-in-Malformed-clause-err : goal.returns-in_err-tell_malformed-in-Malformed-clause-err
returns-in_err-tell_malformed-in-Malformed-clause-err g c =
    let call = c.decode_to_utf8_without_replacement-outcome in
    let told = c.in_ok-tell_text.ensures in
    on_err _ _ (malformed_stops _ _ _ (walk_state c.args.self.now) _ (decoder_view call.new.self).state _ _ _ _ _ _ _ c.in-Malformed.is call.ensures.call.law _
    (call_chars (decoder_view c.args.self.now.decoder).state (decoder_view call.new.self).state _ _ _ _ _ _ _ call.ensures.call.law _ c.from_utf8_unchecked-text.ensures)
    told.told told.place told.index _
    (omega (arith, c.from.ensures, c.from-in-Malformed.ensures, malformed_within (decoder_view c.args.self.now.decoder).state (decoder_view call.new.self).state _ _ _ _ _ _ _ c.args.self.now.place.index c.args.self.now.read c.in-Malformed.is call.ensures.call.law c.requires.ready.within))
    c.in_err-tell_malformed-in-Malformed.ensures.told)

pub returns-in_err-malformed-in-Malformed-clause-err : goal.returns-in_err-malformed-in-Malformed-clause-err
returns-in_err-malformed-in-Malformed-clause-err g c =
    let call = c.decode_to_utf8_without_replacement-outcome in
    let told = c.in_ok-tell_text.ensures in
    on_err _ _ (malformed_stops _ _ _ (walk_state c.args.self.now) _ (decoder_view call.new.self).state _ _ _ _ _ _ _ c.in-Malformed.is call.ensures.call.law _
    (call_chars (decoder_view c.args.self.now.decoder).state (decoder_view call.new.self).state _ _ _ _ _ _ _ call.ensures.call.law _ c.from_utf8_unchecked-text.ensures)
    told.told told.place told.index _
    (omega (arith, c.from.ensures, c.from-in-Malformed.ensures, malformed_within (decoder_view c.args.self.now.decoder).state (decoder_view call.new.self).state _ _ _ _ _ _ _ c.args.self.now.place.index c.args.self.now.read c.in-Malformed.is call.ensures.call.law c.requires.ready.within))
    (λ qs h k. rw c.in_err-malformed-in-Malformed.ensures (c.in_ok-tell_malformed-in-Malformed.ensures.told qs h k)))

pub pass-requires : goal.pass-requires
pass-requires g c =
    let call = c.decode_to_utf8_without_replacement-outcome in
    omega (
      arith,
      c.in_ok-tell_text.ensures.index,
      few_chars c.from_utf8_unchecked-text.result.now c.from_utf8_unchecked-text.utf8,
      ap length c.from_utf8_unchecked-text.ensures,
      length-take call.result.2 call.new.dst,
      call.ensures.call.law.writes.within,
      c.requires.ready.within,
      c.requires.limit,
    )

pub returns-in-InputEmpty-clause-part : goal.returns-in-InputEmpty-clause-part
returns-in-InputEmpty-clause-part g c =
    let call = c.decode_to_utf8_without_replacement-outcome in
    let told = c.in_ok-tell_text.ensures in
    let ends = rw c.in-InputEmpty.is at call.ensures.call.ends in
    record {
      within = call.ensures.call.law.within;
      walks = walks_text _ _ (walk_state c.args.self.now) _ (decoder_view call.new.self).state _ _ _ _ _ call.ensures.call.law _
          (call_chars (decoder_view c.args.self.now.decoder).state (decoder_view call.new.self).state _ _ _ _ _ _ _ call.ensures.call.law _ c.from_utf8_unchecked-text.ensures)
          told.told told.place told.index _ refl refl refl (ap reported c.in-InputEmpty.is);
      more = λ h. absurd (false≢true (sym h));
      done = λ h. (ends.0, (λ l. call.ensures.call.finished ∙ finishes_last _ _ l), λ l. end_none (decoder_view call.new.self).state _ l ends.1);
    }

pub returns-in-OutputFull-clause-part : goal.returns-in-OutputFull-clause-part
returns-in-OutputFull-clause-part g c =
    let call = c.decode_to_utf8_without_replacement-outcome in
    let told = c.in_ok-tell_text.ensures in
    let ends = rw c.in-OutputFull.is at call.ensures.call.ends in
    record {
      within = call.ensures.call.law.within;
      walks = walks_text _ _ (walk_state c.args.self.now) _ (decoder_view call.new.self).state _ _ _ _ _ call.ensures.call.law _
          (call_chars (decoder_view c.args.self.now.decoder).state (decoder_view call.new.self).state _ _ _ _ _ _ _ call.ensures.call.law _ c.from_utf8_unchecked-text.ensures)
          told.told told.place told.index _ refl refl refl (ap reported c.in-OutputFull.is);
      more = λ h. (
        call.ensures.call.finished ∙ finishes_not _ _ (ap is_input_empty c.in-OutputFull.is),
        fewer_left (decoder_view c.args.self.now.decoder).state (decoder_view call.new.self).state _ _ _ _ call.ensures.call.law.rest
            (some_written _ _ _ _ call.ensures.call.law.writes ends.0 (omega (arith, call.auto.dst))),
      );
      done = λ h. absurd (false≢true h);
    }

pub returns-in_ok-malformed-in-Malformed-clause-part : goal.returns-in_ok-malformed-in-Malformed-clause-part
returns-in_ok-malformed-in-Malformed-clause-part g c =
    let call = c.decode_to_utf8_without_replacement-outcome in
    let told = c.in_ok-tell_text.ensures in
    record {
      within = call.ensures.call.law.within;
      walks = walks_malformed _ _ _ (walk_state c.args.self.now) _ (decoder_view call.new.self).state _ _ _ _ _ _ _ c.in-Malformed.is call.ensures.call.law _
          (call_chars (decoder_view c.args.self.now.decoder).state (decoder_view call.new.self).state _ _ _ _ _ _ _ call.ensures.call.law _ c.from_utf8_unchecked-text.ensures)
          told.told told.place told.index _
          (omega (arith, c.from.ensures, c.from-in-Malformed.ensures, malformed_within (decoder_view c.args.self.now.decoder).state (decoder_view call.new.self).state _ _ _ _ _ _ _ c.args.self.now.place.index c.args.self.now.read c.in-Malformed.is call.ensures.call.law c.requires.ready.within))
          (λ qs h k. rw c.in_ok-malformed-in-Malformed.ensures (c.in_ok-tell_malformed-in-Malformed.ensures.told qs h k))
          _ refl refl c.pass.ensures.place c.pass.ensures.index;
      more = λ h. (
        call.ensures.call.finished ∙ finishes_not _ _ (ap is_input_empty c.in-Malformed.is),
        fewer_left (decoder_view c.args.self.now.decoder).state (decoder_view call.new.self).state _ _ _ _ call.ensures.call.law.rest
            (some_malformed _ _ _ _ _ c.in-Malformed.is call.ensures.call.law.well_formed),
      );
      done = λ h. absurd (false≢true h);
    }

pub returns-in_ok-malformed-in-Malformed-clause-fates : goal.returns-in_ok-malformed-in-Malformed-clause-fates
returns-in_ok-malformed-in-Malformed-clause-fates g c =
    rw c.in_ok-malformed-in-Malformed.ensures (fated_then _ _ _ _ _ _ c.in_ok-tell_text.ensures.fates c.in_ok-tell_malformed-in-Malformed.ensures.fates)

pub returns-in_err-tell_malformed-in-Malformed-clause-fates : goal.returns-in_err-tell_malformed-in-Malformed-clause-fates
returns-in_err-tell_malformed-in-Malformed-clause-fates g c = fated_then _ _ _ _ _ _ c.in_ok-tell_text.ensures.fates c.in_err-tell_malformed-in-Malformed.ensures.fates

pub returns-in_err-malformed-in-Malformed-clause-fates : goal.returns-in_err-malformed-in-Malformed-clause-fates
returns-in_err-malformed-in-Malformed-clause-fates g c =
    rw c.in_err-malformed-in-Malformed.ensures (fated_then _ _ _ _ _ _ c.in_ok-tell_text.ensures.fates c.in_ok-tell_malformed-in-Malformed.ensures.fates)

pub returns-in_err-tell_text-clause-rising : goal.returns-in_err-tell_text-clause-rising
returns-in_err-tell_text-clause-rising g c =
    let e = c.in_err-tell_text.ensures.rising in
    rises_err _ _ _ _ e.0 _ _ c.from_residual.ensures.1 e.1

pub returns-in_err-tell_malformed-in-Malformed-clause-rising : goal.returns-in_err-tell_malformed-in-Malformed-clause-rising
returns-in_err-tell_malformed-in-Malformed-clause-rising g c =
    let e = c.in_err-tell_malformed-in-Malformed.ensures.rising in
    rises_err _ _ _ _ e.0 _ _ c.from_residual-in_err-tell_malformed-in-Malformed.ensures.1 (rising_then _ _ _ _ _ _ c.in_ok-tell_text.ensures.rising e.1)

pub returns-in_err-malformed-in-Malformed-clause-rising : goal.returns-in_err-malformed-in-Malformed-clause-rising
returns-in_err-malformed-in-Malformed-clause-rising g c =
    rises_err _ _ _ _ (c.tell_text.new.place.index + 1) _ _ c.from_residual-in_err-malformed-in-Malformed.ensures.1
    (rw c.in_err-malformed-in-Malformed.ensures (rising_then _ _ _ _ _ _ c.in_ok-tell_text.ensures.rising c.in_ok-tell_malformed-in-Malformed.ensures.rising))

pub returns-in_ok-malformed-in-Malformed-clause-rising : goal.returns-in_ok-malformed-in-Malformed-clause-rising
returns-in_ok-malformed-in-Malformed-clause-rising g c =
    rw (c.in_ok-malformed-in-Malformed.ensures, c.pass.ensures.index) (rising_then _ _ _ _ _ _ c.in_ok-tell_text.ensures.rising c.in_ok-tell_malformed-in-Malformed.ensures.rising)

pub returns-in_ok-malformed-in-Malformed-clause-lines : goal.returns-in_ok-malformed-in-Malformed-clause-lines
returns-in_ok-malformed-in-Malformed-clause-lines g c =
    rw c.in_ok-malformed-in-Malformed.ensures (lines_then _ _ _ _ _ _ c.in_ok-tell_text.ensures.lines c.in_ok-tell_malformed-in-Malformed.ensures.lines)

pub returns-in_err-tell_text-clause-fits : goal.returns-in_err-tell_text-clause-fits
returns-in_err-tell_text-clause-fits g c = λ r end h.
    let call = c.decode_to_utf8_without_replacement-outcome in
    let rest = (decoder_view call.new.self).state.pieces (drop call.result.1 c.args.chunk.now ++ r) in
    let offset = offset_after (walk_state c.args.self.now) (decoder_view call.new.self).state _ _ _ _ _ call.ensures.call.law _ (call_chars (decoder_view c.args.self.now.decoder).state (decoder_view call.new.self).state _ _ _ _ _ _ _ call.ensures.call.law _ c.from_utf8_unchecked-text.ensures) c.requires.ready.within r end in
    match_err _ _ _ c.from_residual.ensures.1 (c.in_err-tell_text.ensures.fits offset (reported call.result.0 ++ rest) (ahead_text (walk_state c.args.self.now) (decoder_view call.new.self).state _ _ _ _ _ call.ensures.call.law _ (call_chars (decoder_view c.args.self.now.decoder).state (decoder_view call.new.self).state _ _ _ _ _ _ _ call.ensures.call.law _ c.from_utf8_unchecked-text.ensures) c.requires.ready.within r end _ h))

pub returns-in-InputEmpty-clause-fits : goal.returns-in-InputEmpty-clause-fits
returns-in-InputEmpty-clause-fits g c = λ r end h.
    let call = c.decode_to_utf8_without_replacement-outcome in
    let rest = (decoder_view call.new.self).state.pieces (drop call.result.1 c.args.chunk.now ++ r) in
    let offset = offset_after (walk_state c.args.self.now) (decoder_view call.new.self).state _ _ _ _ _ call.ensures.call.law _ (call_chars (decoder_view c.args.self.now.decoder).state (decoder_view call.new.self).state _ _ _ _ _ _ _ call.ensures.call.law _ c.from_utf8_unchecked-text.ensures) c.requires.ready.within r end in
    ahead_done (walk_state c.args.self.now) (decoder_view call.new.self).state _ _ _ _ _ call.ensures.call.law _ (call_chars (decoder_view c.args.self.now.decoder).state (decoder_view call.new.self).state _ _ _ _ _ _ _ call.ensures.call.law _ c.from_utf8_unchecked-text.ensures) c.requires.ready.within r end _ _ (ap reported c.in-InputEmpty.is) (c.in_ok-tell_text.ensures.fits offset (reported call.result.0 ++ rest) (ahead_text (walk_state c.args.self.now) (decoder_view call.new.self).state _ _ _ _ _ call.ensures.call.law _ (call_chars (decoder_view c.args.self.now.decoder).state (decoder_view call.new.self).state _ _ _ _ _ _ _ call.ensures.call.law _ c.from_utf8_unchecked-text.ensures) c.requires.ready.within r end _ h))

pub returns-in-OutputFull-clause-fits : goal.returns-in-OutputFull-clause-fits
returns-in-OutputFull-clause-fits g c = λ r end h.
    let call = c.decode_to_utf8_without_replacement-outcome in
    let rest = (decoder_view call.new.self).state.pieces (drop call.result.1 c.args.chunk.now ++ r) in
    let offset = offset_after (walk_state c.args.self.now) (decoder_view call.new.self).state _ _ _ _ _ call.ensures.call.law _ (call_chars (decoder_view c.args.self.now.decoder).state (decoder_view call.new.self).state _ _ _ _ _ _ _ call.ensures.call.law _ c.from_utf8_unchecked-text.ensures) c.requires.ready.within r end in
    ahead_done (walk_state c.args.self.now) (decoder_view call.new.self).state _ _ _ _ _ call.ensures.call.law _ (call_chars (decoder_view c.args.self.now.decoder).state (decoder_view call.new.self).state _ _ _ _ _ _ _ call.ensures.call.law _ c.from_utf8_unchecked-text.ensures) c.requires.ready.within r end _ _ (ap reported c.in-OutputFull.is) (c.in_ok-tell_text.ensures.fits offset (reported call.result.0 ++ rest) (ahead_text (walk_state c.args.self.now) (decoder_view call.new.self).state _ _ _ _ _ call.ensures.call.law _ (call_chars (decoder_view c.args.self.now.decoder).state (decoder_view call.new.self).state _ _ _ _ _ _ _ call.ensures.call.law _ c.from_utf8_unchecked-text.ensures) c.requires.ready.within r end _ h))

pub returns-in_err-tell_malformed-in-Malformed-clause-fits : goal.returns-in_err-tell_malformed-in-Malformed-clause-fits
returns-in_err-tell_malformed-in-Malformed-clause-fits g c = λ r end h.
    let call = c.decode_to_utf8_without_replacement-outcome in
    let rest = (decoder_view call.new.self).state.pieces (drop call.result.1 c.args.chunk.now ++ r) in
    let offset = offset_after (walk_state c.args.self.now) (decoder_view call.new.self).state _ _ _ _ _ call.ensures.call.law _ (call_chars (decoder_view c.args.self.now.decoder).state (decoder_view call.new.self).state _ _ _ _ _ _ _ call.ensures.call.law _ c.from_utf8_unchecked-text.ensures) c.requires.ready.within r end in
    match_err _ _ _ c.from_residual-in_err-tell_malformed-in-Malformed.ensures.1
    (c.in_err-tell_malformed-in-Malformed.ensures.fits rest (some_bytes (walk_state c.args.self.now) (decoder_view call.new.self).state _ _ _ _ _ call.ensures.call.law _ (call_chars (decoder_view c.args.self.now.decoder).state (decoder_view call.new.self).state _ _ _ _ _ _ _ call.ensures.call.law _ c.from_utf8_unchecked-text.ensures) c.requires.ready.within r end _ _ c.in-Malformed.is)
    (ahead_malformed (walk_state c.args.self.now) (decoder_view call.new.self).state _ _ _ _ _ call.ensures.call.law _ (call_chars (decoder_view c.args.self.now.decoder).state (decoder_view call.new.self).state _ _ _ _ _ _ _ call.ensures.call.law _ c.from_utf8_unchecked-text.ensures) c.requires.ready.within r end _ _ c.in-Malformed.is _ _ _ (omega (arith, c.from.ensures, c.from-in-Malformed.ensures, malformed_within (decoder_view c.args.self.now.decoder).state (decoder_view call.new.self).state _ _ _ _ _ _ _ c.args.self.now.place.index c.args.self.now.read c.in-Malformed.is call.ensures.call.law c.requires.ready.within)) (c.in_ok-tell_text.ensures.fits offset (reported call.result.0 ++ rest) (ahead_text (walk_state c.args.self.now) (decoder_view call.new.self).state _ _ _ _ _ call.ensures.call.law _ (call_chars (decoder_view c.args.self.now.decoder).state (decoder_view call.new.self).state _ _ _ _ _ _ _ call.ensures.call.law _ c.from_utf8_unchecked-text.ensures) c.requires.ready.within r end _ h))))

pub returns-in_ok-malformed-in-Malformed-clause-fits : goal.returns-in_ok-malformed-in-Malformed-clause-fits
returns-in_ok-malformed-in-Malformed-clause-fits g c = λ r end h.
    let call = c.decode_to_utf8_without_replacement-outcome in
    let rest = (decoder_view call.new.self).state.pieces (drop call.result.1 c.args.chunk.now ++ r) in
    let offset = offset_after (walk_state c.args.self.now) (decoder_view call.new.self).state _ _ _ _ _ call.ensures.call.law _ (call_chars (decoder_view c.args.self.now.decoder).state (decoder_view call.new.self).state _ _ _ _ _ _ _ call.ensures.call.law _ c.from_utf8_unchecked-text.ensures) c.requires.ready.within r end in
    ahead_passed (walk_state c.args.self.now) (decoder_view call.new.self).state _ _ _ _ _ call.ensures.call.law _ (call_chars (decoder_view c.args.self.now.decoder).state (decoder_view call.new.self).state _ _ _ _ _ _ _ call.ensures.call.law _ c.from_utf8_unchecked-text.ensures) c.requires.ready.within r end _ _ c.in-Malformed.is _ _ _ _ (omega (arith, c.from.ensures, c.from-in-Malformed.ensures, malformed_within (decoder_view c.args.self.now.decoder).state (decoder_view call.new.self).state _ _ _ _ _ _ _ c.args.self.now.place.index c.args.self.now.read c.in-Malformed.is call.ensures.call.law c.requires.ready.within)) c.pass.ensures.index
    (c.in_ok-tell_malformed-in-Malformed.ensures.fits rest (some_bytes (walk_state c.args.self.now) (decoder_view call.new.self).state _ _ _ _ _ call.ensures.call.law _ (call_chars (decoder_view c.args.self.now.decoder).state (decoder_view call.new.self).state _ _ _ _ _ _ _ call.ensures.call.law _ c.from_utf8_unchecked-text.ensures) c.requires.ready.within r end _ _ c.in-Malformed.is)
    (ahead_malformed (walk_state c.args.self.now) (decoder_view call.new.self).state _ _ _ _ _ call.ensures.call.law _ (call_chars (decoder_view c.args.self.now.decoder).state (decoder_view call.new.self).state _ _ _ _ _ _ _ call.ensures.call.law _ c.from_utf8_unchecked-text.ensures) c.requires.ready.within r end _ _ c.in-Malformed.is _ _ _ (omega (arith, c.from.ensures, c.from-in-Malformed.ensures, malformed_within (decoder_view c.args.self.now.decoder).state (decoder_view call.new.self).state _ _ _ _ _ _ _ c.args.self.now.place.index c.args.self.now.read c.in-Malformed.is call.ensures.call.law c.requires.ready.within)) (c.in_ok-tell_text.ensures.fits offset (reported call.result.0 ++ rest) (ahead_text (walk_state c.args.self.now) (decoder_view call.new.self).state _ _ _ _ _ call.ensures.call.law _ (call_chars (decoder_view c.args.self.now.decoder).state (decoder_view call.new.self).state _ _ _ _ _ _ _ call.ensures.call.law _ c.from_utf8_unchecked-text.ensures) c.requires.ready.within r end _ h))))

pub returns-in-InputEmpty-clause-finds : goal.returns-in-InputEmpty-clause-finds
returns-in-InputEmpty-clause-finds g c = λ r end.
    let call = c.decode_to_utf8_without_replacement-outcome in
    tells_done (walk_state c.args.self.now) (decoder_view call.new.self).state _ _ _ _ _ call.ensures.call.law _ (call_chars (decoder_view c.args.self.now.decoder).state (decoder_view call.new.self).state _ _ _ _ _ _ _ call.ensures.call.law _ c.from_utf8_unchecked-text.ensures) c.requires.ready.within r end (asked_by c.args.choice.now) _ _ _ (ap reported c.in-InputEmpty.is) c.in_ok-tell_text.ensures.index c.in_ok-tell_text.ensures.finds

pub returns-in-OutputFull-clause-finds : goal.returns-in-OutputFull-clause-finds
returns-in-OutputFull-clause-finds g c = λ r end.
    let call = c.decode_to_utf8_without_replacement-outcome in
    tells_done (walk_state c.args.self.now) (decoder_view call.new.self).state _ _ _ _ _ call.ensures.call.law _ (call_chars (decoder_view c.args.self.now.decoder).state (decoder_view call.new.self).state _ _ _ _ _ _ _ call.ensures.call.law _ c.from_utf8_unchecked-text.ensures) c.requires.ready.within r end (asked_by c.args.choice.now) _ _ _ (ap reported c.in-OutputFull.is) c.in_ok-tell_text.ensures.index c.in_ok-tell_text.ensures.finds

pub returns-in_ok-malformed-in-Malformed-clause-finds : goal.returns-in_ok-malformed-in-Malformed-clause-finds
returns-in_ok-malformed-in-Malformed-clause-finds g c = λ r end.
    let call = c.decode_to_utf8_without_replacement-outcome in
    rw c.in_ok-malformed-in-Malformed.ensures (tells_malformed (walk_state c.args.self.now) (decoder_view call.new.self).state _ _ _ _ _ call.ensures.call.law _ (call_chars (decoder_view c.args.self.now.decoder).state (decoder_view call.new.self).state _ _ _ _ _ _ _ call.ensures.call.law _ c.from_utf8_unchecked-text.ensures) c.requires.ready.within r end _ _ c.in-Malformed.is
    (asked_by c.args.choice.now) (asked_by c.tell_text.new.choice) _ _ _ _ _ _ (omega (arith, c.from.ensures, c.from-in-Malformed.ensures, malformed_within (decoder_view c.args.self.now.decoder).state (decoder_view call.new.self).state _ _ _ _ _ _ _ c.args.self.now.place.index c.args.self.now.read c.in-Malformed.is call.ensures.call.law c.requires.ready.within))
    c.in_ok-tell_text.ensures.index c.pass.ensures.index c.in_ok-tell_text.ensures.fates.0 c.in_ok-tell_text.ensures.finds c.in_ok-tell_malformed-in-Malformed.ensures.finds)
