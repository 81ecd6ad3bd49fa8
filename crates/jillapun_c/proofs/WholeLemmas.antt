-- An output that is put into a room part by part. A whole input, decoded so, and a whole text, encoded so.
use Rattle.std.proofs.Common.{◌≡◌, ◌≢◌, ◌+◌, ◌<◌, ◌≤◌, ◌↔◌, ◌||◌, ◌==◌, ℕ, Bool, Bor, true, false, inl, inr, IsTrue, Option, None, Some, List, [], ◌∷◌, ◌++◌, length, take, drop, refl, sym, ◌∙◌, ap, subst, arith, append_assoc, length-append, length-drop, length-take, encode_utf8_all, ◌&&◌}
use Rattle.std.specs.Prelude.{◌⊎◌, MatchOption}
use Rattle.std.specs.Str.{IsUtf8, all_scalars, chars}
use Rattle.std.proofs.lemmas.Bool.{cases_lt, eqb-true, and_parts}
use Rattle.std.proofs.lemmas.List.{append-nil, append_cancel_left, drop_at, drop-drop, take_at}
use Rattle.std.proofs.lemmas.Str.{encodes-append}
use Rattle.encoding_mem.specs.Coding.{Coding, lost_count, whole_from, output}
use Rattle.encoding_mem.specs.Piece.{Piece, malformed, malformed_count, text}
use Rattle.encoding_mem.specs.calls.Decoding.{DecoderState, EndsWith, Reports, Takes}
use Rattle.encoding_mem.specs.calls.EncoderRule.{WritesBytes}
use Rattle.encoding_mem.specs.calls.Writing.{Adds}
use Rattle.encoding_mem.specs.declared.codec.decoder_result.DecoderResult.{DecoderResult}
use Rattle.encoding_mem.specs.declared.codec.form.EscapeState.{EscapeState}
use Rattle.encoding_mem.specs.declared.codec.form.EscapeState.TheVariants.{Ascii}
use Rattle.encoding_mem.specs.declared.codec.reference.Reference.TheVariants.{Decimal}
use Rattle.encoding_mem.specs.laws.Losses.{lost_count-append}
use Rattle.encoding_mem.specs.laws.Piece.{malformed_count-append, text-append, well_formed_count, well_formed_text}
use Rattle.encoding_front.specs.calls.DecodedText.{raw_result}
use Rattle.encoding_front.specs.calls.DecoderCall.{DecoderCall, TextCall, free_bytes}
use Rattle.encoding_front.specs.calls.Encoder.{EncoderState, Replaces, ReplacingEndsWith, coding_in, new_state}
use Rattle.encoding_front.specs.calls.Stream.{DecoderView, IsNewDecoder}
use Rattle.encoding_front.specs.declared.coder_result.CoderResult.{CoderResult}
use Rattle.encoding_front.specs.laws.Encoder.{coding_laws, kept_few, need_few, output_twice}
use Rattle.jillapun_c.specs.Whole.{BeginsWithText, DecodesPart, HasLeft, TextIsMade, end_of, is_malformed, DecodesIfReady, DecodesWellFormed, DecodesWhole, EncodesIfReady, HasDecoded, HasNotDecoded, IfCanDecode, PutsIfRoom, filled_status}
use Rattle.jillapun_c.specs.declared.filled.Filled.{Filled}
use Rattle.jillapun_c.specs.declared.whole.decoding.End.{End}
use Rattle.jillapun_c.specs.declared.whole.decoding.End.TheVariants.{Ended, Malformed, More}
use Rattle.jillapun_c.specs.declared.whole.decoding.Part.{Part}
use Rattle.encoding_tables.specs.IndexLists.{AreAcceptedTables, IndexLists}
use Rattle.encoding_front.specs.Codecs.{codec_of}
use Rattle.encoding_front.specs.EncodingTable.{codec_kind_of, number_of}
use Rattle.encoding_front.specs.Encodings.{IsReady, coding_of, output_encoding_of}
use Rattle.encoding_front.specs.Marks.{marked_pieces, source_of}
use Rattle.encoding_front.specs.declared.encoding.Encoding.{Encoding}
use Rattle.encoding_front.specs.declared.mark.Mark.{Mark}
use Rattle.encoding_front.specs.laws.Input.{marked_scalars}
use Rattle.jillapun_c.specs.Conversions.{IsVerdict}
use Rattle.jillapun_c.specs.EncodingNumbers.{encoding_at, mark_at}
use Rattle.jillapun_c.specs.Openings.{IfReady}
use Rattle.jillapun_c.specs.Room.{HoldsFront, IsPut}
use Rattle.jillapun_c.specs.declared.decoded.Decoded.{Decoded}
use Rattle.jillapun_c.specs.declared.status.TheConstants.{NOT_WELL_FORMED}
use Rattle.jillapun_c.specs.declared.whole.decoding.Whole.{Whole}
use Rattle.jillapun_c.proofs.RoomLemmas.{first_filled}

-- ---- one call of a decoder

all_taken : (before after : List ℕ → List Piece) (src : List ℕ) (taken : List Piece) (read : ℕ) → ((r : List ℕ) → (true ≡ true → r ≡ []) → before (src ++ r) ≡ taken ++ after (drop read src ++ r))
    → before src ≡ taken ++ after (drop read src)
all_taken before after src taken read rest = ap before (sym (append-nil src)) ∙ rest [] (λ _. refl) ∙ ap (λ (x : List ℕ). taken ++ after x) (append-nil (drop read src))

none_left : (v : DecoderState) (unread : List ℕ) (free room replacement : ℕ) → EndsWith v unread true free room replacement DecoderResult.InputEmpty → v.pieces unread ≡ []
none_left v unread free room replacement (read, inl none) = ap v.pieces read ∙ none.1
none_left v unread free room replacement (read, inr waits) = absurd (cc waits.0)

few_free : (new : List ℕ) (w : ℕ) → w ≤ length new → length (drop w new) < 4 → length new < w + 4
few_free new w within free = omega (arith, within, free, length-drop w new)

-- one that replaces malformed sequences
pub text_part : (v v' : DecoderView) (src old new : List ℕ) (outcome : CoderResult) (read w : ℕ) (had : Bool) → length new ≡ length old
    → TextCall v v' src true read (λ (l : List ℕ). Adds old 0 (encode_utf8_all l) new w) (free_bytes (length (drop w new))) outcome had
    → DecodesPart v v' src old new (record { end = end_of (raw_result outcome); read = read; written = w; had_errors = had })
text_part v v' src old new CoderResult.InputEmpty read w had same call = record {
  taken = call.law.taken;
  pieces = all_taken v.state.pieces v'.state.pieces src call.law.taken read call.law.rest;
  had = call.law.had;
  within = call.law.within;
  fits = omega (arith, call.law.writes.within, same);
  writes = λ _. call.law.writes;
  ended = λ _. none_left v'.state (drop read src) 0 0 0 call.ends;
  full = λ more. absurd (cc);
  open_ = λ more. absurd (cc);
  malformed = λ bad. absurd (cc);
}
text_part v v' src old new CoderResult.OutputFull read w had same call = record {
  taken = call.law.taken;
  pieces = all_taken v.state.pieces v'.state.pieces src call.law.taken read call.law.rest;
  had = call.law.had;
  within = call.law.within;
  fits = omega (arith, call.law.writes.within, same);
  writes = λ _. call.law.writes;
  ended = λ ended. absurd (cc);
  full = λ _. few_free new w (omega (arith, call.law.writes.within, same)) call.ends.0;
  open_ = λ _. call.finished;
  malformed = λ bad. absurd (cc);
}

-- one that stops at them
pub raw_part : (v v' : DecoderView) (src old new : List ℕ) (outcome : DecoderResult) (read w : ℕ) → length new ≡ length old
    → DecoderCall v v' src true read (λ (l : List ℕ). Adds old 0 (encode_utf8_all l) new w) (free_bytes (length (drop w new))) outcome
    → DecodesPart v v' src old new (record { end = end_of outcome; read = read; written = w; had_errors = is_malformed (end_of outcome) })
raw_part v v' src old new DecoderResult.InputEmpty read w same call =
    let k : Takes (Reports DecoderResult.InputEmpty v'.state.pending) v.state.pieces v'.state.pieces src true v.state.pending v'.state.pending read (λ (l : List ℕ). Adds old 0 (encode_utf8_all l) new w) = call.law in
    record {
      taken = k.taken;
      pieces = all_taken v.state.pieces v'.state.pieces src k.taken read k.rest;
      had = (λ h. absurd (cc), λ some. absurd (omega (arith, some, well_formed_count k.taken k.well_formed)));
      within = k.within;
      fits = omega (arith, k.writes.within, same);
      writes = λ _. subst (λ (l : List ℕ). Adds old 0 (encode_utf8_all l) new w) (sym (well_formed_text k.taken k.well_formed)) k.writes;
      ended = λ _. none_left v'.state (drop read src) 0 0 0 call.ends;
      full = λ more. absurd (cc);
      open_ = λ more. absurd (cc);
      malformed = λ bad. absurd (cc);
    }
raw_part v v' src old new DecoderResult.OutputFull read w same call =
    let k : Takes (Reports DecoderResult.OutputFull v'.state.pending) v.state.pieces v'.state.pieces src true v.state.pending v'.state.pending read (λ (l : List ℕ). Adds old 0 (encode_utf8_all l) new w) = call.law in
    record {
      taken = k.taken;
      pieces = all_taken v.state.pieces v'.state.pieces src k.taken read k.rest;
      had = (λ h. absurd (cc), λ some. absurd (omega (arith, some, well_formed_count k.taken k.well_formed)));
      within = k.within;
      fits = omega (arith, k.writes.within, same);
      writes = λ _. subst (λ (l : List ℕ). Adds old 0 (encode_utf8_all l) new w) (sym (well_formed_text k.taken k.well_formed)) k.writes;
      ended = λ ended. absurd (cc);
      full = λ _. few_free new w (omega (arith, k.writes.within, same)) call.ends.0;
      open_ = λ _. call.finished;
      malformed = λ bad. absurd (cc);
    }
raw_part v v' src old new (DecoderResult.Malformed a b) read w same call =
    let k : Takes (Reports (DecoderResult.Malformed a b) v'.state.pending) v.state.pieces v'.state.pieces src true v.state.pending v'.state.pending read (λ (l : List ℕ). Adds old 0 (encode_utf8_all l) new w) = call.law in
    let prefix : List Piece = k.well_formed.4.0 in
    let some : 0 < malformed_count k.taken = omega (arith, ap malformed_count k.well_formed.4.2, malformed_count-append prefix (malformed a ∷ [])) in
    record {
      taken = k.taken;
      pieces = all_taken v.state.pieces v'.state.pieces src k.taken read k.rest;
      had = (λ _. some, λ _. refl);
      within = k.within;
      fits = omega (arith, k.writes.within, same);
      writes = λ not. absurd (not refl);
      ended = λ ended. absurd (cc);
      full = λ more. absurd (cc);
      open_ = λ more. absurd (cc);
      malformed = λ _. some;
    }

-- ---- what was put so far

take_added : (made old new : List ℕ) (w : ℕ) → Adds old 0 made new w → take w new ≡ made
take_added made old new w adds = ap (take w) adds.list ∙ take_at made (drop w old) w (omega (arith, adds.counted))

-- after the first part, which was made in the room
pub first_put : (made old new : List ℕ) (w : ℕ) (filled : Filled) → Adds old 0 made new w → length new ≡ length old → filled.put ≡ w → filled.length ≡ w → filled.is_whole ≡ true → HoldsFront made old new filled
first_put made old new w filled adds same put size whole =
    let behind : drop w new ≡ drop w old = ap (drop w) adds.list ∙ drop_at made (drop w old) w (omega (arith, adds.counted)) in
    subst (λ (l : List ℕ). HoldsFront l old new filled) (take_added made old new w adds) (first_filled old new w filled (omega (arith, adds.within, same)) behind put size whole)

-- if all was put, it is the front
front_of : (made old now : List ℕ) (filled : Filled) → HoldsFront made old now filled → filled.is_whole ≡ true → take filled.put now ≡ made
front_of made old now filled holds whole = sym (holds.parts ∙ ap (λ (r : List ℕ). take filled.put now ++ r) ((holds.whole whole).0) ∙ append-nil (take filled.put now))

-- The text of the pieces that were taken was put into a room as far as it fits, up to the end of a piece; and this is
-- left of the bytes that it is compared with.
pub record PutSoFar (taken : List Piece) (own old now : List ℕ) (filled : Filled) (left : Option (Bor (List ℕ))) : Type 0 where
  pub holds : HoldsFront (encode_utf8_all (text taken)) old now filled
  pub front : List Piece
  pub after : List Piece
  pub parts : taken ≡ front ++ after
  pub is : take filled.put now ≡ encode_utf8_all (text front)
  pub is_left : HasLeft own (encode_utf8_all (text taken)) left

pub text_more : (a b : List Piece) → encode_utf8_all (text a) ++ encode_utf8_all (text b) ≡ encode_utf8_all (text (a ++ b))
text_more a b = sym (ap encode_utf8_all (text-append a b) ∙ encodes-append (text a) (text b))

either_way : (b : Bool) → (b ≡ true) ⊎ (b ≡ false)
either_way true = inl refl
either_way false = inr refl

pub put_first : (v v' : DecoderView) (src own old new : List ℕ) (part : Part) (filled : Filled) (left : Option (Bor (List ℕ))) (d : DecodesPart v v' src old new part) → part.end ≢ Malformed → length new ≡ length old
    → filled.put ≡ part.written → filled.length ≡ part.written → filled.is_whole ≡ true → HasLeft own (take part.written new) left → PutSoFar d.taken own old new filled left
put_first v v' src own old new part filled left d fine same put size whole is_left =
    let adds = d.writes fine in
    let holds = first_put (encode_utf8_all (text d.taken)) old new part.written filled adds same put size whole in
    record {
      holds = holds;
      front = d.taken;
      after = [];
      parts = sym (append-nil d.taken);
      is = front_of (encode_utf8_all (text d.taken)) old new filled holds whole;
      is_left = subst (λ (l : List ℕ). HasLeft own l left) (ap (λ (n : ℕ). take n new) (sym put) ∙ front_of (encode_utf8_all (text d.taken)) old new filled holds whole) is_left;
    }

-- a part more
pub put_more : (taken more : List Piece) (own old now now' made : List ℕ) (filled filled' : Filled) (left left' : Option (Bor (List ℕ))) → PutSoFar taken own old now filled left → made ≡ encode_utf8_all (text more)
    → (HoldsFront (encode_utf8_all (text taken)) old now filled → HoldsFront (encode_utf8_all (text taken) ++ made) old now' filled')
    → (filled'.is_whole ≡ false → take filled'.put now' ≡ take filled.put now)
    → (HasLeft own (encode_utf8_all (text taken)) left → HasLeft own (encode_utf8_all (text taken) ++ made) left')
    → PutSoFar (taken ++ more) own old now' filled' left'
put_more taken more own old now now' made filled filled' left left' so is adds kept goes =
    let all : encode_utf8_all (text taken) ++ made ≡ encode_utf8_all (text (taken ++ more)) = ap (λ (l : List ℕ). encode_utf8_all (text taken) ++ l) is ∙ text_more taken more in
    let holds = subst (λ (l : List ℕ). HoldsFront l old now' filled') all (adds so.holds) in
    let is_left = subst (λ (l : List ℕ). HasLeft own l left') all (goes so.is_left) in
    by holds is_left (either_way filled'.is_whole)
  where
    by : HoldsFront (encode_utf8_all (text (taken ++ more))) old now' filled' → HasLeft own (encode_utf8_all (text (taken ++ more))) left' → (filled'.is_whole ≡ true) ⊎ (filled'.is_whole ≡ false) → PutSoFar (taken ++ more) own old now' filled' left'
    by holds is_left (inl whole) = record { holds = holds; front = taken ++ more; after = []; parts = sym (append-nil (taken ++ more)); is = front_of (encode_utf8_all (text (taken ++ more))) old now' filled' holds whole; is_left = is_left }
    by holds is_left (inr cut) = record { holds = holds; front = so.front; after = so.after ++ more; parts = ap (λ (ps : List Piece). ps ++ more) so.parts ∙ append_assoc so.front so.after more; is = kept cut ∙ so.is; is_left = is_left }

-- ---- what is left of the bytes that a text is compared with

pub left_more : (all before made : List ℕ) (bytes : Bor (List ℕ)) (r : Option (Bor (List ℕ))) → all ≡ before ++ bytes.now → MatchOption r ((x : List ℕ) → bytes.now ≢ made ++ x) (λ x. bytes.now ≡ made ++ x.now) → HasLeft all (before ++ made) r
left_more all before made bytes None is other = λ x same. other x (append_cancel_left before bytes.now (made ++ x) (sym is ∙ same ∙ append_assoc before made x))
left_more all before made bytes (Some x) is goes = is ∙ ap (λ (l : List ℕ). before ++ l) goes ∙ sym (append_assoc before made x.now)

none_of : (l : List ℕ) → length l ≡ 0 → l ≡ []
none_of [] h = refl
none_of (x ∷ l) h = absurd (omega (arith, h))

pub nothing_left : (all made bytes : List ℕ) (r : Bool) → r ≡ (length bytes == 0) → all ≡ made ++ bytes → IsTrue r ↔ (made ≡ all)
nothing_left all made bytes r test is = (
  λ yes. sym (is ∙ ap (λ (l : List ℕ). made ++ l) (none_of bytes (eqb-true (length bytes) 0 (sym test ∙ yes))) ∙ append-nil made),
  λ same. test ∙ ap (λ (l : List ℕ). length l == 0) (append_cancel_left made bytes [] (sym is ∙ sym same ∙ sym (append-nil made))),
)

pub not_left : (all made : List ℕ) → ((x : List ℕ) → all ≢ made ++ x) → IsTrue false ↔ (made ≡ all)
not_left all made other = (λ h. absurd (cc), λ same. absurd (other [] (sym same ∙ sym (append-nil made))))

-- ---- the calls of a decoder

-- Of a decoder and its input, whose rest is still to be read: what its calls took, whether one of them is malformed,
-- what was put so far, and how the last call ended.
pub record DecodedSoFar (v u : DecoderView) (src own old now : List ℕ) (replaces : Bool) (read : ℕ) (end : End) (had : Bool) (filled : Filled) (left : Option (Bor (List ℕ))) : Type 0 where
  pub within : read ≤ length src
  pub same : length now ≡ length old
  pub taken : List Piece
  pub pieces : v.state.pieces src ≡ taken ++ u.state.pieces (drop read src)
  pub lost : IsTrue had ↔ (0 < malformed_count taken)
  pub put : end ≢ Malformed → PutSoFar taken own old now filled left
  pub ended : end ≡ Ended → u.state.pieces (drop read src) ≡ []
  pub open_ : end ≡ More → u.finished ≡ false
  pub malformed : end ≡ Malformed → 0 < malformed_count taken
  pub replaced : replaces ≡ true → end ≢ Malformed
  pub stopped : replaces ≡ false → end ≢ Malformed → had ≡ false

-- so many more calls may come than pieces are left
abbrev pub more_calls : End → ℕ
more_calls Ended = 0
more_calls More = 1
more_calls Malformed = 0

-- something is so if one of two things is, each of which is counted
or_some : (p q : Bool) (m n k : ℕ) → IsTrue p ↔ (0 < m) → IsTrue q ↔ (0 < n) → k ≡ m + n → IsTrue (p || q) ↔ (0 < k)
or_some true q m n k is_p is_q sum = (λ _. omega (arith, is_p.0 refl, sum), λ _. refl)
or_some false q m n k is_p is_q sum = (λ yes. omega (arith, is_q.0 yes, sum), λ some. is_q.1 (by (cases_lt 0 m) some))
  where
    by : (0 < m) ⊎ (m ≤ 0) → 0 < k → 0 < n
    by (inl more) some = absurd (cc (is_p.1 more))
    by (inr none) some = omega (arith, none, some, sum)

-- after the first call
pub decoded_first : (v u : DecoderView) (src own old new : List ℕ) (replaces : Bool) (part : Part) (filled : Filled) (left : Option (Bor (List ℕ))) → DecodesPart v u src old new part → length new ≡ length old
    → filled.put ≡ part.written → filled.length ≡ part.written → filled.is_whole ≡ true → HasLeft own (take part.written new) left
    → (replaces ≡ true → part.end ≢ Malformed) → (replaces ≡ false → part.end ≢ Malformed → part.had_errors ≡ false)
    → DecodedSoFar v u src own old new replaces part.read part.end part.had_errors filled left
decoded_first v u src own old new replaces part filled left d same put size whole is_left replaced stopped = record {
  within = d.within;
  same = same;
  taken = d.taken;
  pieces = d.pieces;
  lost = d.had;
  put = λ fine. put_first v u src own old new part filled left d fine same put size whole is_left;
  ended = d.ended;
  open_ = d.open_;
  malformed = d.malformed;
  replaced = replaced;
  stopped = stopped;
}

-- after one more, which was handed what is left
pub decoded_more : (v u u' : DecoderView) (src x own old now now' room room' made : List ℕ) (replaces : Bool) (read : ℕ) (end : End) (had : Bool) (filled filled' : Filled) (left left' : Option (Bor (List ℕ))) (part : Part)
    → DecodedSoFar v u src own old now replaces read end had filled left → end ≡ More → x ≡ drop read src → DecodesPart u u' x room room' part → made ≡ take part.written room' → length now' ≡ length now
    → ((all : List ℕ) → HoldsFront all old now filled → HoldsFront (all ++ made) old now' filled') → (filled'.is_whole ≡ false → take filled'.put now' ≡ take filled.put now)
    → ((all : List ℕ) → HasLeft own all left → HasLeft own (all ++ made) left')
    → (replaces ≡ true → part.end ≢ Malformed) → (replaces ≡ false → part.end ≢ Malformed → part.had_errors ≡ false)
    → DecodedSoFar v u' src own old now' replaces (read + part.read) part.end (had || part.had_errors) filled' left'
decoded_more v u u' src x own old now now' room room' made replaces read end had filled filled' left left' part so more is d is_made same adds kept goes replaced stopped =
    let rest : drop part.read x ≡ drop (read + part.read) src = ap (drop part.read) is ∙ drop-drop part.read read src in
    let fine : end ≢ Malformed = λ bad. absurd (cc (sym more ∙ bad)) in
    record {
      within = omega (arith, so.within, d.within, ap length is, length-drop read src);
      same = same ∙ so.same;
      taken = so.taken ++ d.taken;
      pieces = so.pieces ∙ ap (λ (l : List ℕ). so.taken ++ u.state.pieces l) (sym is) ∙ ap (λ (ps : List Piece). so.taken ++ ps) d.pieces
          ∙ sym (append_assoc so.taken d.taken (u'.state.pieces (drop part.read x))) ∙ ap (λ (l : List ℕ). (so.taken ++ d.taken) ++ u'.state.pieces l) rest;
      lost = or_some had part.had_errors (malformed_count so.taken) (malformed_count d.taken) _ so.lost d.had (malformed_count-append so.taken d.taken);
      put = λ fits. put_more so.taken d.taken own old now now' made filled filled' left left' (so.put fine) (is_made ∙ take_added (encode_utf8_all (text d.taken)) room room' part.written (d.writes fits))
          (adds (encode_utf8_all (text so.taken))) kept (goes (encode_utf8_all (text so.taken)));
      ended = λ over. ap u'.state.pieces (sym rest) ∙ d.ended over;
      open_ = d.open_;
      malformed = λ bad. omega (arith, d.malformed bad, malformed_count-append so.taken d.taken);
      replaced = replaced;
      stopped = λ none fits. rw (so.stopped none fine, stopped none fits) refl;
    }

some_taken : (ps : List Piece) → 0 < length (encode_utf8_all (text ps)) → 0 < length ps
some_taken [] some = absurd (omega (arith, some))
some_taken (p ∷ ps) some = omega arith

-- one more call leaves fewer
pub decoded_fewer : (u u' : DecoderView) (src x room room' : List ℕ) (read : ℕ) (end : End) (part : Part) → end ≡ More → x ≡ drop read src → length room' ≡ 1024 → DecodesPart u u' x room room' part
    → length (u'.state.pieces (drop (read + part.read) src)) + more_calls part.end < length (u.state.pieces (drop read src)) + more_calls end
decoded_fewer u u' src x room room' read end part more is size d =
    let rest : drop part.read x ≡ drop (read + part.read) src = ap (drop part.read) is ∙ drop-drop part.read read src in
    let parts : length (u.state.pieces (drop read src)) ≡ length d.taken + length (u'.state.pieces (drop (read + part.read) src)) =
    ap (λ (l : List ℕ). length (u.state.pieces l)) (sym is) ∙ ap length d.pieces ∙ length-append d.taken (u'.state.pieces (drop part.read x)) ∙ ap (λ (l : List ℕ). length d.taken + length (u'.state.pieces l)) rest in
    by part.end refl parts
  where
    by : (e : End) → part.end ≡ e → length (u.state.pieces (drop read src)) ≡ length d.taken + length (u'.state.pieces (drop (read + part.read) src))
        → length (u'.state.pieces (drop (read + part.read) src)) + more_calls e < length (u.state.pieces (drop read src)) + more_calls end
    by Ended is_end parts = omega (arith, parts, ap more_calls more)
    by Malformed is_end parts = omega (arith, parts, ap more_calls more)
    by More is_end parts =
        let adds = d.writes (λ bad. absurd (cc (sym is_end ∙ bad))) in
        omega (arith, parts, ap more_calls more, some_taken d.taken (omega (arith, d.full is_end, size, adds.counted)))

is_ended : (e : End) → e ≢ More → e ≢ Malformed → e ≡ Ended
is_ended Ended not_more fine = refl
is_ended More not_more fine = absurd (not_more refl)
is_ended Malformed not_more fine = absurd (fine refl)

-- after the last, unless it ended at a malformed sequence
pub decoded_all : (v u : DecoderView) (src own old now : List ℕ) (replaces : Bool) (read : ℕ) (end : End) (had : Bool) (filled : Filled) (left : Option (Bor (List ℕ))) (is_own : Bool)
    → DecodedSoFar v u src own old now replaces read end had filled left → end ≢ More → end ≢ Malformed → ((made : List ℕ) → HasLeft own made left → IsTrue is_own ↔ (made ≡ own))
    → TextIsMade (v.state.pieces src) own old now (record { filled = filled; had_errors = had; is_own = is_own })
decoded_all v u src own old now replaces read end had filled left is_own so not_more fine tests =
    let all : so.taken ≡ v.state.pieces src = sym (so.pieces ∙ ap (λ (ps : List Piece). so.taken ++ ps) (so.ended (is_ended end not_more fine)) ∙ append-nil so.taken) in
    let put = so.put fine in
    subst (λ (ps : List Piece). TextIsMade ps own old now (record { filled = filled; had_errors = had; is_own = is_own })) all (record {
      filled = put.holds;
      front = put.front;
      after = put.after;
      parts = put.parts;
      is = put.is;
      had = so.lost;
      own_is = tests (encode_utf8_all (text so.taken)) put.is_left;
    })

-- and if it did
pub decoded_malformed : (v u : DecoderView) (src own old now : List ℕ) (replaces : Bool) (read : ℕ) (end : End) (had : Bool) (filled : Filled) (left : Option (Bor (List ℕ)))
    → DecodedSoFar v u src own old now replaces read end had filled left → end ≡ Malformed → 0 < malformed_count (v.state.pieces src)
decoded_malformed v u src own old now replaces read end had filled left so bad =
    omega (arith, so.malformed bad, ap malformed_count so.pieces, malformed_count-append so.taken (u.state.pieces (drop read src)))

-- ---- a call of an encoder

-- Of an encoder and its text, whose rest is still to be read: what its calls made, whether a reference is in it, and how
-- the last call ended.
pub record EncodedSoFar (x u : EncoderState) (cs rest old now : List ℕ) (outcome : CoderResult) (lost : Bool) (filled : Filled) : Type 0 where
  pub same : length now ≡ length old
  pub coder : u ≡ record x { set = u.set }
  pub made : List ℕ
  pub bytes : whole_from Decimal (coding_in x) x.set cs ≡ made ++ whole_from Decimal (coding_in x) u.set rest
  pub holds : HoldsFront made old now filled
  pub prefix : List ℕ
  pub split : cs ≡ prefix ++ rest
  pub told : IsTrue lost ↔ (0 < lost_count (coding_in x) prefix)
  pub ended : outcome ≡ CoderResult.InputEmpty → (rest ≡ []) × (u.set ≡ Ascii)

-- so many more calls may come than bytes are left
abbrev pub calls_left : CoderResult → ℕ
calls_left CoderResult.InputEmpty = 0
calls_left CoderResult.OutputFull = 1

ended_by : (outcome : CoderResult) (s : EscapeState) (rest : List ℕ) → ReplacingEndsWith true outcome s rest → outcome ≡ CoderResult.InputEmpty → (rest ≡ []) × (s ≡ Ascii)
ended_by CoderResult.InputEmpty s rest ends is = (ends.0, ends.1 refl)
ended_by CoderResult.OutputFull s rest ends is = absurd (cc)

-- after the first call
pub encoded_first : (x u : EncoderState) (cs rest old new : List ℕ) (w : ℕ) (outcome : CoderResult) (lost : Bool) (size : ℕ) (filled : Filled) → Replaces x true outcome cs (take w new) u rest lost size → WritesBytes old new w → length new ≡ length old
    → filled.put ≡ w → filled.length ≡ w → filled.is_whole ≡ true → EncodedSoFar x u cs rest old new outcome lost filled
encoded_first x u cs rest old new w outcome lost size filled call wrote same put length_is whole = record {
  same = same;
  coder = call.same;
  made = take w new;
  bytes = call.bytes;
  holds = first_filled old new w filled wrote.room wrote.behind put length_is whole;
  prefix = call.prefix;
  split = call.split;
  told = call.told;
  ended = ended_by outcome u.set rest call.ends;
}

-- after one more
pub encoded_more : (x u u' : EncoderState) (cs rest rest' old now now' written : List ℕ) (outcome outcome' : CoderResult) (lost more : Bool) (size : ℕ) (filled filled' : Filled) → EncodedSoFar x u cs rest old now outcome lost filled
    → Replaces u true outcome' rest written u' rest' more size → length now' ≡ length now → ((made : List ℕ) → HoldsFront made old now filled → HoldsFront (made ++ written) old now' filled')
    → EncodedSoFar x u' cs rest' old now' outcome' (lost || more) filled'
encoded_more x u u' cs rest rest' old now now' written outcome outcome' lost more size filled filled' so call same adds =
    let code : coding_in u ≡ coding_in x = ap coding_in so.coder in
    let next : whole_from Decimal (coding_in x) u.set rest ≡ written ++ whole_from Decimal (coding_in x) u'.set rest' =
    subst (λ (k : Coding). whole_from Decimal k u.set rest ≡ written ++ whole_from Decimal k u'.set rest') code call.bytes in
    let told : IsTrue more ↔ (0 < lost_count (coding_in x) call.prefix) = subst (λ (k : Coding). IsTrue more ↔ (0 < lost_count k call.prefix)) code call.told in
    record {
      same = same ∙ so.same;
      coder = call.same ∙ ap (λ (y : EncoderState). record y { set = u'.set }) so.coder;
      made = so.made ++ written;
      bytes = so.bytes ∙ ap (λ (l : List ℕ). so.made ++ l) next ∙ sym (append_assoc so.made written (whole_from Decimal (coding_in x) u'.set rest'));
      holds = adds so.made so.holds;
      prefix = so.prefix ++ call.prefix;
      split = so.split ∙ ap (λ (l : List ℕ). so.prefix ++ l) call.split ∙ sym (append_assoc so.prefix call.prefix rest');
      told = or_some lost more (lost_count (coding_in x) so.prefix) (lost_count (coding_in x) call.prefix) _ so.told told (lost_count-append (coding_in x) so.prefix call.prefix);
      ended = ended_by outcome' u'.set rest' call.ends;
    }

-- one more call leaves less
pub encoded_fewer : (u u' : EncoderState) (rest rest' written : List ℕ) (outcome outcome' : CoderResult) (more : Bool) (size : ℕ) → Replaces u true outcome' rest written u' rest' more size → outcome ≡ CoderResult.OutputFull → size ≡ 1024
    → length (whole_from Decimal (coding_in u') u'.set rest') + calls_left outcome' < length (whole_from Decimal (coding_in u) u.set rest) + calls_left outcome
encoded_fewer u u' rest rest' written outcome outcome' more size call full is =
    let code : coding_in u' ≡ coding_in u = ap coding_in call.same in
    let parts : length (whole_from Decimal (coding_in u) u.set rest) ≡ length written + length (whole_from Decimal (coding_in u') u'.set rest') =
    ap length call.bytes ∙ length-append written (whole_from Decimal (coding_in u) u'.set rest') ∙ ap (λ (k : Coding). length written + length (whole_from Decimal k u'.set rest')) (sym code) in
    by outcome' refl parts
  where
    by : (o : CoderResult) → outcome' ≡ o → length (whole_from Decimal (coding_in u) u.set rest) ≡ length written + length (whole_from Decimal (coding_in u') u'.set rest')
        → length (whole_from Decimal (coding_in u') u'.set rest') + calls_left o < length (whole_from Decimal (coding_in u) u.set rest) + calls_left outcome
    by CoderResult.InputEmpty is_end parts = omega (arith, parts, ap calls_left full)
    by CoderResult.OutputFull is_end parts =
        omega (arith, parts, ap calls_left full, call.full is_end, need_few u.encoding, kept_few u.encoding, is)

-- after the last: all of it was put into the room, as far as it fits
pub encoded_all : (x u : EncoderState) (cs rest old now : List ℕ) (outcome : CoderResult) (lost : Bool) (filled : Filled) → EncodedSoFar x u cs rest old now outcome lost filled → outcome ≢ CoderResult.OutputFull
    → HoldsFront (whole_from Decimal (coding_in x) x.set cs) old now filled × (IsTrue lost ↔ (0 < lost_count (coding_in x) cs))
encoded_all x u cs rest old now CoderResult.OutputFull lost filled so not = absurd (not refl)
encoded_all x u cs rest old now CoderResult.InputEmpty lost filled so not =
    let over = so.ended refl in
    let all : so.made ≡ whole_from Decimal (coding_in x) x.set cs = sym (so.bytes ∙ rw (over.0, over.1, (coding_laws x.tables x.encoding).same Ascii) (append-nil so.made)) in
    let text_ : so.prefix ≡ cs = sym (so.split ∙ ap (λ (l : List ℕ). so.prefix ++ l) over.0 ∙ append-nil so.prefix) in
    (subst (λ (l : List ℕ). HoldsFront l old now filled) all so.holds, subst (λ (l : List ℕ). IsTrue lost ↔ (0 < lost_count (coding_in x) l)) text_ so.told)

-- ---- an export, by what was put

-- Puts says so of what was put: then it says so of all, if it is whole
pub puts_if_room : (Puts : (old output new : List ℕ) (written : ℕ) → Type 0) (made old mid new : List ℕ) (filled : Filled) (is_lossy : Bool) → HoldsFront made old mid filled → Puts old (take filled.put mid) new filled.put
    → PutsIfRoom Puts made old new is_lossy filled.length (filled_status filled is_lossy)
puts_if_room Puts made old mid new filled is_lossy holds put = by (either_way filled.is_whole)
  where
    by : (filled.is_whole ≡ true) ⊎ (filled.is_whole ≡ false) → PutsIfRoom Puts made old new is_lossy filled.length (filled_status filled is_lossy)
    by (inl whole) =
        let all : take filled.put mid ≡ made = front_of made old mid filled holds whole in
        let size : filled.length ≡ filled.put = (holds.whole whole).1 in
        inl (record {
          put = subst (λ (n : ℕ). Puts old made new n) (sym size) (subst (λ (l : List ℕ). Puts old l new filled.put) all put);
          length_is = omega (arith, size, ap length all, length-take filled.put mid, holds.fits);
          told = rw whole refl;
        })
    by (inr cut) = inr (record {
      longer = holds.cut cut;
      front = take filled.put mid;
      rest = holds.rest;
      parts = holds.parts;
      put = subst (λ (n : ℕ). Puts old (take filled.put mid) new n) (omega (arith, length-take filled.put mid, holds.fits)) put;
      length_is = holds.length_is;
      told = rw cut refl;
    })

pub put_there : (made old new : List ℕ) (filled : Filled) → HoldsFront made old new filled → IsPut old (take filled.put new) new filled.put
put_there made old new filled holds = record { fits = holds.fits; is = refl; behind = holds.behind }

-- if all that is asked for is there
pub if_can : (t : IndexLists) (encoding mark : ℕ) (e : Encoding) (m : Mark) (Then : Encoding → Mark → Type 0) (status : ℕ) → encoding_at encoding ≡ Some e → mark_at mark ≡ Some m → IsReady t e → Then e m → IfCanDecode t encoding mark Then status
if_can t encoding mark e m Then status is_encoding is_mark ready then = rw is_encoding (rw is_mark (inl (ready, then)))

by_option : {X : Type 0} (o : Option X) (A : Type 0) (F G : X → Type 0) → ((x : X) → F x → G x) → MatchOption o A F → MatchOption o A G
by_option None A F G f h = h
by_option (Some x) A F G f h = f x h

-- what is said then may be said otherwise
pub said_otherwise : (t : IndexLists) (encoding mark : ℕ) (F G : Encoding → Mark → Type 0) (status : ℕ) → ((e : Encoding) (m : Mark) → F e m → G e m) → IfCanDecode t encoding mark F status → IfCanDecode t encoding mark G status
said_otherwise t encoding mark F G status goes h =
    by_option (encoding_at encoding) _ (λ e. MatchOption (mark_at mark) _ (λ m. IfReady t e (F e m) status)) (λ e. MatchOption (mark_at mark) _ (λ m. IfReady t e (G e m) status))
    (λ e. by_option (mark_at mark) _ (λ m. IfReady t e (F e m) status) (λ m. IfReady t e (G e m) status) (ready e)) h
  where
    ready : (e : Encoding) (m : Mark) → IfReady t e (F e m) status → IfReady t e (G e m) status
    ready e m (inl (is, said)) = inl (is, goes e m said)
    ready e m (inr other) = inr other

-- what a decoder of a new stream made, and what is reported of it
pub has_decoded : (t : IndexLists) (encoding mark : ℕ) (e : Encoding) (m : Mark) (v : DecoderView) (src own old new : List ℕ) (source : Encoding × ℕ) (number : ℕ) (whole : Whole)
    → encoding_at encoding ≡ Some e → mark_at mark ≡ Some m → IsReady t e → AreAcceptedTables t → IsNewDecoder v t m e → source ≡ source_of m e src → own ≡ drop source.1 src → number ≡ number_of source.0
    → TextIsMade (v.state.pieces src) own old new whole
    → HasDecoded t encoding mark src old new (record { written = whole.filled.length; mark_len = source.1; encoding = number; is_own = whole.is_own }) whole
has_decoded t encoding mark e m v src own old new source number whole is_encoding is_mark ready accepted begins is_source is_own is_number made =
    let all : TextIsMade (marked_pieces t m e src) own old new whole = subst (λ (ps : List Piece). TextIsMade ps own old new whole) (begins.pieces src) made in
    record {
      e = e;
      m = m;
      encoding_is = is_encoding;
      mark_is = is_mark;
      ready = ready;
      accepted = accepted;
      made = subst (λ (l : List ℕ). TextIsMade (marked_pieces t m e src) l old new whole) (is_own ∙ ap (λ (s : Encoding × ℕ). drop s.1 src) is_source) all;
      length_is = refl;
      told_of = record {
        encoding_is = is_number ∙ ap (λ (s : Encoding × ℕ). number_of s.0) is_source;
        mark_len_is = ap (λ (s : Encoding × ℕ). s.1) is_source;
        own = subst (λ (l : List ℕ). IsTrue whole.is_own ↔ (encode_utf8_all (text (marked_pieces t m e src)) ≡ l)) is_own all.own_is;
      };
    }

not_true : (b : Bool) → (b ≡ true → ⊥) → b ≡ false
not_true true other = absurd (other refl)
not_true false other = refl

-- or nothing, since a sequence is malformed that is not replaced
pub has_not_decoded : (t : IndexLists) (encoding mark : ℕ) (e : Encoding) (m : Mark) (v : DecoderView) (replaces : Bool) (src : List ℕ)
    → encoding_at encoding ≡ Some e → mark_at mark ≡ Some m → IsReady t e → IsNewDecoder v t m e → (replaces ≡ true → ⊥) → 0 < malformed_count (v.state.pieces src) → HasNotDecoded t encoding mark replaces src NOT_WELL_FORMED
has_not_decoded t encoding mark e m v replaces src is_encoding is_mark ready begins other some =
    if_can t encoding mark e m (λ e m. (replaces ≡ false) × (0 < malformed_count (marked_pieces t m e src)) × (NOT_WELL_FORMED ≡ NOT_WELL_FORMED)) NOT_WELL_FORMED is_encoding is_mark ready
    (not_true replaces other, subst (λ (ps : List Piece). 0 < malformed_count ps) (begins.pieces src) some, refl)

-- an input that was decoded is put so, if this says so of what was put
pub decodes_whole : (Puts : (old output new : List ℕ) (written : ℕ) → Type 0) (t : IndexLists) (encoding mark : ℕ) (src old mid new : List ℕ) (told : Decoded) (whole : Whole) (h : HasDecoded t encoding mark src old mid told whole)
    → Puts old (take whole.filled.put mid) new whole.filled.put → DecodesWhole Puts t h.e h.m src old new told (filled_status whole.filled whole.had_errors)
decodes_whole Puts t encoding mark src old mid new told whole h put = record {
  text = encode_utf8_all (text (marked_pieces t h.m h.e src));
  had_errors = whole.had_errors;
  decoded = record { bytes = refl; malformed_ = h.made.had };
  put = subst (λ (n : ℕ). PutsIfRoom Puts (encode_utf8_all (text (marked_pieces t h.m h.e src))) old new whole.had_errors n (filled_status whole.filled whole.had_errors)) (sym h.length_is)
      (puts_if_room Puts (encode_utf8_all (text (marked_pieces t h.m h.e src))) old mid new whole.filled whole.had_errors h.made.filled put);
  told_of = h.told_of;
}

pub decodes_if_ready : (Puts : (old output new : List ℕ) (written : ℕ) → Type 0) (t : IndexLists) (encoding mark : ℕ) (src old mid new : List ℕ) (told : Decoded) (whole : Whole) (h : HasDecoded t encoding mark src old mid told whole)
    → Puts old (take whole.filled.put mid) new whole.filled.put → DecodesIfReady Puts t encoding mark src old new told (filled_status whole.filled whole.had_errors)
decodes_if_ready Puts t encoding mark src old mid new told whole h put =
    if_can t encoding mark h.e h.m (λ e m. DecodesWhole Puts t e m src old new told (filled_status whole.filled whole.had_errors)) _ h.encoding_is h.mark_is h.ready (decodes_whole Puts t encoding mark src old mid new told whole h put)

pub decodes_not : (Puts : (old output new : List ℕ) (written : ℕ) → Type 0) (t : IndexLists) (encoding mark : ℕ) (src old new : List ℕ) (told : Decoded) (status : ℕ) → HasNotDecoded t encoding mark true src status → DecodesIfReady Puts t encoding mark src old new told status
decodes_not Puts t encoding mark src old new told status = said_otherwise t encoding mark _ (λ e m. DecodesWhole Puts t e m src old new told status) status (λ e m said. absurd (cc (said.0)))

none_counted : (n : ℕ) (b : Bool) → b ≡ false → IsTrue b ↔ (0 < n) → n ≡ 0
none_counted n b not is = by (cases_lt 0 n)
  where
    by : (0 < n) ⊎ (n ≤ 0) → n ≡ 0
    by (inl some) = absurd (cc (sym not ∙ is.1 some))
    by (inr none) = omega (arith, none)

-- if malformed sequences are not replaced
pub decodes_well_formed : (t : IndexLists) (encoding mark : ℕ) (src old new : List ℕ) (told : Decoded) (whole : Whole) → HasDecoded t encoding mark src old new told whole → whole.had_errors ≡ false
    → IfCanDecode t encoding mark (DecodesWellFormed t src old new told (filled_status whole.filled whole.had_errors)) (filled_status whole.filled whole.had_errors)
decodes_well_formed t encoding mark src old new told whole h lossless =
    if_can t encoding mark h.e h.m (DecodesWellFormed t src old new told (filled_status whole.filled whole.had_errors)) _ h.encoding_is h.mark_is h.ready
    (inl (none_counted _ whole.had_errors lossless h.made.had, decodes_whole IsPut t encoding mark src old new new told whole h (put_there _ old new whole.filled h.made.filled)))

pub decodes_malformed : (t : IndexLists) (encoding mark : ℕ) (src old new : List ℕ) (told : Decoded) (status : ℕ) → HasNotDecoded t encoding mark false src status → IfCanDecode t encoding mark (DecodesWellFormed t src old new told status) status
decodes_malformed t encoding mark src old new told status = said_otherwise t encoding mark _ (DecodesWellFormed t src old new told status) status (λ e m said. inr (said.1, said.2))

front_scalars : (a b : List ℕ) → all_scalars (a ++ b) ≡ true → all_scalars a ≡ true
front_scalars [] b h = refl
front_scalars (c ∷ a) b h = let parts = and_parts _ _ h in ap (λ y. y && all_scalars a) parts.0 ∙ front_scalars a b parts.1

-- what was put is characters
pub put_scalars : (t : IndexLists) (encoding mark : ℕ) (src old new : List ℕ) (told : Decoded) (whole : Whole) (h : HasDecoded t encoding mark src old new told whole) → all_scalars (text h.made.front) ≡ true
put_scalars t encoding mark src old new told whole h =
    front_scalars (text h.made.front) (text h.made.after) (ap all_scalars (sym (text-append h.made.front h.made.after) ∙ ap text (sym h.made.parts)) ∙ marked_scalars t h.m h.e src h.accepted)

-- if all was put, the room begins with a text
pub whole_text : (t : IndexLists) (encoding mark : ℕ) (src old new : List ℕ) (told : Decoded) (whole : Whole) → HasDecoded t encoding mark src old new told whole → IsVerdict (filled_status whole.filled whole.had_errors) → BeginsWithText new told.written
whole_text t encoding mark src old new told whole h verdict = by (either_way whole.filled.is_whole)
  where
    by : (whole.filled.is_whole ≡ true) ⊎ (whole.filled.is_whole ≡ false) → BeginsWithText new told.written
    by (inl all) =
        let size : told.written ≡ whole.filled.put = h.length_is ∙ (h.made.filled.whole all).1 in
        record {
          within = omega (arith, size, h.made.filled.fits);
          utf8 = subst (λ (n : ℕ). IsUtf8 (take n new)) (sym size) (subst IsUtf8 (sym h.made.is) (text h.made.front, (put_scalars t encoding mark src old new told whole h, refl)));
        }
    by (inr cut) = elim (rw cut at verdict) [ inl ok ↦ absurd (cc ok) | inr lossy ↦ absurd (cc lossy) ]

-- ---- a text is encoded

pub encodes_if_ready : (t : IndexLists) (encoding : ℕ) (e : Encoding) (x : EncoderState) (bytes old new : List ℕ) (filled : Filled) (lost : Bool) → encoding_at encoding ≡ Some e → IsReady t (output_encoding_of e) → x ≡ new_state t e
    → HoldsFront (whole_from Decimal (coding_in x) x.set (chars bytes)) old new filled → (IsTrue lost ↔ (0 < lost_count (coding_in x) (chars bytes))) → EncodesIfReady t encoding bytes old new filled.length (filled_status filled lost)
encodes_if_ready t encoding e x bytes old new filled lost is_encoding ready begins holds told =
    let all : whole_from Decimal (coding_in x) x.set (chars bytes) ≡ output Decimal (coding_of t e) (chars bytes) =
    ap (λ (y : EncoderState). whole_from Decimal (coding_in y) y.set (chars bytes)) begins ∙ ap (λ (d : Encoding). whole_from Decimal (codec_of t (codec_kind_of d)).coding Ascii (chars bytes)) (output_twice e) in
    let count : lost_count (coding_in x) (chars bytes) ≡ lost_count (coding_of t e) (chars bytes) =
    ap (λ (y : EncoderState). lost_count (coding_in y) (chars bytes)) begins ∙ ap (λ (d : Encoding). lost_count (codec_of t (codec_kind_of d)).coding (chars bytes)) (output_twice e) in
    let put = subst (λ (l : List ℕ). HoldsFront l old new filled) all holds in
    rw is_encoding (inl (
      ready,
      record {
        had_unmappable = lost;
        lost = subst (λ (n : ℕ). IsTrue lost ↔ (0 < n)) count told;
        put = puts_if_room IsPut (output Decimal (coding_of t e) (chars bytes)) old new new filled lost put (put_there _ old new filled put);
      },
    ))
