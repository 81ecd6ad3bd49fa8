-- What callers conclude from calls: of a last call that read all, what it wrote; of an encoder's, how many characters
-- without bytes are still to be reported.
use Rattle.std.proofs.Common.{◌≡◌, ℕ, ◌<◌, ◌↔◌, inl, inr, Bool, true, IsTrue, List, [], ◌++◌, drop, refl, sym, ◌∙◌, ap, subst, ◌+◌, arith}
use Rattle.std.proofs.lemmas.List.{append-nil}
use Rattle.encoding_mem.specs.Piece.{Piece, text, malformed_count, AreWellFormed}
use Rattle.encoding_mem.specs.laws.Losses.{lost_count-append}
use Rattle.encoding_mem.specs.laws.Piece.{well_formed_text}
use Rattle.encoding_mem.specs.laws.ReadBack.{none_lost}
use Rattle.encoding_mem.specs.Coding.{AllMapped, Coding, lost_count, unmapped_count, whole_from}
use Rattle.encoding_mem.specs.calls.DecodedLength.{replacement_len, two_in}
use Rattle.encoding_mem.specs.calls.Decoding.{DecoderState, EndsWith, Reports, Takes}
use Rattle.encoding_mem.specs.calls.EncoderCalls.{Encodes}
use Rattle.encoding_mem.specs.calls.ReadCalls.{IsNotUnmappable}
use Rattle.encoding_mem.specs.declared.codec.reference.Reference.TheVariants.{Decimal}
use Rattle.encoding_mem.specs.declared.codec.form.EscapeState.{EscapeState}
use Rattle.encoding_mem.specs.declared.codec.form.EscapeState.TheVariants.{Ascii}
use Rattle.encoding_mem.specs.declared.codec.decoder_result.DecoderResult.{DecoderResult}
use Rattle.encoding_mem.specs.declared.codec.decoder_result.DecoderResult.TheVariants.{InputEmpty, OutputFull, Malformed}
use Rattle.encoding_mem.specs.declared.codec.encoder_result.EncoderResult.{EncoderResult}
use Rattle.encoding_front.specs.calls.DecodedText.{raw_result}
use Rattle.encoding_front.specs.calls.DecoderCall.{DecoderCall, RoomLeft, TextCall}
use Rattle.encoding_front.specs.calls.Encoder.{Encoded, EncoderState, Replaces, coding_in}
use Rattle.encoding_front.specs.calls.Stream.{DecoderView}
use Rattle.encoding_front.specs.laws.Encoder.{coding_laws}
use Rattle.encoding_front.specs.declared.coder_result.CoderResult.{CoderResult}

-- it leaves nothing unread, and nothing is to come
nothing_left : (after : DecoderState) (unread : List ℕ) (free room replacement : ℕ) (outcome : DecoderResult) → outcome ≡ InputEmpty → EndsWith after unread true free room replacement outcome → (unread ≡ []) × (after.pieces [] ≡ [])
nothing_left after unread free room replacement InputEmpty is (read, inl none) = (read, none.1)
nothing_left after unread free room replacement InputEmpty is (read, inr waits) = absurd (cc waits.0)
nothing_left after unread free room replacement OutputFull is ends = absurd (cc)
nothing_left after unread free room replacement (Malformed a b) is ends = absurd (cc)

-- so it took all pieces that were to come
took_all : (before after : List ℕ → List Piece) (src : List ℕ) (taken : List Piece) (read : ℕ) → ((r : List ℕ) → (true ≡ true → r ≡ []) → before (src ++ r) ≡ taken ++ after (drop read src ++ r))
    → (drop read src ≡ []) × (after [] ≡ []) → taken ≡ before src
took_all before after src taken read rest left =
    sym (
    ap before (sym (append-nil src)) ∙ rest [] (λ _. refl)
    ∙ ap (λ (x : List ℕ). taken ++ after x) (append-nil (drop read src) ∙ left.0) ∙ ap (λ (ps : List Piece). taken ++ ps) left.1 ∙ append-nil taken
    )

-- A last call that read all, with U+FFFD for each malformed sequence, wrote the text of all pieces that were to come, and
-- returned whether one of them is malformed.
pub wrote_text : (v v' : DecoderView) (src : List ℕ) (read : ℕ) (W : List ℕ → Type 0) (left : RoomLeft) (outcome : CoderResult) (had_errors : Bool)
    → TextCall v v' src true read W left outcome had_errors → outcome ≡ CoderResult.InputEmpty → W (text (v.state.pieces src)) × (IsTrue had_errors ↔ (0 < malformed_count (v.state.pieces src)))
wrote_text v v' src read W left outcome had_errors call is =
    let none = nothing_left v'.state (drop read src) left.free (two_in left.in_units) (replacement_len left.in_units) (raw_result outcome) (ap raw_result is) call.ends in
    let all : call.law.taken ≡ v.state.pieces src = took_all v.state.pieces v'.state.pieces src call.law.taken read call.law.rest none in
    (subst (λ (ps : List Piece). W (text ps)) all call.law.writes, subst (λ (ps : List Piece). IsTrue had_errors ↔ (0 < malformed_count ps)) all call.law.had)

-- A last call that read all, and stops at malformed sequences, wrote the text of all pieces that were to come, none of
-- which is malformed.
pub wrote_scalars : (v v' : DecoderView) (src : List ℕ) (read : ℕ) (W : List ℕ → Type 0) (left : RoomLeft) (outcome : DecoderResult)
    → DecoderCall v v' src true read W left outcome → outcome ≡ InputEmpty → W (text (v.state.pieces src)) × AreWellFormed (v.state.pieces src)
wrote_scalars v v' src read W left outcome call is =
    let none = nothing_left v'.state (drop read src) left.free (two_in left.in_units) (replacement_len left.in_units) outcome is call.ends in
    let law : Takes (Reports InputEmpty v'.state.pending) v.state.pieces v'.state.pieces src true v.state.pending v'.state.pending read W =
    subst (λ (o : DecoderResult). Takes (Reports o v'.state.pending) v.state.pieces v'.state.pieces src true v.state.pending v'.state.pending read W) is call.law in
    let all : law.taken ≡ v.state.pieces src = took_all v.state.pieces v'.state.pieces src law.taken read law.rest none in
    let wrote : W (text law.taken) = subst W (sym (well_formed_text law.taken law.well_formed)) law.writes in
    (subst (λ (ps : List Piece). W (text ps)) all wrote, subst AreWellFormed all law.well_formed)

-- if nothing of a text is left, and ASCII is in force, nothing more is to be written
closed : (x x' : EncoderState) (text written rest : List ℕ) → whole_from Decimal (coding_in x) x.set text ≡ written ++ whole_from Decimal (coding_in x) x'.set rest
    → (rest ≡ []) × (x'.set ≡ Ascii) → written ≡ whole_from Decimal (coding_in x) x.set text
closed x x' text written rest bytes left =
    sym (bytes ∙ rw (left.0, left.1, (coding_laws x.tables x.encoding).same Ascii) (append-nil written))

-- A last call that read all, and writes references, wrote the bytes of the whole text, and returned whether a character
-- of it has none.
pub wrote_replaced : (x x' : EncoderState) (text written rest : List ℕ) (lost : Bool) (size : ℕ) (outcome : CoderResult)
    → Replaces x true outcome text written x' rest lost size → outcome ≡ CoderResult.InputEmpty
    → (written ≡ whole_from Decimal (coding_in x) x.set text) × (IsTrue lost ↔ (0 < lost_count (coding_in x) text))
wrote_replaced x x' text written rest lost size CoderResult.InputEmpty call is =
    let all : call.prefix ≡ text = sym (call.split ∙ ap (λ (r : List ℕ). call.prefix ++ r) call.ends.0 ∙ append-nil call.prefix) in
    (closed x x' text written rest call.bytes (call.ends.0, call.ends.1 refl), subst (λ (t : List ℕ). IsTrue lost ↔ (0 < lost_count (coding_in x) t)) all call.told)
wrote_replaced x x' text written rest lost size CoderResult.OutputFull call is = absurd (cc)

-- A last call that read all, and stops at characters without bytes, wrote the bytes of the whole text, each character of
-- which has some.
pub wrote_mapped : (x x' : EncoderState) (text written rest : List ℕ) (room : ℕ) (outcome : EncoderResult) → Encoded x true outcome text written x' rest room → outcome ≡ EncoderResult.InputEmpty
    → (written ≡ whole_from Decimal (coding_in x) x.set text) × AllMapped (coding_in x) text
wrote_mapped x x' text written rest room EncoderResult.InputEmpty call is =
    let law : Encodes (coding_in x) true EncoderResult.InputEmpty x.set text written x'.set rest = call.codec.law in
    let all : law.before ≡ text = sym (law.split ∙ ap (λ (r : List ℕ). law.before ++ r) law.leaves.0 ∙ append-nil law.before) in
    (closed x x' text written rest call.bytes (law.leaves.1, law.leaves.2), subst (AllMapped (coding_in x)) all law.mapped)
wrote_mapped x x' text written rest room EncoderResult.OutputFull call is = absurd (cc)
wrote_mapped x x' text written rest room (EncoderResult.Unmappable c) call is = absurd (cc)

-- of a text, by what a call wrote before the next character
lost_before : (e : Coding) (last : Bool) (outcome : EncoderResult) (s : EscapeState) (text written : List ℕ) (s' : EscapeState) (rest : List ℕ) (h : Encodes e last outcome s text written s' rest)
    → lost_count e text ≡ lost_count e h.next
lost_before e last outcome s text written s' rest h =
    ap (lost_count e) h.split ∙ omega (arith, lost_count-append e h.before h.next, none_lost e h.before h.mapped)

-- A call that reports a character without bytes leaves one less to be reported.
pub one_reported : (x x' : EncoderState) (last : Bool) (text written rest : List ℕ) (room c : ℕ) (outcome : EncoderResult) → Encoded x last outcome text written x' rest room → outcome ≡ EncoderResult.Unmappable c
    → lost_count (coding_in x) text ≡ 1 + lost_count (coding_in x) rest
one_reported x x' last text written rest room c outcome call is =
    let law : Encodes (coding_in x) last (EncoderResult.Unmappable c) x.set text written x'.set rest =
    subst (λ (o : EncoderResult). Encodes (coding_in x) last o x.set text written x'.set rest) is call.codec.law in
    omega (arith, lost_before (coding_in x) last (EncoderResult.Unmappable c) x.set text written x'.set rest law, ap (lost_count (coding_in x)) law.leaves.1, ap unmapped_count law.leaves.2)

-- A call that reports no character leaves as many.
pub none_reported : (x x' : EncoderState) (last : Bool) (text written rest : List ℕ) (room : ℕ) (outcome : EncoderResult) → Encoded x last outcome text written x' rest room → IsNotUnmappable outcome
    → lost_count (coding_in x) text ≡ lost_count (coding_in x) rest
none_reported x x' last text written rest room EncoderResult.InputEmpty call other =
    let law : Encodes (coding_in x) last EncoderResult.InputEmpty x.set text written x'.set rest = call.codec.law in
    lost_before (coding_in x) last EncoderResult.InputEmpty x.set text written x'.set rest law ∙ ap (lost_count (coding_in x)) (law.leaves.0 ∙ sym law.leaves.1)
none_reported x x' last text written rest room EncoderResult.OutputFull call other =
    let law : Encodes (coding_in x) last EncoderResult.OutputFull x.set text written x'.set rest = call.codec.law in
    lost_before (coding_in x) last EncoderResult.OutputFull x.set text written x'.set rest law ∙ ap (lost_count (coding_in x)) law.leaves.0
none_reported x x' last text written rest room (EncoderResult.Unmappable c) call other = absurd (other c refl)
