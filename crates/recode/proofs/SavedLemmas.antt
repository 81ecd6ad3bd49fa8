-- What calls of an engine leave of the codecs of its job, and what was saved of a converter.
use Rattle.std.proofs.Common.{◌≡◌, ◌≤◌, ◌+◌, ◌-◌, ◌^◌, ◌++◌, ℕ, Bool, false, List, [], arith, drop, length, length-take, take, Option, inl, inr, refl, sym, ◌∙◌, ap, subst}
use Rattle.std.specs.Str.{chars}
use Rattle.std.proofs.Props.{props}
use Rattle.std.proofs.Math.Seq.{take-append_seam}
use Rattle.std.specs.Borrow.{Bor}
use Rattle.std.proofs.Math.Logic.{∥∥₁_elim, ∥∥₁_map}
use Rattle.encoding_mem.specs.Coding.{Coding}
use Rattle.encoding_mem.specs.calls.EncoderRule.{EncoderCall, EncoderParts, Moves}
use Rattle.encoding_mem.specs.declared.codec.encoder_result.EncoderResult.{EncoderResult}
use Rattle.encoding_mem.specs.declared.codec.form.EscapeState.{EscapeState}
use Rattle.encoding_mem.specs.declared.codec.form.EscapeState.TheVariants.{Ascii}
use Rattle.encoding_mem.specs.laws.EncoderCalls.{encoded_moves}
use Rattle.encoding_tables.specs.IndexLists.{IndexLists}
use Rattle.encoding_front.specs.calls.Stream.{DecoderView, IsMadeFrom}
use Rattle.encoding_mem.specs.Piece.{sizes}
use Rattle.encoding_mem.specs.calls.ReadCalls.{ReadsAlong}
use Rattle.encoding_mem.specs.calls.Resuming.{Reading}
use Rattle.encoding_mem.specs.declared.codec.decoder_result.DecoderResult.{DecoderResult}
use Rattle.encoding_front.specs.Encodings.{IsReady, coding_of, output_encoding_of}
use Rattle.encoding_front.specs.calls.SavedDecoders.{CanBeResumed, ReadsAlike, Saves}
use Rattle.encoding_front.specs.laws.Ready.{AreThere-prop}
use Rattle.encoding_front.specs.laws.SavedDecoders.{CanBeResumed-prop, can_be_resumed, saved_alike}
use Rattle.recode.specs.Job.{target_of}
use Rattle.recode.specs.SavedConverters.{CanGoOnFrom, CanWait, IsSoundSaved, SavesConverter, job_with, saved_standing}
use Rattle.recode.specs.calls.EngineView.{HoldsBetween, converter_of_parts, over_text, replacing, standing}
use Rattle.recode.specs.calls.Turns.{IsBetweenCalls, Standing, waiting}
use Rattle.recode.specs.calls.Verdict.{CanTell, IsReadAlong, IsToldByLog}
use Rattle.recode.specs.declared.converter.saved_converter.SavedConverter.{SavedConverter}
use Rattle.recode.specs.declared.job.Policy.{Policy}
use Rattle.recode.specs.calls.EngineCodecs.{AreCodecsOf}
use Rattle.recode.specs.declared.engine.Engine.{Engine}
use Rattle.recode.specs.declared.job.Job.{Job}

-- ---- the codecs of an engine

-- calls that come from ASCII to a set, and from that to another, come from ASCII to the other
moves_on : (e : Coding) (s s' : EscapeState) → Moves e Ascii s → Moves e s s' → Moves e Ascii s'
moves_on e s s' h (inl same) = subst (λ (q : EscapeState). Moves e Ascii q) (sym same) h
moves_on e s s' h (inr moved) = inr moved

-- a call of the encoder, and what was read back of it, leave codecs of the job
pub encoded_codecs : {D E : Type 0} (view : D → DecoderView) (parts : E → EncoderParts) (j : Job) (c c' : Engine D E)
    (last : Bool) (outcome : EncoderResult) (text written rest : List ℕ) (room : ℕ)
    → EncoderCall (parts c.encoder) (parts c'.encoder) last outcome text written rest room
    → c'.decoder ≡ c.decoder
    → ((t : IndexLists) → IsMadeFrom t (view c.verdict.reader) → IsMadeFrom t (view c'.verdict.reader))
    → AreCodecsOf view parts j c → AreCodecsOf view parts j c'
encoded_codecs view parts j c c' last outcome text written rest room call same made h = record {
  decoder = subst (λ d. IsMadeFrom j.tables.now (view d)) (sym same) h.decoder;
  reader = made j.tables.now h.reader;
  ready = h.ready;
  target = ap (λ (e : EncoderParts). e.coding) call.same ∙ h.target;
  set = ∥∥₁_map {B = Moves (target_of j) Ascii (parts c'.encoder).set} h.set (λ m. moves_on (target_of j) (parts c.encoder).set (parts c'.encoder).set m
      (subst (λ (e : Coding). Moves e (parts c.encoder).set (parts c'.encoder).set) h.target
      (encoded_moves (parts c.encoder).coding last outcome (parts c.encoder).set text written (parts c'.encoder).set rest call.law)));
}

-- so does the line of a malformed sequence
pub replaced_codecs : {D E : Type 0} (view : D → DecoderView) (parts : E → EncoderParts) (j : Job) (c : Engine D E) (to : ℕ)
    → AreCodecsOf view parts j c → AreCodecsOf view parts j (replacing c to)
replaced_codecs view parts j c to h = record { decoder = h.decoder; reader = h.reader; ready = h.ready; target = h.target; set = h.set }

-- and how the text that waits ended
pub answered_codecs : {D E : Type 0} (view : D → DecoderView) (parts : E → EncoderParts) (j : Job) (c : Engine D E) (answer : Option DecoderResult)
    → AreCodecsOf view parts j c → AreCodecsOf view parts j (record c { answer = answer })
answered_codecs view parts j c answer h = record { decoder = h.decoder; reader = h.reader; ready = h.ready; target = h.target; set = h.set }

-- ---- what was saved

-- what can be said of two decoders that read alike is the same
verdict_alike : (e : Coding) (s : EscapeState) (t : List ℕ) (r r' : DecoderView) (by_log faithful : Bool) → ReadsAlike r r'
    → CanTell (record { reader = r; by_log = by_log; faithful = faithful }) e s t → CanTell (record { reader = r'; by_log = by_log; faithful = faithful }) e s t
verdict_alike e s t r r' by_log faithful alike h = record {
  open_ = sym alike.finished ∙ h.open_;
  along = ∥∥₁_map {B = IsReadAlong (record { reader = r'; by_log = by_log; faithful = faithful }) e s t} h.along (λ k. record {
    pieces_from = k.pieces_from;
    steps = k.steps;
    along = λ f. subst (λ (x : Reading). ReadsAlong e k.pieces_from x.pieces s t) alike.state (k.along f);
    told = λ b. subst (λ (x : Reading). IsToldByLog e k.pieces_from x.pieces) alike.state (k.told b);
  });
}

module _ (w : SavedConverter) (text : List ℕ) (lists : IndexLists) (d d' r r' : DecoderView) (decoders : ReadsAlike d d') (readers : ReadsAlike r r') where
  between_alike : IsBetweenCalls (saved_standing w text lists Policy.Decimal d r) w.ended → IsBetweenCalls (saved_standing w text lists Policy.Decimal d' r') w.ended
  between_alike h = record {
    sound = record {
      index = subst (λ (x : Reading). w.counts.index + (sizes (waiting (saved_standing w text lists Policy.Decimal d r)) + x.pending) ≤ w.counts.read) decoders.state h.sound.index;
      bad = h.sound.bad;
      lost = h.sound.lost;
    };
    tells = verdict_alike (coding_of lists w.job.to) w.set (chars text) r r' w.verdict.by_log w.verdict.faithful readers h.tells;
    finished = sym decoders.finished ∙ h.finished;
    none = h.none;
    malformed = λ a b is. let m = h.malformed a b is in (m.0, m.1, subst (λ (x : Reading). x.pending ≡ b) decoders.state m.2);
    end = λ e. let m = h.end e in (m.0, subst (λ (x : Reading). x.pending ≡ 0) decoders.state m.1, subst (λ (x : Reading). length (x.pieces []) ≡ 0) decoders.state m.2);
    more = h.more;
  }

  sound_alike : IsSoundSaved w text lists d r → IsSoundSaved w text lists d' r'
  sound_alike h = record { limit = h.limit; within = h.within; waits = h.waits; ready = h.ready; set = h.set; rests = λ o. between_alike (h.rests o) }

-- of what is sound there is one proof at most
IsSoundSaved-prop : (w : SavedConverter) (text : List ℕ) (lists : IndexLists) (d r : DecoderView) → IsProp (IsSoundSaved w text lists d r)
IsSoundSaved-prop w text lists d r = hlevel (props, AreThere-prop)

-- what can go on: its decoders
pub resumes : (lists : IndexLists) (w : SavedConverter) (text : List ℕ) → CanGoOnFrom lists w text → CanBeResumed lists w.decoder
resumes lists w text h = ∥∥₁_elim h (CanBeResumed-prop lists w.decoder) (λ k. can_be_resumed lists w.decoder k.2.decoder k.2.decoder_saved (subst (λ l. IsMadeFrom l k.2.decoder) k.1 k.2.decoder_made))

pub reader_resumes : (lists : IndexLists) (w : SavedConverter) (text : List ℕ) → CanGoOnFrom lists w text → CanBeResumed lists w.verdict.reader
reader_resumes lists w text h = ∥∥₁_elim h (CanBeResumed-prop lists w.verdict.reader) (λ k. can_be_resumed lists w.verdict.reader k.2.reader k.2.reader_saved (subst (λ l. IsMadeFrom l k.2.reader) k.1 k.2.reader_made))

-- the target's indexes are there
pub target_ready : (lists : IndexLists) (w : SavedConverter) (text : List ℕ) → CanGoOnFrom lists w text → IsReady lists (output_encoding_of w.job.to)
target_ready lists w text h = ∥∥₁_elim h (AreThere-prop lists _) (λ k. subst (λ l. IsReady l (output_encoding_of w.job.to)) k.1 k.2.sound.ready)

-- and with decoders of which the same was saved it is sound
pub sound_resumed : (lists : IndexLists) (w : SavedConverter) (text : List ℕ) (d r : DecoderView) → CanGoOnFrom lists w text → Saves w.decoder d → IsMadeFrom lists d → Saves w.verdict.reader r → IsMadeFrom lists r
    → IsSoundSaved w text lists d r
sound_resumed lists w text d r h saves made reads by = ∥∥₁_elim h (IsSoundSaved-prop w text lists d r) (λ k.
    let was : SavesConverter w text k.0 = k.2 in
    let own = subst (λ l. IsMadeFrom l was.decoder) k.1 was.decoder_made in
    let back = subst (λ l. IsMadeFrom l was.reader) k.1 was.reader_made in
    sound_alike w text lists was.decoder d was.reader r
    (saved_alike lists w.decoder was.decoder d was.decoder_saved saves own made)
    (saved_alike lists w.verdict.reader was.reader r was.reader_saved reads back by)
    (subst (λ l. IsSoundSaved w text l was.decoder was.reader) k.1 was.sound))

-- ---- a converter that is resumed

-- an engine that is resumed, with a text of this length
abbrev pub resumed_engine : {D E : Type 0} → SavedConverter → (len : ℕ) → D → E → D → Engine D E
resumed_engine w len d e r = record { decoder = d; encoder = e; verdict = record { reader = r; by_log = w.verdict.by_log; faithful = w.verdict.faithful }; counts = w.counts; answer = w.answer; from = 0; to = len }

-- a text that was put at the start of some bytes stands there
pub put_first : (text put rest : List ℕ) → put ≡ text → take (length text - 0) (drop 0 (put ++ rest)) ≡ text
put_first text put rest is =
    let none : length text - 0 ≡ length text = omega arith in
    rw (is, none) (take-append_seam text rest)

-- and waits there
pub waits_first : (text bytes : List ℕ) → take (length text - 0) (drop 0 bytes) ≡ text → CanWait text → HoldsBetween (over_text bytes) 0 (length text)
waits_first text bytes put h = record { order = omega arith; within = omega (arith, ap length put, length-take (length text - 0) (drop 0 bytes)); scalars = rw put h.scalars; whole = rw put h.whole }

module _ {D E : Type 0} (view : D → DecoderView) (parts : E → EncoderParts) (w : SavedConverter) (text : List ℕ) (tables : Bor IndexLists) (j : Job) (d : D) (e : E) (r : D)
    (job : j ≡ job_with w.job tables) (coding : (parts e).coding ≡ coding_of tables.now w.job.to) (set : (parts e).set ≡ w.set)
    (made : IsMadeFrom tables.now (view d)) (by : IsMadeFrom tables.now (view r)) (sound : IsSoundSaved w text tables.now (view d) (view r)) where
  abbrev engine : Engine D E
  engine = resumed_engine w (length text) d e r

  standing_is : (bytes : List ℕ) → take (length text - 0) (drop 0 bytes) ≡ text → (p : Policy) → standing view parts p engine (over_text bytes) ≡ saved_standing w text tables.now p (view d) (view r)
  standing_is bytes put p = rw (coding, set, put) refl

  pub resumed_codecs : AreCodecsOf view parts j engine
  resumed_codecs = subst (λ (k : Job). AreCodecsOf view parts k engine) (sym job)
      (record { decoder = made; reader = by; ready = sound.ready; target = coding; set = rw set sound.set })

  pub resumed_small : j.limit ≤ 2 ^ 48
  resumed_small = subst (λ (k : Job). k.limit ≤ 2 ^ 48) (sym job) sound.limit

  pub resumed_within : w.counts.read ≤ j.limit
  resumed_within = subst (λ (k : Job). w.counts.read ≤ k.limit) (sym job) sound.within

  pub resumed_rests : (bytes : List ℕ) → take (length text - 0) (drop 0 bytes) ≡ text → w.over ≡ false → IsBetweenCalls (standing view parts Policy.Decimal engine (over_text bytes)) w.ended
  resumed_rests bytes put o = subst (λ (c : Standing). IsBetweenCalls c w.ended) (sym (standing_is bytes put Policy.Decimal)) (sound.rests o)

  pub resumed_saves : (bytes : List ℕ) → take (length text - 0) (drop 0 bytes) ≡ text → Saves w.decoder (view d) → Saves w.verdict.reader (view r) → SavesConverter w text (converter_of_parts view parts j engine bytes w.ended w.over)
  resumed_saves bytes put saves reads = subst (λ (k : Job). SavesConverter w text (converter_of_parts view parts k engine bytes w.ended w.over)) (sym job) (record {
    decoder = view d;
    decoder_saved = saves;
    decoder_made = made;
    reader = view r;
    reader_saved = reads;
    reader_made = by;
    is = rw (coding, set, put) refl;
    sound = sound;
  })
