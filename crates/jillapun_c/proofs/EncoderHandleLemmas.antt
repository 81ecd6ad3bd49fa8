-- What the words of a handle keep of an encoder.
use Rattle.std.proofs.Common.{◌≡◌, ℕ, inl, inr, true, Option, Some, None, refl, sym, ◌∙◌, ap, subst}
use Rattle.std.proofs.Math.Logic.{∥∥₁_elim, ∥∥₁_map}
use Rattle.std.proofs.Props.{props}
use Rattle.std.specs.Prelude.{IfSome, IsSomeAnd, option_map}
use Rattle.encoding_mem.specs.Coding.{Coding}
use Rattle.encoding_mem.specs.calls.EncoderRule.{Moves}
use Rattle.encoding_mem.specs.declared.codec.form.EscapeState.{EscapeState}
use Rattle.encoding_mem.specs.declared.codec.form.EscapeState.TheVariants.{Ascii}
use Rattle.encoding_tables.specs.IndexLists.{IndexLists}
use Rattle.encoding_front.specs.EncodingTable.{number_of}
use Rattle.encoding_front.specs.Encodings.{IsReady, output_encoding_of}
use Rattle.encoding_front.specs.calls.Encoder.{EncoderState, coding_in, new_state}
use Rattle.encoding_front.specs.calls.SavedEncoders.{saved_of}
use Rattle.encoding_front.specs.laws.Encoder.{output_twice}
use Rattle.encoding_front.specs.declared.encoder.saved_encoder.SavedEncoder.{SavedEncoder}
use Rattle.encoding_front.specs.declared.encoding.Encoding.{Encoding}
use Rattle.jillapun_c.specs.EncoderCalls.{AnswersEncoder, MakesEncoder}
use Rattle.jillapun_c.specs.EncoderWords.{AreSoundWords, GoesOnAs, IsSoundEncoder, encoder_of, saved_encoder_in, saved_with, set_at, state_with}
use Rattle.jillapun_c.specs.EncodingNumbers.{encoding_at}
use Rattle.encoding_front.specs.laws.Ready.{AreThere-prop}
use Rattle.jillapun_c.specs.HeldTables.{held_lists}
use Rattle.jillapun_c.specs.declared.encoder.words.EncoderWords.{EncoderWords}
use Rattle.jillapun_c.specs.declared.status.TheConstants.{CLOSED, NOT_READY, OK}
use Rattle.jillapun_c.proofs.EncodingNumberLemmas.{found_at, same_some}

-- calls that come from ASCII to a set, and from that to another, come from ASCII to the other
moves_on : (e : Coding) (s s' : EscapeState) → Moves e Ascii s → Moves e s s' → Moves e Ascii s'
moves_on e s s' h (inl same) = subst (λ (q : EscapeState). Moves e Ascii q) (sym same) h
moves_on e s s' h (inr moved) = inr moved

-- ---- of the encoder that the words are of

sound_in : (tables : Option IndexLists) (w : EncoderWords) (x : EncoderState) → encoder_of tables w ≡ Some x → ∥ AreSoundWords tables w ∥₁ → ∥ IsSoundEncoder x ∥₁
sound_in tables w x is h = ∥∥₁_map {B = IsSoundEncoder x} h (λ (k : AreSoundWords tables w). subst (λ o. IfSome o IsSoundEncoder) is k)

module _ (tables : Option IndexLists) (w : EncoderWords) (saved : SavedEncoder) (is : saved_encoder_in w ≡ Some saved) (h : ∥ AreSoundWords tables w ∥₁) where
  abbrev x : EncoderState
  x = state_with (held_lists tables) saved

  pub held_is : encoder_of tables w ≡ Some x
  held_is = ap (option_map (state_with (held_lists tables))) is

  sound : ∥ IsSoundEncoder x ∥₁
  sound = sound_in tables w x held_is h

  pub held_ready : IsReady (held_lists tables) (output_encoding_of saved.encoding)
  held_ready = ∥∥₁_elim sound (AreThere-prop _ _) (λ k. k.ready)

  pub held_set : ∥ Moves (coding_in x) Ascii saved.set ∥₁
  held_set = ∥∥₁_map {B = Moves (coding_in x) Ascii saved.set} sound (λ k. k.set)

  held_output : output_encoding_of saved.encoding ≡ saved.encoding
  held_output = ∥∥₁_elim sound (hlevel props) (λ k. k.output)

  -- an encoder that is resumed is the one that is held
  pub resumed_is : Some (record (new_state (held_lists tables) saved.encoding) { set = saved.set }) ≡ encoder_of tables w
  resumed_is = ap (λ (e : Encoding). Some (state_with (held_lists tables) (saved_with e saved.set))) held_output ∙ sym held_is

-- ---- of words that are changed

by_tables : (l : IndexLists) (o : Option SavedEncoder) (x : EncoderState) → option_map (state_with l) o ≡ Some x → x.tables ≡ l
by_tables l None x is = absurd (cc)
by_tables l (Some saved) x is = ap (λ (y : EncoderState). y.tables) (sym (same_some (state_with l saved) x is))

module _ (tables : Option IndexLists) (w w' : EncoderWords) (x x' : EncoderState) (held : encoder_of tables w ≡ Some x) (goes : GoesOnAs x x') (is : saved_encoder_in w' ≡ Some (saved_of x')) where
  of_tables : x'.tables ≡ held_lists tables
  of_tables = ap (λ (y : EncoderState). y.tables) goes.same ∙ by_tables (held_lists tables) (saved_encoder_in w) x held

  pub kept_is : encoder_of tables w' ≡ Some x'
  kept_is = ap (option_map (state_with (held_lists tables))) is ∙ ap (λ l. Some (state_with l (saved_of x'))) (sym of_tables)

  still_sound : IsSoundEncoder x → IsSoundEncoder x'
  still_sound k = subst IsSoundEncoder (sym goes.same) (record { ready = k.ready; output = k.output; set = moves_on (coding_in x) x.set x'.set k.set goes.moves })

  pub kept_sound : ∥ AreSoundWords tables w ∥₁ → ∥ AreSoundWords tables w' ∥₁
  kept_sound h = ∥∥₁_map {B = AreSoundWords tables w'} (sound_in tables w x held h) (λ k. subst (λ o. IfSome o IsSoundEncoder) (sym kept_is) (still_sound k))

-- what is so of an encoder, if there is one, and there is one
abbrev pub IsThere : Option EncoderState → (EncoderState → Type 0) → Type 0
IsThere held Holds = (x : EncoderState) × (held ≡ Some x) × Holds x

pub there : (held : Option EncoderState) (Holds : EncoderState → Type 0) → IsSomeAnd held Holds → IsThere held Holds
there None Holds h = absurd h
there (Some x) Holds h = (x, refl, h)

-- the words of an encoder of a new stream
new_sound : (t : IndexLists) (e : Encoding) → IsReady t (output_encoding_of e) → IsSoundEncoder (new_state t e)
new_sound t e ready = record {
  ready = subst (IsReady t) (sym (output_twice e)) ready;
  output = output_twice e;
  set = inl refl;
}

pub new_is : (tables : Option IndexLists) (w : EncoderWords) (e : Encoding) → saved_encoder_in w ≡ Some (saved_with (output_encoding_of e) Ascii)
    → encoder_of tables w ≡ Some (new_state (held_lists tables) e)
new_is tables w e is = ap (option_map (state_with (held_lists tables))) is

pub new_are_sound : (tables : Option IndexLists) (w : EncoderWords) (e : Encoding) → saved_encoder_in w ≡ Some (saved_with (output_encoding_of e) Ascii)
    → IsReady (held_lists tables) (output_encoding_of e) → AreSoundWords tables w
new_are_sound tables w e is ready = subst (λ o. IfSome o IsSoundEncoder) (sym (new_is tables w e is)) (new_sound (held_lists tables) e ready)

-- words that are made of what was saved
pub saved_is : (w : EncoderWords) (saved : SavedEncoder) → w.is_there ≡ true → w.encoding ≡ number_of saved.encoding → set_at w.set ≡ Some saved.set → saved_encoder_in w ≡ Some saved
saved_is w saved is_there number set = rw (is_there, number, found_at saved.encoding, set) refl

-- words of no encoder
pub none_is : (tables : Option IndexLists) (w : EncoderWords) → saved_encoder_in w ≡ None → encoder_of tables w ≡ None
none_is tables w is = ap (option_map (state_with (held_lists tables))) is

pub none_are_sound : (tables : Option IndexLists) (w : EncoderWords) → saved_encoder_in w ≡ None → AreSoundWords tables w
none_are_sound tables w is = subst (λ o. IfSome o IsSoundEncoder) (sym (none_is tables w is)) tt

-- ---- of a call's status

pub answers : (held : Option EncoderState) (x : EncoderState) (Then : EncoderState → Type 0) → Some x ≡ held → Then x → AnswersEncoder held OK Then
answers held x Then is did = record {
  closed = λ none. absurd (cc);
  done = λ e at. (refl, subst Then (same_some x e (is ∙ at)) did);
}

pub answers_closed : (held : Option EncoderState) (Then : EncoderState → Type 0) → None ≡ held → AnswersEncoder held CLOSED Then
answers_closed held Then is = record { closed = λ none. refl; done = λ e at. absurd (cc) }

-- ---- of a new encoder

pub made : (tables : Option IndexLists) (number : ℕ) (e : Encoding) (new : Option EncoderState) → encoding_at number ≡ Some e → IsReady (held_lists tables) (output_encoding_of e)
    → new ≡ Some (new_state (held_lists tables) e) → MakesEncoder tables number new OK
made tables number e new at ready is = rw at (inl (ready, (refl, is)))

pub not_made : (tables : Option IndexLists) (number : ℕ) (e : Encoding) (new : Option EncoderState) → encoding_at number ≡ Some e → ¬ (IsReady (held_lists tables) (output_encoding_of e))
    → MakesEncoder tables number new NOT_READY
not_made tables number e new at lacks = rw at (inr (lacks, refl))
