-- What the words of an encoder's handle stand for.
use Rattle.std.specs.Prelude.{◌≡◌, ℕ, if◌then◌else◌, [], ◌∷◌, Option, None, IfSome, option_and_then, option_map, slice_get}
use Rattle.encoding_mem.specs.calls.EncoderRule.{Moves}
use Rattle.encoding_mem.specs.declared.codec.form.EscapeState.{EscapeState}
use Rattle.encoding_mem.specs.declared.codec.form.EscapeState.TheVariants as set
use Rattle.encoding_mem.specs.declared.codec.form.EscapeState.TheVariants.{Ascii}
use Rattle.encoding_tables.specs.IndexLists.{IndexLists}
use Rattle.encoding_front.specs.Encodings.{IsReady, output_encoding_of}
use Rattle.encoding_front.specs.calls.Encoder.{EncoderState, coding_in}
use Rattle.encoding_front.specs.declared.encoder.saved_encoder.SavedEncoder.{SavedEncoder}
use Rattle.encoding_front.specs.declared.encoding.Encoding.{Encoding}
use Rattle.jillapun_c.specs.EncodingNumbers.{encoding_at}
use Rattle.jillapun_c.specs.HeldTables.{held_lists}
use Rattle.jillapun_c.specs.declared.encoder.words.EncoderWords.{EncoderWords}

-- the set that a number stands for, if it stands for one
abbrev pub set_at : ℕ → Option EscapeState
set_at number = slice_get (set.Ascii ∷ set.Roman ∷ set.Jis ∷ []) number

-- an output encoding, and the set in force
abbrev pub saved_with : Encoding → EscapeState → SavedEncoder
saved_with e s = record { encoding = e; set = s }

-- what was saved of an encoder, if the words say that there is one, and their numbers stand for something
abbrev pub saved_encoder_in : EncoderWords → Option SavedEncoder
saved_encoder_in w = if w.is_there then option_and_then (λ e. option_map (saved_with e) (set_at w.set)) (encoding_at w.encoding) else None

-- an encoder that goes on from what was saved, by some indexes
abbrev pub state_with : IndexLists → SavedEncoder → EncoderState
state_with t saved = record { tables = t; encoding = saved.encoding; set = saved.set }

-- the encoder that the words are of, if they are of one, by the indexes of tables
abbrev pub encoder_of : (tables : Option IndexLists) → EncoderWords → Option EncoderState
encoder_of tables w = option_map (state_with (held_lists tables)) (saved_encoder_in w)

-- An encoder is one that calls can have left: its indexes are there, it writes in its own output encoding, and from ASCII
-- its calls come to the set in force.
pub record IsSoundEncoder (x : EncoderState) : Type 0 where
  pub ready : IsReady x.tables (output_encoding_of x.encoding)
  pub output : output_encoding_of x.encoding ≡ x.encoding
  pub set : Moves (coding_in x) Ascii x.set

-- so is the encoder that the words are of, if they are of one
abbrev pub AreSoundWords : (tables : Option IndexLists) → EncoderWords → Type 0
AreSoundWords tables w = IfSome (encoder_of tables w) IsSoundEncoder

-- an encoder is another one after a call: nothing but its set may have changed, which is one that its calls come to
pub record GoesOnAs (x x' : EncoderState) : Type 0 where
  pub same : x' ≡ record x { set = x'.set }
  pub moves : Moves (coding_in x) x.set x'.set
