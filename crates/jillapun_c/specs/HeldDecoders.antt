-- The decoder that the plain words of a handle stand for.
use Rattle.std.specs.Prelude.{◌≡◌, if◌then◌else◌, Option, None, Some}
use Rattle.std.specs.Option.{ForSome, option_map}
use Rattle.encoding_tables.specs.IndexLists.{IndexLists}
use Rattle.encoding_front.specs.calls.SavedDecoders.{Saves}
use Rattle.encoding_front.specs.calls.Stream.{DecoderView, IsMadeFrom}
use Rattle.encoding_front.specs.declared.decoder.saved_decoder.SavedDecoder.{SavedDecoder}
use Rattle.encoding_front.specs.declared.encoding.Encoding.{Encoding}
use Rattle.jillapun_c.specs.EncodingNumbers.{encoding_at}
use Rattle.jillapun_c.specs.HeldTables.{held_lists}
use Rattle.jillapun_c.specs.declared.decoder.words.DecoderWords.{DecoderWords}

-- what the words say was saved of a decoder, with this encoding in force
abbrev pub saved_as : DecoderWords → Encoding → SavedDecoder
saved_as w e = record {
  encoding = e;
  sought = record { utf8 = w.seeks_utf8; utf16_be = w.seeks_utf16_be; utf16_le = w.seeks_utf16_le };
  held = record { len = w.held_len; bytes = w.held };
  is_finished = w.is_finished;
  pieces = record { mode = w.mode; pending = record { len = w.pending_len; bytes = w.pending } };
}

-- what was saved of the decoder; none if there is none, or if no encoding has the number
abbrev pub saved_in : DecoderWords → Option SavedDecoder
saved_in w = if w.is_there then option_map (saved_as w) (encoding_at w.encoding) else None

-- The words stand for a decoder that callers know by this view: it was made from these tables, or with no index if there
-- are none.
pub record HoldsDecoder (tables : Option IndexLists) (words : DecoderWords) (v : DecoderView) : Type 0 where
  pub saved : SavedDecoder
  pub is : saved_in words ≡ Some saved
  pub saves : Saves saved v
  pub made : IsMadeFrom (held_lists tables) v

-- words that stand for a decoder are those of one
abbrev pub IsSoundDecoder : Option IndexLists → DecoderWords → Type 0
IsSoundDecoder tables words = ForSome (saved_in words) (λ saved. ∥ ((v : DecoderView) × HoldsDecoder tables words v) ∥₁)
