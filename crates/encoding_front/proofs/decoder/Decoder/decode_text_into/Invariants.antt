use Rattle.std.proofs.Common.{◌≡◌, ℕ, ◌-◌, ◌≤◌, ◌++◌, IsTrue, List, [], false, length, drop}
use Rattle.encoding_front.specs.calls.DecodedText.{TakesText, SufficesText}
use Rattle.encoding_front.specs.calls.DecoderViews.{decoder_view}
use Rattle.encoding_front.specs.calls.Seeking.{is_sought}
use Rattle.encoding_front.specs.calls.Stream.{IsMadeFrom}
use Rattle.encoding_tables.specs.IndexLists.{IndexLists}
use Rattle.encoding_front.proofs.decoder.Decoder.decode_text_into.Given as goal

abbrev pub invariant-pieces : goal.invariant-pieces
invariant-pieces g l = record {
  within : l.read ≤ length l.src;
  law : TakesText (decoder_view l.fn.self).state.pieces (decoder_view l.self).state.pieces l.src l.last (decoder_view l.fn.self).state.pending (decoder_view l.self).state.pending l.read (λ t. g.S.Sink.writes l.fn.sink t l.sink) l.had_errors;
  enough : SufficesText (decoder_view l.fn.self).state.needs (decoder_view l.self).state.needs g.S.Sink.is_units l.last (length l.src) (length l.src - l.read) (g.S.Sink.free l.fn.sink) (g.S.Sink.free l.sink);
  source : (r : List ℕ) → (IsTrue l.last → r ≡ []) → (decoder_view l.fn.self).source (l.src ++ r) ≡ (decoder_view l.self).source (drop l.read l.src ++ r);
  marks : IsTrue (is_sought (decoder_view l.self).opening.sought) → (decoder_view l.self).opening.sought ≡ (decoder_view l.fn.self).opening.sought;
  made : (t : IndexLists) → IsMadeFrom t (decoder_view l.fn.self) → IsMadeFrom t (decoder_view l.self);
  open_ : (decoder_view l.self).finished ≡ false;
}

abbrev pub decreases-pieces : goal.decreases-pieces
decreases-pieces g l = length ((decoder_view l.self).state.pieces (drop l.read l.src))
