-- What was saved of a converter says all that its callers know of it.
use mathlib.Core.HLevel.{×_prop, Unit-prop}
use Rattle.std.proofs.Props.{props}
use Rattle.std.proofs.Common.{◌≡◌, ◌≤◌, ◌+◌, ℕ, List, [], ◌∷◌, length, sym, ◌∙◌, ap, subst}
use Rattle.encoding_mem.specs.Piece.{ArePieces, IsPiece, Piece, sizes}
use Rattle.encoding_mem.specs.calls.DecodedLength.{decoded_length}
use Rattle.encoding_mem.specs.calls.Decoding.{DecoderState}
use Rattle.encoding_mem.specs.calls.EncoderRule.{EncoderParts}
use Rattle.encoding_mem.specs.calls.Resuming.{Reading, reading_of}
use Rattle.encoding_mem.specs.declared.codec.room.OutputUnit.{OutputUnit}
use Rattle.encoding_front.specs.calls.SavedDecoders.{ReadsAlike}
use Rattle.encoding_front.specs.calls.Stream.{DecoderView, IsMadeFrom}
use Rattle.encoding_front.specs.laws.Ready.{AreThere-prop}
use Rattle.encoding_front.specs.laws.SavedDecoders.{saved_alike}
use Rattle.recode.specs.Converter.{ConverterView}
use Rattle.recode.specs.SavedConverters.{SavesConverter, saved_view}
use Rattle.recode.specs.calls.EngineCodecs.{AreCodecsOf}
use Rattle.recode.specs.declared.converter.saved_converter.SavedConverter.{SavedConverter}
use Rattle.recode.specs.declared.engine.Engine.{Engine}
use Rattle.recode.specs.declared.job.Job.{Job}

-- of what holds of the codecs of a job there is one proof at most
pub codecs-prop : {D E : Type 0} (view : D → DecoderView) (parts : E → EncoderParts) (j : Job) (c : Engine D E) → IsProp (AreCodecsOf view parts j c)
codecs-prop view parts j c = hlevel (props, AreThere-prop)

-- ---- decoders that read alike are the same to their callers

IsPiece-prop : (p : Piece) → IsProp (IsPiece p)
IsPiece-prop p = hlevel props

ArePieces-prop : (ps : List Piece) → IsProp (ArePieces ps)
ArePieces-prop [] = Unit-prop
ArePieces-prop (p ∷ ps) = ×_prop (IsPiece-prop p) (ArePieces-prop ps)

equal-prop : (m n : ℕ) → IsProp (m ≡ n)
equal-prop m n = hlevel props

most-prop : (m n : ℕ) → IsProp (m ≤ n)
most-prop m n = hlevel props

-- what holds of each state of a decoder that reads so
AreLawful : Reading → Type 0
AreLawful r = ((x : List ℕ) → sizes (r.pieces x) ≡ r.pending + length x) × ((x : List ℕ) → ArePieces (r.pieces x)) × ((k : OutputUnit) (n : ℕ) → r.needs k n ≤ decoded_length r.room k (r.pending + n))

state_of : (r : Reading) → AreLawful r → DecoderState
unfolding AreLawful
state_of r laws = record { pieces = r.pieces; pending = r.pending; whole = laws.0; are_pieces = laws.1; needs = r.needs; room = r.room; covers = laws.2 }

AreLawful-prop : (r : Reading) (a b : AreLawful r) → a ≡ b
unfolding AreLawful
AreLawful-prop r a b i = (
  λ x. equal-prop (sizes (r.pieces x)) (r.pending + length x) (a.0 x) (b.0 x) i,
  λ x. ArePieces-prop (r.pieces x) (a.1 x) (b.1 x) i,
  λ k n. most-prop (r.needs k n) (decoded_length r.room k (r.pending + n)) (a.2 k n) (b.2 k n) i,
)

state_by : (r r' : Reading) → r ≡ r' → (a : AreLawful r) (b : AreLawful r') → state_of r a ≡ state_of r' b
state_by r r' same a = subst (λ (s : Reading). (b : AreLawful s) → state_of r a ≡ state_of s b) same (λ b. ap (state_of r) (AreLawful-prop r a b))

one_state : (d e : DecoderState) → reading_of d ≡ reading_of e → d ≡ e
unfolding AreLawful state_of
one_state d e same = state_by (reading_of d) (reading_of e) same (d.whole, d.are_pieces, d.covers) (e.whole, e.are_pieces, e.covers)

one_view : (v u : DecoderView) → ReadsAlike v u → v ≡ u
one_view v u h i = record {
  state = one_state v.state u.state h.state i;
  source = λ x. h.source x i;
  opening = h.opening i;
  own = one_state v.own u.own h.own i;
  resumed = h.resumed i;
  finished = h.finished i;
}

-- ---- and so are converters of which the same was saved

one_decoder : (w : SavedConverter) (text : List ℕ) (v u : ConverterView) → v.lists ≡ u.lists → (h : SavesConverter w text v) (k : SavesConverter w text u) → h.decoder ≡ k.decoder
one_decoder w text v u lists h k = one_view h.decoder k.decoder
    (saved_alike v.lists w.decoder h.decoder k.decoder h.decoder_saved k.decoder_saved h.decoder_made (subst (λ t. IsMadeFrom t k.decoder) (sym lists) k.decoder_made))

one_reader : (w : SavedConverter) (text : List ℕ) (v u : ConverterView) → v.lists ≡ u.lists → (h : SavesConverter w text v) (k : SavesConverter w text u) → h.reader ≡ k.reader
one_reader w text v u lists h k = one_view h.reader k.reader
    (saved_alike v.lists w.verdict.reader h.reader k.reader h.reader_saved k.reader_saved h.reader_made (subst (λ t. IsMadeFrom t k.reader) (sym lists) k.reader_made))

pub one_converter : (w : SavedConverter) (text : List ℕ) (v u : ConverterView) → v.lists ≡ u.lists → SavesConverter w text v → SavesConverter w text u → v ≡ u
one_converter w text v u lists h k = h.is ∙ (λ i. saved_view w text (lists i) (one_decoder w text v u lists h k i) (one_reader w text v u lists h k i)) ∙ sym k.is
