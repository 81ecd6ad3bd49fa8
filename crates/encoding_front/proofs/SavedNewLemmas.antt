-- What is saved of a decoder of a new stream: the view of such a decoder, without the decoder.
use Rattle.std.proofs.Common.{◌≡◌, ℕ, ◌+◌, ◌≤◌, ◌++◌, List, [], false, refl, sym, ap, subst, arith}
use Rattle.std.proofs.Math.Path.{fun_ext}
use Rattle.encoding_mem.specs.Piece.{Piece}
use Rattle.encoding_mem.specs.calls.DecodedLength.{decoded_length}
use Rattle.encoding_mem.specs.calls.Decoding.{DecoderState}
use Rattle.encoding_mem.specs.calls.Resuming.{Reading}
use Rattle.encoding_mem.specs.declared.codec.room.OutputUnit.{OutputUnit}
use Rattle.encoding_tables.specs.IndexLists.{AreAcceptedTables, IndexLists}
use Rattle.encoding_tables.specs.laws.Replacement.{all_left, replacement_covers}
use Rattle.encoding_front.specs.Codecs.{codec_of}
use Rattle.encoding_front.specs.EncodingTable.{codec_kind_of}
use Rattle.encoding_front.specs.Encodings.{IsReady, pieces_of}
use Rattle.encoding_front.specs.calls.BomDecoderState.{bom_decoder_state}
use Rattle.encoding_front.specs.calls.CodecBounds.{decoded_length_of, decoded_length_of_codec_kind}
use Rattle.encoding_front.specs.calls.Resumed.{resumed_in, resumed_of_codec_kind}
use Rattle.encoding_front.specs.calls.SavedDecoders.{CanBeResumed, IsSavedOfNew, IsSound}
use Rattle.encoding_front.specs.calls.Seeking.{sought_by, sought_encoding}
use Rattle.encoding_front.specs.calls.Stream.{DecoderView}
use Rattle.encoding_front.specs.declared.codec_kind.CodecKind.{CodecKind}
use Rattle.encoding_front.specs.declared.decoder.saved_decoder.SavedDecoder.{SavedDecoder}
use Rattle.encoding_front.specs.declared.encoding.Encoding.{Encoding}
use Rattle.encoding_front.specs.declared.mark.Mark.{Mark}
use Rattle.encoding_front.specs.declared.seeking.BomSet.{BomSet}
use Rattle.encoding_front.specs.laws.Encodings.{are_pieces_of}
use Rattle.encoding_front.specs.laws.Input.{whole_of}
use Rattle.encoding_front.specs.laws.Stream.{in_force, widest_by}
use Rattle.encoding_front.proofs.BomLemmas.{begun_pieces, begun_source}

-- a codec that is resumed with nothing pending reads the pieces of a whole input
reads_new : (t : IndexLists) (s : CodecKind) → resumed_of_codec_kind t s 0 []
    ≡ record { pieces = (codec_of t s).pieces; pending = 0; needs = (resumed_of_codec_kind t s 0 []).needs; room = decoded_length_of_codec_kind s }
reads_new t CodecKind.Utf8 = refl
reads_new t (CodecKind.SingleByte kind) = refl
reads_new t CodecKind.Big5 = refl
reads_new t CodecKind.EucKr = refl
reads_new t CodecKind.EucJp = refl
reads_new t CodecKind.ShiftJis = refl
reads_new t (CodecKind.Gb18030 extended) = refl
reads_new t CodecKind.Iso2022Jp = refl
reads_new t CodecKind.UserDefined = refl
reads_new t (CodecKind.Utf16 big_endian) = refl
reads_new t CodecKind.Replacement = let own = resumed_of_codec_kind t CodecKind.Replacement 0 [] in
    ap (λ (f : List ℕ → List Piece). record { pieces = f; pending = 0; needs = own.needs; room = own.room }) (fun_ext all_left)

-- and needs no more room than the length queries return
covers_new : (t : IndexLists) (s : CodecKind) (k : OutputUnit) (n : ℕ) → (resumed_of_codec_kind t s 0 []).needs k n ≤ decoded_length (decoded_length_of_codec_kind s) k (0 + n)
covers_new t CodecKind.Utf8 k n = omega arith
covers_new t (CodecKind.SingleByte kind) k n = omega arith
covers_new t CodecKind.Big5 k n = omega arith
covers_new t CodecKind.EucKr k n = omega arith
covers_new t CodecKind.EucJp k n = omega arith
covers_new t CodecKind.ShiftJis k n = omega arith
covers_new t (CodecKind.Gb18030 extended) k n = omega arith
covers_new t CodecKind.Iso2022Jp k n = omega arith
covers_new t CodecKind.UserDefined k n = omega arith
covers_new t (CodecKind.Utf16 big_endian) k n = omega arith
covers_new t CodecKind.Replacement k n = replacement_covers false k (0 + n)

-- the state of the decoder of an encoding, with nothing pending
abbrev own_new : (t : IndexLists) (e : Encoding) → AreAcceptedTables t → DecoderState
own_new t e taken = record {
  pieces = pieces_of t e;
  pending = 0;
  whole = λ x. omega (arith, whole_of t e taken x);
  are_pieces = are_pieces_of t e taken;
  needs = (resumed_in t e 0 []).needs;
  room = decoded_length_of e;
  covers = covers_new t (codec_kind_of e);
}

-- the view of a decoder of a new stream
abbrev new_view : (t : IndexLists) (mark : Mark) (e : Encoding) → AreAcceptedTables t → DecoderView
new_view t mark e taken = record {
  state = bom_decoder_state (sought_by mark e) (own_new t e taken) [] (λ sought. refl) (widest_by (decoded_length_of e) e refl);
  source = λ x. sought_encoding (sought_by mark e) e ([] ++ x);
  opening = record { sought = sought_by mark e; held = []; room = decoded_length_of e; pending = 0 };
  own = own_new t e taken;
  resumed = resumed_in t e;
  finished = false;
}

-- what is saved of it, with any bytes in place of those that are none
abbrev new_saved : Encoding → BomSet → List ℕ → SavedDecoder
new_saved e s bytes = record {
  encoding = e;
  sought = s;
  held = record { len = 0; bytes = bytes };
  is_finished = false;
  pieces = record { mode = 0; pending = record { len = 0; bytes = bytes } };
}

sound_new : (t : IndexLists) (mark : Mark) (e : Encoding) (bytes : List ℕ) → IsSound (resumed_in t e 0 []) (new_saved e (sought_by mark e) bytes)
sound_new t mark e bytes = subst (λ (r : Reading). IsSound r (new_saved e (sought_by mark e) bytes)) (sym (reads_new t (codec_kind_of e))) (record {
  pending = refl;
  few = record { short = omega arith; near = λ r p first. omega arith };
  room = refl;
  short = λ some. absurd (omega (arith, some));
  fresh = λ sought. refl;
  prefix = λ sought. refl;
})

-- it can be resumed, whether or not its indexes were accepted
pub new_resumes : (t : IndexLists) (mark : Mark) (e : Encoding) (s : BomSet) (bytes : List ℕ) → s ≡ sought_by mark e → IsReady t e → CanBeResumed t (new_saved e s bytes)
new_resumes t mark e s bytes is ready = subst (λ (r : BomSet). CanBeResumed t (new_saved e r bytes)) (sym is) (record { ready = ready; sound = sound_new t mark e bytes })

saved_by : (t : IndexLists) (mark : Mark) (e : Encoding) (bytes : List ℕ) → AreAcceptedTables t → IsReady t e → IsSavedOfNew t mark e (new_saved e (sought_by mark e) bytes)
saved_by t mark e bytes taken ready = let s = sought_by mark e in
    let named : sought_encoding s e ([] ++ []) ≡ e = in_force s e [] (λ sought. refl) in
    record {
      view = new_view t mark e taken;
      saves = record {
        own = reads_new t (codec_kind_of e);
        sound = subst (λ (r : Reading). IsSound r (new_saved e s bytes)) (reads_new t (codec_kind_of e)) (sound_new t mark e bytes);
        state = refl;
        opening = refl;
        in_force = named;
        source = λ x. refl;
        finished = refl;
      };
      is_new = record {
        pieces = begun_pieces t mark e s (pieces_of t e) [] refl refl refl;
        pending = refl;
        source = begun_source mark e s [] refl refl;
        opening = refl;
        own = refl;
        made = record { ready = subst (IsReady t) (sym named) ready; reads = ap (resumed_in t) (sym named) };
        open_ = refl;
      };
    }

pub saved_of_new : (t : IndexLists) (mark : Mark) (e : Encoding) (s : BomSet) (bytes : List ℕ) → s ≡ sought_by mark e → AreAcceptedTables t → IsReady t e
    → IsSavedOfNew t mark e (new_saved e s bytes)
saved_of_new t mark e s bytes is taken ready = subst (λ (r : BomSet). IsSavedOfNew t mark e (new_saved e r bytes)) (sym is) (saved_by t mark e bytes taken ready)
