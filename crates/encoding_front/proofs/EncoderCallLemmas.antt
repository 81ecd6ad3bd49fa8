-- Calls of an encoder without replacement.
use Rattle.std.proofs.Common.{◌≡◌, ℕ, ◌+◌, ◌-◌, ◌≤◌, Bool, List, [], ◌++◌, length, take, drop, refl, sym, ◌∙◌, ap, subst, arith}
use Rattle.std.proofs.lemmas.List.{drop-append-le, drop-drop, take-append-drop}
use Rattle.encoding_mem.specs.declared.codec.reference.Reference.TheVariants.{Decimal}
use Rattle.encoding_mem.specs.calls.EncoderCalls.{EncodesItems}
use Rattle.encoding_mem.specs.laws.EncoderCalls.{encoded_bytes, encoded_items, encoded_moves}
use Rattle.encoding_mem.specs.calls.EncoderRule.{EncoderCall, EncoderParts}
use Rattle.encoding_mem.specs.declared.codec.encoder_result.EncoderResult.{EncoderResult}
use Rattle.encoding_mem.specs.declared.codec.encoder_result.EncoderResult.TheVariants.{InputEmpty, OutputFull, Unmappable}
use Rattle.encoding_mem.specs.declared.codec.form.Form.TheVariants.{Unmapped}
use Rattle.encoding_tables.specs.IndexLists.{IndexLists}
use Rattle.encoding_front.specs.calls.Encoder.{Encoded, EncoderState, IsCodecOf, Turned, coding_in, kept_back, kept_by_codec_kind, parts_in, referred}
use Rattle.encoding_front.specs.laws.Encoder.{coding_laws}
use Rattle.encoding_front.specs.EncodingTable.{codec_kind_of}
use Rattle.encoding_front.specs.Encodings.{coding_of, output_encoding_of}
use Rattle.encoding_front.specs.declared.encoding.Encoding.{Encoding}
use Rattle.encoding_front.specs.declared.codec_kind.CodecKind.{CodecKind}
use Rattle.encoding_front.specs.Codecs.{codec_of}

-- a call of its codec, said of its state
pub encoded : (t : IndexLists) (enc : Encoding) (e e' : EncoderParts) → IsCodecOf t enc e
    → (last : Bool) (answer : EncoderResult) (text written rest : List ℕ) (room : ℕ) → EncoderCall e e' last answer text written rest room
    → Encoded (record { tables = t; encoding = enc; set = e.set }) last answer text written (record { tables = t; encoding = enc; set = e'.set }) rest room
encoded t enc e e' is last answer text written rest room c =
    let x : EncoderState = record { tables = t; encoding = enc; set = e.set } in
    let x' : EncoderState = record { tables = t; encoding = enc; set = e'.set } in
    let is_then : e' ≡ parts_in x' = c.same ∙ ap (λ (p : EncoderParts). record p { set = e'.set }) is in
    let call : EncoderCall (parts_in x) (parts_in x') last answer text written rest room =
    subst (λ (p : EncoderParts). EncoderCall p (parts_in x') last answer text written rest room) is (subst (λ (p : EncoderParts). EncoderCall e p last answer text written rest room) is_then c) in
    record {
      same = refl;
      codec = call;
      bytes = encoded_bytes Decimal (coding_of t enc) last answer e.set text written e'.set rest (coding_laws t enc) call.law;
      moves = encoded_moves (coding_of t enc) last answer e.set text written e'.set rest call.law;
    }

-- what it says of items
pub told_items : (x : EncoderState) (last : Bool) (answer : EncoderResult) (text written : List ℕ) (x' : EncoderState) (rest : List ℕ) (room : ℕ)
    → Encoded x last answer text written x' rest room → EncodesItems Decimal (coding_in x) last answer x.set text written x'.set rest
told_items x last answer text written x' rest room call =
    encoded_items Decimal (coding_in x) last answer x.set text written x'.set rest (coding_laws x.tables x.encoding) call.codec.law

-- what a call wrote into the part of a slice before an offset
pub behind_part : (w end : ℕ) (xs ys : List ℕ) → end ≤ length xs → w ≤ length ys → length ys ≡ length (take end xs) → drop w ys ≡ drop w (take end xs) → drop w (ys ++ drop end xs) ≡ drop w xs
behind_part w end xs ys within fits size behind =
    drop-append-le w ys (drop end xs) fits ∙ ap (λ l. l ++ drop end xs) behind
    ∙ sym (drop-append-le w (take end xs) (drop end xs) (omega (arith, size))) ∙ ap (drop w) (take-append-drop end xs)

-- if a character has no bytes, bytes are kept back
keeps : (t : IndexLists) (s : CodecKind) (d u : ℕ) → (codec_of t s).coding.form d ≡ Unmapped u → kept_by_codec_kind s ≡ 10
keeps t CodecKind.Utf8 d u h = absurd (cc)
keeps t _ d u h = refl

pub unmappable_keeps : (x : EncoderState) (last : Bool) (answer : EncoderResult) (u : ℕ) (text written : List ℕ) (x' : EncoderState) (rest : List ℕ) (room : ℕ)
    → Encoded x last answer text written x' rest room → answer ≡ Unmappable u → kept_back x.encoding ≡ 10
unmappable_keeps x last answer u text written x' rest room call is =
    let reads = (told_items x last (Unmappable u) text written x' rest room (rw is at call)).reads in
    keeps x.tables (codec_kind_of (output_encoding_of x.encoding)) reads.1 u reads.4

-- nothing is asked for if no character lacks bytes
pub nothing_referred : (answer : EncoderResult) → ((u : ℕ) → answer ≡ Unmappable u → ⊥) → referred answer ≡ []
nothing_referred InputEmpty h = refl
nothing_referred OutputFull h = refl
nothing_referred (Unmappable u) h = absurd (h u refl)

-- a call and the reference that it asks for
pub turned : (x : EncoderState) (last : Bool) (answer : EncoderResult) (text called written : List ℕ) (x' : EncoderState) (rest : List ℕ) (n room end : ℕ)
    → Encoded x last answer text called x' rest room → length called ≡ n → n ≤ end → room ≡ end - n → written ≡ called ++ referred answer
    → Turned x last answer text written x' rest end
turned x last answer text called written x' rest n room end call size fits free is = record {
  called = called;
  all = is;
  fits = omega (arith, size);
  call = subst (λ (k : ℕ). Encoded x last answer text called x' rest k) (free ∙ ap (λ (k : ℕ). end - k) (sym size)) call;
}

-- what is written after an offset leaves the rest
pub behind_put : (old mid new : List ℕ) (a n b : ℕ) → b ≡ a + n → drop a mid ≡ drop a old → drop b new ≡ drop b mid → drop b new ≡ drop b old
behind_put old mid new a n b end before now =
    let at = λ (xs : List ℕ). ap (λ k. drop k xs) end ∙ sym (drop-drop n a xs) in
    now ∙ at mid ∙ ap (drop n) before ∙ sym (at old)
