-- What calls of a decoder for two parts of an input say of its pieces.
use Rattle.std.proofs.Common.{◌≡◌, ℕ, ◌+◌, ◌-◌, ◌≤◌, Bool, true, false, IsTrue, List, [], ◌∷◌, ◌++◌, drop, length, refl, sym, subst, ◌∙◌, ap, arith, append_assoc, encode_utf8_all, length-append, length-drop}
use Rattle.std.proofs.lemmas.Str.{encodes-append}
use Rattle.encoding_mem.specs.Piece.{AreWellFormed, Piece, malformed, scalars, sizes, text}
use Rattle.encoding_mem.specs.calls.Decoding.{Reports, Takes}
use Rattle.encoding_mem.specs.calls.Writing.{Adds}
use Rattle.encoding_mem.specs.declared.codec.decoder_result.DecoderResult.{DecoderResult}
use Rattle.encoding_mem.specs.declared.codec.decoder_result.DecoderResult.TheVariants.{InputEmpty, Malformed, OutputFull}
use Rattle.encoding_mem.specs.laws.Piece.{AreWellFormed-append, sizes-append, text-append, well_formed_text}
use Rattle.encoding_front.specs.calls.DecoderCall.{DecoderCall, RoomLeft, free_bytes}
use Rattle.encoding_front.specs.calls.Stream.{DecoderView}
use Rattle.encoding_front.specs.laws.Calls.{wrote_scalars}
use Rattle.test_examples.specs.FirstFaults.{IsCrowded, IsFirstMalformed}

-- calls for these bytes read them all and passed these pieces, none of which is malformed
pub record HasPassed (v v' : DecoderView) (bytes : List ℕ) : Type 0 where
  pub pieces : List Piece
  pub well_formed : AreWellFormed pieces
  pub counted : sizes pieces + v'.state.pending ≡ v.state.pending + length bytes
  pub rest : (r : List ℕ) → v.state.pieces (bytes ++ r) ≡ pieces ++ v'.state.pieces r

-- no call passes nothing
pub passed_none : (v : DecoderView) → HasPassed v v []
passed_none v = record { pieces = []; well_formed = tt; counted = omega arith; rest = λ r. refl }

-- a call that read all of a part, and more is to come
pub passed_part : (v v' : DecoderView) (part : List ℕ) (read : ℕ) (left : RoomLeft) (W : List ℕ → Type 0) (outcome : DecoderResult)
    → DecoderCall v v' part false read W left outcome → outcome ≡ InputEmpty → HasPassed v v' part
passed_part v v' part read left W InputEmpty call is =
    let all : drop read part ≡ [] = call.ends.0 in
    record {
      pieces = call.law.taken;
      well_formed = call.law.well_formed;
      counted = omega (arith, call.law.counted, call.law.within, ap length all, length-drop read part);
      rest = λ r. call.law.rest r (λ last. absurd (cc last)) ∙ ap (λ (x : List ℕ). call.law.taken ++ v'.state.pieces (x ++ r)) all;
    }
passed_part v v' part read left W OutputFull call is = absurd (cc)
passed_part v v' part read left W (Malformed size more) call is = absurd (cc)

-- a call that read all of the last part, none of whose pieces is malformed
pub passed_all : (new v v' : DecoderView) (before part : List ℕ) (read : ℕ) (left : RoomLeft) (W : List ℕ → Type 0) (outcome : DecoderResult)
    → HasPassed new v before → DecoderCall v v' part true read W left outcome → outcome ≡ InputEmpty → AreWellFormed (new.state.pieces (before ++ part))
passed_all new v v' before part read left W outcome passed call is =
    let last : AreWellFormed (v.state.pieces part) = (wrote_scalars v v' part read W left outcome call is).1 in
    subst AreWellFormed (sym (passed.rest part)) (AreWellFormed-append passed.pieces (v.state.pieces part) passed.well_formed last)

-- a call that reports a malformed sequence of this size, after which it read more bytes: n bytes were read in all
pub record IsReported (new : DecoderView) (input : List ℕ) (n size more : ℕ) : Type 0 where
  pub within : size ≤ n - more
  pub first : IsFirstMalformed (n - more - size) size (new.state.pieces input)

pub reported : (new v v' : DecoderView) (before part r : List ℕ) (last : Bool) (n read : ℕ) (left : RoomLeft) (size more : ℕ) (W : List ℕ → Type 0) (outcome : DecoderResult)
    → new.state.pending ≡ 0 → HasPassed new v before → DecoderCall v v' part last read W left outcome → outcome ≡ Malformed size more
    → n ≡ length before + read → (IsTrue last → r ≡ []) → IsReported new (before ++ (part ++ r)) n size more
reported new v v' before part r last n read left size more W outcome fresh passed call is count none =
    let law : Takes (Reports (Malformed size more) v'.state.pending) v.state.pieces v'.state.pieces part last v.state.pending v'.state.pending read W =
    subst (λ (o : DecoderResult). Takes (Reports o v'.state.pending) v.state.pieces v'.state.pieces part last v.state.pending v'.state.pending read W) is call.law in
    let told = law.well_formed.4 in
    let rest : List Piece = v'.state.pieces (drop read part ++ r) in
    let taken : sizes law.taken ≡ sizes told.0 + size = omega (arith, ap sizes told.2, sizes-append told.0 (malformed size ∷ [])) in
    record {
      within = omega (arith, law.counted, taken, law.well_formed.0, passed.counted, fresh, count);
      first = record {
        before = passed.pieces ++ told.0;
        after = rest;
        well_formed = AreWellFormed-append passed.pieces told.0 passed.well_formed told.1;
        stands = sizes-append passed.pieces told.0 ∙ omega (arith, law.counted, taken, law.well_formed.0, passed.counted, fresh, count);
        split = passed.rest (part ++ r) ∙ ap (λ (ps : List Piece). passed.pieces ++ ps) (law.rest r none ∙ ap (λ (ps : List Piece). ps ++ rest) told.2 ∙ append_assoc told.0 (malformed size ∷ []) rest)
            ∙ sym (append_assoc passed.pieces told.0 (malformed size ∷ rest));
      };
    }

-- a call that found no room: the text of what was passed and of what it took leaves fewer than 4 bytes
pub crowded : (new v v' : DecoderView) (before part r : List ℕ) (last : Bool) (room read written : ℕ) (old now : List ℕ) (outcome : DecoderResult)
    → HasPassed new v before → DecoderCall v v' part last read (λ t. Adds old 0 (encode_utf8_all t) now written) (free_bytes (length (drop written now))) outcome → outcome ≡ OutputFull
    → length old ≡ room → length now ≡ room → (IsTrue last → r ≡ []) → IsCrowded room (new.state.pieces (before ++ (part ++ r)))
crowded new v v' before part r last room read written old now OutputFull passed call is had has none =
    let law = call.law in
    let rest : List Piece = v'.state.pieces (drop read part ++ r) in
    let more : length (encode_utf8_all (text law.taken)) ≡ length (encode_utf8_all (scalars law.taken)) = ap (λ (t : List ℕ). length (encode_utf8_all t)) (well_formed_text law.taken law.well_formed) in
    let all : length (encode_utf8_all (text (passed.pieces ++ law.taken))) ≡ length (encode_utf8_all (text passed.pieces)) + length (encode_utf8_all (text law.taken)) =
    ap (λ (t : List ℕ). length (encode_utf8_all t)) (text-append passed.pieces law.taken) ∙ ap length (encodes-append (text passed.pieces) (text law.taken)) ∙ length-append (encode_utf8_all (text passed.pieces)) _ in
    record {
      before = passed.pieces ++ law.taken;
      after = rest;
      well_formed = AreWellFormed-append passed.pieces law.taken passed.well_formed law.well_formed;
      full = omega (arith, all, more, law.writes.counted, call.ends.0, length-drop written now, had, has);
      split = passed.rest (part ++ r) ∙ ap (λ (ps : List Piece). passed.pieces ++ ps) (law.rest r none) ∙ sym (append_assoc passed.pieces law.taken rest);
    }
crowded new v v' before part r last room read written old now InputEmpty passed call is had has none = absurd (cc)
crowded new v v' before part r last room read written old now (Malformed a b) passed call is had has none = absurd (cc)
