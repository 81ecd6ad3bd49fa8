-- What a call of the decoder of UTF-8 counts, and what is next in capitals.
use Rattle.std.proofs.Common.{◌≡◌, ◌≢◌, ℕ, zero, suc, ◌+◌, ◌<◌, Bool, true, List, [], ◌∷◌, ◌++◌, length, map, drop, get_or, inl, inr, refl, sym, ◌∙◌, ap, arith, length-drop, encode_utf8_all}
use Rattle.std.proofs.lemmas.List.{append-nil, length-map}
use Rattle.std.proofs.Math.Seq.{drop-cons}
use Rattle.std.proofs.lemmas.Str.{chars-IsAscii, encodes-chars, IsUtf8-from_ascii, len_utf8_ascii}
use Rattle.std.proofs.lemmas.Str.Ascii.{uppercase_ascii}
use Rattle.std.specs.Char.{encode_utf8, len_utf8, to_ascii_uppercase}
use Rattle.std.specs.Str.{IsAscii}
use Rattle.encoding_mem.specs.Piece.{AreWellFormed, malformed, text}
use Rattle.encoding_mem.specs.Utf8.{pieces_utf8}
use Rattle.encoding_mem.specs.calls.Decoding.{DecoderState, IsFreshDecoder, Room, StateCall}
use Rattle.encoding_mem.specs.calls.DecodedLength.{decoded_length_utf8}
use Rattle.encoding_mem.specs.calls.EncoderRule.{EncoderCall, EncoderParts}
use Rattle.encoding_mem.specs.declared.codec.decoder_result.DecoderResult.TheVariants.{InputEmpty as Decoded, Malformed}
use Rattle.encoding_mem.specs.declared.codec.encoder_result.EncoderResult.{EncoderResult}
use Rattle.encoding_mem.specs.declared.codec.encoder_result.EncoderResult.TheVariants.{InputEmpty, OutputFull, Unmappable}
use Rattle.encoding_mem.specs.declared.codec.form.Form.TheVariants.{Mapped, Unmapped}
use Rattle.encoding_mem.specs.laws.EncoderCalls.{utf8_calls_are_longest}
use Rattle.encoding_mem.specs.Utf8Coding.{utf8_coding}
use Rattle.encoding_mem.specs.laws.Agreement.{well_formed_parts}
use Rattle.encoding_mem.specs.laws.Piece.{well_formed_text}

-- a call that is the last and the first of its decoder
pub whole_counted : (before after : DecoderState) (src : List ℕ) (read old new : ℕ) (room : Room) → IsFreshDecoder before pieces_utf8 decoded_length_utf8
    → StateCall before after src true read (λ t. new ≡ old + length t) room Decoded
    → AreWellFormed (pieces_utf8 src) × (new ≡ old + length (text (pieces_utf8 src)))
whole_counted before after src read old new room fresh call =
    let law = call.law in
    let nothing : after.pieces [] ≡ [] = elim call.ends.1 [ inl h ↦ h.1 | inr h ↦ absurd (cc h.0) ] in
    let rest : after.pieces (drop read src ++ []) ≡ [] = ap (λ l. after.pieces (l ++ [])) call.ends.0 ∙ nothing in
    let all : pieces_utf8 src ≡ law.taken =
    sym (ap (λ f. f src) fresh.pieces) ∙ ap before.pieces (sym (append-nil src)) ∙ law.rest [] (λ _. refl) ∙ ap (λ l. law.taken ++ l) rest ∙ append-nil law.taken in
    let whole : AreWellFormed law.taken × (new ≡ old + length (text law.taken)) = (law.well_formed, rw (well_formed_text law.taken law.well_formed) law.writes) in
    rw all whole

pub malformed_counted : (before after : DecoderState) (src : List ℕ) (read old new a b : ℕ) (room : Room) → IsFreshDecoder before pieces_utf8 decoded_length_utf8
    → StateCall before after src true read (λ t. new ≡ old + length t) room (Malformed a b)
    → ¬ (AreWellFormed (pieces_utf8 src))
malformed_counted before after src read old new a b room fresh call h =
    let law = call.law in
    let told = law.well_formed.4 in
    let all : pieces_utf8 src ≡ (told.0 ++ malformed a ∷ []) ++ after.pieces (drop read src ++ []) =
    sym (ap (λ f. f src) fresh.pieces) ∙ ap before.pieces (sym (append-nil src)) ∙ law.rest [] (λ _. refl) ∙ ap (λ l. l ++ after.pieces (drop read src ++ [])) told.2 in
    let taken = (well_formed_parts (told.0 ++ malformed a ∷ []) _ (rw all at h)).0 in
    (well_formed_parts told.0 (malformed a ∷ []) taken).1.0

pub next_capital : (xs : List ℕ) (i : ℕ) → IsAscii xs → 0 < length (map to_ascii_uppercase (drop i xs))
    → (c : ℕ) × (map to_ascii_uppercase (drop i xs) ≡ c ∷ map to_ascii_uppercase (drop (i + 1) xs)) × (i + 1 ≡ i + len_utf8 c)
next_capital xs i ascii some =
    let within : i < length xs = omega (arith, some, length-map (drop i xs) to_ascii_uppercase, length-drop i xs) in
    let c : ℕ = to_ascii_uppercase (get_or xs i 0) in
    let next : suc i ≡ i + 1 = omega arith in
    let split : drop i xs ≡ get_or xs i 0 ∷ drop (i + 1) xs = drop-cons xs i 0 within ∙ ap (λ n. get_or xs i 0 ∷ drop n xs) next in
    (c, ap (map to_ascii_uppercase) split, ap (λ n. i + n) (sym (len_utf8_ascii c (uppercase_ascii (get_or xs i 0) (ascii i)))))

-- a call of the encoder of UTF-8 that has room for all writes all
pub all_put : (last : Bool) (outcome : EncoderResult) (before after : EncoderParts) (t written rest : List ℕ) (free : ℕ) → before.coding ≡ utf8_coding → EncoderCall before after last outcome t written rest free
    → outcome ≢ OutputFull → written ≡ encode_utf8_all t
all_put last InputEmpty before after t written rest free is call room =
    let read = utf8_calls_are_longest last InputEmpty before.set t written after.set rest free (rw is at call.law) tt in
    read.bytes ∙ ap encode_utf8_all (sym (read.split ∙ ap (λ l. read.prefix ++ l) call.ends.0 ∙ append-nil read.prefix))
all_put last OutputFull before after t written rest free is call room = absurd (room refl)
all_put last (Unmappable m) before after t written rest free is call room =
    let law = rw is at call.law in
    let no : Mapped (encode_utf8 law.leaves.0) ≡ Unmapped m = law.leaves.2 in
    absurd (cc no)

capitals_ascii : (xs : List ℕ) → IsAscii xs → IsAscii (map to_ascii_uppercase xs)
capitals_ascii [] ascii i = ascii i
capitals_ascii (x ∷ xs) ascii zero = uppercase_ascii x (ascii zero)
capitals_ascii (x ∷ xs) ascii (suc i) = capitals_ascii xs (λ k. ascii (suc k)) i

-- in UTF-8 capitals of ASCII are their own bytes
pub capitals_encoded : (xs : List ℕ) → IsAscii xs → encode_utf8_all (map to_ascii_uppercase xs) ≡ map to_ascii_uppercase xs
capitals_encoded xs ascii =
    let t = map to_ascii_uppercase xs in
    let low = capitals_ascii xs ascii in
    ap encode_utf8_all (sym (chars-IsAscii t low)) ∙ encodes-chars t (IsUtf8-from_ascii t low)
