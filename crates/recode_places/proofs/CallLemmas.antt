-- The text that a call of a decoder wrote, and the pieces that it took.
use Rattle.std.proofs.Common.{◌≡◌, ℕ, ◌≤◌, ◌&&◌, Bool, true, false, List, [], ◌∷◌, ◌++◌, refl, sym, ◌∙◌, ap, subst, arith, take, append-nil, length, drop, Result, Ok, Err, OnErr}
use lib.Utf8.{scalar}
use Rattle.std.proofs.lemmas.Bool.{false≢true}
use Rattle.std.proofs.lemmas.List.{length-append, take_at}
use Rattle.std.proofs.lemmas.Str.{chars-encodes, encodes-chars, length-le-encodes}
use Rattle.std.specs.Str.{chars, IsUtf8, all_scalars, encode_utf8_all}
use Rattle.encoding_mem.specs.Piece.{Piece, well_formed, malformed, piece_scalars, piece_text, sizes, scalars, text, AreWellFormed, ArePieces}
use Rattle.encoding_mem.specs.calls.Decoding.{DecoderState, Reports, StateLaw}
use Rattle.encoding_mem.specs.calls.Writing.{Adds}
use Rattle.encoding_mem.specs.declared.codec.decoder_result.DecoderResult.{DecoderResult}
use Rattle.encoding_mem.specs.declared.codec.decoder_result.DecoderResult.TheVariants.{InputEmpty, OutputFull, Malformed}
use Rattle.encoding_mem.specs.laws.Piece.{well_formed_text}

prefix_pieces : (ps qs : List Piece) → ArePieces (ps ++ qs) → ArePieces ps
prefix_pieces [] qs h = tt
prefix_pieces (p ∷ ps) qs h = (h.0, prefix_pieces ps qs h.1)

both_true : (x y : Bool) → (x && y) ≡ true → (x ≡ true) × (y ≡ true)
both_true true y h = (refl, h)
both_true false y h = (h, absurd (false≢true h))

all_scalars-append : (a b : List ℕ) → all_scalars a ≡ true → all_scalars b ≡ true → all_scalars (a ++ b) ≡ true
all_scalars-append [] b h k = k
all_scalars-append (c ∷ a) b h k =
    let parts = both_true (scalar c) (all_scalars a) h in
    ap (λ y. y && all_scalars (a ++ b)) parts.0 ∙ all_scalars-append a b parts.1 k

scalars_are : (ps : List Piece) → ArePieces ps → all_scalars (scalars ps) ≡ true
scalars_are [] h = refl
scalars_are (p ∷ ps) h = all_scalars-append (piece_scalars p) (scalars ps) h.0.are_scalars (scalars_are ps h.1)

-- no more characters than bytes
few_in_pieces : (ps : List Piece) → ArePieces ps → length (text ps) ≤ sizes ps
few_in_pieces [] h = omega arith
few_in_pieces (p ∷ ps) h = omega (arith, h.0.few, few_in_pieces ps h.1, length-append (piece_text p) (text ps))

pub few_chars : (text : List ℕ) → IsUtf8 text → length (chars text) ≤ length text
few_chars text utf8 = omega (arith, length-le-encodes (chars text), ap length (encodes-chars text utf8))

pub taken_pieces : (d : DecoderState) (src : List ℕ) (taken rest : List Piece) → d.pieces (src ++ []) ≡ taken ++ rest → ArePieces taken
taken_pieces d src taken rest e = prefix_pieces taken rest (subst ArePieces e (d.are_pieces (src ++ [])))

pub few_taken : (d : DecoderState) (src : List ℕ) (taken rest : List Piece) → d.pieces (src ++ []) ≡ taken ++ rest → length (text taken) ≤ sizes taken
few_taken d src taken rest e = few_in_pieces taken (taken_pieces d src taken rest e)

-- ---- the text that was written to the start of a buffer

module _ (d d' : DecoderState) (src : List ℕ) (last : Bool) (read : ℕ) (old new : List ℕ) (written : ℕ) (o : DecoderResult)
    (k : StateLaw d d' src last read (λ text. Adds old 0 (encode_utf8_all text) new written) o) where
  are_scalars : all_scalars (scalars k.taken) ≡ true
  are_scalars = scalars_are k.taken (taken_pieces d src k.taken _ (k.rest [] (λ end. refl)))

  wrote : take written new ≡ encode_utf8_all (scalars k.taken)
  wrote = ap (take written) k.writes.list ∙ take_at (encode_utf8_all (scalars k.taken)) (drop written old) written (omega (arith, k.writes.counted))

  pub call_is_utf8 : IsUtf8 (take written new)
  call_is_utf8 = (scalars k.taken, (are_scalars, sym wrote))

  pub call_chars : (part : List ℕ) → part ≡ take written new → chars part ≡ scalars k.taken
  call_chars part e = ap chars (e ∙ wrote) ∙ chars-encodes (scalars k.taken) are_scalars

-- ---- what was taken, before the malformed sequence that a call reported

-- the piece that a call reported, which is the last that it took
abbrev pub reported : DecoderResult → List Piece
reported InputEmpty = []
reported OutputFull = []
reported (Malformed a b) = malformed a ∷ []

pub record IsCutAt (o : DecoderResult) (taken : List Piece) : Type 0 where
  pub before : List Piece
  pub well_formed : AreWellFormed before
  pub whole : taken ≡ before ++ reported o
  pub same : scalars taken ≡ text before

no_scalars : (ps : List Piece) (n : ℕ) → AreWellFormed ps → scalars (ps ++ (malformed n ∷ [])) ≡ text ps
no_scalars [] n h = refl
no_scalars (well_formed m cs ∷ ps) n h = ap (λ t. cs ++ t) (no_scalars ps n h.1)
no_scalars (malformed m ∷ ps) n h = absurd h.0

pub cut_at : (o : DecoderResult) (pending : ℕ) (taken : List Piece) → Reports o pending taken → IsCutAt o taken
cut_at InputEmpty pending taken h = record { before = taken; well_formed = h; whole = sym (append-nil taken); same = sym (well_formed_text taken h) }
cut_at OutputFull pending taken h = record { before = taken; well_formed = h; whole = sym (append-nil taken); same = sym (well_formed_text taken h) }
cut_at (Malformed a b) pending taken h =
    let k = h.4 in
    record { before = k.0; well_formed = k.1; whole = k.2; same = ap scalars k.2 ∙ no_scalars k.0 a k.1 }

-- a fact that holds anyway
pub on_err : {T E : Type 0} (r : Result T E) (P : Type 0) → P → OnErr r P
on_err (Ok x) P h = tt
on_err (Err e) P h = h
