-- If there is one mode, the step law follows from the first piece of what is written for each scalar.
use Rattle.std.proofs.Common.{◌≡◌, ◌≢◌, ℕ, ◌<◌, List, [], ◌∷◌, ◌++◌, length, drop, refl, sym, ◌∙◌, ap, arith, lit<, inl, inr, length-append}
use Rattle.std.proofs.lemmas.List.{drop_at}
use Rattle.encoding_mem.specs.Coding.{reference_bytes, spelled}
use Rattle.encoding_mem.specs.Piece.{Piece, well_formed, malformed, piece_len, piece_scalars, text}
use Rattle.encoding_mem.specs.Pieces.{pieces_by}
use Rattle.encoding_mem.specs.laws.Pieces.{CutsEach, pieces_by-first}
use Rattle.encoding_mem.specs.Stateless.{stateless}
use Rattle.encoding_mem.specs.Steps.{Follows, TextsDiffer, IsBroken, StepLaw, in_any_set, Returns, Strays, StepsReadBack}
use Rattle.encoding_mem.specs.declared.codec.reference.Reference.{Reference}
use Rattle.encoding_mem.specs.declared.codec.reference.Reference.TheVariants.{Decimal, Hexadecimal}
use Rattle.encoding_mem.specs.declared.codec.form.Form.{Form}

-- some bytes are written, since a piece is some bytes
returned : (first_piece : List ℕ → Piece) → CutsEach first_piece → (bytes : List ℕ) (c : ℕ) → Returns first_piece bytes c → 0 < length bytes
returned first_piece cuts [] c h =
    let empty : piece_len (first_piece (0 ∷ [])) ≡ 0 = ap piece_len (h.piece (0 ∷ [])) in
    omega (arith, empty, (cuts 0 []).piece.some)
returned first_piece cuts (b ∷ x) c h = omega arith

strayed : (first_piece : List ℕ → Piece) → CutsEach first_piece → (bytes : List ℕ) (c : ℕ) → Strays first_piece bytes c → 0 < length bytes
strayed first_piece cuts bytes c h =
    let size : piece_len (first_piece (bytes ++ (0 ∷ []))) ≡ piece_len h.piece = ap piece_len (h.first (0 ∷ [])) in
    omega (arith, size, h.within, some bytes)
  where
    some : (bytes : List ℕ) → 0 < piece_len (first_piece (bytes ++ (0 ∷ [])))
    some [] = (cuts 0 []).piece.some
    some (b ∷ x) = (cuts b (x ++ (0 ∷ []))).piece.some

-- the first piece, and what follows it
begins : (first_piece : List ℕ → Piece) → CutsEach first_piece → (bytes r : List ℕ) (p : Piece) → 0 < length bytes → first_piece (bytes ++ r) ≡ p
    → pieces_by first_piece (bytes ++ r) ≡ p ∷ pieces_by first_piece (drop (piece_len p) (bytes ++ r))
begins first_piece cuts bytes r p some is =
    pieces_by-first first_piece cuts (bytes ++ r) (omega (arith, some, length-append bytes r))
    ∙ ap (λ q. q ∷ pieces_by first_piece (drop (piece_len q) (bytes ++ r))) is

follows : (first_piece : List ℕ → Piece) → CutsEach first_piece → (bytes : List ℕ) (c : ℕ) → Returns first_piece bytes c
    → Follows (pieces_by first_piece) (pieces_by first_piece) bytes (c ∷ [])
follows first_piece cuts bytes c h = record {
  taken = well_formed (length bytes) (c ∷ []) ∷ [];
  well_formed = (tt, tt);
  same = refl;
  whole = omega arith;
  rest = λ r.
      begins first_piece cuts bytes r (well_formed (length bytes) (c ∷ [])) (returned first_piece cuts bytes c h) (h.piece r)
      ∙ ap (λ x. well_formed (length bytes) (c ∷ []) ∷ pieces_by first_piece x) (drop_at bytes r (length bytes) refl);
}

-- a piece with one other scalar
other_text : (p : Piece) (d : ℕ) → piece_scalars p ≡ d ∷ [] → text (p ∷ []) ≡ d ∷ []
other_text (well_formed n cs) d is = ap (λ x. x ++ []) is
other_text (malformed n) d is = absurd (omega (arith, ap (λ x. length x) is))

apart : (p : Piece) (c d : ℕ) → d ≢ c → piece_scalars p ≡ d ∷ [] → TextsDiffer (text (p ∷ [])) (c ∷ [])
apart p c d differs is = rw (other_text p d is) (record {
  offset = 0;
  in_one = lit< tt;
  in_other = lit< tt;
  apart = differs;
})

pub broken_at_first : (first_piece : List ℕ → Piece) → CutsEach first_piece → (bytes : List ℕ) (c : ℕ) → Strays first_piece bytes c → IsBroken (pieces_by first_piece) bytes (c ∷ [])
broken_at_first first_piece cuts bytes c h = record {
  taken = h.piece ∷ [];
  decided = λ r. (
    pieces_by first_piece (drop (piece_len h.piece) (bytes ++ r)),
    begins first_piece cuts bytes r h.piece (strayed first_piece cuts bytes c h) (h.first r),
  );
  wrong = elim h.wrong [
    | inl none ↦ inl (λ all. none all.0)
    | inr other ↦ inr (apart h.piece c other.0 other.1 other.2)
  ];
}

pub step_law : (first_piece : List ℕ → Piece) (form : ℕ → Form) → CutsEach first_piece → StepsReadBack first_piece form
    → StepLaw (stateless form) (in_any_set (pieces_by first_piece))
step_law first_piece form cuts steps ref s c scalar = elim (steps ref c scalar) [
  | inl h ↦ inl (follows first_piece cuts (spelled ref (form c)) c h)
  | inr h ↦ inr (broken_at_first first_piece cuts (spelled ref (form c)) c h)
]

-- a reference begins with `&`, and stands for no other character
pub reference_behind : (ref : Reference) (d : ℕ) → reference_bytes ref d ≡ 0x26 ∷ drop 1 (reference_bytes ref d)
reference_behind Decimal d = refl
reference_behind Hexadecimal d = refl

pub strays_at_reference : (ref : Reference) (first_piece : List ℕ → Piece) (c d : ℕ) → ((x : List ℕ) → first_piece (0x26 ∷ x) ≡ well_formed 1 (0x26 ∷ [])) → c ≢ 0x26
    → Strays first_piece (reference_bytes ref d) c
strays_at_reference ref first_piece c d ascii apart = rw (reference_behind ref d) (record {
  piece = well_formed 1 (0x26 ∷ []);
  first = λ y. ascii _;
  within = omega arith;
  wrong = inr (0x26, λ same. apart (sym same), refl);
})
