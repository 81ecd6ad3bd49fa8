-- Bytes whose characters have their numbers.
use Rattle.std.proofs.Common.{◌≡◌, ◌≢◌, ℕ, true, false, List, [], ◌∷◌, length, get_or, sym, ◌∙◌, ap, arith, Option, None, Some}
use Rattle.std.specs.Prelude.{not}
use Rattle.std.specs.List.{position}
use Rattle.std.specs.Option.{unwrap_or}
use Rattle.std.proofs.lemmas.Bool.{eqb-true, eqb-false, not-true, not-false}
use Rattle.std.proofs.lemmas.List.Quantifiers.{position-Some}
use Rattle.encoding_mem.specs.Piece.{well_formed, piece_of_scalar}
use Rattle.encoding_mem.specs.laws.Pieces.{pieces_by-nil}
use Rattle.encoding_tables.specs.Lookups.{AreEntries}
use Rattle.encoding_tables.specs.SingleByte.{char_of_byte, pieces_single_byte, has_number, IsLatin1UpTo}
use Rattle.encoding_tables.specs.laws.SingleByte.{pieces_of_byte, first_piece_single_byte}
use Rattle.encoding_tables.specs.laws.TableFaults.{no_position}

alone : (flat : List ℕ) → AreEntries flat → (b : ℕ) → pieces_single_byte flat (b ∷ []) ≡ piece_of_scalar 1 (char_of_byte flat b) ∷ []
alone flat scalars b = pieces_of_byte flat scalars b [] ∙ ap (λ ps. piece_of_scalar 1 (char_of_byte flat b) ∷ ps) (pieces_by-nil (first_piece_single_byte flat))

itself : (b : ℕ) (o : Option ℕ) → has_number b o ≡ true → piece_of_scalar 1 o ∷ [] ≡ well_formed 1 (b ∷ []) ∷ []
itself b None h = absurd (cc)
itself b (Some c) h = ap (λ d. well_formed 1 (d ∷ []) ∷ []) (eqb-true c b h)

another : (b : ℕ) (o : Option ℕ) → has_number b o ≡ false → piece_of_scalar 1 o ∷ [] ≢ well_formed 1 (b ∷ []) ∷ []
another b None h e = cc
another b (Some c) h e = eqb-false c b h (let same : c ≡ b = cc in same)

pub latin1_up_to : (flat : List ℕ) → AreEntries flat → (bytes : List ℕ) (o : Option ℕ) → position (λ b. not (has_number b (char_of_byte flat b))) bytes ≡ o
    → IsLatin1UpTo (pieces_single_byte flat) bytes (unwrap_or o (length bytes))
latin1_up_to flat scalars bytes None e = record {
  within = omega arith;
  same = λ k below.
      let b = get_or bytes k 0 in
      alone flat scalars b ∙ itself b (char_of_byte flat b) (not-false _ (no_position (λ b. not (has_number b (char_of_byte flat b))) bytes e k below));
  other = λ more. absurd (omega (arith, more));
}
latin1_up_to flat scalars bytes (Some n) e =
    let found = position-Some (λ b. not (has_number b (char_of_byte flat b))) bytes n 0 e in
    record {
      within = omega (arith, found.0);
      same = λ k below. let b = get_or bytes k 0 in alone flat scalars b ∙ itself b (char_of_byte flat b) (not-false _ (found.2 k below));
      other = λ more same.
          let b = get_or bytes n 0 in
          another b (char_of_byte flat b) (not-true _ found.1) (sym (alone flat scalars b) ∙ same);
    }
