-- Worked rows of `specs/calls/ReadCalls.antt`, in UTF-8.
use Rattle.std.proofs.Common.{◌≡◌, ℕ, inl, inr, true, false, IsTrue, List, [], ◌∷◌, refl, sym, ◌∙◌, arith, lit<, lit≤}
use Rattle.std.specs.Char.{encode_utf8}
use Rattle.encoding_mem.specs.Piece.{Piece, well_formed, malformed}
use Rattle.encoding_mem.specs.Pieces.{pieces_in}
use Rattle.encoding_mem.specs.calls.ReadCalls.{AreRead, DecidesNothing, HasTaken, HasTakenPart, IsReadUpTo, KeepsVerdict, ReadsAlong, ReadsWhole}
use Rattle.encoding_mem.specs.Steps.{in_any_set}
use Rattle.encoding_mem.specs.Utf8.{first_piece_utf8, pieces_utf8}
use Rattle.encoding_mem.specs.Utf8Coding.{utf8_coding}
use Rattle.encoding_mem.specs.laws.Pieces.{pieces_by-cons}
use Rattle.encoding_mem.specs.laws.Utf8.{cuts_utf8}
use Rattle.encoding_mem.specs.declared.codec.reference.Reference.TheVariants.{Decimal}
use Rattle.encoding_mem.specs.declared.codec.form.EscapeState.TheVariants.{Ascii}

-- after C3, and after `A`
abbrev behind_c3 : List ℕ → List Piece
behind_c3 x = pieces_utf8 (0xC3 ∷ x)

abbrev behind_letter : List ℕ → List Piece
behind_letter x = pieces_utf8 (0x41 ∷ x)

letter_first : (x : List ℕ) → behind_letter x ≡ well_formed 1 (0x41 ∷ []) ∷ pieces_utf8 x
letter_first x = pieces_by-cons first_piece_utf8 cuts_utf8 0x41 x

-- C3 decides nothing, `A` does
c3_decides_nothing : DecidesNothing behind_c3
unfolding pieces_in
c3_decides_nothing = inr (record { more = 0xA9 ∷ []; bytes = (lit< tt, tt); short = lit≤ tt; differs = λ same. cc })

letter_decides : ¬ (DecidesNothing behind_letter)
unfolding pieces_in
letter_decides (inl none) = cc
letter_decides (inr waits) = waits.differs refl

-- `A` and C3 are read up to `A`, and no further
half_is_read : IsReadUpTo pieces_utf8 (0x41 ∷ 0xC3 ∷ []) (0x41 ∷ []) (λ pieces. pieces [] ≡ malformed 1 ∷ [])
unfolding pieces_in
half_is_read = record {
  taken = well_formed 1 (0x41 ∷ []) ∷ [];
  behind = behind_c3;
  well_formed = (tt, tt);
  same = refl;
  rest = λ r. letter_first (0xC3 ∷ r);
  nothing = c3_decides_nothing;
  holds = refl;
}

half_is_taken : HasTaken pieces_utf8 behind_c3 (0x41 ∷ 0xC3 ∷ []) (well_formed 1 (0x41 ∷ []) ∷ [])
half_is_taken = record { rest = λ r. letter_first (0xC3 ∷ r); nothing = c3_decides_nothing }

-- nothing is taken of `A`, so that it is left to read; then all is not taken
none_is_taken : HasTakenPart pieces_utf8 pieces_utf8 (0x41 ∷ []) (0x41 ∷ []) []
none_is_taken = record { rest = λ r. refl }

all_is_not_taken : ¬ (HasTaken pieces_utf8 behind_letter (0x41 ∷ []) [])
all_is_not_taken h = letter_decides h.nothing

-- a malformed sequence is not read, nor is `B` where `A` was
malformed_is_not_read_as : ¬ (AreRead (malformed 1 ∷ []) (0xFFFD ∷ []))
malformed_is_not_read_as h = h.0.0

letter_is_read : AreRead (well_formed 1 (0x41 ∷ []) ∷ []) (0x41 ∷ 0x42 ∷ [])
letter_is_read = ((tt, tt), (0x42 ∷ [], refl))

other_is_not_read : ¬ (AreRead (well_formed 1 (0x42 ∷ []) ∷ []) (0x41 ∷ 0x42 ∷ []))
other_is_not_read h = absurd (omega (arith, heads 0x41 0x42 (0x42 ∷ []) h.1.0 h.1.1))
  where
    heads : (c d : ℕ) (x y : List ℕ) → c ∷ x ≡ d ∷ y → c ≡ d
    heads c d x y same = cc

-- with C3 pending a text that is to come is not read back; with nothing pending it is
letter_reads : ReadsWhole Decimal utf8_coding pieces_utf8 Ascii (0x41 ∷ [])
unfolding pieces_in encode_utf8
letter_reads = record { well_formed = (tt, tt); same = refl }

behind_c3_none_reads : ¬ (ReadsWhole Decimal utf8_coding behind_c3 Ascii (0x41 ∷ []))
unfolding pieces_in encode_utf8
behind_c3_none_reads reads = reads.well_formed.0

nothing_reads : ReadsWhole Decimal utf8_coding pieces_utf8 Ascii []
unfolding pieces_in
nothing_reads = record { well_formed = tt; same = refl }

-- if `A` was read and written as itself, a verdict does not become false; if another character was, it does not stay
-- true
no_verdict_is_given_up : ¬ (KeepsVerdict utf8_coding false true pieces_utf8 Ascii (0x41 ∷ []) false pieces_utf8 Ascii [])
no_verdict_is_given_up keeps = untrue ((keeps Decimal [] (λ last. refl)).0 (refl, letter_reads)).0
  where
    untrue : IsTrue false → ⊥
    untrue h = cc

no_verdict_recovers : ¬ (KeepsVerdict utf8_coding false true behind_c3 Ascii (0x41 ∷ []) true pieces_utf8 Ascii [])
no_verdict_recovers keeps = behind_c3_none_reads ((keeps Decimal [] (λ last. refl)).1 (refl, nothing_reads)).1

-- reading along with one set: nothing is pending
c3_alone : behind_c3 [] ≡ malformed 1 ∷ []
unfolding pieces_in
c3_alone = refl

nothing_alone : pieces_utf8 [] ≡ []
unfolding pieces_in
nothing_alone = refl

along_in_utf8 : ReadsAlong utf8_coding (in_any_set pieces_utf8) pieces_utf8 Ascii (0x41 ∷ [])
along_in_utf8 = record { decided = Ascii; next = inl refl; same = λ x. refl }

not_along_behind_c3 : ¬ (ReadsAlong utf8_coding (in_any_set pieces_utf8) behind_c3 Ascii (0x41 ∷ []))
not_along_behind_c3 h = let no : malformed 1 ∷ [] ≡ [] = sym c3_alone ∙ h.same [] ∙ nothing_alone in cc
