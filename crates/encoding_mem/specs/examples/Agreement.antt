-- Worked rows of `specs/Agreement.antt`, and of `IsBroken` of `specs/Steps.antt`.
use Rattle.std.proofs.Common.{◌≡◌, ℕ, ◌<◌, ◌⊎◌, inl, inr, List, [], ◌∷◌, ◌++◌, length, drop, refl, sym, ◌∙◌, ap, subst, arith, lit<}
use Rattle.encoding_mem.specs.Agreement.{AgreesWith, IsEscape}
use Rattle.encoding_mem.specs.Piece.{Piece, text, sizes, AreWellFormed, well_formed, malformed}
use Rattle.encoding_mem.specs.Pieces.{pieces_in}
use Rattle.encoding_mem.specs.Steps.{TextsDiffer, IsBroken}
use Rattle.encoding_mem.specs.Utf8.{pieces_utf8}
use Rattle.encoding_mem.specs.Utf8Coding.{utf8_coding}
use Rattle.encoding_mem.specs.examples.SampleCoding.{sample_coding}
use Rattle.encoding_mem.specs.laws.SampleCoding.{sample_coding_laws}
use Rattle.encoding_mem.specs.declared.codec.form.EscapeState.TheVariants.{Ascii, Roman}

-- `Aé` agrees with its two characters
letters_agree : AgreesWith utf8_coding pieces_utf8 (0x41 ∷ 0xC3 ∷ 0xA9 ∷ []) (0x41 ∷ 0xE9 ∷ [])
unfolding pieces_in
letters_agree = record {
  taken = well_formed 1 (0x41 ∷ []) ∷ well_formed 2 (0xE9 ∷ []) ∷ [];
  decided = λ r. (_, refl);
  well_formed = (tt, (tt, tt));
  same = refl;
  left = inl refl;
}

-- of a list that begins with `A`, and then has a piece with other text, only `A` has the text of `A`
abbrev letter : Piece
letter = well_formed 1 (0x41 ∷ [])

letter_alone : (q : Piece) (taken rest : List Piece) → letter ∷ q ∷ [] ≡ taken ++ rest → text taken ≡ 0x41 ∷ [] → 0 < length (text (q ∷ [])) → taken ≡ letter ∷ []
letter_alone q [] rest is same some = absurd (cc)
letter_alone q (p ∷ []) rest is same some = cc
letter_alone q (p ∷ r ∷ taken) rest is same some =
    let first : p ≡ letter = cc in
    let second : r ≡ q = cc in
    let none : taken ++ rest ≡ [] = cc in
    let all = more letter q taken rest none (subst (λ x. text (x ∷ q ∷ taken) ≡ 0x41 ∷ []) first (subst (λ x. text (p ∷ x ∷ taken) ≡ 0x41 ∷ []) second same)) in
    absurd (omega (arith, some, all))
  where
    more : (p q : Piece) (taken rest : List Piece) → taken ++ rest ≡ [] → text (letter ∷ q ∷ taken) ≡ 0x41 ∷ [] → length (text (q ∷ [])) ≡ 0
    more p q [] rest none same = omega (arith, ap length same)
    more p q (r ∷ taken) rest none same = absurd (cc)

-- `A` and the first byte of `é` do not agree with `A`: what is left is no escape
abbrev half : List ℕ
half = 0x41 ∷ 0xC3 ∷ []

pieces_of_half : pieces_utf8 half ≡ letter ∷ malformed 1 ∷ []
unfolding pieces_in
pieces_of_half = refl

none_left : (taken : List Piece) → taken ≡ letter ∷ [] → (drop (sizes taken) half ≡ []) ⊎ IsEscape utf8_coding (drop (sizes taken) half) → ⊥
none_left taken is left = rest (subst (λ l. (drop (sizes l) half ≡ []) ⊎ IsEscape utf8_coding (drop (sizes l) half)) is left)
  where
    rest : (drop 1 half ≡ []) ⊎ IsEscape utf8_coding (drop 1 half) → ⊥
    rest (inl none) = cc
    rest (inr (s, s', none)) = cc

half_does_not_agree : ¬ (AgreesWith utf8_coding pieces_utf8 half (0x41 ∷ []))
half_does_not_agree h = none_left h.taken (letter_alone (malformed 1) h.taken (h.decided []).0 (sym pieces_of_half ∙ (h.decided []).1) h.same (lit< tt)) h.left

-- one escape may be left after `A`, and two may not
escape_agrees : AgreesWith sample_coding (λ x. letter ∷ []) (0x41 ∷ 0x1B ∷ 0x28 ∷ 0x4A ∷ []) (0x41 ∷ [])
escape_agrees = record {
  taken = letter ∷ [];
  decided = λ r. ([], refl);
  well_formed = (tt, tt);
  same = refl;
  left = inr (Ascii, Roman, refl);
}

two_escapes : ¬ (IsEscape sample_coding (0x1B ∷ 0x24 ∷ 0x42 ∷ 0x1B ∷ 0x28 ∷ 0x4A ∷ []))
two_escapes (s, s', is) = absurd (omega (arith, ap length is, sample_coding_laws.escape_short s s'))

-- a malformed sequence does not agree with U+FFFD, though that is its text
pieces_of_malformed : pieces_utf8 (0xFF ∷ []) ≡ malformed 1 ∷ []
unfolding pieces_in
pieces_of_malformed = refl

malformed_does_not_agree : ¬ (AgreesWith utf8_coding pieces_utf8 (0xFF ∷ []) (0xFFFD ∷ []))
malformed_does_not_agree h = by h.taken (h.decided []).0 h.well_formed h.same (sym pieces_of_malformed ∙ (h.decided []).1)
  where
    by : (taken rest : List Piece) → AreWellFormed taken → text taken ≡ 0xFFFD ∷ [] → malformed 1 ∷ [] ≡ taken ++ rest → ⊥
    by [] rest good same is = cc
    by (p ∷ taken) rest good same is = let first : p ≡ malformed 1 = cc in (subst (λ q. AreWellFormed (q ∷ taken)) first good).0

-- it is broken for each text, as `A` is for `B`, whatever follows; for `AB` it is not, since more may follow
malformed_is_broken : (t : List ℕ) → IsBroken pieces_utf8 (0xFF ∷ []) t
unfolding pieces_in
malformed_is_broken t = record { taken = malformed 1 ∷ []; decided = λ r. (_, refl); wrong = inl (λ good. good.0) }

letter_is_broken : IsBroken pieces_utf8 (0x41 ∷ []) (0x42 ∷ [])
unfolding pieces_in
letter_is_broken = record {
  taken = letter ∷ [];
  decided = λ r. (_, refl);
  wrong = inr (record { offset = 0; in_one = lit< tt; in_other = lit< tt; apart = λ same. absurd (omega (arith, same)) });
}

pieces_of_letter : pieces_utf8 (0x41 ∷ []) ≡ letter ∷ []
unfolding pieces_in
pieces_of_letter = refl

shorter_is_not_broken : ¬ (IsBroken pieces_utf8 (0x41 ∷ []) (0x41 ∷ 0x42 ∷ []))
shorter_is_not_broken h = by h.taken (h.decided []).0 (sym pieces_of_letter ∙ (h.decided []).1) h.wrong
  where
    at_start : (offset : ℕ) → offset < 1 → offset ≡ 0
    at_start offset h = omega (arith, h)

    apart : TextsDiffer (0x41 ∷ []) (0x41 ∷ 0x42 ∷ []) → ⊥
    apart h = let first = at_start h.offset h.in_one in h.apart (rw first refl)

    wrong : (AreWellFormed (letter ∷ []) → ⊥) ⊎ TextsDiffer (0x41 ∷ []) (0x41 ∷ 0x42 ∷ []) → ⊥
    wrong (inl none) = none (tt, tt)
    wrong (inr h) = apart h

    by : (taken rest : List Piece) → letter ∷ [] ≡ taken ++ rest → (AreWellFormed taken → ⊥) ⊎ TextsDiffer (text taken) (0x41 ∷ 0x42 ∷ []) → ⊥
    by [] rest is (inl none) = none tt
    by [] rest is (inr h) = absurd (omega (arith, h.in_one))
    by (p ∷ []) rest is h = let first : p ≡ letter = cc in wrong (subst (λ q. (AreWellFormed (q ∷ []) → ⊥) ⊎ TextsDiffer (text (q ∷ [])) (0x41 ∷ 0x42 ∷ [])) first h)
    by (p ∷ q ∷ taken) rest is h = absurd (cc)
