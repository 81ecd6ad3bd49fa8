-- Worked rows of what is written in ISO-2022-JP and read back as it is written.
use Rattle.std.proofs.Common.{◌≡◌, ℕ, zero, suc, ◌⊎◌, inl, inr, List, [], ◌∷◌, ◌++◌, refl, sym, ◌∙◌, arith, lit<, lit≤}
use Rattle.std.specs.Char.{IsScalar}
use Rattle.encoding_mem.specs.Agreement.{AgreesWith}
use Rattle.encoding_mem.specs.Piece.{Piece, well_formed}
use Rattle.encoding_mem.specs.Pieces.{pieces_in}
use Rattle.encoding_mem.specs.ReadBack.{ReadsAs}
use Rattle.encoding_mem.specs.calls.ReadCalls.{ReadsAlong}
use Rattle.encoding_mem.specs.Steps.{IsBroken}
use Rattle.encoding_mem.specs.laws.Utf8.{scalar_from}
use Rattle.encoding_mem.specs.laws.Agreement.{broken_never_reads, reads_back_or_breaks}
use Rattle.encoding_mem.specs.declared.codec.reference.Reference.TheVariants.{Decimal}
use Rattle.encoding_mem.specs.declared.codec.form.EscapeState.{EscapeState}
use Rattle.encoding_mem.specs.declared.codec.form.EscapeState.TheVariants.{Ascii, Roman, Jis}
use Rattle.encoding_tables.specs.Lookups.{AreEntries}
use Rattle.encoding_codecs.specs.Iso2022Jp.{pieces_in_mode, pieces_iso_2022_jp}
use Rattle.encoding_codecs.specs.Iso2022JpForms.{iso_2022_jp_coding}
use Rattle.encoding_codecs.specs.Iso2022JpSets.{pieces_from_set}
use Rattle.encoding_codecs.specs.laws.Iso2022JpSteps.{iso_2022_jp_by_step}

one_scalar : (c d : ℕ) → c ∷ [] ≡ d ∷ [] → c ≡ d
one_scalar c d same = cc

-- lists with one entry: U+3000, or U+FF0D, at 21 21
scalar_or_none : (c : ℕ) → IsScalar c → AreEntries (c ∷ [])
scalar_or_none c is zero mapped = is
scalar_or_none c is (suc p) mapped = absurd (mapped refl)

space_is_entry : AreEntries (0x3000 ∷ [])
space_is_entry = scalar_or_none 0x3000 (scalar_from 0x3000 (inl (lit< tt)))

minus_is_entry : AreEntries (0xFF0D ∷ [])
minus_is_entry = scalar_or_none 0xFF0D (scalar_from 0xFF0D (inr (lit≤ tt, lit< tt)))

-- after U+3000 the escape to ASCII may be left
space_reads : ReadsAs (pieces_iso_2022_jp (0x3000 ∷ [])) (0x1B ∷ 0x24 ∷ 0x42 ∷ 0x21 ∷ 0x21 ∷ 0x1B ∷ 0x28 ∷ 0x42 ∷ []) (0x3000 ∷ [])
unfolding pieces_in_mode pieces_in
space_reads = record { well_formed = (tt, (tt, (tt, tt))); same = refl }

space_agrees : AgreesWith (iso_2022_jp_coding (0x3000 ∷ []) []) (pieces_iso_2022_jp (0x3000 ∷ [])) (0x1B ∷ 0x24 ∷ 0x42 ∷ 0x21 ∷ 0x21 ∷ 0x1B ∷ 0x28 ∷ 0x42 ∷ []) (0x3000 ∷ [])
space_agrees = elim ((reads_back_or_breaks (iso_2022_jp_coding (0x3000 ∷ []) []) (pieces_from_set (0x3000 ∷ [])) (iso_2022_jp_by_step (0x3000 ∷ []) [] space_is_entry)).escaped Decimal (0x3000 ∷ []) Ascii refl) [
  | inl agrees ↦ agrees
  | inr broken ↦ absurd (broken_never_reads (pieces_iso_2022_jp (0x3000 ∷ [])) (0x1B ∷ 0x24 ∷ 0x42 ∷ 0x21 ∷ 0x21 ∷ 0x1B ∷ 0x28 ∷ 0x42 ∷ []) (0x3000 ∷ []) broken space_reads)
]

-- U+2212 is written as U+FF0D is, and so it is broken
minus_is_not_read : ¬ (ReadsAs (pieces_iso_2022_jp (0xFF0D ∷ [])) (0x1B ∷ 0x24 ∷ 0x42 ∷ 0x21 ∷ 0x21 ∷ 0x1B ∷ 0x28 ∷ 0x42 ∷ []) (0x2212 ∷ []))
unfolding pieces_in_mode pieces_in
minus_is_not_read reads = absurd (omega (arith, one_scalar 0xFF0D 0x2212 reads.same))

minus_is_broken : IsBroken (pieces_iso_2022_jp (0xFF0D ∷ [])) (0x1B ∷ 0x24 ∷ 0x42 ∷ 0x21 ∷ 0x21 ∷ []) (0x2212 ∷ [])
minus_is_broken = elim ((reads_back_or_breaks (iso_2022_jp_coding (0xFF0D ∷ []) []) (pieces_from_set (0xFF0D ∷ [])) (iso_2022_jp_by_step (0xFF0D ∷ []) [] minus_is_entry)).at_end Decimal (0x2212 ∷ []) refl) [
  | inl reads ↦ absurd (minus_is_not_read reads)
  | inr broken ↦ broken
]

-- An escape to JIS was read that is not decided: the decoder reads along if U+3000 is next, and does not if `A` is.
abbrev behind_jis : List ℕ → List Piece
behind_jis x = pieces_from_set (0x3000 ∷ []) Ascii (0x1B ∷ 0x24 ∷ 0x42 ∷ x)

along_with_space : ReadsAlong (iso_2022_jp_coding (0x3000 ∷ []) []) (pieces_from_set (0x3000 ∷ [])) behind_jis Jis (0x3000 ∷ [])
along_with_space = record { decided = Ascii; next = inr refl; same = λ x. refl }

escape_alone : behind_jis [] ≡ well_formed 3 [] ∷ []
unfolding pieces_in_mode pieces_in
escape_alone = refl

none_in_jis : pieces_from_set (0x3000 ∷ []) Jis [] ≡ []
unfolding pieces_in_mode
none_in_jis = refl

not_along_with_letter : ¬ (ReadsAlong (iso_2022_jp_coding (0x3000 ∷ []) []) (pieces_from_set (0x3000 ∷ [])) behind_jis Jis (0x41 ∷ []))
not_along_with_letter h = by h.decided h.next h.same
  where
    by : (q : EscapeState) → (Jis ≡ q) ⊎ (Jis ≡ (iso_2022_jp_coding (0x3000 ∷ []) []).set q 0x41)
        → ((x : List ℕ) → behind_jis x ≡ pieces_from_set (0x3000 ∷ []) q ((iso_2022_jp_coding (0x3000 ∷ []) []).escape q Jis ++ x)) → ⊥
    by Ascii (inl same) is = absurd (cc)
    by Ascii (inr next) is = absurd (cc)
    by Roman (inl same) is = absurd (cc)
    by Roman (inr next) is = absurd (cc)
    by Jis (inl same) is = let none : well_formed 3 [] ∷ [] ≡ [] = sym escape_alone ∙ is [] ∙ none_in_jis in absurd (cc)
    by Jis (inr next) is = absurd (cc)
