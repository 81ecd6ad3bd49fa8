-- Worked rows of `specs/Entries.antt` and `specs/Logs.antt`.
use Rattle.std.proofs.Common.{◌≡◌, ◌∙◌, [], ◌∷◌, ◌++◌, ◌≤◌, Err, List, Ok, Some, ap, arith, codes, get_or, inl, inr, length, length-append, refl, subst, sym, ℕ}
use Rattle.std.specs.Fmt.{digits}
use Rattle.std.specs.List.{slice_index_or}
use Rattle.std.proofs.Math.Seq.{get_or-append_seam}
use Rattle.std.proofs.lemmas.Option.{same_Some}
use Rattle.encoding_mem.specs.Piece.{Piece, malformed, sizes, well_formed}
use Rattle.recode_places.specs.Entries.{ComeInOrder, IsCharacterAt, IsMalformedAt, RisesTo}
use Rattle.recode_places.specs.Logs.{AreLinesOfMalformed, IsLineOfCharacter, IsLogEnd, NameAll, TellsLines, bytes, ended}
use Rattle.recode_places.specs.Places.{feeds}
use Rattle.recode_places.specs.declared.entry.Entry.{Entry}
use Rattle.recode_places.specs.declared.entry.Finding.TheVariants.{Lost, Malformed}
use Rattle.recode_places.specs.declared.place.Place.{Place}

-- after `a`, a line feed and `b`
abbrev place : Place
place = record { index = 3; line = 2; column = 2; few_lines = omega arith; few_columns = omega arith }

-- a byte that is malformed there, at offset 3
of_malformed : IsMalformedAt (well_formed 1 (0x61 ∷ []) ∷ well_formed 1 (10 ∷ []) ∷ well_formed 1 (0x62 ∷ []) ∷ malformed 1 ∷ []) place 3 1
of_malformed = (well_formed 1 (0x61 ∷ []) ∷ well_formed 1 (10 ∷ []) ∷ well_formed 1 (0x62 ∷ []) ∷ [], [], refl, refl, record { index = refl; line = refl; column = refl })

-- U+65E5 there
of_character : IsCharacterAt (0x61 ∷ 10 ∷ 0x62 ∷ 0x65E5 ∷ 0x63 ∷ []) place 0x65E5
of_character = (0x61 ∷ 10 ∷ 0x62 ∷ [], 0x63 ∷ [], refl, record { index = refl; line = refl; column = refl })

-- refuted: an entry names the next character instead
of_next_character : IsCharacterAt (0x61 ∷ 10 ∷ 0x62 ∷ 0x65E5 ∷ 0x63 ∷ []) place 0x63 → ⊥
of_next_character h =
    let there : 0x65E5 ≡ 0x63 = ap (λ l. get_or l 3 0) h.2 ∙ ap (λ n. get_or (h.0 ++ (0x63 ∷ h.1)) n 0) h.3.index ∙ get_or-append_seam h.0 0x63 h.1 0 in
    omega (arith, there)

-- `a`, and a byte that is malformed: its offset is 1
offset_1 : (before after : List Piece) → well_formed 1 (0x61 ∷ []) ∷ malformed 1 ∷ [] ≡ before ++ (malformed 1 ∷ after) → sizes before ≡ 1
offset_1 [] after e = absurd (cc)
offset_1 (p ∷ []) after e = let same : well_formed 1 (0x61 ∷ []) ≡ p = cc in ap (λ x. sizes (x ∷ [])) (sym same)
offset_1 (p ∷ q ∷ before) after e = absurd (omega (arith, ap length e, length-append before (malformed 1 ∷ after)))

-- refuted: its offset is one too great
of_offset_2 : (p : Place) → IsMalformedAt (well_formed 1 (0x61 ∷ []) ∷ malformed 1 ∷ []) p 2 1 → ⊥
of_offset_2 p h = omega (arith, offset_1 h.0 h.1 h.2, h.3)

-- that it's lost, and that a malformed sequence is next
abbrev lost : Entry
lost = record { place = place; finding = Lost 0x65E5 }

abbrev malformed_next : Entry
malformed_next = record { place = record { index = 4; line = 2; column = 3; few_lines = omega arith; few_columns = omega arith }; finding = Malformed 6 1 }

-- both in their order, and neither twice nor in the other one
in_order : ComeInOrder 3 5 (lost ∷ malformed_next ∷ [])
in_order = (omega arith, (omega arith, omega arith))

not_twice : ComeInOrder 0 5 (lost ∷ lost ∷ []) → ⊥
not_twice comes = let again : 4 ≤ 3 = comes.1.0 in omega (arith, again)

not_backwards : ComeInOrder 0 5 (malformed_next ∷ lost ∷ []) → ⊥
not_backwards comes = let before : 5 ≤ 3 = comes.1.0 in omega (arith, before)

-- a call that told the first, and then succeeded or failed
rises : RisesTo {T = ℕ} {E = ℕ} (Ok 0) 3 4 (Some []) (Some (lost ∷ []))
rises = (lost ∷ [], refl, (omega arith, omega arith))

fails : RisesTo {T = ℕ} {E = ℕ} (Err 0) 3 9 (Some []) (Some (lost ∷ []))
fails = (4, (lost ∷ [], refl, (omega arith, omega arith)))

-- its line, and that of a control that ISO-2022-JP refuses
of_line : IsLineOfCharacter 3 0x65E5 (codes "lost 3 26085\n")
unfolding digits
of_line = (0x65E5, inl refl, refl)

of_control : IsLineOfCharacter 3 0x1B (codes "lost 3 65533\n")
unfolding digits
of_control = (0xFFFD, inr (refl, inr (inr refl)), refl)

-- the two lines of a malformed sequence, of which the log has one or both
of_both : AreLinesOfMalformed 3 3 1 (codes "bad 3 1\nlost 3 65533\n")
unfolding digits
of_both = inr (inr refl)

of_bad : AreLinesOfMalformed 3 3 1 (codes "bad 3 1\n")
unfolding digits
of_bad = inl refl

-- how a log ends
of_end : IsLogEnd []
of_end = inl (refl, omega arith)

of_cut : IsLogEnd (codes "lost 3")
of_cut = inl (refl, omega arith)

of_message : IsLogEnd (codes "recode: write fault\n")
of_message = inr (codes "write fault\n", refl)

-- refuted: a walk by a log succeeds, and no entry is of its line
of_line_passed_over : TellsLines (bytes (codes "lost 3 26085\n")) ended (Some []) (Some []) → ⊥
of_line_passed_over h =
    let none = subst (λ more. NameAll more h.2.0) (sym (same_Some [] h.0 h.1)) h.2.2 in
    let left : codes "lost 3 26085\n" ≡ h.2.1.0 = h.2.1.1 ∙ ap (λ bs. bs ++ h.2.1.0) none in
    elim h.2.1.2 [ inl end ↦ omega (arith, ap feeds left, end.0) | inr message ↦ omega (arith, ap (λ l. slice_index_or l 0 0) (left ∙ message.1)) ]

-- refuted: a walk by a log has an entry of a lost character that no line names
of_no_line : TellsLines (bytes []) ended (Some []) (Some (lost ∷ [])) → ⊥
of_no_line h =
    let named = subst (λ more. NameAll more h.2.0) (sym (same_Some (lost ∷ []) h.0 h.1)) h.2.2 in
    omega (arith, ap length h.2.1.1, length-append h.2.0 h.2.1.0, ap length named.2, length-append named.0 named.1, ap length named.3.2)
