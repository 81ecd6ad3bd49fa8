-- Worked rows of `specs/Findings.antt`.
use Rattle.std.proofs.Common.{◌≡◌, ◌∙◌, ◌++◌, Bool, false, true, None, Some, [], ◌∷◌, ap, arith, length, map, refl, sym}
use Rattle.std.proofs.lemmas.Option.{same_Some}
use Rattle.encoding_mem.specs.Piece.{malformed, well_formed}
use Rattle.encoding_mem.specs.Pieces.{pieces_in}
use Rattle.encoding_tables.specs.examples.IndexLists.{no_flats}
use Rattle.encoding_front.specs.declared.encoding.Encoding.TheVariants.{ShiftJis}
use Rattle.recode_places.specs.Fates.{fate_of}
use Rattle.recode_places.specs.Findings.{Asked, TellsFound, found_by, found_in, found_in_text}
use Rattle.recode_places.specs.declared.entry.Finding.TheVariants.{Folded, Lost, Malformed}

-- no log, and Shift_JIS without its index
abbrev asking : (folds : Bool) → Asked
asking folds = record { has_log = false; target = Some (record { tables = record { flats = no_flats; rows = None }; encoding = ShiftJis }); folds = folds }

-- of `a`, the yen sign and U+65E5, which has no bytes: the first has index 7
of_folds : found_in_text (asking true) 7 (0x61 ∷ 0xA5 ∷ 0x65E5 ∷ []) ≡ (8, Folded 0xA5 (Some 0x5C)) ∷ (9, Lost 0x65E5) ∷ []
unfolding fate_of pieces_in
of_folds = refl

of_lost : found_in_text (asking false) 7 (0x61 ∷ 0xA5 ∷ 0x65E5 ∷ []) ≡ (9, Lost 0x65E5) ∷ []
unfolding fate_of pieces_in
of_lost = refl

-- each of two equal characters, at its own index
of_equal : found_in_text (asking false) 0 (0x65E5 ∷ 0x61 ∷ 0x65E5 ∷ []) ≡ (0, Lost 0x65E5) ∷ (2, Lost 0x65E5) ∷ []
unfolding fate_of pieces_in
of_equal = refl

-- `a`, a byte that is malformed, U+65E5, and two bytes that are
of_input : found_in (asking true) 0 0 (well_formed 1 (0x61 ∷ []) ∷ malformed 1 ∷ well_formed 3 (0x65E5 ∷ []) ∷ malformed 2 ∷ [])
    ≡ (1, Malformed 1 1) ∷ (2, Lost 0x65E5) ∷ (3, Malformed 5 2) ∷ []
unfolding fate_of pieces_in
of_input = refl

-- refuted: without a log, a lost character has no entry
of_left_out : TellsFound (asking false) (found_in_text (asking false) 7 (0x65E5 ∷ [])) [] (Some []) (Some []) → ⊥
unfolding fate_of pieces_in
of_left_out h = let more = h refl in omega (arith, ap length (more.2 ∙ ap (λ es. map found_by es ++ []) (sym (same_Some [] more.0 more.1))))

-- refuted: folds are asked for, and one has no entry
of_fold_left_out : TellsFound (asking true) (found_in_text (asking true) 7 (0xA5 ∷ [])) [] (Some []) (Some []) → ⊥
unfolding fate_of pieces_in
of_fold_left_out h = let more = h refl in omega (arith, ap length (more.2 ∙ ap (λ es. map found_by es ++ []) (sym (same_Some [] more.0 more.1))))
