-- Worked rows of `specs/Told.antt`.
use Rattle.std.proofs.Common.{◌≡◌, ◌∙◌, [], ◌∷◌, None, Some, refl, sym}
use Rattle.recode_log.specs.Told.{TellsReads, TellsTaken}

-- a writer that held 9 and 1, and took 2
tells_taken-grown : TellsTaken (1 ∷ []) (1 ∷ 2 ∷ []) (Some (9 ∷ 1 ∷ [])) (Some (9 ∷ 1 ∷ 2 ∷ []))
tells_taken-grown = record { bytes = 2 ∷ []; took = refl; held = refl }

-- one that does not say what it holds
tells_taken-silent : TellsTaken (1 ∷ []) (1 ∷ 2 ∷ []) None None
tells_taken-silent = record { bytes = 2 ∷ []; took = refl; held = tt }

-- none holds another byte than it took
tells_taken-other : TellsTaken [] (2 ∷ []) (Some []) (Some (3 ∷ [])) → ⊥
tells_taken-other h =
    let same : 2 ∷ [] ≡ 3 ∷ [] = h.took ∙ sym h.held in
    absurd (cc)

-- a reader that gave its three bytes in two reads, and then none: nothing is left
tells_reads-all : TellsReads [] ((1 ∷ 2 ∷ []) ∷ (3 ∷ []) ∷ [] ∷ []) (Some (1 ∷ 2 ∷ 3 ∷ [])) (Some [])
tells_reads-all = record { reads = (1 ∷ 2 ∷ []) ∷ (3 ∷ []) ∷ [] ∷ []; gave = refl; consumed = refl; end = λ front e. refl }
