-- What the walks of `src/journal.rt` share: how a journal is made, with any calls. Assumes `Logic`.
use Rattle.std.proofs.Common.{List, [], ◌∷◌, refl}
use seplogic.Ra.Ura.{Ura}
use mir.Val.{Val, vstruct, vnil}
use types.Logic.{Logic}
use types.Kit.{Goal, Step, step, Item, ‵, ◌$◌, fjoin, fpack, feq_i}
use denote.RattleType.{Valss}
use denote.Steps.{nothing}
use denote.Struct.Struct.{within}
use Rattle.recode_log.specs.declared.journal.Journal.{Journal}
use Rattle.recode_log.specs.contracts.journal.Journal.{the_row as R}

-- the machine's value of a journal: a struct of no field
abbrev pub empty : Val
empty = vstruct vnil

-- that value is a journal with these calls, as with any
pub made : {M : Type 1} {𝓤 : Ura M} {𝓛 : Logic 𝓤} {K : Type 0} {Γ : List (Item 𝓤)} {G : Goal 𝓤 𝓛.H} → K → (h : Journal) → Step K 𝓛 (‵ (R.own_val h (empty ∷ [])) ∷ Γ) G Γ G
made t h = step (λ s.
    nothing t $ nothing t $ feq_i t (List Val) (empty ∷ []) (empty ∷ []) refl $ fjoin t $
    fpack t (Valss []) (within (record { name = []; args = []; types = []; fields = [] }) tt (empty ∷ [])) tt $ fjoin t $ s)
