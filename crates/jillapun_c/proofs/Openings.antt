-- What is owned by a handle of tables, taken apart, by whether it is open. Assumes `Logic`.
use Rattle.std.proofs.Common.{◌≡◌, ℕ, List, [], ◌∷◌, refl, Option, Some, None}
use mathlib.Core.Bool.{Bool, true, false}
use seplogic.Ra.Ura.{Ura}
use base.Fml.{ftrue, ffalse}
use base.Logic.{never, never_e, fst∗}
use types.Logic.{Logic, sem}
use types.Kit.{Item, Goal, Seq, ‵, ◌$◌, given, learn, use1, drop}
use denote.RattleType.{RattleType, RowLaws}
use denote.Memory.{shared_of}
use denote.RawPtr.{Ptr, block_ptr, in_a_block}
use denote.Opens.{Twice}
use denote.Sharing.{said, nothing as nothing_lent}
use denote.SharingLaws.{contraction, nothing_shr_laws}
use denote.Struct.Lending.{lent_at, lent_at_shr_laws}
use Rattle.jillapun_c.specs.Ownership.{tables_handle_owns}

module _ {M : Type 1} {𝓤 : Ura M} {𝓛 : Logic 𝓤} {K : Type 0} {Γ : List (Item 𝓤)} {G : Goal 𝓤 𝓛.H} where
  -- nothing is both open and empty, or closed and full
  never_so : K → Seq K 𝓛 (‵ ffalse ∷ Γ) G
  never_so t = use1 𝓛 (given ⊥ (‵ ftrue)) (never_e 𝓤 _) $ learn t (λ z. absurd z)

  -- a handle of tables is closed and holds nothing, or is open and holds what a reference to them holds
  pub tables_held_or_not : K → (R : RattleType) (is_open : Bool) (p : Ptr) (tables : Option R.Denot)
      → (is_open ≡ false → tables ≡ None → Seq K 𝓛 Γ G)
      → ((b o : ℕ) (x : R.Denot) → is_open ≡ true → p ≡ block_ptr b o → tables ≡ Some x → Seq K 𝓛 (‵ (lent_at R (block_ptr b o) x []) ∷ Γ) G)
      → Seq K 𝓛 (‵ (tables_handle_owns R is_open p tables) ∷ Γ) G
  tables_held_or_not t R false p None closed opened = drop t $ closed refl refl
  tables_held_or_not t R true p (Some x) closed opened =
      in_a_block t p (λ q. lent_at R q x []) (fst∗ 𝓤 (never 𝓤) (sem 𝓛 (shared_of R x 0 0 []))) (λ b o at. opened b o x refl at refl)
  tables_held_or_not t R true p None closed opened = never_so t
  tables_held_or_not t R false p (Some x) closed opened = never_so t

-- what a handle of tables holds can be had twice: a reference can, and a closed one holds nothing
pub tables_held_twice : {M : Type 1} {𝓤 : Ura M} (𝓛 : Logic 𝓤) (R : RattleType) (L : RowLaws R) (is_open : Bool) (p : Ptr) (tables : Option R.Denot)
    → Twice 𝓛 (said (tables_handle_owns R is_open p tables))
tables_held_twice 𝓛 R L false p None _ = contraction 𝓛 nothing_lent nothing_shr_laws []
tables_held_twice 𝓛 R L true p (Some x) _ = contraction 𝓛 (lent_at R p x) (lent_at_shr_laws R L p x) []
tables_held_twice {𝓤 = 𝓤} 𝓛 R L true p None _ = never_e 𝓤 _
tables_held_twice {𝓤 = 𝓤} 𝓛 R L false p (Some x) _ = never_e 𝓤 _
