-- The machine values of pairs: a pointer and an allocator, a pointer and a truth value. Assumes `Logic`.
use Rattle.std.proofs.Common.{◌≡◌, ◌∙◌, List, [], ◌∷◌, ◌++◌, refl, lit<}
use mathlib.Core.Bool.{Bool}
use seplogic.Ra.Ura.{Ura}
use mir.Syntax.{tnil, tcons, ty_ptr, ty_bool, ty_struct}
use mir.Val.{Val, vbool, vstruct, vcons, vnil, of_list}
use base.Fml.{Fml}
use base.Logic.{ent, emp}
use types.Logic.{Logic, sem}
use denote.Builtin.{RawPtr, bool}
use denote.RawPtr.{Ptr, block_ptr, null_ptr, ptr_val}
use denote.Shadow.{shadow, makes_shadow}
use denote.Struct.Struct.{Struct}
use Rattle.std.proofs.cell.Inside.{Good}

-- a struct of two fields
abbrev pub pair : Val → Val → Val
pair v w = vstruct (vcons v (vcons w vnil))

pub address_good : (p : Ptr) → Good ty_ptr (ptr_val p)
address_good (block_ptr b o) = (tt, tt)
address_good null_ptr = (tt, record { fits = lit< tt })

-- ---- a handle: its address, and whether it is open. What the fields own does not read the struct's name

abbrev pub handle_word : Ptr → Bool → Val
handle_word p is_open = pair (ptr_val p) (vbool is_open)

abbrev pub handle_fields : Ptr → Bool → List Val → Fml
handle_fields p is_open = (Struct (record { name = []; args = []; types = []; fields = RawPtr ∷ bool ∷ [] })).own_val (p, (is_open, tt))

-- the fields tell the word
pub handle_told : (p : Ptr) (is_open : Bool) (vs : List Val) → shadow (handle_fields p is_open vs) → vs ≡ handle_word p is_open ∷ []
handle_told p is_open vs s = s.1.0 ∙ (λ i. vstruct (of_list (s.1.1.0 i ++ (s.1.1.1.0 i ++ []))) ∷ [])

-- the word is the fields', and they own nothing
pub handle_made : {M : Type 1} {𝓤 : Ura M} (𝓛 : Logic 𝓤) (p : Ptr) (is_open : Bool) → ent 𝓤 (emp 𝓤) (sem 𝓛 (handle_fields p is_open (handle_word p is_open ∷ [])))
handle_made 𝓛 p is_open = makes_shadow 𝓛 (handle_fields p is_open (handle_word p is_open ∷ [])) (λ _. (tt, (tt, (tt, tt)))) ((ptr_val p ∷ [], (vbool is_open ∷ [], tt)), (refl, (refl, (refl, tt))))

pub handle_good : (p : Ptr) (is_open : Bool) → Good (ty_struct [] (tcons ty_ptr (tcons ty_bool tnil))) (handle_word p is_open)
handle_good (block_ptr b o) is_open = (tt, (tt, (tt, tt)))
handle_good null_ptr is_open = (tt, (record { fits = lit< tt }, (tt, tt)))
