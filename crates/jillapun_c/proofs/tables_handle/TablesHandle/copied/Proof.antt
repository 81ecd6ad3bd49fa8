-- A copy reads the two words through the reference, and what the handle holds can be had twice. Assumes `Logic`.
use Rattle.std.proofs.Common.{◌≡◌, List, [], ◌∷◌, refl}
use seplogic.Ra.Ura.{Ura}
use mir.Syntax.{Fn, named}
use mir.Val.{Val, vptr}
use base.Logic.{SProp, emp}
use base.Fml.{Fml, ftrue, flft}
use contract.Monad.{fact, fact_i}
use contract.Running.{tables}
use types.Logic.{Logic}
use types.Kit.{‵, raw, ◌⊛◌, ◌$◌, ◌∵◌, !, qed, by, move, keep, use0, use1, split, fsplit, fjoin, rewrite}
use types.Part.{agg, sub, whole, look_in}
use types.Run.{stop, fld, load, of_opd, no_more, and_then, returns, enter}
use types.ByLocal.{alloc_all, pass_all, free_all, look_at, get, through, sets}
use denote.Builtin.{RefOf}
use denote.Copied.{Copied, whole-copied}
use denote.Exit.{yes}
use denote.Laws.{Copy, Is, shows}
use denote.Memory.{cell_at}
use denote.Opens.{Twice-of, Twice-both}
use denote.RattleType.{RattleType, owns}
use denote.Ref.{shr_vals, shr_Tells}
use denote.Sharing.{said}
use denote.SharingLaws.{said_shr_laws}
use denote.Signature.{types_at, plain}
use denote.Steps.{nothing, peeks, looks, shuts}
use denote.Triple.Walked.{Stays, stay_dropped, walk_of, Goes-dropped}
use Rattle.std.proofs.raw_atomic.Walks.{proved, leaves}
use Rattle.encoding_tables.specs.contracts.tables.Tables as inner
use Rattle.encoding_tables.proofs.tables.Tables.TheLaws.{the_row_laws}
use Rattle.jillapun_c.specs.Ownership.{tables_handle_owns}
use Rattle.jillapun_c.specs.contracts.tables_handle.TablesHandle as handle
use Rattle.jillapun_c.proofs.Openings.{tables_held_twice}
use Rattle.jillapun_c.proofs.Words.{handle_word, handle_fields, handle_good, address_good}
use Rattle.jillapun_c.proofs.tables_handle.TablesHandle.TheLaws.{lowers}
use Rattle.jillapun_c.specs.contracts.tables_handle.TablesHandle.copied.{ended, clauses}
use Rattle.jillapun_c.specs.contracts.tables_handle.TablesHandle.copied.Key.{name as #self}
use Rattle.jillapun_c.proofs.tables_handle.TablesHandle.copied.Statement.{statement}
use Rattle.jillapun_c.proofs.tables_handle.TablesHandle.copied.Code as code

abbrev Row : RattleType
Row = handle.the_row

module _ {M : Type 1} {𝓤 : Ura M} (𝓛 : Logic 𝓤) where
  handle_copy : Copy 𝓛 Row
  handle_copy = record {
    twice = λ d vs. let fields : Fml = handle_fields d.at d.is_open vs in
        Twice-both 𝓛 (said fields) (said (tables_handle_owns inner.the_row d.is_open d.at d.tables))
        (Twice-of 𝓛 (said fields) (said_shr_laws fields (λ _. (tt, (tt, (tt, tt))))))
        (tables_held_twice 𝓛 inner.the_row the_row_laws.shr_laws d.is_open d.at d.tables) [];
  }

  handle_copied : Copied 𝓛 Row
  handle_copied = whole-copied 𝓛 Row (λ d b o. refl) lowers.lowered lowers.val_is handle_copy

pub copied_spec : {M : Type 1} → statement M
copied_spec 𝓤 𝓛 𝓜 𝓡 wired =
    let H = 𝓛.H in
    let 𝓣 = tables 𝓤 H 𝓜 𝓡 𝓡.env in
    let En = ended in
    let c = clauses 𝓛 𝓜.mem 𝓡.returns in
    let fn : Fn = code.function in
    let slot = RefOf (0 ∷ []) tt (plain (λ _. Row)) (λ _. tt) in
    let hs : Stays En.signature.params En.kept = (stay_dropped slot yes, tt) in
    proved 𝓛 En hs c 𝓜 𝓡 (Goes-dropped 𝓛 1 slot yes (λ κs x f. refl), tt) #self fn (code.unfolded 𝓤 H 𝓜 𝓡 wired)
    (λ κs. (shr_vals, tt)) (λ κs. (shr_Tells (named 0) κs.0 Row, tt)) (λ κs qs bounds a gh are.
    let b = a.0.ref_ptr.0 in
    let o = a.0.ref_ptr.1 in
    let d : Row.Denot = a.0.now in
    let w : Val = handle_word d.at d.is_open in
    let y : (walk_of 𝓛 En hs c).Ghost = ((κs, qs, bounds, a, (vptr b o ∷ [], tt)), gh) in
    let Post : Val → SProp 𝓤 = (walk_of 𝓛 En hs c).post y in
    qed 𝓛 (((‵ (flft κs.0 qs.0) ⊛ ‵ ftrue) ⊛ ‵ (owns (types_at En.signature.params κs) a y.0.4)) ∷ ‵ ftrue ∷ []) ∵ split ! $ split ! $ move ! (2 ∷ []) $
    fsplit ! $ fsplit ! $ keep ! (1 ∷ 3 ∷ []) $
    -- [what the reference holds; the token]
    enter ! 𝓣.C 𝓣.Λ fn (vptr b o ∷ []) Post $ alloc_all ! (λ l. pass_all ! refl ((tt, tt), tt) $
    looks ! tt Row (handle_copied 𝓛).opens d b o (λ q vs. move ! (1 ∷ []) $ peeks ! Row (Is Row) (shows 𝓛 Row) d vs (λ is.
    let word : vs ≡ w ∷ [] = lowers.val_is d vs is in
    rewrite ! 0 (λ (ws : List Val). ‵ (Row.own_val d ws)) word refl $ rewrite ! 1 (λ (ws : List Val). ‵ (cell_at q Row.mir ws b o)) word refl $
    use1 𝓛 (‵ (Row.own_val d (w ∷ [])) ⊛ ‵ (Row.own_val d (w ∷ []))) ((handle_copy 𝓛).twice d (w ∷ [])) $ split ! $
    -- [what the handle owns, twice; its words; the way back]
    sets ! (of_opd ! (load ! (through ! refl (fld ! refl (stop !))) (look_in ! 2 (sub ! 0 refl (whole !))))) refl (address_good d.at) $
    sets ! (of_opd ! (load ! (through ! refl (fld ! refl (stop !))) (look_in ! 2 (sub ! 1 refl (whole !))))) refl (tt, tt) $
    sets ! (agg ! (and_then ! (get ! refl) (and_then ! (get ! refl) (no_more !)))) refl (handle_good d.at d.is_open) $
    move ! (2 ∷ 0 ∷ 3 ∷ []) $ shuts ! tt Row q d (w ∷ []) b o $
    returns ! (look_at ! 0 refl) $ free_all ! refl $ keep ! (0 ∷ 1 ∷ []) $
    -- [the token; what the copy owns]
    nothing ! $ move ! (1 ∷ 0 ∷ []) $ fjoin ! $ use0 𝓛 (raw (fact 𝓤 (d ≡ d))) (fact_i 𝓤 (d ≡ d) (emp 𝓤) refl) $ nothing ! $ nothing ! $ fjoin ! $ move ! (2 ∷ 0 ∷ 3 ∷ 1 ∷ []) $
    by ! (leaves 𝓛 En hs c y w d (tt, tt) (tt, tt))))))
