-- An open handle gives the reference again, and a closed one has none. Assumes `Logic`.
use Rattle.std.proofs.Common.{◌≡◌, Bool, true, false, List, [], ◌∷◌, ◌++◌, refl, lit<}
use mir.Syntax.{Fn}
use mir.Val.{Val, vptr, vnil, vcons}
use base.Logic.{SProp, emp}
use base.Fml.{ftrue}
use prog.Wp.{WpFn}
use contract.Monad.{fact, fact_i}
use contract.Running.{tables}
use types.Kit.{Goal, ‵, raw, ◌⊛◌, prop, at_ret, ◌$◌, ◌∵◌, !, qed, by, move, keep, drop, use0, use1, split, regoal, fsplit, fjoin, feq_i}
use types.Part.{whole, sub, agg}
use types.Match.{live}
use types.Run.{stop, fld, addr, un, of_opd, lit, no_more, and_then, first, blocks, branches, skips, exec, returns, returns_within, enter}
use types.ByLocal.{alloc_all, pass_all, free_all, look_at, get, get_in, through, sets, sets_last, env}
use denote.RattleType.{RattleType, owns}
use denote.Builtin.{RefOf}
use denote.RawPtr.{Ptr, block_ptr}
use denote.Signature.{types_at, type_at, plain}
use denote.Opens.{hide}
use denote.Steps.{nothing}
use denote.Triple.Entry.{alive}
use denote.Triple.Walked.{Stays, stay_dropped, walk_of}
use Rattle.std.specs.declared.option.Option.TheVariants.{None, Some}
use Rattle.std.proofs.alloc.Calls.{Goes-blank}
use Rattle.std.proofs.alloc.Shapes.{after}
use Rattle.std.proofs.option.Made.{Some-of, none_of}
use Rattle.std.proofs.raw_atomic.Walks.{proved_at, leaves}
use Rattle.encoding_tables.specs.contracts.tables.Tables as inner
use Rattle.jillapun_c.specs.contracts.tables_handle.TablesHandle as handle
use Rattle.jillapun_c.proofs.Openings.{tables_held_or_not}
use Rattle.jillapun_c.proofs.Words.{handle_word, handle_told, handle_good, address_good}
use Rattle.jillapun_c.specs.contracts.tables_handle.TablesHandle.get.{ended, clauses}
use Rattle.jillapun_c.specs.contracts.tables_handle.TablesHandle.get.Key.{name as #self}
use Rattle.jillapun_c.proofs.tables_handle.TablesHandle.get.Statement.{statement}
use Rattle.jillapun_c.proofs.tables_handle.TablesHandle.get.Code as code

pub get_spec : {M : Type 1} → statement M
get_spec 𝓤 𝓛 𝓜 𝓡 wired =
    let H = 𝓛.H in
    let 𝓣 = tables 𝓤 H 𝓜 𝓡 𝓡.env in
    let R : RattleType = inner.the_row in
    let Ref : RattleType = type_at {n = 0} (RefOf [] tt (plain (λ _. R)) (λ _. tt)) tt in
    let En = ended in
    let c = clauses 𝓛 𝓜.mem 𝓡.returns in
    let fn : Fn = code.function in
    let hs : Stays En.signature.params En.kept = (stay_dropped (plain (λ _. handle.the_row)) En.kept.0, tt) in
    proved_at 𝓛 En hs c 𝓜 𝓡 (Goes-blank 𝓛 0 (plain (λ _. handle.the_row)) En.kept.0 (λ κs x f. tt), tt) #self fn (code.unfolded 𝓤 H 𝓜 𝓡 wired) (λ z are.
    let v = z.0.3.0 in
    let Out : RattleType = type_at En.signature.result z.0.0 in
    let Post : Val → SProp 𝓤 = (walk_of 𝓛 En hs c).post z in
    let told = handle_told v.at v.is_open z.0.4.0 are.0.0 in
    let Run : List Val → Goal 𝓤 H = λ us. prop (WpFn 𝓤 H 𝓣.C 𝓣.Λ fn us Post) in
    qed 𝓛 ((raw (alive 𝓛 En.signature z.0.0 z.0.1) ⊛ ‵ (owns (types_at En.signature.params z.0.0) z.0.3 z.0.4)) ∷ ‵ ftrue ∷ []) ∵ move ! (1 ∷ []) $ drop ! $ split ! $ move ! (1 ∷ []) $
    fsplit ! $ fsplit ! $ keep ! (1 ∷ 3 ∷ []) $
    -- [what the handle owns; the tokens]
    regoal ! Run (λ i. told i ++ []) refl $ tables_held_or_not ! R v.is_open v.at v.tables
    (λ shut none. regoal ! (λ (y : Bool). Run (handle_word v.at y ∷ [])) shut refl $
    enter ! 𝓣.C 𝓣.Λ fn (handle_word v.at false ∷ []) Post $ alloc_all ! (λ l. pass_all ! refl (handle_good v.at false, tt) $
    sets ! (of_opd ! (get_in ! (fld ! refl (stop !)) (sub ! 0 refl (whole !)))) refl (address_good v.at) $
    sets ! (of_opd ! (get_in ! (fld ! refl (stop !)) (sub ! 1 refl (whole !)))) refl (tt, tt) $
    sets ! (of_opd ! (get ! refl)) refl (tt, tt) $
    sets ! (un ! (get ! refl) tt) refl (tt, tt) $ first ! $ branches ! (get ! refl)
    (λ _. sets ! (agg ! (and_then ! (lit ! tt) (no_more !))) refl (tt, (record { fits = lit< tt }, tt)) $
    returns_within ! Post refl (look_at ! 0 refl) $ free_all ! refl $ keep ! (0 ∷ []) $
    use0 𝓛 (‵ (Out.own_val None (live 0 vnil ∷ []))) (none_of 𝓛 Ref) $
    use0 𝓛 (raw (fact 𝓤 (v.tables ≡ None))) (fact_i 𝓤 (v.tables ≡ None) (emp 𝓤) none) $ nothing ! $ nothing ! $ fjoin ! $ move ! (3 ∷ 0 ∷ 2 ∷ 1 ∷ []) $
    by ! (leaves 𝓛 En hs c z (live 0 vnil) None (tt, tt) (tt, tt)))
    (λ wrong. absurd wrong)))
    (λ b o x is_open e some. regoal ! (λ (y : Bool). Run (handle_word v.at y ∷ [])) is_open refl $ regoal ! (λ (p : Ptr). Run (handle_word p true ∷ [])) e refl $
    enter ! 𝓣.C 𝓣.Λ fn (handle_word (block_ptr b o) true ∷ []) Post $ alloc_all ! (λ l. pass_all ! refl (handle_good (block_ptr b o) true, tt) $
    let Ev = env fn.locals l in
    let r : Ref.Denot = record { ref_ptr = (b, o); now = x } in
    let w : Val = live 1 (vcons (vptr b o) vnil) in
    sets ! (of_opd ! (get_in ! (fld ! refl (stop !)) (sub ! 0 refl (whole !)))) refl (tt, tt) $
    sets ! (of_opd ! (get_in ! (fld ! refl (stop !)) (sub ! 1 refl (whole !)))) refl (tt, tt) $
    sets ! (of_opd ! (get ! refl)) refl (tt, tt) $
    sets ! (un ! (get ! refl) tt) refl (tt, tt) $ first ! $ branches ! (get ! refl) (λ wrong. absurd wrong) (λ _.
    skips ! $ exec ! 𝓣.C 𝓣.Λ Ev (after 5 fn.body) (at_ret Ev Post) $
    first ! $ blocks ! $
    sets ! (of_opd ! (get ! refl)) refl (tt, tt) $
    sets ! (of_opd ! (get ! refl)) refl (tt, tt) $
    sets_last ! (addr ! (through ! refl (stop !))) refl (tt, tt) $
    exec ! 𝓣.C 𝓣.Λ Ev (after 6 fn.body) (at_ret Ev Post) $
    sets ! (of_opd ! (get ! refl)) refl (tt, tt) $
    sets ! (agg ! (and_then ! (lit ! tt) (and_then ! (get ! refl) (no_more !)))) refl (tt, (record { fits = lit< tt }, (tt, tt))) $
    returns ! (look_at ! 0 refl) $ free_all ! refl $
    fsplit ! $ drop ! $ hide ! $ feq_i ! (List Val) (vptr b o ∷ []) (vptr b o ∷ []) refl $ fjoin ! $
    use1 𝓛 (‵ (Out.own_val (Some r) (w ∷ []))) (Some-of 𝓛 Ref r (vptr b o)) $
    use0 𝓛 (raw (fact 𝓤 (v.tables ≡ Some x))) (fact_i 𝓤 (v.tables ≡ Some x) (emp 𝓤) some) $ nothing ! $ nothing ! $ fjoin ! $ keep ! (3 ∷ 0 ∷ 2 ∷ 1 ∷ []) $
    by ! (leaves 𝓛 En hs c z w (Some r) (tt, tt) (tt, tt))))))
