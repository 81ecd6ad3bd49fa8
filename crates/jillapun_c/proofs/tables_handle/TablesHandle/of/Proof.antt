-- A handle keeps the address that a reference has, and what the reference holds. Assumes `Logic`.
use Rattle.std.proofs.Common.{◌≡◌, true, List, [], ◌∷◌, ◌++◌, refl}
use mir.Syntax.{Fn}
use mir.Val.{Val, vptr}
use base.Logic.{SProp, emp}
use base.Fml.{ftrue}
use prog.Wp.{WpFn}
use contract.Monad.{fact, fact_i}
use contract.Running.{tables}
use types.Kit.{‵, raw, ◌⊛◌, prop, ◌$◌, ◌∵◌, !, qed, by, move, keep, drop, use0, split, regoal, fsplit, fjoin}
use types.Part.{agg}
use types.Run.{stop, addr, of_opd, no_more, and_then, returns, enter, true_lit}
use types.ByLocal.{alloc_all, pass_all, free_all, look_at, get, through, sets}
use denote.Builtin.{RefOf}
use denote.Exit.{yes}
use denote.RattleType.{owns}
use denote.RawPtr.{block_ptr}
use denote.Signature.{types_at, plain}
use denote.Opens.{unhide}
use denote.Steps.{nothing}
use denote.Triple.Entry.{alive}
use denote.Triple.Walked.{Stays, stay_dropped, walk_of, Goes-dropped}
use Rattle.std.proofs.raw_atomic.Walks.{proved_at, leaves}
use Rattle.std.specs.declared.option.Option.TheVariants.{Some}
use Rattle.encoding_tables.specs.contracts.tables.Tables as inner
use Rattle.jillapun_c.specs.contracts.tables_handle.TablesHandle as handle
use Rattle.jillapun_c.proofs.Words.{handle_word, handle_fields, handle_made, handle_good}
use Rattle.jillapun_c.specs.contracts.tables_handle.TablesHandle.of.{ended, clauses}
use Rattle.jillapun_c.specs.contracts.tables_handle.TablesHandle.of.Key.{name as #self}
use Rattle.jillapun_c.proofs.tables_handle.TablesHandle.of.Statement.{statement}
use Rattle.jillapun_c.proofs.tables_handle.TablesHandle.of.Code as code

pub of_spec : {M : Type 1} → statement M
of_spec 𝓤 𝓛 𝓜 𝓡 wired =
    let H = 𝓛.H in
    let 𝓣 = tables 𝓤 H 𝓜 𝓡 𝓡.env in
    let En = ended in
    let c = clauses 𝓛 𝓜.mem 𝓡.returns in
    let fn : Fn = code.function in
    let slot = RefOf [] tt (plain (λ _. inner.the_row)) (λ _. tt) in
    let hs : Stays En.signature.params En.kept = (stay_dropped slot yes, tt) in
    proved_at 𝓛 En hs c 𝓜 𝓡 (Goes-dropped 𝓛 0 slot yes (λ κs x f. refl), tt) #self fn (code.unfolded 𝓤 H 𝓜 𝓡 wired) (λ z are.
    let r = z.0.3.0 in
    let b = r.ref_ptr.0 in
    let o = r.ref_ptr.1 in
    let p = block_ptr b o in
    let Post : Val → SProp 𝓤 = (walk_of 𝓛 En hs c).post z in
    let x : (handle.the_row).Denot = record { at = p; is_open = true; tables = Some r.now } in
    qed 𝓛 ((raw (alive 𝓛 En.signature z.0.0 z.0.1) ⊛ ‵ (owns (types_at En.signature.params z.0.0) z.0.3 z.0.4)) ∷ ‵ ftrue ∷ []) ∵ move ! (1 ∷ []) $ drop ! $ split ! $ move ! (1 ∷ []) $
    fsplit ! $ fsplit ! $ keep ! (1 ∷ 3 ∷ []) $
    -- [what the reference holds; the tokens]
    regoal ! (λ (us : List Val). prop (WpFn 𝓤 H 𝓣.C 𝓣.Λ fn us Post)) (λ i. are.0.0 i ++ []) refl $
    enter ! 𝓣.C 𝓣.Λ fn (vptr b o ∷ []) Post $ alloc_all ! (λ l. pass_all ! refl ((tt, tt), tt) $
    sets ! (addr ! (through ! refl (stop !))) refl (tt, tt) $
    sets ! (of_opd ! (get ! refl)) refl (tt, tt) $
    sets ! (agg ! (and_then ! (get ! refl) (and_then ! (true_lit !) (no_more !)))) refl (handle_good p true) $
    returns ! (look_at ! 0 refl) $ free_all ! refl $
    unhide ! $ nothing ! $ fjoin ! $ use0 𝓛 (‵ (handle_fields p true (handle_word p true ∷ []))) (handle_made 𝓛 p true) $ fjoin ! $
    use0 𝓛 (raw (fact 𝓤 (Some r.now ≡ Some r.now))) (fact_i 𝓤 (Some r.now ≡ Some r.now) (emp 𝓤) refl) $ nothing ! $ nothing ! $ fjoin ! $ move ! (3 ∷ 0 ∷ 2 ∷ 1 ∷ []) $
    by ! (leaves 𝓛 En hs c z (handle_word p true) x (tt, tt) (tt, tt))))
