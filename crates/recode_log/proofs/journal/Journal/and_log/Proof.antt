-- `and_log` makes a journal, and picks for it the calls that its clause names. Assumes `Logic`.
use Rattle.std.proofs.Common.{[], ◌∷◌, ◌++◌, drop as after, length, map, refl}
use Rattle.std.proofs.raw_atomic.Walks.{proved}
use mir.Syntax.{named}
use base.Fml.{ftrue}
use types.Kit.{‵, raw, ◌⊛◌, ◌$◌, ◌∵◌, !, qed, done, drop, keep, move, split, fjoin, suffices}
use types.Part.{agg}
use types.Run.{enter, returns, no_more}
use types.ByLocal.{alloc_all, pass_all, free_all, look_at, sets}
use denote.Exit.{yes}
use denote.RattleType.{owns}
use denote.Ref.{shr_vals, shr_Tells}
use denote.Builtin.{RefOf}
use denote.Signature.{plain, types_at}
use denote.Steps.{nothing}
use denote.Triple.Entry.{alive}
use denote.Triple.Walked.{Stays, walk_of, says, stay_dropped, Goes-dropped, ends_at}
use Rattle.recode_log.proofs.JournalSteps.{empty, made}
use Rattle.recode_log.specs.Journal.{AtLog, log_calls}
use Rattle.recode_log.specs.declared.journal.Journal.{Journal}
use Rattle.recode_log.specs.contracts.journal.Journal.{the_row as R}
use Rattle.recode_log.specs.contracts.history.History.{the_row as H}
use Rattle.recode_log.specs.contracts.journal.Journal.and_log as f
use Rattle.recode_log.proofs.journal.Journal.and_log.Statement.{statement}
use Rattle.recode_log.proofs.journal.Journal.and_log.Code as code

abbrev stayed : Stays f.ended.signature.params f.ended.kept
stayed = (stay_dropped _ yes, (stay_dropped _ yes, tt))

pub and_log_spec : {M : Type 1} → statement M
and_log_spec 𝓤 𝓛 𝓜 𝓡 wired =
    let c = f.clauses 𝓛 𝓜.mem 𝓡.returns in let W = walk_of 𝓛 f.ended stayed c in
    proved 𝓛 f.ended stayed c 𝓜 𝓡
    (Goes-dropped 𝓛 2 (RefOf (0 ∷ []) tt (plain (λ _. R)) (λ _. tt)) yes (λ κs x w. refl), (Goes-dropped 𝓛 2 (RefOf (1 ∷ []) tt (plain (λ _. H)) (λ _. tt)) yes (λ κs x w. refl), tt))
    f.Key.name code.function (code.unfolded 𝓤 𝓛.H 𝓜 𝓡 wired)
    (λ κs. (shr_vals, (shr_vals, tt))) (λ κs. (shr_Tells (named 0) κs.0 R, (shr_Tells (named 1) κs.1.0 H, tt))) (λ κs qs bounds a g are.
    let y : W.Ghost = ((κs, qs, bounds, a, (shr_vals a.0, (shr_vals a.1.0, tt))), g) in
    let h : Journal = record { entries = a.0.now.entries ++ map AtLog (after (length (log_calls a.0.now.entries)) a.1.0.now.calls) } in
    qed 𝓛 ((raw (alive 𝓛 f.signature κs qs) ⊛ ‵ (owns (types_at f.signature.params κs) a y.0.4)) ∷ ‵ ftrue ∷ []) ∵
    split ! $ move ! (1 ∷ []) $ drop ! $ keep ! (0 ∷ []) $
    enter ! _ _ _ _ _ $ alloc_all ! (λ l. pass_all ! refl ((tt, tt), ((tt, tt), tt)) $
    sets ! (agg ! (no_more !)) refl (tt, tt) $
    returns ! (look_at ! 0 refl) $ free_all ! refl $
    suffices ! _ (ends_at 𝓛 f.ended stayed c y empty h (tt, (tt, tt)) (tt, (tt, tt))) $ says ! refl $
    made ! h $ nothing ! $ nothing ! $ fjoin ! $ nothing ! $ fjoin ! $ move ! (2 ∷ 0 ∷ 1 ∷ []) $ done !))
