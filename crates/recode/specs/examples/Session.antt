-- Wrong outcomes that `specs/Session.antt` refuses.
use Rattle.std.proofs.Common.{◌≡◌, ℕ, ◌+◌, ◌<◌, List, IsTrue, Ok, Err, inl, refl, ap, arith}
use Rattle.encoding_mem.specs.Coding.{lost_count}
use Rattle.encoding_mem.specs.Piece.{malformed_count}
use Rattle.encoding_mem.specs.laws.Piece.{well_formed_count}
use Rattle.recode.specs.Job.{input_pieces, input_text, target_of}
use Rattle.recode.specs.Session.{IsReport, IsStepped, View}
use Rattle.recode.specs.State.{State}
use Rattle.recode.specs.declared.job.Fault.TheVariants.{Log, Read}
use Rattle.recode.specs.declared.job.Job.{Job}
use Rattle.recode.specs.declared.job.Progress.TheVariants.{More}
use Rattle.recode.specs.declared.job.Report.{Report}
use Rattle.recode.specs.declared.session.Phase.TheVariants.{Done, Open, Stopped}

-- a write to the log failed, and the session is still open
open_after_a_log_fault : (v v' : View) → IsStepped v v' (Err Log) → v'.phase ≡ Open → ⊥
open_after_a_log_fault v v' h still = let stopped : v'.phase ≡ Stopped = h.phase in cc

-- a step says that there is more, and the session is done: the rest of the input is never read
done_after_more : (v v' : View) → IsStepped v v' (Ok More) → v'.phase ≡ Done → ⊥
done_after_more v v' h done = let open_ : v'.phase ≡ Open = h.phase in cc

-- a read failed, and a character was encoded
encoded_at_a_read_fault : (v v' : View) → IsStepped v v' (Err Read) → v'.state.counts.index ≡ v.state.counts.index + 1 → ⊥
encoded_at_a_read_fault v v' h more = absurd (omega (arith, more, ap (λ (s : State). s.counts.index) (h.unread (inl refl))))

-- the report has a malformed sequence, and calls the conversion faithful
malformed_but_faithful : (j : Job) (x : List ℕ) (p : Report) → IsReport j x p → 0 < p.bad → IsTrue p.faithful → ⊥
malformed_but_faithful j x p h some said =
    let none : malformed_count (input_pieces j x) ≡ 0 = well_formed_count (input_pieces j x) (h.faithful.0 said).source in
    absurd (omega (arith, some, none, h.bad))

-- the report has one lost character less than the text
one_loss_less : (j : Job) (x : List ℕ) (p : Report) → IsReport j x p → p.lost + 1 ≡ lost_count (target_of j) (input_text j x) → ⊥
one_loss_less j x p h less = absurd (omega (arith, less, h.lost))
