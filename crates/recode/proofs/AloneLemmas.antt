-- What is said of devices that have one journal is said of each of them alone, and of the devices that `Ports` borrowed.
use Rattle.std.proofs.Common.{◌≡◌, ℕ, List, Option, None, Bool, Result, Ok, Err, IfOk, IfErr, inl, inr, refl, sym, subst}
use Rattle.encoding_mem.specs.Items.{Item}
use Rattle.recode_log.specs.declared.counted.Counted.{Counted}
use Rattle.recode.specs.Conversion.{Converts, EndsInFault, IsConversion}
use Rattle.recode.specs.Devices.{Devices, KeepsWritten, PortsView, Written, Wrote, ports}
use Rattle.recode.specs.Program.{AnswersProgram, FileTexts, IsConversionOn, IsLeftAlone}
use Rattle.recode.specs.Runs.{RunReturns}
use Rattle.recode.specs.RunsTold.{FailsDecided}
use Rattle.recode.specs.Session.{Completes, Fails, WroteWhole}
use Rattle.recode.specs.State.{State}
use Rattle.recode.specs.Step.{Finishes, RunCalls, StepCalls, Stops, StepsOn}
use Rattle.recode.specs.TaggedByte.{TaggedByte}
use Rattle.recode.specs.WrittenItems.{WritesItems, WritesItemsFor, WritesPrefixFor}
use Rattle.recode.specs.declared.counts.Counts.{Counts}
use Rattle.recode.specs.declared.job.Fault.{Fault}
use Rattle.recode.specs.declared.job.Job.{Job}
use Rattle.recode.specs.declared.job.Policy.{Policy}
use Rattle.recode.specs.declared.job.Report.{Report}

-- what the writer and the log have taken, each alone
abbrev pub alone : Written → Written
alone w = record { output = w.output; log = w.log; order = None }

-- what passed through the devices, each alone
abbrev pub each : Devices → Devices
each d = record { reads = d.reads; written = alone d.written; failures = d.failures }

-- devices without their journal
abbrev pub apart : {R W L : Type 0} → PortsView R W L → PortsView R W L
apart p = ports p.reader p.writer p.log

wrote_alone : {w w' : Written} {t : List TaggedByte} → Wrote w w' t → Wrote (alone w) (alone w') t
wrote_alone h = record { output = h.output; lined = h.lined; ordered = refl }

kept_alone : {w w' : Written} → KeepsWritten w w' → KeepsWritten (alone w) (alone w')
kept_alone h = record { output = h.output; log = h.log; order = refl }

whole_alone : {w w' : Written} {j : Job} {x : List ℕ} → WroteWhole w w' j x → WroteWhole (alone w) (alone w') j x
whole_alone h = record { within = h.within; unstopped = h.unstopped; output = h.output; logged = h.logged; ordered = refl }

items_alone : {w w' : Written} {c c' : Counts} {p : Policy} {x y : List Item} → WritesItems w w' c c' p x y → WritesItems (alone w) (alone w') c c' p x y
items_alone h = record { written_items = h.written_items; wrote = wrote_alone h.wrote; counted = h.counted; spared = h.spared; equals = h.equals }

items_for_alone : {w w' : Written} {c c' : Counts} {p : Policy} {last : Bool} {x y : List ℕ → List Item} → WritesItemsFor w w' c c' p last x y → WritesItemsFor (alone w) (alone w') c c' p last x y
items_for_alone h = record { written_items = h.written_items; wrote = wrote_alone h.wrote; counted = h.counted; spared = h.spared; equals = h.equals }

prefix_alone : {w w' : Written} {p : Policy} {f : Fault} {last : Bool} {x : List ℕ → List Item} → WritesPrefixFor w w' p f last x → WritesPrefixFor (alone w) (alone w') p f last x
prefix_alone h = record { taken = h.taken; wrote = wrote_alone h.wrote; left = h.left }

-- ---- calls

pub step_calls_alone : {R W L T : Type 0} {p q : PortsView R W L} {room : ℕ} {r : Result T Fault} → StepCalls p q room r → StepCalls (apart p) (apart q) room r
step_calls_alone h = record { call = h.call; once = h.once; is = h.is; failed = h.failed; writes = h.writes; lines = h.lines; last = h.last }

pub run_calls_alone : {R W L T : Type 0} {p q : PortsView R W L} {room : ℕ} {r : Result T Fault} → RunCalls p q room r → RunCalls (apart p) (apart q) room r
run_calls_alone h = record { earlier = h.earlier; call = h.call; calls = h.calls; some = h.some; is = h.is; failed = h.failed; writes = h.writes; lines = h.lines; last = h.last }

-- ---- a step

module _ (before after : Devices) (limit : ℕ) (s : State) where
  pub steps_alone : (s' : State) → StepsOn before after limit s s' → StepsOn (each before) (each after) limit s s'
  steps_alone s' h = record {
    chunk = h.chunk;
    given = h.given;
    counted = h.counted;
    grows = h.grows;
    within = h.within;
    target = h.target;
    policy = h.policy;
    source = h.source;
    pays = items_for_alone h.pays;
    advances = h.advances;
    output = h.output;
    logged = h.logged;
    settled = h.settled;
    verdict = h.verdict;
    calls = h.calls;
    least = h.least;
  }

  pub finishes_alone : (s' : State) → Finishes before after limit s s' → Finishes (each before) (each after) limit s s'
  finishes_alone s' h = record {
    chunk = h.chunk;
    given = h.given;
    counted = h.counted;
    within = h.within;
    pays = items_alone h.pays;
    source = h.source;
    characters = h.characters;
    verdict = h.verdict;
    calls = h.calls;
    least = h.least;
    sound = h.sound;
  }

  pub stops_alone : (f : Fault) → Stops before after limit s f → Stops (each before) (each after) limit s f
  stops_alone f h = record {
    read = h.read;
    within = h.within;
    limited = h.limited;
    pays = prefix_alone h.pays;
    untouched = λ is. let k = h.untouched is in (k.0, kept_alone k.1);
  }

-- ---- a run

pub completes_alone : {d d' : Devices} {j : Job} {p : Report} → Completes d d' j p → Completes (each d) (each d') j p
completes_alone h = record { input = h.input; given = h.given; converted = record { whole = whole_alone h.converted.whole; report = h.converted.report } }

pub fails_alone : {d d' : Devices} {j : Job} {f : Fault} → Fails d d' j f → Fails (each d) (each d') j f
fails_alone h = record {
  reads = h.reads;
  given = h.given;
  within = h.within;
  limited = h.limited;
  taken = h.taken;
  wrote = wrote_alone h.wrote;
  prefix = h.prefix;
  stopped = h.stopped;
  latest = h.latest;
}

pub decided_alone : {d d' : Devices} {j : Job} {f : Fault} → FailsDecided d d' j f → FailsDecided (each d) (each d') j f
unfolding fails_alone
decided_alone h = record { fails = fails_alone h.fails; decided = λ is. let k = h.decided is in (k.0, record { decided = k.1.decided; longest = k.1.longest; soon = k.1.soon; output = k.1.output; logged = k.1.logged }) }

pub if_err_map : {T E : Type 0} {P Q : E → Type 0} (r : Result T E) → ((e : E) → P e → Q e) → IfErr r P → IfErr r Q
if_err_map (Ok x) f h = tt
if_err_map (Err e) f h = f e h

pub if_ok_map : {T E : Type 0} {P Q : T → Type 0} (r : Result T E) → ((x : T) → P x → Q x) → IfOk r P → IfOk r Q
if_ok_map (Ok x) f h = f x h
if_ok_map (Err e) f h = tt

returns_alone : {d d' : Devices} {j : Job} (r : Result Report Fault) → RunReturns d d' j r → RunReturns (each d) (each d') j r
returns_alone r h = record {
  completes = if_ok_map r (λ p k. completes_alone k) h.completes;
  fails = if_err_map r (λ f k. fails_alone k) h.fails;
  counts = record { reader = h.counts.reader; writer = h.counts.writer; log = h.counts.log };
}

-- ---- a whole conversion

pub converts_alone : {d d' : Devices} {j : Job} {status : ℕ} → Converts d d' j status → Converts (each d) (each d') j status
converts_alone h = record { input = h.input; given = h.given; whole = whole_alone h.whole; known = h.known; faithful = h.faithful; lossy = h.lossy }

pub ends_alone : {d d' : Devices} {j : Job} → EndsInFault d d' j → EndsInFault (each d) (each d') j
ends_alone h = record {
  fault = h.fault;
  ran = each h.ran;
  fails = fails_alone h.fails;
  unread = h.unread;
  unwritten = h.unwritten;
  told = h.told;
  message = h.message;
  ordered = refl;
  whole = h.whole;
}

module _ {R W L : Type 0} (p q : PortsView R W L) where
  pub conversion_alone : {j : Job} {room status : ℕ} → IsConversion p q j room status → IsConversion (apart p) (apart q) j room status
  conversion_alone h = record {
    ran = apart h.ran;
    answer = h.answer;
    returns = returns_alone h.answer h.returns;
    calls = run_calls_alone h.calls;
    unread = h.unread;
    writer_failed = h.writer_failed;
    writer = h.writer;
    log_failed = h.log_failed;
    flushed = h.flushed;
    log = h.log;
    came_to = h.came_to;
    first = h.first;
    fails = if_err_map h.came_to (λ f k. fails_alone k) h.fails;
    quiet = h.quiet;
    tells = h.tells;
    told = h.told;
    made = refl;
    answered = h.answered;
  }

  -- ---- the program

  pub left_alone : IsLeftAlone p q → IsLeftAlone (apart p) (apart q)
  left_alone h = record { unread = h.unread; unwritten = h.unwritten; told = h.told }

  module _ (remaining : R → Option (List ℕ)) (contents : W → Option (List ℕ)) (logged : L → Option (List ℕ)) where
    on_alone : {j : Job} {status : ℕ} → IsConversionOn remaining contents logged p q j status → IsConversionOn remaining contents logged (apart p) (apart q) j status
    on_alone h = record {
      conversion = conversion_alone h.conversion;
      converts = λ not. converts_alone (h.converts not);
      faults = λ is. ends_alone (h.faults is);
      quiet = h.quiet;
      told = record { input = h.told.input; output = h.told.output; log = h.told.log };
      order = tt;
    }

    pub program_alone : (holds : FileTexts) (words : List (List ℕ)) (status : ℕ) → AnswersProgram holds remaining contents logged p q words status → AnswersProgram holds remaining contents logged (apart p) (apart q) words status
    program_alone holds words status (inl h) = inl record { answered = h.answered; refused = h.refused; alone = left_alone h.alone }
    program_alone holds words status (inr (inl h)) = inr (inl record { answered = h.answered; alone = left_alone h.alone })
    program_alone holds words status (inr (inr (inl h))) = inr (inr (inl record { answered = h.answered; asked = h.asked; unread = h.unread; unlogged = h.unlogged; told = h.told }))
    program_alone holds words status (inr (inr (inr h))) = inr (inr (inr record { w = h.w; meant = h.meant; j = h.j; job = h.job; files = h.files; converted = on_alone h.converted }))

-- ---- devices that `Ports` borrowed

-- Of devices at two moments the same is said as of equal ones.
pub given_back : {R W L : Type 0} {a a' : Counted R} {b b' : Counted W} {c c' : Counted L} {r r' : Counted R} {w w' : Counted W} {l l' : Counted L} (P : Counted R → Counted W → Counted L → Counted R → Counted W → Counted L → Type 0)
    → a ≡ r → b ≡ w → c ≡ l → r' ≡ a' → w' ≡ b' → l' ≡ c' → P a b c a' b' c' → P r w l r' w' l'
given_back {a} {a'} {b} {b'} {c} {c'} {r} {r'} {w} {w'} {l} {l'} P er ew el er' ew' el' h =
    subst (λ x. P r w l r' w' x) (sym el') (subst (λ x. P r w l r' x c') (sym ew') (subst (λ x. P r w l x b' c') (sym er')
    (subst (λ x. P r w x a' b' c') el (subst (λ x. P r x c a' b' c') ew (subst (λ x. P x b c a' b' c') er h)))))
