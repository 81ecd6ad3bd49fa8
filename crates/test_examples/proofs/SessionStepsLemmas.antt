-- What steps of a session have done, and what they have to write with.
use Rattle.std.proofs.Common.{◌≡◌, ℕ, ◌+◌, ◌<◌, ◌≤◌, List, [], ◌∷◌, ◌++◌, take, None, Some, Result, Ok, length, refl, sym, subst, ◌∙◌, ap, arith}
use Rattle.std.specs.Io.KnownBytes.{Consumes}
use Rattle.encoding_mem.specs.Decided.{IsDecided}
use Rattle.encoding_mem.specs.Piece.{Piece, sizes}
use Rattle.std.specs.List.{concat}
use Rattle.recode_log.specs.Call.{Call, passed_by}
use Rattle.recode.specs.Devices.{CountsFault, Devices, Gave, devices_in, reads_of}
use Rattle.recode.specs.Job.{input_pieces, input_text, lost_log_lines, target_of, trace}
use Rattle.recode.specs.Latency.{HasReached}
use Rattle.recode.specs.Session.{Fails, IsConverted, IsStepped, View, phase_after}
use Rattle.recode.specs.State.{State}
use Rattle.recode.specs.Step.{HasRun, IsNearlyDecided, StepsOn, WrotePrefix}
use Rattle.recode.specs.TaggedByte.{IsPrefix, TaggedByte}
use Rattle.recode.specs.Told.{Told, TellWhatPassed}
use Rattle.recode.specs.WrittenItems.{StopsAtLoss}
use Rattle.recode.specs.declared.job.Policy.{Policy}
use Rattle.recode.specs.declared.job.Fault.{Fault}
use Rattle.recode.specs.declared.job.Fault.TheVariants.{Log, Read, TooLong, Unmappable, Write}
use Rattle.recode.specs.declared.job.Progress.{Progress}
use Rattle.recode.specs.declared.job.Report.{Report}
use Rattle.recode.specs.calls.Buffers.{AreEnough, HoldsAnyCharacter, KeepSizes, capacity, is_wide}
use Rattle.recode.specs.declared.job.Buffers.{Buffers}
use Rattle.recode.specs.declared.job.Job.{Job}
use Rattle.recode.specs.declared.job.Pivot.{Pivot}
use Rattle.recode.specs.declared.job.Pivot.TheVariants.{Utf8, Utf16}
use Rattle.recode.specs.declared.session.Phase.TheVariants.{Open}
use Rattle.recode_log.specs.Counted.{failures_of, history_of, inner_of, passed_of}
use Rattle.recode_log.specs.declared.line.LogLine.TheVariants.{Lost}
use Rattle.recode_log.specs.declared.counted.Counted.{Counted}
use Rattle.test_examples.specs.SessionSteps.{GaveAll, GaveDecided, TellsFault}
use Rattle.test_examples.specs.declared.session_steps.Keeper.{Keeper}
use Rattle.test_examples.specs.declared.session_steps.SingleBytes.{SingleBytes}

-- devices before their first call
abbrev pub devices_before : Devices
devices_before = record { reads = []; written = record { output = []; log = []; order = None }; failures = record { reader = 0; writer = 0; log = 0 } }

-- a reader of these bytes, a writer and a log that hold none, by what they say
abbrev pub told_before : List ℕ → Told
told_before x = record { input = Some x; output = Some []; log = Some [] }

-- a reader, a writer and a log, by what they say of their bytes
abbrev pub told_of_steps : Counted SingleBytes → (writer log : Counted Keeper) → Told
told_of_steps reader writer log = record { input = Some (inner_of reader).rest.now; output = Some (inner_of writer).bytes.items; log = Some (inner_of log).bytes.items }

same_devices : (reads : List (List ℕ)) (output log : List ℕ) (r w l : ℕ) → reads ≡ [] → output ≡ [] → log ≡ [] → r ≡ 0 → w ≡ 0 → l ≡ 0
    → record { reads = reads; written = record { output = output; log = log; order = None }; failures = record { reader = r; writer = w; log = l } } ≡ devices_before
same_devices reads output log r w l none no_bytes no_lines r0 w0 l0 = rw (none, no_bytes, no_lines, r0, w0, l0) refl

pub none_called : (reader : Counted SingleBytes) (writer log : Counted Keeper) → history_of reader ≡ [] → history_of writer ≡ [] → history_of log ≡ []
    → failures_of reader ≡ 0 → failures_of writer ≡ 0 → failures_of log ≡ 0 → devices_in reader writer log ≡ devices_before
none_called reader writer log r w l =
    same_devices (reads_of reader) (passed_of writer) (passed_of log) (failures_of reader) (failures_of writer) (failures_of log)
    (ap passed_by r) (ap (λ (h : List Call). concat (passed_by h)) w) (ap (λ (h : List Call). concat (passed_by h)) l)

same_told : (x input output log : List ℕ) → input ≡ x → output ≡ [] → log ≡ [] → record { input = Some input; output = Some output; log = Some log } ≡ told_before x
same_told x input output log is none no_lines = rw (is, none, no_lines) refl

pub none_told : (x : List ℕ) (reader : Counted SingleBytes) (writer log : Counted Keeper) → (inner_of reader).rest.now ≡ x → (inner_of writer).bytes.items ≡ [] → (inner_of log).bytes.items ≡ []
    → told_of_steps reader writer log ≡ told_before x
none_told x reader writer log = same_told x (inner_of reader).rest.now (inner_of writer).bytes.items (inner_of log).bytes.items

-- none of their calls failed
pub record NoneFailed (d : Devices) : Type 0 where
  pub reader : d.failures.reader ≡ 0
  pub writer : d.failures.writer ≡ 0
  pub log : d.failures.log ≡ 0

-- so many steps of a new session went on: they are the beginning of a run, and have converted what they read
pub record HaveGoneOn (before after : Devices) (j : Job) (new v : View) (steps : ℕ) : Type 0 where
  pub job : v.job ≡ j
  pub open_ : v.phase ≡ Open
  pub run : HasRun before after j.limit new.state v.state
  pub read : List ℕ
  pub pieces : List Piece
  pub reached : HasReached before after j v.state read pieces
  pub enough : steps ≤ length read
  pub unfailed : NoneFailed after

-- one more
pub one_more : (t t1 t2 : Devices) (j : Job) (new v v' : View) (n : ℕ) (answer : Result Progress Fault) → answer ≡ Ok Progress.More
    → HaveGoneOn t t1 j new v n → IsStepped v v' answer → CountsFault t1 t2 answer → (on : StepsOn t1 t2 v.job.limit v.state v'.state)
    → ((s s1 s2 : State) → HasRun t t1 j.limit s s1 → StepsOn t1 t2 j.limit s1 s2 → HasRun t t2 j.limit s s2)
    → ((x : List ℕ) (ps : List Piece) → HasReached t t1 j v.state x ps → (p : StepsOn t1 t2 v.job.limit v.state v'.state) → HasReached t t2 j v'.state (x ++ p.chunk) (ps ++ p.advances.taken))
    → HaveGoneOn t t2 j new v' (n + 1)
one_more t t1 t2 j new v v' n answer is so_far stepped counted on goes_on next =
    let reached = next so_far.read so_far.pieces so_far.reached on in
    let counts : CountsFault {T = Progress} t1 t2 (Ok Progress.More) = subst (λ (a : Result Progress Fault). CountsFault t1 t2 a) is counted in
    record {
      job = stepped.job ∙ so_far.job;
      open_ = stepped.phase ∙ ap phase_after is;
      run = goes_on new.state v.state v'.state so_far.run (subst (λ (k : Job). StepsOn t1 t2 k.limit v.state v'.state) so_far.job on);
      read = so_far.read ++ on.chunk;
      pieces = so_far.pieces ++ on.advances.taken;
      reached = reached;
      enough = omega (arith, so_far.enough, so_far.reached.read, reached.read, on.grows);
      unfailed = record {
        reader = omega (arith, counts.reader, so_far.unfailed.reader);
        writer = omega (arith, counts.writer, so_far.unfailed.writer);
        log = omega (arith, counts.log, so_far.unfailed.log);
      };
    }

-- what devices that began with nothing say
module _ (j : Job) (x rest output log : List ℕ) (t' : Devices) (tells : TellWhatPassed devices_before t' (told_before x) (record { input = Some rest; output = Some output; log = Some log })) where
  is_output : output ≡ t'.written.output
  is_output = tells.output.held ∙ sym tells.output.took

  is_log : log ≡ t'.written.log
  is_log = tells.log.held ∙ sym tells.log.took

  -- they have all that the bytes so far decide
  pub gave_decided : (new v : View) (steps n : ℕ) → HaveGoneOn devices_before t' j new v n → steps ≤ n
      → ((bytes : List ℕ) → Gave [] t'.reads bytes → Consumes (Some x) (Some rest) bytes)
      → ((s : State) (y : List ℕ) (ps : List Piece) → HasReached devices_before t' j s y ps → IsDecided (input_pieces j) y ps)
      → ((s : State) (y : List ℕ) (ps qs : List Piece) → HasReached devices_before t' j s y ps → IsNearlyDecided s.decoder → IsDecided (input_pieces j) y qs → IsPrefix qs ps)
      → ((s : State) (y z : List ℕ) (ps qs more : List Piece) → HasReached devices_before t' j s y ps → IsNearlyDecided s.decoder → input_pieces j (y ++ z) ≡ qs ++ more → sizes qs + 3 ≤ length y → IsPrefix qs ps)
      → (characters : ℕ) → characters ≡ v.state.counts.index → GaveDecided j x steps output log characters
  gave_decided new v steps n so_far all gave decided longest soon characters told =
      let s = so_far.reached in
      let near = so_far.run.settled in
      record {
        read = so_far.read;
        rest = rest;
        split = gave so_far.read s.given;
        enough = omega (arith, all, so_far.enough);
        pieces = so_far.pieces;
        counted = told ∙ s.index;
        decided = record {
          decided = decided v.state so_far.read so_far.pieces s;
          longest = λ qs. longest v.state so_far.read so_far.pieces qs s near;
          soon = λ y qs more. soon v.state so_far.read y so_far.pieces qs more s near;
          output = is_output ∙ s.output;
          logged = is_log ∙ s.logged;
        };
      }

  -- what was converted is all
  pub gave_all : (p : Report) (characters : ℕ) → IsConverted devices_before.written t'.written j x p → characters ≡ length (input_text j x) → GaveAll j x output log characters p.faithful
  gave_all p characters converted counted = record { within = converted.whole.within; unstopped = converted.whole.unstopped; written = is_output ∙ converted.whole.output; logged = is_log ∙ converted.whole.logged; counted = counted; verdict = converted.report.faithful }

-- what a fault that ended them says is true
pub told_fault : (j : Job) (x : List ℕ) (t' : Devices) (f : Fault) → Fails devices_before t' j f
    → (Fails devices_before t' j TooLong → j.limit < length x)
    → ((g : Fault) → Fails devices_before t' j g → WrotePrefix devices_before.written t'.written j.policy g (trace j x))
    → ((index scalar : ℕ) (taken : List TaggedByte) → StopsAtLoss index scalar taken (trace j x) → j.policy ≡ Policy.Stop)
    → ((index scalar : ℕ) (taken : List TaggedByte) → StopsAtLoss index scalar taken (trace j x) → take 1 (lost_log_lines (target_of j) 0 (input_text j x)) ≡ Lost index scalar ∷ [])
    → TellsFault j x f
told_fault j x t' Read fails long wrote stops first = tt
told_fault j x t' Write fails long wrote stops first = tt
told_fault j x t' Log fails long wrote stops first = tt
told_fault j x t' TooLong fails long wrote stops first = long fails
told_fault j x t' (Unmappable index scalar) fails long wrote stops first =
    let stopped : StopsAtLoss index scalar (wrote (Unmappable index scalar) fails).taken (trace j x) = (wrote (Unmappable index scalar) fails).stopped index scalar refl in
    (stops index scalar (wrote (Unmappable index scalar) fails).taken stopped, first index scalar (wrote (Unmappable index scalar) fails).taken stopped)

-- a pivot of that kind and size holds any character, too
still_roomy : (p q : Pivot) → capacity q ≡ capacity p → is_wide q ≡ is_wide p → HoldsAnyCharacter p → HoldsAnyCharacter q
still_roomy (Utf8 a) (Utf8 b) size kind roomy = omega (arith, size, roomy)
still_roomy (Utf8 a) (Utf16 b) size kind roomy = absurd (cc kind)
still_roomy (Utf16 a) (Utf8 b) size kind roomy = absurd (cc kind)
still_roomy (Utf16 a) (Utf16 b) size kind roomy = omega (arith, size, roomy)

-- buffers that keep their sizes stay enough
pub still_enough : (b b' : Buffers) → AreEnough b → KeepSizes b b' → AreEnough b'
still_enough b b' enough kept = record {
  input = omega (arith, enough.input, kept.input);
  pivot = still_roomy b.pivot b'.pivot kept.pivot kept.pivot_kind enough.pivot;
  output = omega (arith, enough.output, kept.output);
  check = still_roomy b.check b'.check kept.check kept.check_kind enough.check;
  one_kind = kept.pivot_kind ∙ enough.one_kind ∙ sym kept.check_kind;
}
