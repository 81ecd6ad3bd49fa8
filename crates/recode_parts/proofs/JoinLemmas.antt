-- A log that is joined, so far.
use Rattle.std.proofs.Common.{◌≡◌, ◌⊎◌, inl, inr, ℕ, ◌+◌, ◌<◌, ◌≤◌, ◌==◌, ◌^◌, ◌↔◌, Bool, true, false, IsTrue, IfErr, OnErr, Result, Ok, Err, List, [], ◌∷◌, ◌++◌, Option, None, take, drop, length, position, refl, ap, sym, subst, ◌∙◌, arith, append-nil, append_assoc, length-append, take-append-drop}
use Rattle.std.specs.List.{concat}
use Rattle.std.specs.Result.{IsErrAnd}
use Rattle.std.proofs.Math.Seq.{take-append-add}
use Rattle.std.proofs.lemmas.List.{take_all}
use Rattle.std.proofs.lemmas.List.Folds.{concat-append}
use Rattle.std.proofs.lemmas.List.Elements.{All-append, All-nil}
use Rattle.std.proofs.lemmas.List.{same_from_push}
use Rattle.std.specs.Io.KnownBytes.{Appends}
use Rattle.recode_log.specs.Call.{Call}
use Rattle.recode_log.specs.Counted.{CountsWrites, OffersAll, failures_of, history_of, inner_of, passed_of}
use Rattle.recode_log.specs.Told.{TellsReads, TellsTaken}
use Rattle.recode_log.specs.declared.counted.Counted.{Counted}
use Rattle.recode_log.specs.laws.Counts.{counts_none, counts_then}
use Rattle.recode_log.specs.laws.Told.{NoneYet, none_yet, reads_none, reads_then, taken_none, taken_then, took_whole}
use Rattle.recode.specs.Devices.{reads_of}
use Rattle.recode_log.specs.Line.{line_bytes}
use Rattle.recode_log.specs.declared.line.LogLine.{LogLine}
use Rattle.recode_places.specs.Logs.{CanBeLogged}
use Rattle.recode_places.specs.Places.{feeds}
use Rattle.recode_parts.specs.Fault.{IsOfNoLog, failures_of_part, failures_of_whole}
use Rattle.recode_parts.specs.declared.join.JoinFault.{JoinFault}
use Rattle.recode_parts.specs.Joins.{CanBeMoved, IsReadOfSome, JoinCalls, JoinsFirst, JoinsLog, MadeReads, MovesLines, ReadsMore, failed_reads}
use Rattle.recode_parts.proofs.LogLemmas.{log_behind, no_feed}
use Rattle.recode_parts.proofs.MoveLemmas.{moves_both, moves_none}

-- what holds is said at an error
pub on_err : {T E : Type 0} (r : Result T E) (P : Type 0) → P → OnErr r P
on_err (Ok x) P p = tt
on_err (Err e) P p = p

-- a write fault is of the whole's writer alone, a read fault of the part's reader
pub at_write : {T : Type 0} (r : Result T JoinFault) (e : JoinFault) → IsErrAnd r (λ (x : JoinFault). x ≡ e) → e ≡ JoinFault.Write
    → (failures_of_part r ≡ 0) × (failures_of_whole r ≡ 1) × ((P : JoinFault → Type 0) → P JoinFault.Write → IfErr r P)
at_write (Ok x) e same is = absurd same
at_write {T = T} (Err x) e same is =
    let fault : x ≡ JoinFault.Write = same ∙ is in
    (ap (λ f. failures_of_part {T = T} (Err f)) fault, ap (λ f. failures_of_whole {T = T} (Err f)) fault, λ P h. subst P (sym fault) h)

pub at_read : {T : Type 0} (r : Result T JoinFault) (e : JoinFault) → IsErrAnd r (λ (x : JoinFault). x ≡ e) → e ≡ JoinFault.Read
    → (failures_of_part r ≡ 1) × (failures_of_whole r ≡ 0) × ((P : JoinFault → Type 0) → P JoinFault.Read → IfErr r P)
at_read (Ok x) e same is = absurd same
at_read {T = T} (Err x) e same is =
    let fault : x ≡ JoinFault.Read = same ∙ is in
    (ap (λ f. failures_of_part {T = T} (Err f)) fault, ap (λ f. failures_of_whole {T = T} (Err f)) fault, λ P h. subst P (sym fault) h)

-- nothing was moved of what is held: it has no whole line
pub none_moved : (held held' slice : List ℕ) (read : ℕ) → slice ≡ held → held' ≡ drop read held → read ≡ 0 → (read ≡ 0 → position (λ byte. byte == 10) slice ≡ None) → position (λ byte. byte == 10) held' ≡ None
none_moved held held' slice read is rest zero none =
    let same : held' ≡ slice = rest ∙ ap (λ z. drop z held) zero ∙ sym is in
    subst (λ l. position (λ byte. byte == 10) l ≡ None) (sym same) (none zero)

pub not_empty : (b : Bool) (xs : List ℕ) → IsTrue b ↔ (xs ≡ []) → b ≡ false → xs ≡ [] → ⊥
not_empty b xs h is e = let yes : b ≡ true = h.1 e in cc

empty_list : (xs : List ℕ) → length xs ≡ 0 → xs ≡ []
empty_list [] h = refl
empty_list (x ∷ xs) h = absurd (omega (arith, h))

some_if : (xs : List ℕ) → (xs ≡ [] → ⊥) → 0 < length xs
some_if [] h = absurd (h refl)
some_if (x ∷ xs) h = omega arith

empty_front : (xs ys : List ℕ) → xs ++ ys ≡ [] → xs ≡ []
empty_front [] ys e = refl
empty_front (x ∷ xs) ys e = absurd (omega (arith, ap length e))

-- What a reader gave so far is lines, which a writer took, moved, and bytes that are held. So many bytes more may come.
pub record JoinsSoFar (n m : ℕ) (reads reads' : List (List ℕ)) (log log' held : List ℕ) (left : ℕ) : Type 0 where
  pub front : List (List ℕ)
  pub gave : reads' ≡ reads ++ front
  pub lines : List ℕ
  pub moved : List ℕ
  pub whole : concat front ≡ lines ++ held
  pub moves : MovesLines n m lines moved
  pub wrote : log' ≡ log ++ moved
  pub size : left + length (concat front) ≡ 2 ^ 55

module _ (n m : ℕ) (reads : List (List ℕ)) (log : List ℕ) where
  pub so_far_none : JoinsSoFar n m reads reads log log [] (2 ^ 55)
  so_far_none = record { front = []; gave = sym (append-nil reads); lines = []; moved = []; whole = refl; moves = moves_none n m; wrote = sym (append-nil log); size = refl }

  -- one turn: whole lines of a slice of what is held were moved and written, and forgotten
  pub so_far_turn : (reads' : List (List ℕ)) (log' log'' held held' slice dst : List ℕ) (read written k left : ℕ) → JoinsSoFar n m reads reads' log log' held left
      → slice ≡ held → MovesLines n m (take read slice) (take written dst) → log'' ≡ log' ++ take k dst → k ≡ written → held' ≡ drop read held
      → JoinsSoFar n m reads reads' log log'' held' left
  so_far_turn reads' log' log'' held held' slice dst read written k left h is moves wrote size rest =
      let out = take written dst in
      let first = take read held in
      rw rest (record {
        front = h.front;
        gave = h.gave;
        lines = h.lines ++ first;
        moved = h.moved ++ out;
        whole = h.whole ∙ ap (λ l. h.lines ++ l) (sym (take-append-drop read held)) ∙ sym (append_assoc h.lines first (drop read held));
        moves = moves_both n m h.lines first h.moved out h.moves (rw is at moves);
        wrote = wrote ∙ ap (λ z. log' ++ take z dst) size ∙ ap (λ l. l ++ out) h.wrote ∙ append_assoc log h.moved out;
        size = h.size;
      })

  -- a turn whose writer took a prefix
  pub so_far_cut_turn : (reads' : List (List ℕ)) (log' log'' held slice dst : List ℕ) (read written k count left : ℕ) → JoinsSoFar n m reads reads' log log' held left
      → slice ≡ held → MovesLines n m (take read slice) (take written dst) → log'' ≡ log' ++ take count (take k dst) → k ≡ written
      → JoinsFirst n m reads reads' log log''
  so_far_cut_turn reads' log' log'' held slice dst read written k count left h is moves wrote size =
      let out = take written dst in
      let first = take read held in
      record {
        first = h.lines ++ first;
        more = drop read held;
        moved = h.moved ++ out;
        count = length h.moved + count;
        given = (h.front, h.gave, h.whole ∙ ap (λ l. h.lines ++ l) (sym (take-append-drop read held)) ∙ sym (append_assoc h.lines first (drop read held)));
        lines = moves_both n m h.lines first h.moved out h.moves (rw is at moves);
        wrote = wrote ∙ ap (λ z. log' ++ take count (take z dst)) size ∙ ap (λ l. l ++ take count out) h.wrote ∙ append_assoc log h.moved (take count out) ∙ ap (λ l. log ++ l) (sym (take-append-add h.moved out count));
      }

  -- more was read
  pub so_far_read : (reads' reads'' : List (List ℕ)) (log' held held' bytes : List ℕ) (left left' : ℕ) → JoinsSoFar n m reads reads' log log' held left
      → reads'' ≡ reads' ++ (bytes ∷ []) → held' ≡ held ++ bytes → left' + length bytes ≡ left → JoinsSoFar n m reads reads'' log log' held' left'
  so_far_read reads' reads'' log' held held' bytes left left' h gave holds less =
      let grown : concat (h.front ++ (bytes ∷ [])) ≡ concat h.front ++ bytes = concat-append h.front (bytes ∷ []) ∙ ap (λ l. concat h.front ++ l) (append-nil bytes) in
      record {
        front = h.front ++ (bytes ∷ []);
        gave = gave ∙ ap (λ l. l ++ (bytes ∷ [])) h.gave ∙ append_assoc reads h.front (bytes ∷ []);
        lines = h.lines;
        moved = h.moved;
        whole = grown ∙ ap (λ l. l ++ bytes) h.whole ∙ append_assoc h.lines held bytes ∙ ap (λ l. h.lines ++ l) (sym holds);
        moves = h.moves;
        wrote = h.wrote;
        size = omega (arith, h.size, less, ap length grown, length-append (concat h.front) bytes);
      }

  -- the end was read, and nothing is held
  pub joins_at_end : (reads' reads'' : List (List ℕ)) (log' held held' bytes : List ℕ) (count left : ℕ) → JoinsSoFar n m reads reads' log log' held left
      → reads'' ≡ reads' ++ (bytes ∷ []) → held' ≡ held ++ bytes → length bytes ≡ count → count ≡ 0 → held' ≡ [] → JoinsLog n m reads reads'' log log'
  joins_at_end reads' reads'' log' held held' bytes count left h gave holds size none is =
      record {
        part = h.lines;
        moved = h.moved;
        size = omega (arith, h.size, ap length h.whole, length-append h.lines held);
        given = (
          h.front,
          gave ∙ ap (λ b. reads' ++ (b ∷ [])) (empty_list bytes (size ∙ none)) ∙ ap (λ l. l ++ ([] ∷ [])) h.gave ∙ append_assoc reads h.front ([] ∷ []),
          h.whole ∙ ap (λ l. h.lines ++ l) (empty_front held bytes (sym holds ∙ is)) ∙ append-nil h.lines,
        );
        lines = h.moves;
        wrote = h.wrote;
      }

  -- what was written so far, whatever was read behind what is held
  pub so_far_first : (reads' : List (List ℕ)) (log' held : List ℕ) (left : ℕ) → JoinsSoFar n m reads reads' log log' held left → JoinsFirst n m reads reads' log log'
  so_far_first reads' log' held left h = record {
    first = h.lines;
    more = held;
    moved = h.moved;
    count = length h.moved;
    given = (h.front, h.gave, h.whole);
    lines = h.moves;
    wrote = h.wrote ∙ ap (λ l. log ++ l) (sym (take_all (length h.moved) h.moved (omega arith)));
  }

  pub so_far_failed : (reads' reads'' : List (List ℕ)) (log' held : List ℕ) (left : ℕ) → JoinsSoFar n m reads reads' log log' held left → reads'' ≡ reads' → JoinsFirst n m reads reads'' log log'
  so_far_failed reads' reads'' log' held left h is = rw is (so_far_first reads' log' held left h)

  -- that many bytes need not be within what may come
  pub read_first : (reads' reads'' : List (List ℕ)) (log' held held' bytes : List ℕ) (left : ℕ) → JoinsSoFar n m reads reads' log log' held left
      → reads'' ≡ reads' ++ (bytes ∷ []) → held' ≡ held ++ bytes → JoinsFirst n m reads reads'' log log'
  read_first reads' reads'' log' held held' bytes left h gave holds = record {
    first = h.lines;
    more = held';
    moved = h.moved;
    count = length h.moved;
    given = (
      h.front ++ (bytes ∷ []),
      gave ∙ ap (λ l. l ++ (bytes ∷ [])) h.gave ∙ append_assoc reads h.front (bytes ∷ []),
      concat-append h.front (bytes ∷ []) ∙ ap (λ l. concat h.front ++ l) (append-nil bytes) ∙ ap (λ l. l ++ bytes) h.whole ∙ append_assoc h.lines held bytes ∙ ap (λ l. h.lines ++ l) (sym holds),
    );
    lines = h.moves;
    wrote = h.wrote ∙ ap (λ l. log ++ l) (sym (take_all (length h.moved) h.moved (omega arith)));
  }

  -- more than 2^55 bytes were read
  pub too_long : (reads' reads'' : List (List ℕ)) (log' held bytes : List ℕ) (count left : ℕ) → JoinsSoFar n m reads reads' log log' held left
      → reads'' ≡ reads' ++ (bytes ∷ []) → length bytes ≡ count → left < count → IsOfNoLog n m reads reads''
  too_long reads' reads'' log' held bytes count left h gave size more x of log_of =
      let grown : concat (h.front ++ (bytes ∷ [])) ≡ concat h.front ++ bytes = concat-append h.front (bytes ∷ []) ∙ ap (λ l. concat h.front ++ l) (append-nil bytes) in
      let begins = of.front (concat h.front ++ bytes) (h.front ++ (bytes ∷ []), gave ∙ ap (λ l. l ++ (bytes ∷ [])) h.gave ∙ append_assoc reads h.front (bytes ∷ []), grown) in
      omega (arith, h.size, size, more, ap length begins.1, length-append (concat h.front ++ bytes) begins.0, length-append (concat h.front) bytes)

  module _ (ends : (l : LogLine) → CanBeLogged l → (body : List ℕ) × (line_bytes l ≡ body ++ 10 ∷ []) × (feeds body ≡ 0) × (length body < 64))
      (apart : (a b : LogLine) (x y : List ℕ) → CanBeLogged a → CanBeLogged b → line_bytes a ++ x ≡ line_bytes b ++ y → (a ≡ b) × (x ≡ y)) where
    -- what is held begins no log that can be moved
    pub no_log : (reads' : List (List ℕ)) (log' held slice : List ℕ) (left : ℕ) → JoinsSoFar n m reads reads' log log' held left
        → slice ≡ held → ((more : List ℕ) → CanBeMoved n m (slice ++ more) → ⊥) → IsOfNoLog n m reads reads'
    no_log reads' log' held slice left h is none x of log_of =
        let begins = of.front (h.lines ++ held) (h.front, h.gave, h.whole) in
        let rest = log_behind n m ends apart h.lines h.moved (held ++ begins.0) x h.moves (begins.1 ∙ append_assoc h.lines held begins.0) log_of in
        absurd (none begins.0 (subst (λ l. CanBeMoved n m (l ++ begins.0)) (sym is) rest))

    -- it is too long for a line
    pub no_line_ends : (reads' : List (List ℕ)) (log' held : List ℕ) (left : ℕ) → JoinsSoFar n m reads reads' log log' held left
        → position (λ byte. byte == 10) held ≡ None → length held ≡ 4096 → IsOfNoLog n m reads reads'
    no_line_ends reads' log' held left h none full =
        no_log reads' log' held held left h refl (λ more. no_feed n m ends apart held more (omega (arith, full)) none (inl (omega (arith, full))))

    -- the end was read within a line
    pub ends_in_line : (reads' reads'' : List (List ℕ)) (log' held held' bytes : List ℕ) (count left : ℕ) → JoinsSoFar n m reads reads' log log' held left
        → position (λ byte. byte == 10) held ≡ None → reads'' ≡ reads' ++ (bytes ∷ []) → held' ≡ held ++ bytes → length bytes ≡ count → count ≡ 0 → (held' ≡ [] → ⊥) → IsOfNoLog n m reads reads''
    ends_in_line reads' reads'' log' held held' bytes count left h none gave holds size end some x of log_of =
        let no_bytes : bytes ≡ [] = empty_list bytes (size ∙ end) in
        let all = of.whole (h.lines ++ held) (h.front, gave ∙ ap (λ b. reads' ++ (b ∷ [])) no_bytes ∙ ap (λ l. l ++ ([] ∷ [])) h.gave ∙ append_assoc reads h.front ([] ∷ []), h.whole) in
        let rest = log_behind n m ends apart h.lines h.moved held x h.moves (sym all) log_of in
        let is_some : 0 < length held = some_if held (λ e. some (holds ∙ ap (λ l. l ++ bytes) e ∙ no_bytes)) in
        absurd (no_feed n m ends apart held [] is_some none (inr refl) (subst (CanBeMoved n m) (sym (append-nil held)) rest))

-- the calls so far
failed_reads-append : (a b : List Call) → failed_reads (a ++ b) ≡ failed_reads a + failed_reads b
failed_reads-append [] b = omega arith
failed_reads-append (call ∷ a) b = omega (arith, failed_reads-append a b)

module _ {R W : Type 0} (p : Counted R) (w : Counted W) where
  pub calls_none : JoinCalls p p w w
  calls_none = record { calls = []; reads = record { made = sym (append-nil (history_of p)); some = All-nil IsReadOfSome; counted = omega arith }; writes = counts_none w }

  pub calls_written : (p' : Counted R) (w' w'' : Counted W) → JoinCalls p p' w w' → CountsWrites w' w'' → JoinCalls p p' w w''
  calls_written p' w' w'' h k = record { calls = h.calls; reads = h.reads; writes = counts_then w w' w'' h.writes k }

  pub calls_read : (p' p'' : Counted R) (w' : Counted W) → JoinCalls p p' w w' → (call : Call) × MadeReads p' p'' (call ∷ []) → JoinCalls p p'' w w'
  calls_read p' p'' w' h (call, read) = record {
    calls = h.calls ++ (call ∷ []);
    reads = record {
      made = read.made ∙ ap (λ l. l ++ (call ∷ [])) h.reads.made ∙ append_assoc (history_of p) h.calls (call ∷ []);
      some = All-append IsReadOfSome h.calls (call ∷ []) h.reads.some read.some;
      counted = omega (arith, h.reads.counted, read.counted, failed_reads-append h.calls (call ∷ []));
    };
    writes = h.writes;
  }

-- no read so far gave none
pub none_more : (a b c : List (List ℕ)) (bytes : List ℕ) → c ≡ b ++ (bytes ∷ []) → 0 < length bytes → NoneYet a c
none_more a b c bytes gave some front e =
    let same = (same_from_push b (a ++ front) bytes [] (sym gave ∙ e ∙ sym (append_assoc a front ([] ∷ [])))).1 in
    omega (arith, some, ap length same)

-- All of it.
pub record Joining {R W : Type 0} (remaining : R → Option (List ℕ)) (contents : W → Option (List ℕ)) (n m : ℕ) (p p' : Counted R) (w w' : Counted W) (held : List ℕ) (left : ℕ) : Type 0 where
  pub so_far : JoinsSoFar n m (reads_of p) (reads_of p') (passed_of w) (passed_of w') held left
  pub calls : JoinCalls p p' w w'
  pub part : failures_of p' ≡ failures_of p
  pub whole : failures_of w' ≡ failures_of w
  pub part_told : TellsReads (reads_of p) (reads_of p') (remaining (inner_of p)) (remaining (inner_of p'))
  pub whole_told : TellsTaken (passed_of w) (passed_of w') (contents (inner_of w)) (contents (inner_of w'))
  pub none_yet : NoneYet (reads_of p) (reads_of p')

module _ {R W : Type 0} (remaining : R → Option (List ℕ)) (contents : W → Option (List ℕ)) (n m : ℕ) (p : Counted R) (w : Counted W) where
  pub joining_none : (held : List ℕ) (left : ℕ) → held ≡ [] → left ≡ 2 ^ 55 → Joining remaining contents n m p p w w held left
  joining_none held left none all = rw (none, all) (record {
    so_far = so_far_none n m (reads_of p) (passed_of w);
    calls = calls_none p w;
    part = refl;
    whole = refl;
    part_told = reads_none (reads_of p) (remaining (inner_of p));
    whole_told = taken_none (passed_of w) (contents (inner_of w));
    none_yet = none_yet (reads_of p);
  })

  -- whole lines of what is held were moved, written and forgotten
  pub joining_turn : (p' : Counted R) (w' w'' : Counted W) (held held' slice dst : List ℕ) (read written k left size : ℕ) → Joining remaining contents n m p p' w w' held left
      → slice ≡ held → MovesLines n m (take read slice) (take written dst)
      → Appends (contents (inner_of w')) (contents (inner_of w'')) (take k dst) × (failures_of w'' ≡ failures_of w') × (passed_of w'' ≡ passed_of w' ++ take k dst)
      → k ≡ written → held' ≡ drop read held → OffersAll w' w'' size → Joining remaining contents n m p p' w w'' held' left
  joining_turn p' w' w'' held held' slice dst read written k left size h is moves took same rest offers = record {
    so_far = so_far_turn n m (reads_of p) (passed_of w) (reads_of p') (passed_of w') (passed_of w'') held held' slice dst read written k left h.so_far is moves took.2 same rest;
    calls = calls_written p w p' w' w'' h.calls offers.writes;
    part = h.part;
    whole = took.1 ∙ h.whole;
    part_told = h.part_told;
    whole_told = taken_then (passed_of w) (passed_of w') (passed_of w'') (contents (inner_of w)) (contents (inner_of w')) (contents (inner_of w'')) h.whole_told (took_whole (passed_of w') (passed_of w'') (contents (inner_of w')) (contents (inner_of w'')) (take k dst) took);
    none_yet = h.none_yet;
  }

  -- more was read
  pub joining_read : (p' p'' : Counted R) (w' : Counted W) (held held' : List ℕ) (count left left' : ℕ) → Joining remaining contents n m p p' w w' held left
      → ReadsMore p' p'' held held' count → (call : Call) × MadeReads p' p'' (call ∷ [])
      → TellsReads (reads_of p') (reads_of p'') (remaining (inner_of p')) (remaining (inner_of p''))
      → 0 < count → left' + count ≡ left → Joining remaining contents n m p p'' w w' held' left'
  joining_read p' p'' w' held held' count left left' h more call told some less = record {
    so_far = so_far_read n m (reads_of p) (passed_of w) (reads_of p') (reads_of p'') (passed_of w') held held' more.bytes left left' h.so_far more.gave more.holds (omega (arith, more.size, less));
    calls = calls_read p w p' p'' w' h.calls call;
    part = more.failures ∙ h.part;
    whole = h.whole;
    part_told = reads_then (reads_of p) (reads_of p') (reads_of p'') (remaining (inner_of p)) (remaining (inner_of p')) (remaining (inner_of p'')) h.none_yet h.part_told told;
    whole_told = h.whole_told;
    none_yet = none_more (reads_of p) (reads_of p') (reads_of p'') more.bytes more.gave (omega (arith, more.size, some));
  }
