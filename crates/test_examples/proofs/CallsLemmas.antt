-- How calls of a converter compose, and what a call leaves to be written.
use Rattle.std.proofs.Common.{◌≡◌, ◌≢◌, ℕ, ◌+◌, ◌-◌, ◌<◌, ◌≤◌, ◌↔◌, Bool, true, false, List, [], ◌∷◌, ◌++◌, length, map, take, refl, sym, ◌∙◌, ap, subst, arith, append_assoc, append-nil, length-append, Result, Ok, Err, IsTrue, OnOk}
use Rattle.std.proofs.lemmas.List.{length-map, length-take-le}
use Rattle.encoding_mem.specs.Coding.{reference_bytes}
use Rattle.encoding_mem.specs.Items.{Item, Byte}
use Rattle.encoding_mem.specs.declared.codec.reference.Reference.{Reference}
use Rattle.recode.specs.Converter.{ConverterView, ConvertsPart, ConverterEndsWith, AllIsConverted, IsFreshConverter, IsWhole, WillKeep, found_items, owes}
use Rattle.recode.specs.Job.{Faithful, log_of, output_of, trace, whole_trace}
use Rattle.recode.specs.Policy.{written_under}
use Rattle.recode.specs.TaggedByte.{Line, log_bytes, output_bytes, tagged}
use Rattle.recode.specs.laws.Calls.{part_none, part_then}
use Rattle.recode.specs.laws.Items.{log_bytes-append, log_bytes-bytes, output_bytes-append, output_bytes-bytes, tagged-append}
use Rattle.recode.specs.declared.converter.ConverterResult.{ConverterResult}
use Rattle.recode.specs.declared.converter.ConverterResult.TheVariants.{Found, InputEmpty, OutputFull}
use Rattle.recode.specs.declared.job.Job.{Job}
use Rattle.recode.specs.declared.job.Policy.{Policy}
use Rattle.recode_log.specs.Line.{line_bytes}
use Rattle.recode_log.specs.declared.line.LogLine.{LogLine}
use Rattle.recode_log.specs.declared.line.LogLine.TheVariants.{Bad, Lost}
use Rattle.test_examples.specs.Calls.{EndsTurn, GainsItems, HasValidFound, PassesOn}

-- ---- the bytes of items

-- the bytes of a line, and then those of output bytes
output_behind_line : (line bs : List ℕ) → output_bytes (map Line line ++ tagged (map Byte bs)) ≡ bs
output_behind_line [] bs = output_bytes-bytes bs
output_behind_line (b ∷ line) bs = output_behind_line line bs

log_before_bytes : (line bs : List ℕ) → log_bytes (map Line line ++ tagged (map Byte bs)) ≡ line
log_before_bytes [] bs = log_bytes-bytes bs
log_before_bytes (b ∷ line) bs = ap (λ l. b ∷ l) (log_before_bytes line bs)

-- what follows from a fact for `Ok`
pub on_ok : {T E P Q : Type 0} (r : Result T E) → (P → Q) → OnOk r P → OnOk r Q
on_ok (Ok x) f h = f h
on_ok (Err e) f h = tt

-- ---- gains

pub no_gains : (output log : List ℕ) → GainsItems output output log log []
no_gains output log = record { written = sym (append-nil output); lined = sym (append-nil log) }

-- what comes to the output alone
pub gains_of_bytes : (output output' log : List ℕ) (bs : List ℕ) → output' ≡ output ++ bs → GainsItems output output' log log (map Byte bs)
gains_of_bytes output output' log bs is = record {
  written = is ∙ ap (λ l. output ++ l) (sym (output_bytes-bytes bs));
  lined = sym (append-nil log) ∙ ap (λ l. log ++ l) (sym (log_bytes-bytes bs));
}

-- the line of a malformed sequence
pub gains_of_bad : (ref : Reference) (offset size : ℕ) (output log log' : List ℕ) → log' ≡ log ++ line_bytes (Bad offset size)
    → GainsItems output output log log' (found_items ref (Found (Bad offset size)))
gains_of_bad ref offset size output log log' is = record {
  written = sym (append-nil output) ∙ ap (λ l. output ++ l) (sym (output_behind_line (line_bytes (Bad offset size)) []));
  lined = is ∙ ap (λ l. log ++ l) (sym (log_before_bytes (line_bytes (Bad offset size)) []));
}

-- the line and the reference of a lost character
pub gains_of_lost : (ref : Reference) (index scalar : ℕ) (output output' log log' : List ℕ) → output' ≡ output ++ reference_bytes ref scalar
    → log' ≡ log ++ line_bytes (Lost index scalar) → GainsItems output output' log log' (found_items ref (Found (Lost index scalar)))
gains_of_lost ref index scalar output output' log log' is lines = record {
  written = is ∙ ap (λ l. output ++ l) (sym (output_behind_line (line_bytes (Lost index scalar)) (reference_bytes ref scalar)));
  lined = lines ∙ ap (λ l. log ++ l) (sym (log_before_bytes (line_bytes (Lost index scalar)) (reference_bytes ref scalar)));
}

pub gains_after : (o o1 o2 l l1 l2 : List ℕ) (s t : List Item) → GainsItems o o1 l l1 s → GainsItems o1 o2 l1 l2 t → GainsItems o o2 l l2 (s ++ t)
gains_after o o1 o2 l l1 l2 s t g h = record {
  written = h.written ∙ ap (λ x. x ++ output_bytes (tagged t)) g.written ∙ append_assoc o (output_bytes (tagged s)) (output_bytes (tagged t))
      ∙ ap (λ x. o ++ x) (sym (output_bytes-append (tagged s) (tagged t)) ∙ ap output_bytes (sym (tagged-append s t)));
  lined = h.lined ∙ ap (λ x. x ++ log_bytes (tagged t)) g.lined ∙ append_assoc l (log_bytes (tagged s)) (log_bytes (tagged t))
      ∙ ap (λ x. l ++ x) (sym (log_bytes-append (tagged s) (tagged t)) ∙ ap log_bytes (sym (tagged-append s t)));
}

-- ---- calls

true_not_false : ¬ (true ≡ false)
true_not_false is = cc is

-- how a call ended says that what it found is valid
pub found_is_valid : (r : ConverterResult) (v : ConverterView) (rest : List ℕ) (last : Bool) (free : ℕ) → ConverterEndsWith v rest last free r → HasValidFound r
found_is_valid InputEmpty v rest last free ends = tt
found_is_valid OutputFull v rest last free ends = tt
found_is_valid (Found line) v rest last free ends = ends.0

-- a call takes what it owed of these bytes, and owes the rest
owed_of_part : (v v' : ConverterView) (last : Bool) (bytes rest : List ℕ) (items : List Item) → ConvertsPart v v' last bytes rest items
    → owes v bytes ≡ items ++ owes v' rest
owed_of_part v v' last bytes rest items law =
    ap (owes v) (sym (append-nil bytes)) ∙ law.owed [] (λ _. refl) ∙ ap (λ l. items ++ owes v' l) (append-nil rest)

-- what gave an item owes less
owes_fewer : (v v' : ConverterView) (last : Bool) (bytes rest : List ℕ) (items : List Item) → ConvertsPart v v' last bytes rest items
    → 0 < length items → length (owes v' rest) < length (owes v bytes)
owes_fewer v v' last bytes rest items law some =
    let all : length (owes v bytes) ≡ length items + length (owes v' rest) = ap length (owed_of_part v v' last bytes rest items law) ∙ length-append items (owes v' rest) in
    omega (arith, all, some)

-- something was found
found_some : (ref : Reference) (line : LogLine) → 0 < length (found_items ref (Found line))
found_some ref (Bad offset size) = omega arith
found_some ref (Lost index scalar) = omega arith

-- a call that fills a room of 4 bytes, or finds something, owes less after it
pub turn_ends : (r : ConverterResult) (ref : Reference) (v v' : ConverterView) (last : Bool) (src rest written : List ℕ) (free : ℕ)
    → ConvertsPart v v' last src rest (map Byte written ++ found_items ref r) → ConverterEndsWith v' rest last free r → 4 ≤ free + length written → EndsTurn v v' last src rest r
turn_ends InputEmpty ref v v' last src rest written free law ends room = ends
turn_ends OutputFull ref v v' last src rest written free law ends room =
    let size : length (map Byte written ++ []) ≡ length written = ap length (append-nil (map Byte written)) ∙ length-map written Byte in
    let full : free < 4 = ends.0 in
    let some : 0 < length (map Byte written ++ []) = omega (arith, size, full, room) in
    record { over = ends.1; fewer = owes_fewer v v' last src rest _ law some }
turn_ends (Found line) ref v v' last src rest written free law ends room =
    let size : length (map Byte written ++ found_items ref (Found line)) ≡ length (map Byte written) + length (found_items ref (Found line)) = length-append (map Byte written) _ in
    let found : 0 < length (found_items ref (Found line)) = found_some ref line in
    let some : 0 < length (map Byte written ++ found_items ref (Found line)) = omega (arith, size, found) in
    record { over = ends.1; fewer = owes_fewer v v' last src rest _ law some }

-- a call whose bytes stand at the start of a room ends the turn
pub room_ends : (r : ConverterResult) (ref : Reference) (v v' : ConverterView) (last : Bool) (src rest room : List ℕ) (n : ℕ)
    → ConvertsPart v v' last src rest (map Byte (take n room) ++ found_items ref r) → ConverterEndsWith v' rest last (length room - n) r → n ≤ length room → 4 ≤ length room
    → EndsTurn v v' last src rest r
room_ends r ref v v' last src rest room n law ends within four =
    let size : length (take n room) ≡ n = length-take-le n room within in
    let all : 4 ≤ (length room - n) + length (take n room) = omega (arith, size, within, four) in
    turn_ends r ref v v' last src rest (take n room) (length room - n) law ends all

-- a turn that ended with all converted left nothing
pub turn_all : (r : ConverterResult) (v v' : ConverterView) (last : Bool) (bytes rest : List ℕ) → r ≡ InputEmpty → EndsTurn v v' last bytes rest r → rest ≡ []
turn_all InputEmpty v v' last bytes rest is ends = ends.all
turn_all OutputFull v v' last bytes rest is ends = absurd (cc is)
turn_all (Found line) v v' last bytes rest is ends = absurd (cc is)

-- no call takes nothing
pub passes_none : (v : ConverterView) (last : Bool) (src output log : List ℕ) → (v.ended ≡ true → (src ≡ []) × (last ≡ true)) → PassesOn v v last src src output output log log
passes_none v last src output log ended = record { items = []; law = part_none v last src (λ is. ((ended is).1, (ended is).0)); gains = no_gains output log }

-- calls for some bytes, and then calls for what they left and for more, if those were not the last
pub passes_after : (v v1 v2 : ConverterView) (last1 last : Bool) (a r1 b r2 o o1 o2 l l1 l2 : List ℕ) → (last1 ≡ true → (last ≡ true) × (b ≡ []))
    → PassesOn v v1 last1 a r1 o o1 l l1 → PassesOn v1 v2 last (r1 ++ b) r2 o1 o2 l1 l2 → PassesOn v v2 last (a ++ b) r2 o o2 l l2
passes_after v v1 v2 last1 last a r1 b r2 o o1 o2 l l1 l2 more p q = record {
  items = p.items ++ q.items;
  law = part_then v v1 v2 last1 last a r1 b r2 p.items q.items more p.law q.law;
  gains = gains_after o o1 o2 l l1 l2 p.items q.items p.gains q.gains;
}

-- one call
pub passes_once : (v v' : ConverterView) (last : Bool) (src rest bytes o o1 o2 l l2 : List ℕ) (ref form : Reference) (r : ConverterResult) → form ≡ ref
    → ConvertsPart v v' last src rest (map Byte bytes ++ found_items ref r) → o1 ≡ o ++ bytes → GainsItems o1 o2 l l2 (found_items form r) → PassesOn v v' last src rest o o2 l l2
passes_once v v' last src rest bytes o o1 o2 l l2 ref form r is law more found = record {
  items = map Byte bytes ++ found_items ref r;
  law = law;
  gains = gains_after o o1 o2 l l l2 (map Byte bytes) (found_items ref r) (gains_of_bytes o o1 l bytes more) (subst (λ f. GainsItems o1 o2 l l2 (found_items f r)) is found);
}

-- calls before the first byte
pub passes_start : (v : ConverterView) (output log : List ℕ) → v.ended ≡ false → PassesOn v v false [] [] output output log log
passes_start v output log open_ = passes_none v false [] output log (λ is. absurd (true_not_false (sym is ∙ open_)))

-- calls for what is left
pub passes_on : (v v1 v2 : ConverterView) (last : Bool) (a r1 r2 o o1 o2 l l1 l2 : List ℕ)
    → PassesOn v v1 last a r1 o o1 l l1 → PassesOn v1 v2 last r1 r2 o1 o2 l1 l2 → PassesOn v v2 last a r2 o o2 l l2
passes_on v v1 v2 last a r1 r2 o o1 o2 l l1 l2 p q =
    let whole : PassesOn v v2 last (a ++ []) r2 o o2 l l2 =
    passes_after v v1 v2 last last a r1 [] r2 o o1 o2 l l1 l2 (λ is. (is, refl)) p (subst (λ x. PassesOn v1 v2 last x r2 o1 o2 l1 l2) (sym (append-nil r1)) q) in
    subst (λ x. PassesOn v v2 last x r2 o o2 l l2) (append-nil a) whole

-- calls for all that is left
pub passes_to_end : (v v1 v2 : ConverterView) (last : Bool) (a r1 r2 o o1 o2 l l1 l2 : List ℕ) → r2 ≡ []
    → PassesOn v v1 last a r1 o o1 l l1 → PassesOn v1 v2 last r1 r2 o1 o2 l1 l2 → PassesOn v v2 last a [] o o2 l l2
passes_to_end v v1 v2 last a r1 r2 o o1 o2 l l1 l2 none p q =
    subst (λ x. PassesOn v v2 last a x o o2 l l2) none (passes_on v v1 v2 last a r1 r2 o o1 o2 l l1 l2 p q)

-- calls for more bytes, after all of those before
pub passes_more : (v v1 v2 : ConverterView) (last : Bool) (a b o o1 o2 l l1 l2 : List ℕ)
    → PassesOn v v1 false a [] o o1 l l1 → PassesOn v1 v2 last b [] o1 o2 l1 l2 → PassesOn v v2 last (a ++ b) [] o o2 l l2
passes_more v v1 v2 last a b o o1 o2 l l1 l2 p q =
    passes_after v v1 v2 false last a [] b [] o o1 o2 l l1 l2 (λ is. absurd (true_not_false (sym is))) p q

-- a policy that does not stop writes all
written_if_unstopped : (p : Policy) (t : List Item) → p ≢ Policy.Stop → written_under p t ≡ t
written_if_unstopped Policy.Decimal t goes = refl
written_if_unstopped Policy.Hexadecimal t goes = refl
written_if_unstopped Policy.Stop t goes = absurd (goes refl)

-- calls for a whole input, and then those that end it, give what the job makes of it
pub converts_whole : (v v1 v2 : ConverterView) (j : Job) (x o o1 o2 l l1 l2 : List ℕ) → IsFreshConverter v j → j.policy ≢ Policy.Stop → PassesOn v v1 false x [] o o1 l l1
    → PassesOn v1 v2 true [] [] o1 o2 l1 l2 → AllIsConverted v2 [] true
    → (o2 ≡ o ++ output_of j x) × (l2 ≡ l ++ log_of j x) × (IsTrue v2.state.verdict.faithful ↔ Faithful j x)
converts_whole v v1 v2 j x o o1 o2 l l1 l2 new goes p q ends =
    let w : PassesOn v v2 true x [] o o2 l l2 = subst (λ y. PassesOn v v2 true y [] o o2 l l2) (append-nil x) (passes_more v v1 v2 true x [] o o1 o2 l l1 l2 p q) in
    let whole : IsWhole v2 = ends.whole refl in
    let owed : owes v x ≡ w.items = owed_of_part v v2 true x [] w.items w.law ∙ ap (λ t. w.items ++ t) whole.written ∙ append-nil w.items in
    let items : w.items ≡ trace j x = sym owed ∙ new.owes_trace x ∙ sym (written_if_unstopped j.policy (whole_trace j x) goes) in
    let kept : WillKeep v x ↔ WillKeep v2 [] = subst (λ y. WillKeep v y ↔ WillKeep v2 []) (append-nil x) (w.law.verdict [] (λ _. refl)) in
    let verdict = new.verdict x in (
      w.gains.written ∙ ap (λ t. o ++ output_bytes (tagged t)) items,
      w.gains.lined ∙ ap (λ t. l ++ log_bytes (tagged t)) items,
      ((λ k. verdict.0 (kept.1 (whole.told.1 k))), (λ k. whole.told.0 (kept.0 (verdict.1 k)))),
    )
