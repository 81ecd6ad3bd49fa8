-- Worked rows of `specs/Fault.antt`.
use Rattle.std.proofs.Common.{◌≡◌, ◌∙◌, ◌+◌, [], ◌∷◌, ℕ, Err, Ok, ap, append-nil, codes, length, refl, sym, arith}
use Rattle.std.specs.List.{concat, flat_map}
use Rattle.std.proofs.lemmas.List.{same_from_push}
use Rattle.recode_log.specs.Call.{Call, Failed, Passed}
use Rattle.recode_log.specs.Counted.{failures_of}
use Rattle.recode_log.specs.Line.{line_bytes}
use Rattle.recode_log.specs.declared.counted.Counted.{Counted}
use Rattle.recode_parts.specs.Fault.{EndsInFailedRead, IsJoinFaultOf, IsOfNoLog, failures_of_part, failures_of_whole}
use Rattle.recode_parts.specs.Joins.{MadeReads}
use Rattle.recode_parts.specs.examples.Joins.{device_of_calls, no_line, one-line}
use Rattle.recode_parts.specs.declared.join.JoinFault.TheVariants.{NotALog, Read, Write}

part-read : failures_of_part {T = ℕ} (Err Read) ≡ 1
part-read = refl

part-write : failures_of_part {T = ℕ} (Err Write) ≡ 0
part-write = refl

whole-write : failures_of_whole {T = ℕ} (Err Write) ≡ 1
whole-write = refl

whole-no_log : failures_of_whole {T = ℕ} (Err NotALog) ≡ 0
whole-no_log = refl

whole-ok : failures_of_whole {T = ℕ} (Ok 0) ≡ 0
whole-ok = refl

ends_in_failed_read-second : EndsInFailedRead (Passed 4 (1 ∷ []) ∷ Failed 3 ∷ [])
ends_in_failed_read-second = record { earlier = Passed 4 (1 ∷ []) ∷ []; room = 3; ends = refl }

-- no line begins with the letter r, so the first byte of a message of `recode` is of no log
no_log-message : IsOfNoLog 10 3 [] (codes "r" ∷ [])
no_log-message x of log =
    let begins = of.front (codes "r") (codes "r" ∷ [], refl, refl) in
    let same : flat_map line_bytes log.lines ≡ 114 ∷ begins.0 = sym log.read ∙ begins.1 in
    absurd (no_line log.lines begins.0 same)

-- refuted: `Ok` though a read failed
ok-read_failed : (part part' : Counted ℕ) → MadeReads part part' (Passed 4096 (1 ∷ []) ∷ Failed 4095 ∷ []) → failures_of part' ≡ failures_of part + failures_of_part {T = ℕ} (Ok 0) → ⊥
ok-read_failed part part' made stays = omega (arith, made.counted, stays)

-- refuted: a read fault though no read failed
read-none_failed : IsJoinFaultOf 10 3 (device_of_calls []) (device_of_calls (Passed 4 [] ∷ [])) (device_of_calls []) Read → ⊥
read-none_failed h =
    let last : ◌≡◌ {A = Call} (Passed 4 []) (Failed h.room) = (same_from_push [] h.earlier (Passed 4 []) (Failed h.room) h.ends).1 in
    cc

-- refuted: a log that can be moved is said to be none
no_log-of_a_line : IsOfNoLog 10 3 [] (codes "bad 6 1\n" ∷ []) → ⊥
no_log-of_a_line h =
    let of_line = h (codes "bad 6 1\n") (record {
      front = λ bytes gave. ([], ap concat gave.1 ∙ gave.2 ∙ sym (append-nil bytes));
      whole = λ bytes gave. absurd (omega (arith, ap length (same_from_push [] gave.0 (codes "bad 6 1\n") [] gave.1).1));
    }) one-line.from in
    omega (arith, of_line)
