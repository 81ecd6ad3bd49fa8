use Rattle.std.proofs.Common.{ap, ◌≡◌, ◌∙◌, ◌+◌, ◌++◌, ◌∷◌, [], arith, refl, slice_set, take}
use Rattle.std.proofs.lemmas.List.{length-set, take_all}
use Rattle.std.proofs.lemmas.Bool.{ne_eqb}
use Rattle.std.proofs.lemmas.Grind.{take-set_at}
use Rattle.recode_places.proofs.LogLemmas.{has_read_byte, has_read_none, no_feed, read_line, to_feed, too_long}
use Rattle.recode_places.proofs.log_lines.LogLines.next_line.Goals as goal

pub loop-at-init : goal.loop-at-init
loop-at-init g c = record { read = has_read_none _; room = refl; none = refl }

pub returns-then-byte-eq10-clause-read : goal.returns-then-byte-eq10-clause-read
returns-then-byte-eq10-clause-read g c =
    let i = c.loop-at.invariant in
    let line : take (c.loop-at.at + 1) (slice_set c.loop-at.line c.loop-at.at c.in-Some.byte) ≡ take c.loop-at.at c.loop-at.line ++ (c.in-Some.byte ∷ []) = take-set_at c.loop-at.line c.loop-at.at (c.loop-at.at + 1) c.in-Some.byte refl (omega (arith, i.room)) in
    read_line _ _ _ _ (has_read_byte _ _ _ _ _ i.read (rw c.in-Some.is at c.in_ok-byte.ensures.read)) (to_feed (take c.loop-at.at c.loop-at.line) (ap (λ v. take c.loop-at.at c.loop-at.line ++ (v ∷ [])) c.if-byte-eq10.true) i.none) (rw line at c.of.ensures)

pub loop-at-preserved : goal.loop-at-preserved
loop-at-preserved g c =
    let i = c.loop-at.invariant in
    let line : take (c.loop-at.at + 1) (slice_set c.loop-at.line c.loop-at.at c.in-Some.byte) ≡ take c.loop-at.at c.loop-at.line ++ (c.in-Some.byte ∷ []) = take-set_at c.loop-at.line c.loop-at.at (c.loop-at.at + 1) c.in-Some.byte refl (omega (arith, i.room)) in
    record {
      read = rw line (has_read_byte _ _ _ _ _ i.read (rw c.in-Some.is at c.in_ok-byte.ensures.read));
      room = length-set c.loop-at.line c.loop-at.at c.in-Some.byte ∙ i.room;
      none = rw line (no_feed (take c.loop-at.at c.loop-at.line) c.in-Some.byte i.none (ne_eqb c.in-Some.byte 10 c.if-byte-eq10.false));
    }

pub returns-clause-read : goal.returns-clause-read
returns-clause-read g c =
    let i = c.loop-at.invariant in
    let all : take c.loop-at.at c.loop-at.line ≡ c.loop-at.line = take_all c.loop-at.at c.loop-at.line (omega (arith, i.room)) in
    read_line _ _ _ _ (rw all at i.read) (too_long i.room (rw all at i.none)) c.of-2.ensures
