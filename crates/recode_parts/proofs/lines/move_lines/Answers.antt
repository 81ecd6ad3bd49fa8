use Rattle.std.proofs.Common.{◌-◌, ◌==◌, arith, drop, length, refl, sym, take}
use Rattle.std.proofs.lemmas.List.{take_rest}
use Rattle.std.proofs.lemmas.List.Quantifiers.{position-Some}
use Rattle.recode_parts.proofs.LogLemmas.{no_line_behind, not_moved, said_at_none}
use Rattle.recode_parts.proofs.MoveLemmas.{moves_next, moves_none, put_within, text_size}
use Rattle.recode_parts.proofs.lines.move_lines.Goals as goal

pub loop-dst-init : goal.loop-dst-init
loop-dst-init c = record { read_within = omega arith; written_within = omega arith; none_yet = λ e. refl; moves = moves_none _ _ }

pub loop-dst-preserved : goal.loop-dst-preserved
loop-dst-preserved c =
    let i = c.loop-dst.invariant in
    let text = c.write_into-size.new.dst in
    let part = c.copy_from_slice.new.self in
    let at = position-Some (λ byte. byte == 10) (take (length c.args.bytes.now - c.loop-dst.read) (drop c.loop-dst.read c.args.bytes.now)) c.in-Some.end 0 (sym c.in-Some.ensures) in
    record {
      read_within = omega (arith, i.read_within, at.0);
      written_within = put_within c.loop-dst.written _ c.write_into-size.result c.loop-dst.dst part i.written_within
          (text_size text part c.write_into-size.result _ c.in_ok-line.line c.write_into-size.ensures.line c.write_into-size.ensures.size c.copy_from_slice.ensures.after (omega arith));
      none_yet = λ e. absurd (omega (arith, e));
      moves = moves_next _ _ c.args.bytes.now c.loop-dst.dst text part c.loop-dst.read _ _ c.loop-dst.written _ c.write_into-size.result _ c.in_ok-logged_line.field-0 c.in_ok-line.line
          i.moves c.in_ok-logged_line.ensures.logged c.in_ok-logged_line.ensures.line (omega arith) c.in_ok-line.ensures.some c.in_ok-line.ensures.valid c.write_into-size.ensures.line c.write_into-size.ensures.size c.copy_from_slice.ensures.after (omega arith) i.written_within;
    }

pub returns-in_err-logged_line-clause-none : goal.returns-in_err-logged_line-clause-none
returns-in_err-logged_line-clause-none c =
    let at = position-Some (λ byte. byte == 10) (take (length c.args.bytes.now - c.loop-dst.read) (drop c.loop-dst.read c.args.bytes.now)) c.in-Some.end 0 (sym c.in-Some.ensures) in
    said_at_none _ c.args.before.bytes c.args.before.characters c.args.bytes.now (λ more log. no_line_behind _ _ c.lines_end_in_feeds.ensures c.lines_are_told_apart.ensures c.args.bytes.now more _ _ c.loop-dst.read c.in-Some.end _ c.loop-dst.invariant.moves (take_rest c.args.bytes.now c.loop-dst.read) (sym c.in-Some.ensures)
    (λ l logged moved same. c.in_err-logged_line.ensures.none l logged same) (omega (arith, at.0)) log)

pub returns-in_err-line-clause-none : goal.returns-in_err-line-clause-none
returns-in_err-line-clause-none c =
    let at = position-Some (λ byte. byte == 10) (take (length c.args.bytes.now - c.loop-dst.read) (drop c.loop-dst.read c.args.bytes.now)) c.in-Some.end 0 (sym c.in-Some.ensures) in
    let is = c.in_ok-logged_line.ensures in
    said_at_none _ c.args.before.bytes c.args.before.characters c.args.bytes.now (λ more log. no_line_behind _ _ c.lines_end_in_feeds.ensures c.lines_are_told_apart.ensures c.args.bytes.now more _ _ c.loop-dst.read c.in-Some.end _ c.loop-dst.invariant.moves (take_rest c.args.bytes.now c.loop-dst.read) (sym c.in-Some.ensures)
    (not_moved _ _ c.lines_end_in_feeds.ensures c.lines_are_told_apart.ensures c.in_ok-logged_line.field-0 _ is.logged is.line c.in_err-line.ensures.none) (omega (arith, at.0)) log)
