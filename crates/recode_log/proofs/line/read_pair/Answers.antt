use Rattle.std.proofs.Common.{◌∙◌, arith}
use Rattle.recode_log.proofs.LineLemmas.{position-pair, parts_of_pair, pair_of_parts}
use Rattle.recode_log.proofs.line.read_pair.Goals as goal

pub returns-in_err-space-clause-only : goal.returns-in_err-space-clause-only
returns-in_err-space-clause-only c = λ offset value small fits same.
    let found = c.in_err-space.ensures ∙ position-pair c.args.bytes.now offset value small same in
    grind arith

pub returns-in_err-offset-clause-only : goal.returns-in_err-offset-clause-only
returns-in_err-offset-clause-only c = λ offset value small fits same.
    let parts = parts_of_pair c.args.bytes.now c.in_ok-space.space offset value small same c.in_ok-space.ensures in
    let read = c.in_err-offset.ensures.only offset small parts.0 in
    grind arith

pub returns-in_err-value-clause-only : goal.returns-in_err-value-clause-only
returns-in_err-value-clause-only c = λ offset value small fits same.
    let parts = parts_of_pair c.args.bytes.now c.in_ok-space.space offset value small same c.in_ok-space.ensures in
    let read = c.in_err-value.ensures.only value fits parts.1 in
    grind arith

pub returns-clause-pair : goal.returns-clause-pair
returns-clause-pair c = pair_of_parts c.args.bytes.now c.in_ok-space.space _ _ c.in_ok-space.ensures c.in_ok-offset.ensures.digits c.in_ok-value.ensures.digits

pub returns-clause-only : goal.returns-clause-only
returns-clause-only c = λ offset value small fits same.
    let parts = parts_of_pair c.args.bytes.now c.in_ok-space.space offset value small same c.in_ok-space.ensures in
    let prefix = c.in_ok-offset.ensures.only offset small parts.0 in
    let behind = c.in_ok-value.ensures.only value fits parts.1 in
    grind arith
