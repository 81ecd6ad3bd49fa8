use Rattle.std.proofs.Common.{◌++◌, ◌+◌, []}
use Rattle.recode_places.proofs.FitsLemmas.{goes_err}
use Rattle.recode_places.proofs.ReadsLemmas.{named_after, names_both, reads_then}
use Rattle.recode_places.proofs.log_match.LogMatch.names_malformed.Goals as goal

pub returns-in_ok-names_character-clause-named : goal.returns-in_ok-names_character-clause-named
returns-in_ok-names_character-clause-named g c =
    let first = rw c.if-branch.true at c.in_ok-names_sequence.ensures.named in
    let second = c.in_ok-names_character.ensures.named in
    (first.0 ++ second.0, reads_then _ _ _ first.0 second.0 first.1 second.1, names_both c.args.index c.args.offset c.args.length _ first.0 second.0 first.2 second.2)

pub returns-else-branch-clause-named : goal.returns-else-branch-clause-named
returns-else-branch-clause-named g c =
    let first = rw c.if-branch.false at c.in_ok-names_sequence.ensures.named in
    named_after _ _ _ _ c.args.index c.args.offset c.args.length first.0 first.1 first.2 c.names_character-else-branch.ensures.named

pub returns-in_err-names_sequence-clause-fits : goal.returns-in_err-names_sequence-clause-fits
returns-in_err-names_sequence-clause-fits g c = λ ps some h. goes_err _ _ _ _ c.from_residual.ensures.1 (c.in_err-names_sequence.ensures.fits c.args.index ps some h)

pub returns-in_err-names_character-clause-fits : goal.returns-in_err-names_character-clause-fits
returns-in_err-names_character-clause-fits g c = λ ps some h.
    goes_err _ _ _ _ c.from_residual-in_err-names_character.ensures.1
    (c.in_err-names_character.ensures.fits (c.args.offset + c.args.length) [] ps (c.in_ok-names_sequence.ensures.fits c.args.index ps some h))

pub returns-in_ok-names_character-clause-fits : goal.returns-in_ok-names_character-clause-fits
returns-in_ok-names_character-clause-fits g c = λ ps some h.
    c.in_ok-names_character.ensures.fits (c.args.offset + c.args.length) [] ps (c.in_ok-names_sequence.ensures.fits c.args.index ps some h)

pub returns-else-branch-clause-fits : goal.returns-else-branch-clause-fits
returns-else-branch-clause-fits g c = λ ps some h.
    c.names_character-else-branch.ensures.fits (c.args.offset + c.args.length) [] ps (c.in_ok-names_sequence.ensures.fits c.args.index ps some h)
