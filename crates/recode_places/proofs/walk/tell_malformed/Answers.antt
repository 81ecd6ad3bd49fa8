use Rattle.std.proofs.Common.{◌∙◌, arith, sym}
use Rattle.std.proofs.lemmas.Bool.{false≢true}
use Rattle.recode_places.specs.calls.FatesViews.{asked_by}
use Rattle.recode_places.specs.declared.entry.Finding.TheVariants.{Malformed}
use Rattle.recode_places.proofs.EntryLemmas.{rises_err, rising_none, rising_one}
use Rattle.recode_places.proofs.FatedLemmas.{fated_entry, fated_none}
use Rattle.recode_places.proofs.FoundLemmas.{found_entry}
use Rattle.recode_places.proofs.walk.tell_malformed.Goals as goal

pub returns-in_ok-entry-clause-fates : goal.returns-in_ok-entry-clause-fates
returns-in_ok-entry-clause-fates g c =
    fated_entry (asked_by c.args.choice.now) (asked_by c.malformed.new.self) _ _ (record { place = c.args.place; finding = Malformed c.args.offset c.args.length }) c.malformed.ensures.asked tt c.in_ok-entry.ensures.ok

pub returns-in_err-malformed-clause-fates : goal.returns-in_err-malformed-clause-fates
returns-in_err-malformed-clause-fates g c = fated_none _ _ _ c.malformed.ensures.asked

pub returns-in_err-entry-clause-fates : goal.returns-in_err-entry-clause-fates
returns-in_err-entry-clause-fates g c = rw c.in_err-entry.ensures.err (fated_none _ _ _ c.malformed.ensures.asked)

pub returns-in_ok-entry-clause-rising : goal.returns-in_ok-entry-clause-rising
returns-in_ok-entry-clause-rising g c =
    rising_one _ _ _ _ (record { place = c.args.place; finding = Malformed c.args.offset c.args.length }) c.in_ok-entry.ensures.ok (omega arith) (omega arith)

pub returns-else-branch-clause-rising : goal.returns-else-branch-clause-rising
returns-else-branch-clause-rising g c = rising_none _ _ _ (omega arith)

pub returns-in_err-malformed-clause-rising : goal.returns-in_err-malformed-clause-rising
returns-in_err-malformed-clause-rising g c = rises_err _ _ _ _ c.args.place.index _ _ c.from_residual.ensures.1 (rising_none _ _ _ (omega arith))

pub returns-in_err-entry-clause-rising : goal.returns-in_err-entry-clause-rising
returns-in_err-entry-clause-rising g c =
    rises_err _ _ _ _ c.args.place.index _ _ c.from_residual-in_err-entry.ensures.1 (rw c.in_err-entry.ensures.err (rising_none _ _ _ (omega arith)))

pub returns-in_ok-entry-clause-finds : goal.returns-in_ok-entry-clause-finds
returns-in_ok-entry-clause-finds g c =
    found_entry (asked_by c.args.choice.now) _ _ (record { place = c.args.place; finding = Malformed c.args.offset c.args.length }) c.in_ok-entry.ensures.ok

pub returns-else-branch-clause-finds : goal.returns-else-branch-clause-finds
returns-else-branch-clause-finds g c = λ none. absurd (false≢true (sym c.if-branch.false ∙ c.in_ok-malformed.ensures.told none))
