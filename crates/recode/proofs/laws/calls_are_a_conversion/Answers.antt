use Rattle.recode.specs.laws.Calls.{counted_on, owed_on, taken_characters, taken_report, taken_whole}
use Rattle.recode.proofs.laws.calls_are_a_conversion.Goals as goal

pub returns : goal.returns
returns c = record { owes = owed_on; whole = taken_whole; report = taken_report; so_far = counted_on; characters = taken_characters }
