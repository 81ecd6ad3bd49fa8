-- How a journal is stored, which is asked of each type of a ghost field.
use Rattle.std.specs.Prelude.{◌≡◌, ◌⊎◌, List, refl}
use Rattle.std.specs.Coded.{Coded, code_by, coded⊎, coded_list}
use Rattle.std.proofs.Common.{inl, inr}
use Rattle.recode_log.specs.Call.{Call}
use Rattle.recode_log.specs.Journal.{Entry, AtReader, AtWriter, AtLog}
use Rattle.recode_log.specs.calls.CallCode.{call_code}

-- an entry as its parts
abbrev pub entry_parts : Entry → Call ⊎ (Call ⊎ Call)
entry_parts (AtReader call) = inl call
entry_parts (AtWriter call) = inr (inl call)
entry_parts (AtLog call) = inr (inr call)

-- the entry that has these parts
abbrev pub entry_of_parts : Call ⊎ (Call ⊎ Call) → Entry
entry_of_parts (inl call) = AtReader call
entry_of_parts (inr (inl call)) = AtWriter call
entry_of_parts (inr (inr call)) = AtLog call

-- its parts give an entry back
pub entry_of_parts-entry_parts : (e : Entry) → entry_of_parts (entry_parts e) ≡ e
entry_of_parts-entry_parts (AtReader call) = refl
entry_of_parts-entry_parts (AtWriter call) = refl
entry_of_parts-entry_parts (AtLog call) = refl

-- a journal is stored as the list of the parts of its entries
abbrev pub entries_code : Coded (List Entry)
entries_code = coded_list (code_by (Call ⊎ (Call ⊎ Call)) (coded⊎ call_code (coded⊎ call_code call_code)) entry_parts entry_of_parts entry_of_parts-entry_parts)
