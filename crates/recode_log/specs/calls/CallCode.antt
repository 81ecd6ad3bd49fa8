-- How a history is stored, which is asked of each type of a ghost field.
use Rattle.std.specs.Prelude.{◌≡◌, ◌⊎◌, ℕ, List, Bool, refl}
use Rattle.std.specs.Coded.{Coded, Coded-set, code_by, coded×, coded⊎, coded_bool, coded_list, coded_ℕ}
use Rattle.std.proofs.Common.{inl, inr}
use Rattle.recode_log.specs.Call.{Call, Passed, Failed, Flush}

-- a call as its parts
abbrev pub call_parts : Call → (ℕ × List ℕ) ⊎ (ℕ ⊎ Bool)
call_parts (Passed room bytes) = inl (room, bytes)
call_parts (Failed room) = inr (inl room)
call_parts (Flush failed) = inr (inr failed)

-- the call that has these parts
abbrev pub call_of_parts : (ℕ × List ℕ) ⊎ (ℕ ⊎ Bool) → Call
call_of_parts (inl p) = Passed p.0 p.1
call_of_parts (inr (inl room)) = Failed room
call_of_parts (inr (inr failed)) = Flush failed

-- its parts give a call back
pub call_of_parts-call_parts : (c : Call) → call_of_parts (call_parts c) ≡ c
call_of_parts-call_parts (Passed room bytes) = refl
call_of_parts-call_parts (Failed room) = refl
call_of_parts-call_parts (Flush failed) = refl

-- a call is stored as its parts
abbrev pub call_code : Coded Call
call_code = code_by ((ℕ × List ℕ) ⊎ (ℕ ⊎ Bool)) (coded⊎ (coded× coded_ℕ (coded_list coded_ℕ)) (coded⊎ coded_ℕ coded_bool)) call_parts call_of_parts call_of_parts-call_parts

-- a history is stored as the list of the parts of its calls
abbrev pub calls_code : Coded (List Call)
calls_code = coded_list call_code

-- histories are equal in one way
pub calls_set : (a b : List Call) → IsProp (a ≡ b)
calls_set a b = Coded-set calls_code a b
