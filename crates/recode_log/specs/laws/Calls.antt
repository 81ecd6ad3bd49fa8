-- What a history passed after calls more.
use Rattle.std.proofs.Common.{◌≡◌, ℕ, List, [], ◌∷◌, ◌++◌, Bool, refl, ap, ◌∙◌, append-nil, sym}
use Rattle.std.specs.List.{concat}
use Rattle.std.proofs.lemmas.List.{append_cancel_left}
use Rattle.std.proofs.lemmas.List.Folds.{concat-append}
use Rattle.recode_log.specs.Call.{Call, Passed, Failed, Flush, passed_by}

-- what the calls of two histories in a row passed
pub passed_by-append : (calls calls' : List Call) → passed_by (calls ++ calls') ≡ passed_by calls ++ passed_by calls'
passed_by-append [] calls' = refl
passed_by-append (Passed room bytes ∷ calls) calls' = ap (λ l. bytes ∷ l) (passed_by-append calls calls')
passed_by-append (Failed room ∷ calls) calls' = passed_by-append calls calls'
passed_by-append (Flush failed ∷ calls) calls' = passed_by-append calls calls'

module _ (before after : List Call) where
  -- calls passed the bytes by which a history grew
  pub passed_calls : (calls : List Call) (bytes : List ℕ) → after ≡ before ++ calls → concat (passed_by after) ≡ concat (passed_by before) ++ bytes → concat (passed_by calls) ≡ bytes
  passed_calls calls bytes made grew =
      let all : concat (passed_by after) ≡ concat (passed_by before) ++ concat (passed_by calls) =
      ap (λ l. concat (passed_by l)) made ∙ ap concat (passed_by-append before calls) ∙ concat-append (passed_by before) (passed_by calls) in
      append_cancel_left (concat (passed_by before)) (concat (passed_by calls)) bytes (sym all ∙ grew)

  -- a read or a write that did not fail passed its bytes
  pub passed_one : (room : ℕ) (bytes : List ℕ) → after ≡ before ++ (Passed room bytes ∷ []) → passed_by after ≡ passed_by before ++ (bytes ∷ [])
  passed_one room bytes once = ap passed_by once ∙ passed_by-append before (Passed room bytes ∷ [])

  -- one that failed passed none
  pub passed_failed : (room : ℕ) → after ≡ before ++ (Failed room ∷ []) → passed_by after ≡ passed_by before
  passed_failed room once = ap passed_by once ∙ passed_by-append before (Failed room ∷ []) ∙ append-nil (passed_by before)

  -- nor does a flush
  pub passed_flush : (failed : Bool) → after ≡ before ++ (Flush failed ∷ []) → passed_by after ≡ passed_by before
  passed_flush failed once = ap passed_by once ∙ passed_by-append before (Flush failed ∷ []) ∙ append-nil (passed_by before)

  -- so all that was passed grew by the bytes of one call more
  pub concat_one : (room : ℕ) (bytes : List ℕ) → after ≡ before ++ (Passed room bytes ∷ []) → concat (passed_by after) ≡ concat (passed_by before) ++ bytes
  concat_one room bytes once =
      ap concat (passed_one room bytes once) ∙ concat-append (passed_by before) (bytes ∷ []) ∙ ap (λ l. concat (passed_by before) ++ l) (append-nil bytes)
