-- What the calls for a chunk of the input do.
use Rattle.std.specs.Prelude.{◌≡◌, ◌↔◌, IsTrue, ℕ, ◌+◌, ◌-◌, ◌*◌, List, [], ◌++◌, length, Bool, true, false}
use Rattle.recode.specs.State.{State, WillBeFaithful, characters_with, to_write}
use Rattle.recode.specs.Step.{Advances, IsNearlyDecided}
use Rattle.recode.specs.Devices.{Written}
use Rattle.recode.specs.WrittenItems.{WritesItemsFor}
use Rattle.recode.specs.calls.TraceToWrite.{AreSound}
use Rattle.recode.specs.calls.Verdict.{CanTell}
use Rattle.recode.specs.Work.{TakesAtLeast, TakesCalls}

-- More bytes can be converted.
pub record CanConvert (s : State) : Type 0 where
  pub open_ : s.finished ≡ false
  pub sound : AreSound s.decoder.pending s.counts
  pub tells : CanTell s.verdict s.coding s.set []

-- All bytes of a chunk are read: more can be converted, or after the last nothing is left to write, all characters are
-- counted, and the verdict is known.
pub record IsDoneWith (s : State) (last : Bool) : Type 0 where
  pub settled : IsNearlyDecided s.decoder
  pub ready : last ≡ false → CanConvert s
  pub end : last ≡ true → to_write s [] ≡ []
  pub counted : last ≡ true → characters_with s [] ≡ s.counts.index
  pub told : last ≡ true → WillBeFaithful s [] ↔ IsTrue s.verdict.faithful

-- A chunk was converted. What was still to be written for it and what comes after it (nothing after the last) is what was
-- written, then what is still to be written now. Calls of codecs were at most 3, with 4 for each character and 2 for each
-- item. They were at least 2, with 3 for each malformed sequence and one for each lost character.
pub record ConvertsChunk (before after : Written) (s s' : State) (chunk : List ℕ) (last : Bool) : Type 0 where
  pub counted : s'.counts.read ≡ s.counts.read + length chunk
  pub target : s'.coding ≡ s.coding
  pub policy : s'.policy ≡ s.policy
  pub sound : AreSound s'.decoder.pending s'.counts
  pub source : (r : List ℕ) → (last ≡ true → r ≡ []) → s.source (chunk ++ r) ≡ s'.source r
  pub characters : (r : List ℕ) → (last ≡ true → r ≡ []) → characters_with s (chunk ++ r) ≡ characters_with s' r
  pub pays : WritesItemsFor before after s.counts s'.counts s.policy last (λ r. to_write s (chunk ++ r)) (to_write s')
  pub verdict : (r : List ℕ) → (last ≡ true → r ≡ []) → WillBeFaithful s (chunk ++ r) ↔ WillBeFaithful s' r
  pub calls : (r : List ℕ) → (last ≡ true → r ≡ []) → TakesCalls 3 s.counts s'.counts (to_write s (chunk ++ r)) (to_write s' r)
  pub least : TakesAtLeast (3 * (s'.counts.bad - s.counts.bad) + 2) s.counts s'.counts
  pub advances : last ≡ false → Advances (λ r. s.decoder.pieces (chunk ++ r)) s'.decoder.pieces s.coding s.set s'.set s.counts s'.counts
  pub done : IsDoneWith s' last
