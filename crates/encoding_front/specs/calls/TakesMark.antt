-- A look for a mark.
use Rattle.std.specs.Prelude.{◌≡◌, ℕ, ◌+◌, ◌≤◌, Bool, false, List, [], length, Option, Some, None}
use Rattle.encoding_mem.specs.Piece.{AreWellFormed}
use Rattle.encoding_mem.specs.calls.Decoding.{DecoderState, Takes, Waits}
use Rattle.encoding_mem.specs.declared.codec.room.OutputUnit.{OutputUnit}
use Rattle.encoding_front.specs.calls.Seeking.{nothing_sought}
use Rattle.encoding_front.specs.declared.seeking.BomSet.{BomSet}

-- room that is enough before n bytes were read is enough for those that follow
abbrev pub LeavesRoom : (before after : OutputUnit → ℕ → ℕ) → ℕ → Type 0
LeavesRoom before after n = (k : OutputUnit) (m : ℕ) → after k m ≤ before k (n + m)

-- `None` says that all is held, and that more bytes decide. Else so many bytes were read, and nothing is sought.
abbrev pub TakesMark : (before after : DecoderState) (src : List ℕ) (last : Bool) → BomSet → Option ℕ → Type 0
TakesMark before after src last sought None = (last ≡ false) × Waits after.pieces after.pending × Takes AreWellFormed before.pieces after.pieces src last before.pending after.pending (length src) (λ t. t ≡ []) × LeavesRoom before.needs after.needs (length src)
TakesMark before after src last sought (Some n) = (sought ≡ nothing_sought) × Takes AreWellFormed before.pieces after.pieces src last before.pending after.pending n (λ t. t ≡ []) × LeavesRoom before.needs after.needs n
