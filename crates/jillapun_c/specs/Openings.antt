-- What a call does with tables and an encoding.
use Rattle.std.specs.Prelude.{◌≡◌, ◌⊎◌, ℕ}
use Rattle.encoding_tables.specs.IndexLists.{IndexLists}
use Rattle.encoding_front.specs.Encodings.{IsReady}
use Rattle.encoding_front.specs.declared.encoding.Encoding.{Encoding}
use Rattle.jillapun_c.specs.declared.status.TheConstants.{NOT_READY}

-- the call goes on, if the tables have each index that the encoding needs
abbrev pub IfReady : IndexLists → Encoding → (Then : Type 0) → (status : ℕ) → Type 0
IfReady tables e Then status = (IsReady tables e × Then) ⊎ ((¬ (IsReady tables e)) × (status ≡ NOT_READY))
