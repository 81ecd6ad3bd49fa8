-- Indexes that were in the tables before a load are there after it.
use Rattle.std.proofs.Common.{◌≡◌, ◌∙◌, ℕ, List, [], ◌∷◌, ap, Option, Bool, true, false, is_some}
use Rattle.std.specs.Prelude.{if◌then◌else◌}
use Rattle.std.specs.Bool.{MatchBool}
use Rattle.encoding_front.specs.Encodings.{AreThere}
use Rattle.encoding_tables.specs.IndexLists.{IndexLists, has}
use Rattle.encoding_tables.specs.Kinds.{is_ranges}
use Rattle.encoding_tables.specs.declared.index_kind.IndexKind.{IndexKind}
use Rattle.recode.specs.Program.{AreKept, IsSameIndex}

there_still : (b : Bool) (rows rows' : Option (List (ℕ × ℕ))) (flat flat' : Option (List ℕ)) → MatchBool b (rows' ≡ rows) (flat' ≡ flat) → (if b then is_some rows' else is_some flat') ≡ (if b then is_some rows else is_some flat)
there_still true rows rows' flat flat' same = ap is_some same
there_still false rows rows' flat flat' same = ap is_some same

-- of one index both tables have it, or both do not
pub has_still : (old new : IndexLists) (kind : IndexKind) → IsSameIndex old new kind → has new kind ≡ has old kind
has_still old new kind same = there_still (is_ranges kind) _ _ _ _ same

-- what is there stays there
pub there_kept : (old new : IndexLists) (kinds : List IndexKind) → AreKept old new → AreThere old kinds → AreThere new kinds
there_kept old new [] kept there = tt
there_kept old new (k ∷ ks) kept there = (has_still old new k (kept k there.0) ∙ there.0, there_kept old new ks kept there.1)
