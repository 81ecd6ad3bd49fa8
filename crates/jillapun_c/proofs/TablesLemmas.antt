-- The tables that a handle lends, and tables with no index.
use Rattle.std.proofs.Common.{◌≡◌, Bor, List, ℕ, Option, None, Some, ap, sym, ◌∙◌}
use Rattle.std.proofs.Math.Path.{fun_ext}
use Rattle.std.specs.Prelude.{MatchOption}
use Rattle.encoding_tables.specs.IndexLists.{IndexLists}
use Rattle.encoding_tables.specs.declared.index_kind.IndexKind.{IndexKind}
use Rattle.encoding_front.specs.Encodings.{lists_of, no_lists}
use Rattle.jillapun_c.specs.HeldTables.{held_lists}

pub lists_lent : (r : Option (Bor IndexLists)) (tables : Option IndexLists) → MatchOption r (tables ≡ None) (λ t. tables ≡ Some t.now) → lists_of r ≡ held_lists tables
lists_lent None tables is = ap held_lists (sym is)
lists_lent (Some t) tables is = ap held_lists (sym is)

-- tables in which no index was put are those of no tables
pub none_are : (t : IndexLists) → ((kind : IndexKind) → t.flats kind ≡ None) → t.rows ≡ None → t ≡ no_lists
none_are t flats rows =
    ap (λ (f : IndexKind → Option (List ℕ)). record { flats = f; rows = t.rows }) (fun_ext flats) ∙ ap (λ (r : Option (List (ℕ × ℕ))). record { flats = λ kind. None; rows = r }) rows

pub none_lent : (r : Option (Bor IndexLists)) (t : IndexLists) → r ≡ None → ((kind : IndexKind) → t.flats kind ≡ None) → t.rows ≡ None → t ≡ lists_of r
none_lent r t is flats rows = none_are t flats rows ∙ sym (ap lists_of is)
