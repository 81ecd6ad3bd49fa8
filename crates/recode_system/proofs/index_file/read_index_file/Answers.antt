use Rattle.std.proofs.Common.{◌≡◌, ◌≤◌, ◌++◌, ◌+◌, ◌∙◌, ℕ, List, Option, Some, None, [], ap, arith, length, min, take}
use Rattle.std.specs.Prelude.{IfSome, option_map}
use Rattle.std.proofs.lemmas.List.{length-take, take_all}
use Rattle.recode_system.proofs.index_file.read_index_file.Goals as goal

-- a prefix that is shorter than the limit is all
all_of : (limit : ℕ) (items all : List ℕ) → items ≡ take limit all → length items + 1 ≤ limit → items ≡ all
all_of limit items all e small =
    let size : length items ≡ min limit (length all) = ap length e ∙ length-take limit all in
    let short : length all ≤ limit = omega (arith, size, small) in
    e ∙ take_all limit all short

whole : (limit : ℕ) (items : List ℕ) (remaining : Option (List ℕ)) → length items + 1 ≤ limit
    → IfSome (option_map (take limit) remaining) (λ xs. items ≡ [] ++ xs) → IfSome remaining (λ all. items ≡ all)
whole limit items None small h = tt
whole limit items (Some all) small h = all_of limit items all h small

pub returns-in-Ok-read_to_end-clause-whole : goal.returns-in-Ok-read_to_end-clause-whole
returns-in-Ok-read_to_end-clause-whole g c =
    let items : List ℕ = c.read_to_end.new.buf.items in
    let limit : ℕ = c.take.result.limit in
    let short : length items + 1 ≤ limit =
    omega (arith, c.in-Ok-read_to_end.ensures.ok, c.in-Ok.ensures.len, c.if-count-le-GREATEST_INDEX_FILE.true, c.read_to_end.new.buf.ok.0, c.take.ensures.limit) in
    let given : IfSome (option_map (take limit) (g.R.Read.remaining c.args.reader)) (λ xs. items ≡ [] ++ xs) =
    rw (c.take.ensures.inner, c.in-Ok.ensures.items) at c.in-Ok-read_to_end.ensures.bytes in
    whole limit items (g.R.Read.remaining c.args.reader) short given
