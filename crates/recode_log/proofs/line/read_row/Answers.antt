use Rattle.std.proofs.Common.{◌∙◌, None, Some, codes, sym}
use Rattle.std.proofs.lemmas.Bool.Decides.{Decides-eqb}
use Rattle.std.proofs.lemmas.Option.{IfSome_then}
use Rattle.std.proofs.lemmas.Slice.Eq.{strip_prefix_is, strip_suffix_is}
use Rattle.recode_log.proofs.LineLemmas.{row_bytes-parts, pair-from_row, row-from_pair}
use Rattle.recode_log.proofs.line.read_row.Goals as goal

pub returns-in_err-strip_prefix-clause-only : goal.returns-in_err-strip_prefix-clause-only
returns-in_err-strip_prefix-clause-only c = λ offset value small fits same.
    absurd (strip_prefix_is Decides-eqb c.args.bytes.now c.args.word.now None c.in_err-strip_prefix.ensures.cases _ (sym same ∙ row_bytes-parts _ offset value))

pub returns-clause-row : goal.returns-clause-row
returns-clause-row c =
    let rest = strip_prefix_is Decides-eqb c.args.bytes.now c.args.word.now (Some c.in_ok-strip_prefix.field-0) c.in_ok-strip_prefix.ensures.cases in
    let pair = strip_suffix_is Decides-eqb c.in_ok-strip_prefix.field-0.now (codes "\n") (Some c.in_ok-strip_suffix.field-0) c.in_ok-strip_suffix.ensures.cases in
    IfSome_then c.read_pair.result c.read_pair.ensures.pair (λ numbers same. row-from_pair _ _ _ _ numbers.0 numbers.1 rest pair same)

pub returns-clause-only : goal.returns-clause-only
returns-clause-only c = λ offset value small fits same.
    let rest = strip_prefix_is Decides-eqb c.args.bytes.now c.args.word.now (Some c.in_ok-strip_prefix.field-0) c.in_ok-strip_prefix.ensures.cases in
    let pair = strip_suffix_is Decides-eqb c.in_ok-strip_prefix.field-0.now (codes "\n") (Some c.in_ok-strip_suffix.field-0) c.in_ok-strip_suffix.ensures.cases in
    c.read_pair.ensures.only offset value small fits (pair-from_row _ _ _ offset value (same ∙ rest) pair)
