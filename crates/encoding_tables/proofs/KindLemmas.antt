-- A kind is found again by the name of its file. The sizes of the kinds.
use Rattle.std.proofs.Common.{◌≡◌, ℕ, List, sym, ◌∙◌, ap, refl, get_or, ◌<◌, ◌^◌, arith}
use Rattle.std.specs.List.{position_or_len}
use Rattle.std.specs.Str.{bytes_eq}
use Rattle.encoding_tables.specs.FileNames.{file_name_of, FileNamesDiffer}
use Rattle.encoding_tables.specs.declared.index_kind.IndexKind.{IndexKind}
use Rattle.encoding_tables.specs.declared.index_kind.IndexKind.TheVariants.{Ibm866}
use Rattle.encoding_tables.specs.Kinds.{index_size}
use Rattle.encoding_tables.specs.laws.Kinds.{all_kinds}

kind_of_file : List ℕ → IndexKind
kind_of_file name = get_or all_kinds (position_or_len (λ kind. bytes_eq (file_name_of kind) name) all_kinds) Ibm866

again : (kind : IndexKind) → kind_of_file (file_name_of kind) ≡ kind
unfolding kind_of_file all_kinds
again Ibm866 = refl
again _ = refl

pub file_names_differ : FileNamesDiffer
file_names_differ a b same = sym (again a) ∙ ap kind_of_file same ∙ again b

-- The sizes of the kinds.

pub size_is_small : (kind : IndexKind) → index_size kind < 2 ^ 16
size_is_small Ibm866 = omega arith
size_is_small _ = omega arith
