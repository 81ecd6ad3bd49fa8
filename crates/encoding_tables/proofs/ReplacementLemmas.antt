-- A rule that copies no text. The replacement encoding gives one error and no text.
use Rattle.std.proofs.Common.{◌≡◌, ℕ, ◌+◌, ◌≤◌, map, Bool, true, false, List, [], ◌++◌, length, sym, ap, refl, arith, ◌∷◌}
use Rattle.std.specs.Str.{chars}
use Rattle.std.proofs.lemmas.Str.{chars-nil}
use Rattle.encoding_mem.specs.Piece.{Piece, well_formed, malformed_count, text}
use Rattle.encoding_mem.specs.calls.TextRun.{text_len, text_pieces}
use Rattle.encoding_mem.specs.calls.Writing.{encode_utf16_all}
use Rattle.encoding_tables.specs.Replacement.{IsOneError}

pub no_pieces : (pieces : List ℕ → List Piece) (r : List ℕ) → pieces r ≡ text_pieces (chars []) ++ pieces r
no_pieces pieces r = ap (λ cs. text_pieces cs ++ pieces r) (sym chars-nil)

no_length : (is_units : Bool) → text_len is_units [] ≡ 0
no_length true = ap (λ cs. length (encode_utf16_all cs)) chars-nil
no_length false = refl

pub no_room : (is_units : Bool) (needs : ℕ → ℕ) (m : ℕ) → text_len is_units [] + needs m ≤ needs (0 + m)
no_room is_units needs m = let same : needs (0 + m) ≡ needs m = ap needs (omega arith) in omega (arith, no_length is_units, same)

-- The replacement encoding gives one error and no text.

none_malformed : (x : List ℕ) → malformed_count (map (λ _. well_formed 1 []) x) ≡ 0
none_malformed [] = refl
none_malformed (b ∷ x) = none_malformed x

no_text : (x : List ℕ) → text (map (λ _. well_formed 1 []) x) ≡ []
no_text [] = refl
no_text (b ∷ x) = no_text x

pub is_one_error : IsOneError
is_one_error b x = (ap (λ n. 1 + n) (none_malformed x), ap (λ t. 0xFFFD ∷ t) (no_text x))
