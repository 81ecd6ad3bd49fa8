-- Whether the error of replacement was returned, by number, as it is saved.
use Rattle.std.specs.Prelude.{ℕ, ◌==◌, Bool, List, []}
use Rattle.encoding_mem.specs.calls.DecodedLength.{decoded_length_replacement}
use Rattle.encoding_mem.specs.calls.Resuming.{Reading, reading_after}
use Rattle.encoding_tables.specs.laws.Replacement.{replacement_left, replacement_needs}

-- whether the error was returned, by number: 1 says so
abbrev pub is_error_returned : ℕ → Bool
is_error_returned n = n == 1

-- how the bytes to come are read in replacement if it is resumed whether the error was returned
abbrev pub resumed_replacement : ℕ → List ℕ → Reading
resumed_replacement number pending =
    reading_after (replacement_left (is_error_returned number)) (replacement_needs (is_error_returned number)) decoded_length_replacement []
