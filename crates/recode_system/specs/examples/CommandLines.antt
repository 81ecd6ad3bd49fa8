-- Worked rows: the words of the program, and a command line that is refused.
use Rattle.std.specs.Prelude.{◌≡◌, ◌∷◌, [], codes, refl}
use Rattle.std.specs.Str.{chars, is_utf8, IsUtf8}
use Rattle.std.specs.Str.Lossy.{utf8_valid_len}
use Rattle.std.proofs.Common.{arith}
use Rattle.std.proofs.lemmas.Str.{utf8_valid_len-IsUtf8}
use Rattle.recode_system.specs.CommandLine.{HasWordNotUtf8, words_with_name}

-- without a word the program has its own name: r, e, c, o, d, e
unnamed : words_with_name [] ≡ (114 ∷ 101 ∷ 99 ∷ 111 ∷ 100 ∷ 101 ∷ []) ∷ []
unnamed = refl

-- a name that is given is kept, even if it is the only word
given_name : words_with_name (codes "r" ∷ []) ≡ codes "r" ∷ []
given_name = refl

-- the words stay in their order
ordered : words_with_name (codes "r" ∷ codes "--from" ∷ codes "utf-8" ∷ []) ≡ codes "r" ∷ codes "--from" ∷ codes "utf-8" ∷ []
ordered = refl

-- no text has the byte FF
ff_begins_no_text : utf8_valid_len (255 ∷ []) ≡ 0
unfolding utf8_valid_len is_utf8 chars
ff_begins_no_text = refl

ff_is_no_text : ¬ (IsUtf8 (255 ∷ []))
ff_is_no_text text = absurd (omega (arith, ff_begins_no_text, utf8_valid_len-IsUtf8 (255 ∷ []) text))

has_word_ff : HasWordNotUtf8 (codes "r" ∷ (255 ∷ []) ∷ [])
has_word_ff = (1, 255 ∷ [], omega arith, refl, ff_is_no_text)
