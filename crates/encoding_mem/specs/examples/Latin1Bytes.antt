-- Which bytes stand side by side in Latin1.
use Rattle.std.specs.Prelude.{true, false}
use Rattle.std.proofs.Common.{◌≡◌, refl}
use Rattle.encoding_mem.specs.Latin1Bytes.{is_latin1_pair}

-- the letter a before e with acute, which is C3 A9, and that before the end of the text
example_letters : is_latin1_pair 0x61 0xC3 ≡ true
example_letters = refl

example_inside : is_latin1_pair 0xC3 0xA9 ≡ true
example_inside = refl

example_behind : is_latin1_pair 0xA9 0 ≡ true
example_behind = refl

-- U+0080 is C2 80, and U+00FF is C3 BF
example_first : is_latin1_pair 0xC2 0x80 ≡ true
example_first = refl

example_last : is_latin1_pair 0xC3 0xBF ≡ true
example_last = refl

-- U+0100 is C4 80; C1 begins nothing; a lead has one continuation byte, and needs it
example_above : is_latin1_pair 0xC4 0x80 ≡ false
example_above = refl

example_below : is_latin1_pair 0xC1 0xBF ≡ false
example_below = refl

example_two : is_latin1_pair 0x80 0xBF ≡ false
example_two = refl

example_none : is_latin1_pair 0xC3 0x7F ≡ false
example_none = refl

example_letter : is_latin1_pair 0xC2 0xC0 ≡ false
example_letter = refl
