-- What the values of options stand for.
use Rattle.std.specs.Prelude.{ℕ, Bool, Option, Some, None, codes, ◌&&◌, nat_le}
use Rattle.std.specs.Prelude.{if◌then◌else◌}
use Rattle.std.specs.Str.{bytes_eq}
use Rattle.std.specs.Str.Parse.{digits_value}
use Rattle.clap.specs.Words.{Text}
use Rattle.clap.specs.ValueTests.{is_numeral}
use Rattle.recode_words.specs.declared.words.MarkWord.{MarkWord}
use Rattle.recode_words.specs.declared.words.MarkWord.TheVariants.{Sniff, Remove, Keep}
use Rattle.recode_words.specs.declared.words.PolicyWord.{PolicyWord}
use Rattle.recode_words.specs.declared.words.PolicyWord.TheVariants.{Decimal, Hexadecimal, Stop}
use Rattle.recode_words.specs.declared.words.PivotWord.{PivotWord}
use Rattle.recode_words.specs.declared.words.PivotWord.TheVariants.{Utf8, Utf16}

-- what is to be done with a byte order mark, if a text is the word `sniff`, `remove` or `keep`
abbrev pub mark_named : Text → Option MarkWord
mark_named text = if bytes_eq text (codes "sniff") then Some Sniff
    else (if bytes_eq text (codes "remove") then Some Remove
    else (if bytes_eq text (codes "keep") then Some Keep else None))

-- what is to be done about an unmappable character, if a text is the word `decimal`, `hexadecimal`
-- or `stop`
abbrev pub policy_named : Text → Option PolicyWord
policy_named text = if bytes_eq text (codes "decimal") then Some Decimal
    else (if bytes_eq text (codes "hexadecimal") then Some Hexadecimal
    else (if bytes_eq text (codes "stop") then Some Stop else None))

-- the form of the text between decoder and encoder, if a text is the word `utf8` or `utf16`
abbrev pub pivot_of : Text → Option PivotWord
pivot_of text = if bytes_eq text (codes "utf8") then Some Utf8
    else (if bytes_eq text (codes "utf16") then Some Utf16 else None)

-- the text is a limit: one or more decimal digits, and nothing else, of a number up to 2^48
abbrev pub is_limit : Text → Bool
is_limit text = is_numeral text && nat_le (digits_value 10 text) 281474976710656

-- the limit, in bytes of input, that a text writes in decimal digits, if it is one up to 2^48
abbrev pub limit_of : Text → Option ℕ
limit_of text = if is_limit text then Some (digits_value 10 text) else None
