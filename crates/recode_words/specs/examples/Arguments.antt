-- Worked rows: words as a user writes them, and what the definitions make of them.
use Rattle.std.specs.Prelude.{◌≡◌, List, Some, None, ◌∷◌, [], codes, refl, true, false}
use Rattle.clap.specs.Words.{Text, fault_of}
use Rattle.clap.specs.declared.error.kind.ErrorKind.TheVariants.{ArgumentConflict, DisplayHelp, DisplayVersion, InvalidValue, MissingRequiredArgument, UnknownArgument}
use Rattle.clap.proofs.OnLiterals.{clap_on_literals}
use Rattle.recode_words.specs.Command.{recode_app}
use Rattle.recode_words.specs.Given.{given}
use Rattle.recode_words.specs.Meaning.{limit_of, mark_named, pivot_of, policy_named}
use Rattle.recode_words.specs.Request.{asks_list, meant}
use Rattle.recode_words.specs.declared.words.MarkWord.TheVariants.{Sniff, Keep}
use Rattle.recode_words.specs.declared.words.PivotWord.TheVariants.{Utf8, Utf16}
use Rattle.recode_words.specs.declared.words.PolicyWord.TheVariants.{Decimal, Hexadecimal, Stop}

-- recode --from utf-8 --to gbk --mark keep
abbrev kept : List Text
kept = codes "recode" ∷ codes "--from" ∷ codes "utf-8" ∷ codes "--to" ∷ codes "gbk" ∷ codes "--mark" ∷ codes "keep" ∷ []

kept-fault : fault_of recode_app kept ≡ []
unfolding clap_on_literals
kept-fault = refl

kept-from : given (codes "from") kept ≡ Some (codes "utf-8")
unfolding clap_on_literals
kept-from = refl

kept-to : given (codes "to") kept ≡ Some (codes "gbk")
unfolding clap_on_literals
kept-to = refl

kept-indexes : given (codes "indexes") kept ≡ Some (codes ".")
unfolding clap_on_literals
kept-indexes = refl

kept-mark : meant mark_named (codes "mark") kept ≡ Some Keep
unfolding clap_on_literals
kept-mark = refl

kept-unmappable : meant policy_named (codes "unmappable") kept ≡ Some Decimal
unfolding clap_on_literals
kept-unmappable = refl

kept-pivot : meant pivot_of (codes "pivot") kept ≡ Some Utf8
unfolding clap_on_literals
kept-pivot = refl

kept-limit : meant limit_of (codes "limit") kept ≡ Some 281474976710656
unfolding clap_on_literals
kept-limit = refl

-- recode --from a --to b --unmappable hexadecimal
abbrev in_hexadecimal : List Text
in_hexadecimal = codes "recode" ∷ codes "--from" ∷ codes "a" ∷ codes "--to" ∷ codes "b" ∷ codes "--unmappable" ∷ codes "hexadecimal" ∷ []

hexadecimal-unmappable : meant policy_named (codes "unmappable") in_hexadecimal ≡ Some Hexadecimal
unfolding clap_on_literals
hexadecimal-unmappable = refl

-- and with stop, and what is no policy
abbrev to_stop : List Text
to_stop = codes "recode" ∷ codes "--from" ∷ codes "a" ∷ codes "--to" ∷ codes "b" ∷ codes "--unmappable" ∷ codes "stop" ∷ []

stop-unmappable : meant policy_named (codes "unmappable") to_stop ≡ Some Stop
unfolding clap_on_literals
stop-unmappable = refl

no_policy : policy_named (codes "Stop") ≡ None
no_policy = refl

-- recode --limit=0 --to= --pivot=utf16 --from=big5
abbrev attached : List Text
attached = codes "recode" ∷ codes "--limit=0" ∷ codes "--to=" ∷ codes "--pivot=utf16" ∷ codes "--from=big5" ∷ []

attached-fault : fault_of recode_app attached ≡ []
unfolding clap_on_literals
attached-fault = refl

attached-to : given (codes "to") attached ≡ Some []
unfolding clap_on_literals
attached-to = refl

attached-mark : meant mark_named (codes "mark") attached ≡ Some Sniff
unfolding clap_on_literals
attached-mark = refl

attached-pivot : meant pivot_of (codes "pivot") attached ≡ Some Utf16
unfolding clap_on_literals
attached-pivot = refl

attached-limit : meant limit_of (codes "limit") attached ≡ Some 0
unfolding clap_on_literals
attached-limit = refl

-- ---- requests, at which the other words are not needed

help : fault_of recode_app (codes "recode" ∷ codes "--help" ∷ []) ≡ DisplayHelp ∷ []
unfolding clap_on_literals
help = refl

short_help : fault_of recode_app (codes "recode" ∷ codes "-h" ∷ []) ≡ DisplayHelp ∷ []
unfolding clap_on_literals
short_help = refl

version : fault_of recode_app (codes "recode" ∷ codes "--version" ∷ []) ≡ DisplayVersion ∷ []
unfolding clap_on_literals
version = refl

listing : fault_of recode_app (codes "recode" ∷ codes "--list" ∷ []) ≡ DisplayVersion ∷ []
unfolding clap_on_literals
listing = refl

listing-asked : asks_list (codes "recode" ∷ codes "--list" ∷ []) ≡ true
listing-asked = refl

version-asked : asks_list (codes "--list" ∷ codes "--version" ∷ []) ≡ false
version-asked = refl

-- ---- refusals

nothing : fault_of recode_app (codes "recode" ∷ []) ≡ MissingRequiredArgument ∷ []
unfolding clap_on_literals
nothing = refl

no_target : fault_of recode_app (codes "recode" ∷ codes "--from" ∷ codes "big5" ∷ []) ≡ MissingRequiredArgument ∷ []
unfolding clap_on_literals
no_target = refl

no_value : fault_of recode_app (codes "recode" ∷ codes "--from" ∷ []) ≡ InvalidValue ∷ []
unfolding clap_on_literals
no_value = refl

twice : fault_of recode_app (codes "recode" ∷ codes "--to=a" ∷ codes "--from=b" ∷ codes "--to=a" ∷ []) ≡ ArgumentConflict ∷ []
unfolding clap_on_literals
twice = refl

stray : fault_of recode_app (codes "recode" ∷ codes "--to=a" ∷ codes "--from=b" ∷ codes "--" ∷ codes "c" ∷ []) ≡ UnknownArgument ∷ []
unfolding clap_on_literals
stray = refl

shortened : fault_of recode_app (codes "recode" ∷ codes "--fro=a" ∷ []) ≡ UnknownArgument ∷ []
unfolding clap_on_literals
shortened = refl

-- ---- limits

greatest : limit_of (codes "281474976710656") ≡ Some 281474976710656
greatest = refl

too_great : limit_of (codes "281474976710657") ≡ None
too_great = refl

with_zeros : limit_of (codes "007") ≡ Some 7
with_zeros = refl

with_plus : limit_of (codes "+5") ≡ None
with_plus = refl

hexadecimal : limit_of (codes "0x10") ≡ None
hexadecimal = refl

empty : limit_of [] ≡ None
empty = refl
