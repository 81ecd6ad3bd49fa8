-- The command line of `recode`, as clap's definitions read a command.
use Rattle.std.specs.Prelude.{Some, ◌∷◌, [], codes, true}
use Rattle.clap.specs.Words.{App, Rule, Text, new_app, new_rule, with_rule}
use Rattle.clap.specs.declared.builder.action.ArgAction.TheVariants.{Set, Version}

-- clap's rule of the option `--name VALUE`
abbrev pub option_rule : Text → Rule
option_rule name =
    record (new_rule name) { long = Some name; action = Some Set; value_names = 1 }

-- clap's rule of the option `--name VALUE` that has to be there
abbrev pub required_rule : Text → Rule
required_rule name = record (option_rule name) { required = true }

-- clap's rule of the option `--name VALUE`, with a value for it if the option is not there
abbrev pub default_rule : Text → Text → Rule
default_rule name value = record (option_rule name) { defaults = value ∷ [] }

-- clap's rule of `--list`, at which a parse ends as it does at `--version`
abbrev pub list_rule : Rule
list_rule =
    record (new_rule (codes "list")) { long = Some (codes "list"); action = Some Version }

-- the command `recode` of clap with a version, before it has its options
abbrev pub named_app : App
named_app =
    record (new_app (codes "recode")) { top = record (new_app (codes "recode")).top { has_version = true } }

-- the command line of `recode` for clap, which adds `-h`, `--help`, `-V` and `--version`
abbrev pub recode_app : App
recode_app = with_rule (with_rule (with_rule (with_rule (with_rule (with_rule (with_rule (with_rule
    named_app
    (required_rule (codes "from")))
    (required_rule (codes "to")))
    (default_rule (codes "indexes") (codes ".")))
    (default_rule (codes "mark") (codes "sniff")))
    (default_rule (codes "unmappable") (codes "decimal")))
    (default_rule (codes "pivot") (codes "utf8")))
    (default_rule (codes "limit") (codes "281474976710656")))
    list_rule
