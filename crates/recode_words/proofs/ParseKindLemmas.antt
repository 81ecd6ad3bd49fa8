-- The kinds that a parse of the words of `recode` may end in: one at most.
use Rattle.std.proofs.Common.{zero, suc, ◌≡◌, ◌≤◌, ap, sym, ◌+◌, ◌==◌, ◌&&◌, ◌||◌, not, ℕ, Bool, true, false, List, [], ◌∷◌, Option, Some, None, inl, inr, refl, arith, length, min, drop, is_some}
use Rattle.std.specs.Prelude.{if◌then◌else◌, codes, encode_utf8, nat_lt, slice_get}
use Rattle.std.specs.Option.{option_map_or}
use Rattle.std.specs.Str.{bytes_eq, chars}
use Rattle.clap.specs.Facts.{parser_of_value, unwrap_or_range}
use Rattle.clap.specs.Lexer.{long_of, short_of}
use Rattle.clap.specs.Matches.{count_text}
use Rattle.clap.specs.Faults.{action_fault, bundle_fault, bundle_step_fault, built_fault, count_fault, default_fault, defaults_fault, entered_fault, fault_of, flag_word_fault, flags_fault, level_fault, long_fault, option_fault, other_fault, positional_fault, react_fault, set_fault, settle_fault, short_fault, step_fault, stray_fault, turn_fault, use_fault, walk_fault, word_fault}
use Rattle.clap.specs.Kinds.{IsAmong, Kinds, check_kinds, or_else, range_kinds, request_kinds, value_kinds, values_kinds}
use Rattle.clap.specs.Simple.{App, Shape, argument_words, built, entered, names_of}
use Rattle.clap.specs.Walk.{nothing_held, action_of, most_values, values_or_missing, has_row, is_empty, is_pending, takes_several, takes_values, arg_by_id, arg_by_index, arg_by_long, arg_by_short, attached_value, count_of, reacted, settled, subcommand_met, walk, walk_from, walked, with_default, word_met, Held, Names, Row, Rule, Step, Text, Waiting, Walk, next, trailing, subcommand, value}
use Rattle.clap.specs.declared.builder.action.ArgAction.{ArgAction}
use Rattle.clap.specs.declared.builder.action.ArgAction.TheVariants as action
use Rattle.clap.specs.declared.builder.value_parser.ValueParser.{ValueParser}
use Rattle.clap.specs.declared.error.kind.ErrorKind.{ErrorKind}
use Rattle.clap.specs.declared.error.kind.ErrorKind.TheVariants as kind
use Rattle.recode_words.specs.Command.{recode_app}

pub record IsSingle (kinds : Kinds) : Type 0 where
  pub short : length kinds ≤ 1

pub no_kind : IsSingle []
no_kind = record { short = omega arith }

pub one_kind : (k : ErrorKind) → IsSingle (k ∷ [])
one_kind k = record { short = omega arith }

either : (a b : Kinds) → IsSingle a → IsSingle b → IsSingle (or_else a b)
either [] b ha hb = hb
either (k ∷ ks) b ha hb = ha

branch : (b : Bool) (x y : Kinds) → IsSingle x → IsSingle y → IsSingle (if b then x else y)
branch true x y hx hy = hx
branch false x y hx hy = hy

-- ---- one use

value_single : (c : Bool) (p : ValueParser) (v : Text) → IsSingle (value_kinds c p v)
value_single c p v = branch _ _ _ no_kind (one_kind _)

values_single : (c : Bool) (p : ValueParser) (vs : List Text) → IsSingle (values_kinds c p vs)
values_single c p [] = no_kind
values_single c p (v ∷ vs) = either _ _ (value_single c p v) (values_single c p vs)

count_single : (a : Rule) (vs : List Text) (rows : List Row) → IsSingle (count_fault a vs rows)
count_single a [] rows = value_single a.ignore_case (parser_of_value a.parser) (count_text (min (count_of a.id rows + 1) 255))
count_single a (v ∷ vs) rows = values_single _ _ (v ∷ vs)

set_single : (again : Bool) (a : Rule) (vs : List Text) (rows : List Row) → IsSingle (set_fault again a vs rows)
set_single again a vs rows = either _ _ (branch _ _ _ (one_kind _) no_kind) (values_single _ _ vs)

action_single : (k : ArgAction) (again : Bool) (a : Rule) (vs : List Text) (rows : List Row) → IsSingle (action_fault k again a vs rows)
action_single action.Set again a vs rows = set_single again a vs rows
action_single action.SetTrue again a vs rows = set_single again a vs rows
action_single action.SetFalse again a vs rows = set_single again a vs rows
action_single action.Append again a vs rows = values_single _ _ vs
action_single action.Count again a vs rows = count_single a vs rows
action_single action.Help again a vs rows = one_kind _
action_single action.HelpShort again a vs rows = one_kind _
action_single action.HelpLong again a vs rows = one_kind _
action_single action.Version again a vs rows = one_kind _

request_single : (k : ArgAction) → IsSingle (request_kinds k)
request_single action.Set = no_kind
request_single action.SetTrue = no_kind
request_single action.SetFalse = no_kind
request_single action.Append = no_kind
request_single action.Count = no_kind
request_single action.Help = one_kind _
request_single action.HelpShort = one_kind _
request_single action.HelpLong = one_kind _
request_single action.Version = one_kind _

range_single : (least most n : ℕ) → IsSingle (range_kinds least most n)
range_single least most n =
    branch (nat_lt 0 least && n == 0) _ _ (one_kind kind.InvalidValue)
    (branch (least == most) _ _ (branch (least == n) _ _ no_kind (one_kind kind.WrongNumberOfValues))
    (branch (nat_lt n least) _ _ (one_kind kind.TooFewValues)
    (branch (nat_lt most n) _ _ (one_kind kind.TooManyValues) no_kind)))

use_single : (again : Bool) (a : Rule) (vs : List Text) (rows : List Row) → IsSingle (use_fault again a vs rows)
use_single again a vs rows =
    either (range_kinds (unwrap_or_range a.range).start_inclusive (most_values a) (length vs)) (action_fault (action_of a) again a (values_or_missing a vs) rows)
    (range_single (unwrap_or_range a.range).start_inclusive (most_values a) (length vs))
    (action_single (action_of a) again a (values_or_missing a vs) rows)

-- ---- the walk

found_single : (o : Option Rule) (f : Rule → Kinds) → ((a : Rule) → IsSingle (f a)) → IsSingle (option_map_or f o [])
found_single None f h = no_kind
found_single (Some a) f h = h a

pending_single : (c : List Rule) (again : Bool) (o : Option (Text × List Text)) (rows : List Row)
    → IsSingle (option_map_or (λ p. option_map_or (λ a. use_fault again a p.1 rows) (arg_by_id c p.0) []) o [])
pending_single c again None rows = no_kind
pending_single c again (Some p) rows = found_single (arg_by_id c p.0) (λ a. use_fault again a p.1 rows) (λ a. use_single again a p.1 rows)

settle_single : (c : List Rule) (again : Bool) (h : Held) → IsSingle (settle_fault c again h)
settle_single c again h = pending_single c again h.pending h.rows

react_single : (c : List Rule) (again : Bool) (a : Rule) (vs : List Text) (h : Held) → IsSingle (react_fault c again a vs h)
react_single c again a vs h = either (settle_fault c again h) (use_fault again a vs (settled c h).rows) (settle_single c again h) (use_single again a vs (settled c h).rows)

option_single : (c : List Rule) (again : Bool) (a : Rule) (v : Option Text) (h : Held) → IsSingle (option_fault c again a v h)
option_single c again a (Some v) h = react_single c again a (v ∷ []) h
option_single c again a None h = settle_single c again h

long_single : (c : List Rule) (again : Bool) (o : Option Rule) (v : Option Text) (h : Held) → IsSingle (long_fault c again o v h)
long_single c again None v h = one_kind kind.UnknownArgument
long_single c again (Some a) v h =
    branch (takes_values a) _ _ (option_single c again a v h)
    (branch (is_some v) _ _ (one_kind kind.TooManyValues) (react_single c again a [] h))

short_single : (c : List Rule) (again : Bool) (o : Option Rule) (rest : Text) (h : Held) (f : Held → Kinds) → ((k : Held) → IsSingle (f k))
    → IsSingle (short_fault c again o rest h f)
short_single c again None rest h f hf = one_kind kind.UnknownArgument
short_single c again (Some a) rest h f hf =
    branch (takes_values a) _ _ (option_single c again a (attached_value rest) h)
    (either (react_fault c again a [] h) (f (reacted c a [] h)) (react_single c again a [] h) (hf (reacted c a [] h)))

step_single : (c : List Rule) (again : Bool) (o : Option ℕ) (flags : Text) (skip : ℕ) (h : Held) (f : Text → ℕ → Held → Kinds)
    → ((t : Text) (n : ℕ) (k : Held) → IsSingle (f t n k)) → IsSingle (bundle_step_fault c again o flags skip h f)
step_single c again None flags skip h f hf = no_kind
step_single c again (Some x) flags zero h f hf =
    let rest = drop (length (encode_utf8 x)) flags in
    short_single c again (arg_by_short c x) rest h (f rest 0) (hf rest 0)
step_single c again (Some x) flags (suc skip) h f hf = hf (drop (length (encode_utf8 x)) flags) skip h

flags_single : (c : List Rule) (again : Bool) (k : ℕ) (flags : Text) (skip : ℕ) (h : Held) → IsSingle (flags_fault c again k flags skip h)
unfolding flags_fault
flags_single c again zero flags skip h = no_kind
flags_single c again (suc k) flags skip h =
    step_single c again (slice_get (chars flags) 0) flags skip h (flags_fault c again k) (flags_single c again k)

bundle_single : (c : List Rule) (again : Bool) (o : Option Text) (h : Held) → IsSingle (option_map_or (λ flags. bundle_fault c again flags h) o [])
bundle_single c again None h = no_kind
bundle_single c again (Some flags) h = flags_single c again (length flags) flags h.skip (record h { skip = 0 })

flag_word_single : (c : List Rule) (again : Bool) (o : Option (Text × Option Text)) (word : Text) (h : Held) → IsSingle (flag_word_fault c again o word h)
flag_word_single c again (Some p) word h = long_single c again (arg_by_long c p.0) p.1 h
flag_word_single c again None word h = bundle_single c again (short_of word) h

-- a command with no subcommands
pub record IsLeaf (s : Shape) : Type 0 where
  pub leaf : s.is_leaf ≡ true
  pub no_help : s.disable_help_subcommand ≡ true

never : (b c : Bool) → c ≡ true → (b && not c) ≡ false
never true true e = refl
never false true e = refl
never true false e = cc
never false false e = cc

other_single : (s : Shape) → IsLeaf s → (o : Option Text) (word : Text) (h : Held) → IsSingle (other_fault s o word h)
other_single s l (Some name) word h = rw (never (bytes_eq name (codes "help")) s.disable_help_subcommand l.no_help) no_kind
other_single s l None word h =
    branch (bytes_eq word (45 ∷ 45 ∷ [])) _ _ no_kind (flag_word_single s.rules s.args_override_self (long_of word) word h)

word_single : (s : Shape) → IsLeaf s → (names : Names) (trails : Bool) (waiting : Waiting) (word : Text) (h : Held)
    → IsSingle (word_fault s names trails waiting word h)
word_single s l names trails waiting word h =
    branch trails _ _ no_kind (other_single s l (subcommand_met names waiting word) word h)

positional_single : (c : List Rule) (again : Bool) (a : Rule) (h : Held) → IsSingle (positional_fault c again a h)
positional_single c again a h = branch (is_pending a h.pending && takes_several a) _ _ no_kind (settle_single c again h)

stray_single : (s : Shape) → IsLeaf s → IsSingle (stray_fault s)
stray_single s l = rw l.leaf (one_kind kind.UnknownArgument)

positionals_single : (s : Shape) → IsLeaf s → (o : Option Rule) (h : Held)
    → IsSingle (option_map_or (λ a. positional_fault s.rules s.args_override_self a h) o (stray_fault s))
positionals_single s l None h = stray_single s l
positionals_single s l (Some a) h = positional_single s.rules s.args_override_self a h

turned_single : (s : Shape) → IsLeaf s → (position : ℕ) (h : Held) (met : Step) → IsSingle (step_fault s position h met)
turned_single s l position h value = positionals_single s l (arg_by_index s.rules position) h
turned_single s l position h (next w) = no_kind
turned_single s l position h (trailing n) = no_kind
turned_single s l position h (subcommand t) = no_kind

turn_single : (s : Shape) → IsLeaf s → (names : Names) (w : Walk) (word : Text) → IsSingle (turn_fault s names w word)
turn_single s l names w word =
    let met = word_met s.rules names w.is_trailing w.waiting w.position word w.held in
    branch (is_some w.stopped) _ _ no_kind
    (either _ _ (word_single s l names w.is_trailing w.waiting word w.held) (turned_single s l w.position met.0 met.1))

walk_single : (s : Shape) → IsLeaf s → (names : Names) (w : Walk) (words : List Text) → IsSingle (walk_fault s names w words)
unfolding walk_fault
walk_single s l names w [] = no_kind
walk_single s l names w (word ∷ rest) =
    either (turn_fault s names w word) (walk_fault s names (walked s.rules names w word) rest)
    (turn_single s l names w word) (walk_single s l names (walked s.rules names w word) rest)

-- ---- after the walk

default_single : (rows : List Row) (a : Rule) → IsSingle (default_fault rows a)
default_single rows a =
    branch (has_row a.id rows || is_empty a.defaults) _ _ no_kind
    (either _ _ (request_single (action_of a)) (values_single a.ignore_case (parser_of_value a.parser) a.defaults))

defaults_single : (rows : List Row) (rules : List Rule) → IsSingle (defaults_fault rows rules)
unfolding defaults_fault
defaults_single rows [] = no_kind
defaults_single rows (a ∷ rest) =
    either (default_fault rows a) (defaults_fault (with_default rows a) rest) (default_single rows a) (defaults_single (with_default rows a) rest)

check_single : (h s a : Bool) → IsSingle (check_kinds h s a)
check_single true s a = one_kind _
check_single false true a = one_kind _
check_single false false true = one_kind _
check_single false false false = no_kind

level_single : (s : Shape) → IsLeaf s → (names : Names) (h : Held) (words : List Text) (has : Bool) (below : Kinds) → IsSingle below
    → IsSingle (level_fault s names h words has below)
level_single s l names h words has below hb =
    let end = (walk s.rules names h words).held in
    either (walk_fault s names (walk_from h) words) _ (walk_single s l names (walk_from h) words)
    (either below _ hb
    (either (settle_fault s.rules s.args_override_self end) _ (settle_single s.rules s.args_override_self end)
    (either (defaults_fault (settled s.rules end).rows s.rules) _ (defaults_single (settled s.rules end).rows s.rules)
    (check_single _ _ _))))

entered_single : (a : App) → a.subs ≡ [] → (o : Option (Text × List Text)) → IsSingle (entered_fault a o)
entered_single a e None = no_kind
entered_single a e (Some p) = rw e no_kind

leaf_single : (a : App) → IsLeaf a.top → a.subs ≡ [] → (h : Held) (words : List Text) → IsSingle (built_fault a h words)
leaf_single a l e h words =
    let stop = (walk a.top.rules (names_of a) h words).stopped in
    level_single a.top l (names_of a) h words (is_some (entered a stop)) (entered_fault a stop) (entered_single a e stop)

-- the kinds of error that the words may give are one at most
pub fault_is_single : (words : List Text) → IsSingle (fault_of recode_app words)
fault_is_single words =
    leaf_single (built recode_app) (record { leaf = refl; no_help = refl }) refl nothing_held (argument_words recode_app words)

-- the one kind that is among them
pub only_kind : (k : ErrorKind) (kinds : Kinds) → IsSingle kinds → IsAmong k kinds → kinds ≡ k ∷ []
only_kind k [] s h = absurd h
only_kind k (x ∷ []) s h = elim h [ inl e ↦ ap (λ y. y ∷ []) (sym e) | inr none ↦ absurd none ]
only_kind k (x ∷ (y ∷ ys)) s h =
    let short = s.short in
    absurd (omega (arith, short))
