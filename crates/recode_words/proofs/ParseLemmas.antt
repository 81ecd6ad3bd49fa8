-- In a parse of a simple and free command, an option that is required or has a default has a value. What follows
-- from the clauses of clap's parse, if the command is that of `recode`.
use Rattle.std.proofs.Common.{zero, suc, ◌≡◌, ◌⊎◌, ◌∙◌, ◌<◌, ◌≤◌, ◌&&◌, ℕ, Bool, true, false, not, List, [], ◌∷◌, length, map, is_some, Option, Some, None, refl, sym, subst, ap, inl, inr, arith, cond, codes, lit<}
use Rattle.std.specs.List.{slice_index_or, list_all}
use Rattle.std.specs.Str.{bytes_eq}
use Rattle.std.specs.Prelude.{find, option_map, slice_get, IfErr, IfOk, Result, Ok, Err}
use Rattle.std.specs.Borrow.{Bor}
use Rattle.std.proofs.lemmas.List.{length-map}
use Rattle.std.proofs.lemmas.Slice.Eq.{bytes_eq-Decides}
use Rattle.clap.specs.Texts.{items_of}
use Rattle.clap.specs.declared.builder.action.ArgAction.{ArgAction}
use Rattle.clap.specs.declared.builder.action.ArgAction.TheVariants.{Count, Set}
use Rattle.clap.specs.declared.builder.arg.Arg.{Arg}
use Rattle.clap.specs.declared.builder.range.ValueRange.{ValueRange}
use Rattle.clap.specs.declared.builder.command.Command.{Command}
use Rattle.clap.specs.declared.builder.command.Command.TheViews.{out-Command}
use Rattle.clap.specs.declared.parser.matches.ArgMatches.{ArgMatches}
use Rattle.clap.specs.declared.parser.matches.MatchedArg.{MatchedArg}
use Rattle.clap.specs.Facts.{Entry, EntryPasses, IsParsed, args_of, groups_of, least_values, unwrap_or_range}
use Rattle.clap.specs.Built.{IsAuto, IsParsedFrom, IsPlain, IsPlainArg}
use Rattle.clap.specs.Matches.{first_value, found_of, has_subcommand, matched_of}
use Rattle.clap.specs.Walk.{Rule, Text, is_empty, is_free_arg, is_simple_arg, rule_of}
use Rattle.clap.specs.Simple.{app_of}
use Rattle.clap.proofs.CallerLemmas.{default_present, entry_by_id, present_has_entry, required_present, same_rules_by_id}
use Rattle.clap.proofs.SimpleLemmas.{is_false, is_nil, plain_fields}
use Rattle.clap.proofs.TakesLemmas.{each_rule}
use Rattle.clap.proofs.WalkLemmas.{both, first_value-rows}
use Rattle.recode_words.specs.Command.{recode_app, default_rule, required_rule}
use Rattle.clap.specs.Words.{BuildsTo, FailsBy, HasMatchesOf, fault_of, first_of, is_simple, is_simple_and_free, kind_of, matches_of}
use Rattle.clap.specs.Kinds.{HasKind}
use Rattle.clap.specs.declared.error.Error.{Error}
use Rattle.clap.proofs.OnLiterals.{clap_on_literals}
use Rattle.recode_words.specs.Given.{IsEndOf, IsMatch, given}
use Rattle.recode_words.proofs.ParseKindLemmas.{fault_is_single, only_kind}

-- ---- lists

at_map : {X Y : Type 0} (f : X → Y) (xs : List X) (k : ℕ) (d : X) → f (slice_index_or xs k d) ≡ slice_index_or (map f xs) k (f d)
at_map f [] k d = refl
at_map f (x ∷ xs) zero d = refl
at_map f (x ∷ xs) (suc k) d = at_map f xs k d

first_some : (xs : List (Bor (List ℕ))) → 0 < length xs → is_some (option_map (λ s. s.now) (slice_get xs 0)) ≡ true
first_some [] lt = absurd (omega arith)
first_some (x ∷ xs) lt = refl

has_entry : (xs : List Entry) (id : Text) (i : ℕ) → i < length xs → ((d : Entry) → bytes_eq (slice_index_or xs i d).0.now id ≡ true)
    → is_some (option_map (λ e. e.1) (find (λ e. bytes_eq e.0.now id) xs)) ≡ true
has_entry [] id i lt h = absurd (omega arith)
has_entry (x ∷ xs) id zero lt h = rw (h x) refl
has_entry (x ∷ xs) id (suc i) lt h = go (bytes_eq x.0.now id) (has_entry xs id i (omega arith) h)
  where
    go : (b : Bool) → is_some (option_map (λ e. e.1) (find (λ e. bytes_eq e.0.now id) xs)) ≡ true
        → is_some (option_map (λ (e : Entry). e.1) (cond b (Some x) (find (λ e. bytes_eq e.0.now id) xs))) ≡ true
    go true e = refl
    go false e = e

-- ---- one id

-- the rule at index k alone has this id
abbrev pub is_only : ℕ → Text → List Rule → Bool
is_only k id [] = true
is_only zero id (r ∷ rs) = list_all (λ x. not (bytes_eq x.id id)) rs
is_only (suc k) id (r ∷ rs) = not (bytes_eq r.id id) && is_only k id rs

clash : (b : Bool) → not b ≡ true → b ≡ true → ⊥
clash true off on = cc
clash false off on = cc

none_has : (j : ℕ) (id : Text) (rs : List Rule) (d : Rule) → list_all (λ x. not (bytes_eq x.id id)) rs ≡ true → j < length rs
    → bytes_eq (slice_index_or rs j d).id id ≡ true → ⊥
none_has j id [] d t lt e = omega arith
none_has zero id (r ∷ rs) d t lt e = clash (bytes_eq r.id id) (both (not (bytes_eq r.id id)) (list_all (λ x. not (bytes_eq x.id id)) rs) t).0 e
none_has (suc j) id (r ∷ rs) d t lt e = none_has j id rs d (both (not (bytes_eq r.id id)) (list_all (λ x. not (bytes_eq x.id id)) rs) t).1 (omega arith) e

only_place : (k j : ℕ) (id : Text) (rs : List Rule) (d : Rule) → is_only k id rs ≡ true → j < length rs
    → bytes_eq (slice_index_or rs j d).id id ≡ true → j ≡ k
only_place k j id [] d t lt e = absurd (omega arith)
only_place zero zero id (r ∷ rs) d t lt e = refl
only_place zero (suc j) id (r ∷ rs) d t lt e = absurd (none_has j id rs d t (omega arith) e)
only_place (suc k) zero id (r ∷ rs) d t lt e = absurd (clash (bytes_eq r.id id) (both (not (bytes_eq r.id id)) (is_only k id rs) t).0 e)
only_place (suc k) (suc j) id (r ∷ rs) d t lt e = ap suc (only_place k j id rs d (both (not (bytes_eq r.id id)) (is_only k id rs) t).1 (omega arith) e)

-- ---- arguments by their rules

none_of : {X : Type 0} (o : Option X) → not (is_some o) ≡ true → o ≡ None
none_of None e = refl
none_of (Some x) e = cc

-- what a simple argument has not
record IsBare (a : Arg) : Type 0 where
  pub overrides : a.overrides.items ≡ []
  pub default_ifs : a.default_vals_ifs.items ≡ []
  pub groups : a.groups.items ≡ []
  pub delimiter : a.val_delim ≡ None

bare_arg : (a : Arg) → is_simple_arg a ≡ true → IsBare a
bare_arg a s =
    let s1 = both (is_empty a.overrides.items) _ s in
    let s2 = both (is_empty a.default_vals_ifs.items) _ s1.1 in
    let s3 = both (is_empty a.groups.items) _ s2.1 in
    let s4 = both (not (is_some a.val_delim)) (not (is_some a.terminator) && (not a.allow_hyphen_values && (not a.allow_negative_numbers
    && (not a.require_equals && (not a.last && not a.global))))) s3.1 in
    record { overrides = is_nil _ s1.0; default_ifs = is_nil _ s2.0; groups = is_nil _ s3.0; delimiter = none_of _ s4.0 }

plain_arg : (a : Arg) → is_simple_arg a ≡ true → is_free_arg a ≡ true → IsPlainArg a
plain_arg a s f =
    let bare = bare_arg a s in
    let f1 = both (not a.exclusive) _ f in
    let f2 = both (is_empty a.conflicts.items) (is_empty a.needs.items && (is_empty a.r_ifs.items && (is_empty a.r_ifs_all.items
    && (is_empty a.r_unless.items && is_empty a.r_unless_all.items)))) f1.1 in
    (is_false _ f1.0, is_nil _ f2.0, bare.overrides, bare.groups)

plain_command : (c : Command) → app_of c ≡ recode_app → IsPlain c
plain_command c e =
    let rules : map rule_of (args_of c) ≡ recode_app.top.rules = ap (λ a. a.top.rules) e in
    let simple = each_rule (λ r. r.is_simple) (args_of c) (rw rules refl) in
    let free = each_rule (λ r. r.is_free) (args_of c) (rw rules refl) in
    ((λ k d lt. plain_arg (slice_index_or (args_of c) k d) (simple k d lt) (free k d lt)), (plain_fields c (ap (λ a. a.top.is_plain) e)).groups)

-- ---- the value

-- if an argument that takes a value has an entry, it has a value
entry_has_value : (old : Command) (m : ArgMatches) (p : IsParsedFrom old m) → IsPlain old
    → IsParsed p.built (found_of m) (has_subcommand m)
    → (k : ℕ) (d : Arg) → k < length (args_of old)
    → (slice_index_or (args_of old) k d).action ≡ Some Set → (slice_index_or (args_of old) k d).val_delim ≡ None
    → 1 ≤ least_values (slice_index_or (args_of old) k d)
    → ((j : ℕ) (e : Arg) → j < length (args_of old)
    → bytes_eq (slice_index_or (args_of old) j e).id.now (slice_index_or (args_of old) k d).id.now ≡ true → j ≡ k)
    → ((slice_index_or (args_of old) k d).id.now ≡ [] → ⊥)
    → (IsAuto (slice_index_or (args_of old) k d) → ⊥)
    → is_some (matched_of (found_of m) (slice_index_or (args_of old) k d).id.now) ≡ true
    → is_some (first_value (found_of m) (slice_index_or (args_of old) k d).id.now) ≡ true
entry_has_value old m p plain parsed k d lt set delim least unique named own some =
    go (matched_of (found_of m) (slice_index_or (args_of old) k d).id.now) refl some
  where
    go : (o : Option MatchedArg) → matched_of (found_of m) (slice_index_or (args_of old) k d).id.now ≡ o → is_some (matched_of (found_of m) (slice_index_or (args_of old) k d).id.now) ≡ true
        → is_some (first_value (found_of m) (slice_index_or (args_of old) k d).id.now) ≡ true
    go None e some = cc
    go (Some x) e some =
        let got = entry_by_id (EntryPasses p.built) (found_of m).entries.items (slice_index_or (args_of old) k d).id.now x parsed.values e in
        let same_x : got.0.1 ≡ x = got.1 in
        let key : bytes_eq got.0.0.now (slice_index_or (args_of old) k d).id.now ≡ true = got.2 in
        let key_id : got.0.0.now ≡ (slice_index_or (args_of old) k d).id.now = (bytes_eq-Decides _ _).0 key in
        let no_groups : groups_of p.built ≡ [] = (p.from.plain plain).1 in
        elim got.3.1 [
          | inl h ↦ elim h.1 [
            | inl empty ↦ absurd (named (sym key_id ∙ empty))
            | inr has ↦
                let bad : 0 < 0 = rw no_groups at has in
                absurd (omega arith)
          ]
          | inr (inl v) ↦ rw e (first_some x.vals.items (rw same_x at v))
          | inr (inr (inl h)) ↦
              let any = h.1 in
              let s = same_rules_by_id old m p k d lt unique own any.0 any.1 any.2 any.3 (rw key_id at any.4.0) in
              let is_set : any.1.action ≡ Some Set = s.action Set set in
              let bad : Set ≡ Count = rw is_set at any.4.1 in
              cc
          | inr (inr (inr h)) ↦
              let s = same_rules_by_id old m p k d lt unique own h.0 h.1 h.2 h.3 (rw key_id at h.4.0) in
              elim h.4.1 [
                | inl none ↦
                    let one = s.least set least in
                    absurd (omega arith)
                | inr has ↦
                    let bad : false ≡ true = rw (s.val_delim, delim) at has in
                    cc
              ]
        ]

-- what has to hold of the rule at index k of the command, for its value to be there
pub record IsValued (k : ℕ) (r : Rule) : Type 0 where
  pub below : k < 8
  pub at : (d : Rule) → slice_index_or recode_app.top.rules k d ≡ r
  pub set : r.action ≡ Some Set
  pub range : r.range ≡ None
  pub only : is_only k r.id recode_app.top.rules ≡ true
  pub named : is_empty r.id ≡ false
  pub help : bytes_eq r.id (104 ∷ 101 ∷ 108 ∷ 112 ∷ []) ≡ false
  pub version : bytes_eq r.id (118 ∷ 101 ∷ 114 ∷ 115 ∷ 105 ∷ 111 ∷ 110 ∷ []) ≡ false
  pub there : (r.required ≡ true) ⊎ (is_empty r.defaults ≡ false)
  pub simple : r.is_simple ≡ true

-- what a rule with a value says, beside its index, its place and whether it has to be there
abbrev Said : Type 0
Said = Option ArgAction × Option ValueRange × Bool × Bool × Bool × Bool × Bool

abbrev said_at : (k : ℕ) → Rule → Said
said_at k r =
    (r.action, r.range, is_only k r.id recode_app.top.rules, is_empty r.id, bytes_eq r.id (104 ∷ 101 ∷ 108 ∷ 112 ∷ []), bytes_eq r.id (118 ∷ 101 ∷ 114 ∷ 115 ∷ 105 ∷ 111 ∷ 110 ∷ []), r.is_simple)

-- it holds if the rule says that it takes one value, alone has its name, and has a name of its own
valued : (k : ℕ) (r : Rule) → k < 8 → ((d : Rule) → slice_index_or recode_app.top.rules k d ≡ r) → (r.required ≡ true) ⊎ (is_empty r.defaults ≡ false)
    → said_at k r ≡ (Some Set, None, true, false, false, false, true) → IsValued k r
valued k r below at there same = record {
  below = below;
  at = at;
  set = ap (λ (x : Said). x.0) same;
  range = ap (λ (x : Said). x.1) same;
  only = ap (λ (x : Said). x.2) same;
  named = ap (λ (x : Said). x.3) same;
  help = ap (λ (x : Said). x.4) same;
  version = ap (λ (x : Said). x.5) same;
  there = there;
  simple = ap (λ (x : Said). x.6) same;
}

some_arg : (xs : List Arg) → 0 < length xs → Arg
some_arg [] lt = absurd (omega arith)
some_arg (x ∷ xs) lt = x

some_mapped : {X Y : Type 0} (f : X → Y) (xs : List X) → is_empty (map f xs) ≡ false → 0 < length xs
some_mapped f [] e = cc
some_mapped f (x ∷ xs) e = omega arith

default_entry : (c : Command) (m : ArgMatches) (p : IsParsedFrom c m) → (out-Command c).has_globals ≡ false
    → (k : ℕ) (d : Arg) → k < length (args_of c) → (slice_index_or (args_of c) k d).default_vals_ifs.items ≡ []
    → is_empty (rule_of (slice_index_or (args_of c) k d)).defaults ≡ false
    → is_some (matched_of (found_of m) (slice_index_or (args_of c) k d).id.now) ≡ true
default_entry c m p globals k d lt ifs some =
    let h = default_present c m p globals k d lt (ifs, some_mapped (λ s. s.now) (items_of (slice_index_or (args_of c) k d).default_vals) some) in
    has_entry (found_of m).entries.items _ h.0 h.1 h.2

-- an option of `recode` has a value in a parse that succeeds
pub has_value : (c : Command) (m : ArgMatches) (k : ℕ) (r : Rule) → app_of c ≡ recode_app → IsParsedFrom c m → IsValued k r
    → is_some (first_value (found_of m) r.id) ≡ true
has_value c m k r e p v =
    let rules : map rule_of (args_of c) ≡ recode_app.top.rules = ap (λ a. a.top.rules) e in
    let eight : length (args_of c) ≡ 8 = sym (length-map (args_of c) rule_of) ∙ ap length rules in
    let lt : k < length (args_of c) = let b = v.below in rw eight b in
    let d = some_arg (args_of c) (rw eight (omega arith)) in
    let a = slice_index_or (args_of c) k d in
    let is : rule_of a ≡ r = at_map rule_of (args_of c) k d ∙ (ap (λ rs. slice_index_or rs k (rule_of d)) rules ∙ v.at (rule_of d)) in
    let id : a.id.now ≡ r.id = ap (λ (x : Rule). x.id) is in
    let simple : is_simple_arg a ≡ true = ap (λ (x : Rule). x.is_simple) is ∙ v.simple in
    let plain = plain_command c e in
    let fields = plain_fields c (ap (λ x. x.top.is_plain) e) in
    let parsed = p.parsed (p.from.globals ∙ fields.globals) in
    let none : a.num_vals ≡ None = ap (λ (x : Rule). x.range) is ∙ v.range in
    let least : 1 ≤ least_values a = subst (λ o. 1 ≤ (unwrap_or_range o).start_inclusive) (sym none) (omega arith) in
    let only : (j : ℕ) (x : Arg) → j < length (args_of c) → bytes_eq (slice_index_or (args_of c) j x).id.now a.id.now ≡ true → j ≡ k =
    λ j x low same.
    let at_j : (slice_index_or (args_of c) j x).id.now ≡ (slice_index_or recode_app.top.rules j (rule_of x)).id =
    ap (λ (y : Rule). y.id) (at_map rule_of (args_of c) j x ∙ ap (λ rs. slice_index_or rs j (rule_of x)) rules) in
    only_place k j r.id recode_app.top.rules (rule_of x) v.only (subst (λ n. j < n) eight low) (rw (← at_j, ← id) same) in
    let negates : (out-Command c).subcommand_negates_reqs ≡ false = ap (λ x. x.top.subcommand_negates_reqs) e in
    let some : is_some (matched_of (found_of m) a.id.now) ≡ true = elim v.there [
      | inl required ↦ present_has_entry (found_of m) a.id.now
          (required_present c m p plain fields.globals negates k d lt (ap (λ (x : Rule). x.required) is ∙ required))
      | inr defaults ↦ default_entry c m p fields.globals k d lt (bare_arg a simple).default_ifs (ap (λ (x : Rule). is_empty x.defaults) is ∙ defaults)
    ] in
    let has = entry_has_value c m p plain parsed k d lt (ap (λ (x : Rule). x.action) is ∙ v.set) (bare_arg a simple).delimiter least only
    (λ empty. let bad : true ≡ false = ap is_empty (sym empty ∙ id) ∙ v.named in cc)
    (λ auto. elim auto [
      | inl h ↦ let bad : true ≡ false = rw (sym id ∙ h) at v.help in cc
      | inr h ↦ let bad : true ≡ false = rw (sym id ∙ h) at v.version in cc
    ]) some in
    subst (λ x. is_some (first_value (found_of m) x) ≡ true) id has

-- What follows from the clauses of clap's parse, if the command is that of `recode`.

recode_simple : is_simple recode_app ≡ true
unfolding clap_on_literals
recode_simple = refl

recode_free : is_simple_and_free recode_app ≡ true
unfolding clap_on_literals
recode_free = refl

given_is : (c : Command) (m : ArgMatches) (words : List Text) → app_of c ≡ recode_app → HasMatchesOf (app_of c) words m
    → (name : Text) → given name words ≡ first_value (found_of m) name
given_is c m words app h name =
    sym (first_value-rows (found_of m) name
    ∙ (ap (first_of name) (h (ap is_simple app ∙ recode_simple)).0 ∙ ap (λ a. first_of name (matches_of a words)) app))

match_is : (c : Command) (m : ArgMatches) (words : List Text) → app_of c ≡ recode_app → IsParsedFrom c m → HasMatchesOf (app_of c) words m
    → fault_of recode_app words ≡ [] → IsMatch words m
match_is c m words app p h none = record {
  taken = none;
  same = given_is c m words app h;
  from = has_value c m 0 (required_rule (codes "from")) app p (valued 0 (required_rule (codes "from")) (lit< tt) (λ d. refl) (inl refl) refl);
  to = has_value c m 1 (required_rule (codes "to")) app p (valued 1 (required_rule (codes "to")) (lit< tt) (λ d. refl) (inl refl) refl);
  indexes = has_value c m 2 (default_rule (codes "indexes") (codes ".")) app p (valued 2 (default_rule (codes "indexes") (codes ".")) (lit< tt) (λ d. refl) (inr refl) refl);
  mark = has_value c m 3 (default_rule (codes "mark") (codes "sniff")) app p (valued 3 (default_rule (codes "mark") (codes "sniff")) (lit< tt) (λ d. refl) (inr refl) refl);
  unmappable = has_value c m 4 (default_rule (codes "unmappable") (codes "decimal")) app p (valued 4 (default_rule (codes "unmappable") (codes "decimal")) (lit< tt) (λ d. refl) (inr refl) refl);
  pivot = has_value c m 5 (default_rule (codes "pivot") (codes "utf8")) app p (valued 5 (default_rule (codes "pivot") (codes "utf8")) (lit< tt) (λ d. refl) (inr refl) refl);
  limit = has_value c m 6 (default_rule (codes "limit") (codes "281474976710656")) app p (valued 6 (default_rule (codes "limit") (codes "281474976710656")) (lit< tt) (λ d. refl) (inr refl) refl);
}

-- a parse that succeeds
pub matched : (c d : Command) (words : List Text) (r : Result ArgMatches Error) → app_of c ≡ recode_app
    → IfOk r (λ m. BuildsTo c d × ((out-Command d).has_globals ≡ false → IsParsed d (found_of m) (has_subcommand m)) × HasMatchesOf (app_of c) words m)
    → (is_simple_and_free (app_of c) ≡ true → FailsBy (fault_of (app_of c) words) r) → IfOk r (IsMatch words)
matched c d words (Ok m) app ok kinds =
    match_is c m words app (record { built = d; from = ok.0; parsed = ok.1 }) ok.2
    (ap (λ a. fault_of a words) (sym app) ∙ kinds (ap is_simple_and_free app ∙ recode_free))
matched c d words (Err e) app ok kinds = tt

one_kind : (words : List Text) (e : Error) → HasKind (fault_of recode_app words) e → IsEndOf words e
one_kind words e h = elim h [
  | inl memory ↦ inl memory
  | inr among ↦ inr (only_kind (kind_of e) (fault_of recode_app words) (fault_is_single words) among)
]

-- a parse that ends early
pub ended : (c : Command) (words : List Text) (r : Result ArgMatches Error) → app_of c ≡ recode_app
    → (is_simple_and_free (app_of c) ≡ true → FailsBy (fault_of (app_of c) words) r) → IfErr r (IsEndOf words)
ended c words (Ok m) app kinds = tt
ended c words (Err e) app kinds =
    one_kind words e (subst (λ a. HasKind (fault_of a words) e) app (kinds (ap is_simple_and_free app ∙ recode_free)))
