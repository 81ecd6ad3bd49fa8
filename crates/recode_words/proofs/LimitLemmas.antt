-- What `parse` reads as a number, as the limit that the text stands for.
use Rattle.std.proofs.Common.{◌≡◌, ◌≤◌, ◌==◌, ◌∙◌, ◌∷◌, [], ◌^◌, ℕ, Bool, true, false, List, Option, Some, None, Result, Ok, Err, refl, sym, subst, ap, arith, slice_index, take}
use Rattle.std.specs.Prelude.{IfOk, codes, nat_eq, nat_le, option_and_then, unwrap_or}
use Rattle.std.specs.Cmp.Lexicographic.{pointwise}
use Rattle.std.specs.Str.Parse.{ParsesUnsigned, digits_value, without_leading_plus}
use Rattle.std.proofs.lemmas.Bool.{eqb-true, le-leb, leb-true, lt-ltb}
use Rattle.std.proofs.lemmas.Bool.Decides.{Decides-eqb}
use Rattle.std.proofs.lemmas.Slice.Eq.{starts_is}
use Rattle.clap.specs.Words.{Text}
use Rattle.clap.specs.ValueTests.{is_numeral, is_unsigned_in}
use Rattle.clap.specs.declared.builder.value_parser.ValueParser.TheVariants.{Unsigned}
use Rattle.clap.proofs.ValueTestLemmas.{Accepts-accepts, accepts-Accepts}
use Rattle.clap.proofs.WalkLemmas.{both}
use Rattle.recode_words.specs.Given.{given}
use Rattle.recode_words.specs.Meaning.{is_limit, limit_of}
use Rattle.recode_words.specs.Request.{AsksFor, HasGoodLimit}
use Rattle.recode_words.specs.declared.request.Request.{Request}
use Rattle.recode_words.specs.declared.request.Request.TheVariants.{Run, Help, Version, List as Listing}
use Rattle.recode_words.specs.declared.request.WordsFault.{WordsFault}

pub unsigned : (text : List ℕ) (r : Bool) → r ≡ pointwise nat_eq (43 ∷ []) (take 1 text) → r ≡ false → (slice_index text 0 == 43) ≡ false
unsigned [] r v e = refl
unsigned (x ∷ xs) r v e = go (x == 43) refl
  where
    go : (b : Bool) → (x == 43) ≡ b → b ≡ false
    go true t =
        let plus : x ≡ 43 = eqb-true x 43 t in
        let bad : true ≡ false = sym ((starts_is Decides-eqb (x ∷ xs) (43 ∷ []) r v).1 xs (ap (λ y. y ∷ xs) plus)) ∙ e in
        cc
    go false t = refl

plain : (text : List ℕ) → (slice_index text 0 == 43) ≡ false → without_leading_plus text ≡ text
plain text sign = rw sign refl

pub limit_read : {E : Type 0} (text : List ℕ) (r : Result ℕ E) (n : ℕ) → (slice_index text 0 == 43) ≡ false
    → ParsesUnsigned 64 10 text r → r ≡ Ok n → n ≤ 281474976710656 → Some n ≡ limit_of text
limit_read text r n sign parsed is small =
    let read = subst (λ x. ParsesUnsigned 64 10 text x) is parsed in
    let all : is_unsigned_in 0 281474976710656 text ≡ true =
    Accepts-accepts false (Unsigned 0 281474976710656) text (read.0.0, read.0.1, omega arith, rw (← read.1) small) in
    let numeral : is_numeral text ≡ true = subst (λ t. is_numeral t ≡ true) (plain text sign) (both _ _ all).0 in
    let value : n ≡ digits_value 10 text = read.1 ∙ ap (digits_value 10) (plain text sign) in
    let low : nat_le (digits_value 10 text) 281474976710656 ≡ true = le-leb _ _ (subst (λ k. k ≤ 281474976710656) value small) in
    rw (numeral, low) (ap Some value)

pub no_limit : {E : Type 0} (text : List ℕ) (r : Result ℕ E) (e : E) → (slice_index text 0 == 43) ≡ false
    → ParsesUnsigned 64 10 text r → r ≡ Err e → None ≡ limit_of text
no_limit text r e sign parsed is = go (is_limit text) refl
  where
    go : (b : Bool) → is_limit text ≡ b → None ≡ limit_of text
    go true t =
        let parts = both (is_numeral text) _ t in
        let small : digits_value 10 text ≤ 281474976710656 = leb-true _ _ parts.1 in
        let all : is_unsigned_in 0 281474976710656 text ≡ true =
        rw (plain text sign, parts.0, lt-ltb (digits_value 10 text) (2 ^ 64) (omega arith), le-leb 0 (digits_value 10 text) (omega arith), parts.1) refl in
        let passed = accepts-Accepts false (Unsigned 0 281474976710656) text all in
        absurd (subst (λ x. ParsesUnsigned 64 10 text x) is parsed (passed.0, passed.1))
    go false t = rw t refl

-- ---- the bound

small_by : (text : List ℕ) (n : ℕ) (b : Bool) → is_limit text ≡ b → limit_of text ≡ Some n → n ≤ 281474976710656
small_by text n true t e =
    let low : digits_value 10 text ≤ 281474976710656 = leb-true _ _ (both (is_numeral text) _ t).1 in
    let same : Some (digits_value 10 text) ≡ Some n = rw t at e in
    subst (λ k. k ≤ 281474976710656) (ap (λ o. unwrap_or o 0) same) low
small_by text n false t e =
    let bad : None ≡ Some n = rw t at e in
    cc

meant_small : (o : Option Text) (n : ℕ) → option_and_then limit_of o ≡ Some n → n ≤ 281474976710656
meant_small None n e = cc
meant_small (Some text) n e = small_by text n (is_limit text) refl e

pub answer_small : (words : List Text) (r : Result Request WordsFault) → IfOk r (AsksFor words) → IfOk r HasGoodLimit
answer_small words (Ok (Run w)) h = meant_small (given (codes "limit") words) w.limit h.limit
answer_small words (Ok (Help text)) h = tt
answer_small words (Ok (Version text)) h = tt
answer_small words (Ok Listing) h = tt
answer_small words (Err e) h = tt
