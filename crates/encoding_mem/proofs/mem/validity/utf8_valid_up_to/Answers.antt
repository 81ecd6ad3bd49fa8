use Rattle.std.proofs.Common.{arith, sym, subst, refl}
use Rattle.std.specs.Str.{IsUtf8}
use Rattle.encoding_mem.specs.LongestPrefix.{IsLongestPrefix}
use Rattle.std.proofs.lemmas.Str.{IsUtf8-from_ascii}
use Rattle.encoding_mem.proofs.PrefixLemmas.{whole_prefix}
use Rattle.encoding_mem.proofs.mem.validity.utf8_valid_up_to.Goals as goal

pub returns-then-is_ascii : goal.returns-then-is_ascii
returns-then-is_ascii c = whole_prefix IsUtf8 c.args.bytes.now (IsUtf8-from_ascii c.args.bytes.now (c.if-is_ascii.ensures.0 refl))

pub returns-then-is_latin1_text : goal.returns-then-is_latin1_text
returns-then-is_latin1_text c =
    let latin1 = c.if-is_latin1_text.ensures refl in
    whole_prefix IsUtf8 c.args.bytes.now latin1.0

pub returns-in-Err : goal.returns-in-Err
returns-in-Err c =
    let up_to = c.in-Err.ensures.cases.1 in
    subst (λ n. IsLongestPrefix IsUtf8 c.args.bytes.now n) (sym c.valid_up_to.ensures) (record {
      within = omega (arith, up_to.short);
      well_formed = up_to.front;
      longest = λ m more some. up_to.longest m more;
    })
