use Rattle.std.proofs.Common.{◌≡◌, ◌+◌, ◌-◌, drop, subst, arith}
use Rattle.encoding_mem.proofs.LongestPrefixLemmas.{behind_more}
use Rattle.encoding_mem.proofs.mem.plain_units.put_lanes.Goals as goal

pub returns-clause-behind : goal.returns-clause-behind
returns-clause-behind c =
    let e = c.put_chars.ensures in
    let end : 8 + (c.put_chars.result.1 - 8) ≡ c.put_chars.result.1 = omega (arith, e.reaches, e.many) in
    subst (λ n. drop n c.put_chars.new.dst ≡ drop n c.args.dst.now) end
    (behind_more 8 (c.put_chars.result.1 - 8) c.put_chars.new.dst c.narrow_lanes-run.new.dst c.args.dst.now (rw end e.behind) c.narrow_lanes-run.ensures.behind)
