use Rattle.std.proofs.Common.{arith, ◌≡◌, ℕ, ◌+◌, ◌-◌, ◌≤◌, ◌++◌, List, length, take, min, sym, ◌∙◌, ap, length-take}
use Rattle.std.proofs.Math.Seq.{take-append-add}
use Rattle.std.proofs.lemmas.List.{take_min}
use Rattle.std.proofs.lemmas.Slice.{take-put_mid}
use Rattle.encoding_mem.proofs.codec.pending.Pending.prefix_of.Goals as goal

joined : (held src : List ℕ) (len : ℕ) → length held ≤ len → held ++ take (min (len - length held) (length src)) src ≡ take len (held ++ src)
joined held src len fits = ap (λ x. held ++ x) (take_min (len - length held) src) ∙ sym (take-append-add held src (len - length held)) ∙ ap (λ n. take n (held ++ src)) (omega (arith, fits))

pub returns : goal.returns
returns c =
    let held = c.args.held.now in
    let src = c.args.src.now in
    let inside = c.held.inside in
    let some = c.copy_from_slice.new.self in
    let size : length held ≡ inside.len = sym (ap length c.held.view_is) ∙ length-take inside.len inside.bytes ∙ omega (arith, c.held.invariant, c.held.told) in
    let more : c.min-more.result ≡ min (c.args.len - length held) (length src) = c.min-more.ensures ∙ ap (λ n. min (c.args.len - n) (length src)) (sym size) in
    take-put_mid inside.len _ inside.bytes some (inside.len + c.min-more.result) (omega (arith, ap length c.copy_from_slice.ensures.after, length-take c.min-more.result src, more)) (omega (arith, c.held.invariant, c.held.told)) ∙ ap (λ x. x ++ some) c.held.view_is ∙ ap (λ x. held ++ x) (c.copy_from_slice.ensures.after ∙ ap (λ n. take n src) more) ∙ joined held src c.args.len c.requires.held
