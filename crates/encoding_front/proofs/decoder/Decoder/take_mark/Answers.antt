use Rattle.std.proofs.Common.{rules, arith, ◌≡◌, ℕ, ◌-◌, ◌++◌, List, length, true, false, sym, ◌∙◌, ap, subst, []}
use Rattle.encoding_front.specs.calls.Seeking.{mark_len, is_sought, find_mark, sought_pieces, sought_needs}
use Rattle.encoding_front.specs.Encodings.{IsReady, needs_of, no_lists, pieces_of}
use Rattle.encoding_front.specs.laws.Stream.{in_force}
use Rattle.encoding_front.specs.calls.CodecBounds.{decoded_length_of}
use Rattle.encoding_front.specs.calls.Resumed.{resumed_in}
use Rattle.encoding_front.specs.calls.TakesMark.{LeavesRoom}
use Rattle.encoding_front.specs.calls.VariantDecoders.{state_of}
use Rattle.encoding_front.specs.declared.seeking.BomSet.{BomSet}
use Rattle.encoding_front.specs.declared.seeking.BomMatch.TheVariants.{Prefix, Whole}
use Rattle.encoding_front.proofs.BomLemmas.{mark_needs_none, mark_pieces, mark_ready, waits_mark, takes_all, takes_none, takes_whole, other_is, ended_is, prefix_short, few_of, unmarked, unnamed, named_whole, named_other, named_ended, named_prefix, leaves_whole, leaves_all, leaves_none}
use Rattle.encoding_front.proofs.decoder.Decoder.take_mark.Goals as goal
use Rattle.encoding_front.proofs.decoder.Decoder.take_mark.Goals.{in_default-via-in-Prefix+else-not-last, in_default-via-in_default}

pub returns-in-Prefix-clause-takes : goal.returns-in-Prefix-clause-takes
returns-in-Prefix-clause-takes c =
    let d = c.args.self.now in
    let own = state_of d.inner in
    let window = c.prefix_of-window.result in
    let e : is_sought d.sought ≡ true = search rules in
    let more : c.args.last ≡ false = search rules in
    let f : find_mark d.sought window ≡ Prefix = ap (find_mark d.sought) (sym c.as_slice.ensures) ∙ sym c.find_mark.ensures ∙ c.in-Prefix.is in (
      more,
      waits_mark d.sought own window e (d.fresh e) f,
      takes_all (λ x. sought_pieces d.sought own.pieces x) d.held c.args.src.now window c.args.last own.pending c.prefix_of-window.ensures (prefix_short d.sought window e f),
      leaves_all d.sought own.needs d.held c.args.src.now window c.prefix_of-window.ensures (prefix_short d.sought window e f),
    )

pub returns-in-Prefix-clause-source : goal.returns-in-Prefix-clause-source
returns-in-Prefix-clause-source c =
    let d = c.args.self.now in
    let window = c.prefix_of-window.result in
    let e : is_sought d.sought ≡ true = search rules in
    let f : find_mark d.sought window ≡ Prefix = ap (find_mark d.sought) (sym c.as_slice.ensures) ∙ sym c.find_mark.ensures ∙ c.in-Prefix.is in
    λ r h. named_prefix d.sought d.encoding d.held c.args.src.now window r e c.prefix_of-window.ensures f

pub returns-in-Whole-clause-takes : goal.returns-in-Whole-clause-takes
returns-in-Whole-clause-takes c =
    let d = c.args.self.now in
    let own = state_of d.inner in
    let after = state_of c.without_tables-self.result in
    let window = c.prefix_of-window.result in
    let e : is_sought d.sought ≡ true = search rules in
    let f : find_mark d.sought window ≡ Whole c.in-Whole.mark = ap (find_mark d.sought) (sym c.as_slice.ensures) ∙ sym c.find_mark.ensures ∙ c.in-Whole.is in
    let size : c.len.result - c.len-in-Whole.result ≡ mark_len c.in-Whole.mark - length d.held = omega (arith, c.len.ensures, c.len-in-Whole.ensures.exact) in
    let few = few_of (length d.held) own.pending d.few in (
      c.nothing-self.ensures,
      takes_whole d.sought own after (λ x. sought_pieces c.nothing-self.result after.pieces x) d.held c.args.src.now window c.new-self.result c.args.last c.in-Whole.mark _ e (d.fresh e) few c.prefix_of-window.ensures f (λ x. unmarked c.nothing-self.result after.pieces x (ap is_sought c.nothing-self.ensures)) ((c.without_tables-self.ensures no_lists).pieces ∙ ap (pieces_of no_lists) c.encoding-self.ensures ∙ mark_pieces no_lists c.in-Whole.mark) (c.without_tables-self.ensures no_lists).pending c.new-self.ensures size,
      subst (λ (s : BomSet). LeavesRoom (sought_needs d.sought own.needs d.held) (sought_needs s after.needs c.new-self.result) (c.len.result - c.len-in-Whole.result)) (sym c.nothing-self.ensures) (leaves_whole d.sought own.needs after d.held c.args.src.now window c.new-self.result c.in-Whole.mark _ few c.prefix_of-window.ensures f (c.without_tables-self.ensures no_lists).pending ((c.without_tables-self.ensures no_lists).room ∙ ap decoded_length_of c.encoding-self.ensures) c.new-self.ensures size),
    )

pub returns-in-Whole-clause-source : goal.returns-in-Whole-clause-source
returns-in-Whole-clause-source c =
    let d = c.args.self.now in
    let window = c.prefix_of-window.result in
    let e : is_sought d.sought ≡ true = search rules in
    let f : find_mark d.sought window ≡ Whole c.in-Whole.mark = ap (find_mark d.sought) (sym c.as_slice.ensures) ∙ sym c.find_mark.ensures ∙ c.in-Whole.is in
    λ r h. named_whole d.sought d.encoding d.held c.args.src.now window r c.in-Whole.mark e c.prefix_of-window.ensures f ∙ sym (c.encoding-self.ensures) ∙ sym (unnamed c.nothing-self.result c.encoding-self.result (c.new-self.result ++ r) (ap is_sought c.nothing-self.ensures))

pub returns-in_default-clause-takes : goal.returns-in_default-clause-takes
returns-in_default-clause-takes c =
    let d = c.args.self.now in
    let own = state_of d.inner in
    let window = c.prefix_of-window.result in
    let e : is_sought d.sought ≡ true = search rules in
    let shown = ap (find_mark d.sought) (sym c.as_slice.ensures) ∙ sym c.find_mark.ensures in
    let now = c.nothing-self-in_default.result in
    let settled : is_sought now ≡ false = ap is_sought c.nothing-self-in_default.ensures in
    let left : (r : List ℕ) → (c.args.last ≡ true → r ≡ []) → sought_pieces d.sought own.pieces (d.held ++ (c.args.src.now ++ r)) ≡ sought_pieces now own.pieces (d.held ++ (c.args.src.now ++ r)) = elim c.in_default.branch [
      | in_default-via-in-Prefix+else-not-last w ↦ (let ended : c.args.last ≡ true = search rules in λ r h. ended_is d.sought own.pieces d.held c.args.src.now window r e c.prefix_of-window.ensures (shown ∙ w.in-Prefix.is) (h ended) ∙ sym (unmarked now own.pieces (d.held ++ (c.args.src.now ++ r)) settled))
      | in_default-via-in_default w ↦ λ r h. other_is d.sought own.pieces d.held c.args.src.now window r e c.prefix_of-window.ensures (shown ∙ w.in_default.is) ∙ sym (unmarked now own.pieces (d.held ++ (c.args.src.now ++ r)) settled)
    ] in (
      c.nothing-self-in_default.ensures,
      takes_none (λ x. sought_pieces d.sought own.pieces x) (λ x. sought_pieces now own.pieces x) d.held c.args.src.now c.args.last own.pending left,
      subst (λ (s : BomSet). LeavesRoom (sought_needs d.sought own.needs d.held) (sought_needs s own.needs d.held) 0) (sym c.nothing-self-in_default.ensures) (leaves_none d.sought own.needs d.held),
    )

pub returns-in_default-clause-source : goal.returns-in_default-clause-source
returns-in_default-clause-source c =
    let d = c.args.self.now in
    let window = c.prefix_of-window.result in
    let e : is_sought d.sought ≡ true = search rules in
    let shown = ap (find_mark d.sought) (sym c.as_slice.ensures) ∙ sym c.find_mark.ensures in
    let now = c.nothing-self-in_default.result in
    let settled : is_sought now ≡ false = ap is_sought c.nothing-self-in_default.ensures in
    elim c.in_default.branch [
      | in_default-via-in-Prefix+else-not-last w ↦ (let ended : c.args.last ≡ true = search rules in λ r h. named_ended d.sought d.encoding d.held c.args.src.now window r e c.prefix_of-window.ensures (shown ∙ w.in-Prefix.is) (h ended) ∙ sym (unnamed now d.encoding (d.held ++ r) settled))
      | in_default-via-in_default w ↦ λ r h. named_other d.sought d.encoding d.held c.args.src.now window r e c.prefix_of-window.ensures (shown ∙ w.in_default.is) ∙ sym (unnamed now d.encoding (d.held ++ r) settled)
    ]

pub returns-in-Prefix-clause-made : goal.returns-in-Prefix-clause-made
returns-in-Prefix-clause-made c =
    let d = c.args.self.now in
    let window = c.prefix_of-window.result in
    let f : find_mark d.sought window ≡ Prefix = ap (find_mark d.sought) (sym c.as_slice.ensures) ∙ sym c.find_mark.ensures ∙ c.in-Prefix.is in
    λ t made. let same = in_force d.sought d.encoding d.held d.prefix ∙ sym (in_force d.sought d.encoding window (λ _. f)) in record {
      ready = subst (IsReady t) same made.ready;
      reads = made.reads ∙ ap (resumed_in t) same;
    }

pub returns-in-Whole-clause-made : goal.returns-in-Whole-clause-made
returns-in-Whole-clause-made c =
    let same = sym (unnamed c.nothing-self.result c.encoding-self.result (c.new-self.result ++ []) (ap is_sought c.nothing-self.ensures)) in
    λ t _. record {
      ready = subst (IsReady t) (sym c.encoding-self.ensures ∙ same) (mark_ready t c.in-Whole.mark);
      reads = (c.without_tables-self.ensures t).resumed ∙ ap (resumed_in t) same;
    }

pub returns-in_default-clause-made : goal.returns-in_default-clause-made
returns-in_default-clause-made c =
    let d = c.args.self.now in
    let now = c.nothing-self-in_default.result in
    λ t made. let same = in_force d.sought d.encoding d.held d.prefix ∙ sym (unnamed now d.encoding (d.held ++ []) (ap is_sought c.nothing-self-in_default.ensures)) in record {
      ready = subst (IsReady t) same made.ready;
      reads = made.reads ∙ ap (resumed_in t) same;
    }

pub without_tables-self-requires : goal.without_tables-self-requires
without_tables-self-requires c = ap needs_of c.encoding-self.ensures ∙ mark_needs_none c.in-Whole.mark

pub invariant_of-self-in-Whole-clause-fresh : goal.invariant_of-self-in-Whole-clause-fresh
invariant_of-self-in-Whole-clause-fresh c sought = (c.without_tables-self.ensures no_lists).pending

pub invariant_of-self-in-Whole-clause-room : goal.invariant_of-self-in-Whole-clause-room
invariant_of-self-in-Whole-clause-room c = (c.without_tables-self.ensures no_lists).room

pub invariant_of-self-in-Whole-clause-rule : goal.invariant_of-self-in-Whole-clause-rule
invariant_of-self-in-Whole-clause-rule c = (c.without_tables-self.ensures no_lists).rule
