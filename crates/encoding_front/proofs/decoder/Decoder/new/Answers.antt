use Rattle.std.proofs.Common.{length, arith, refl, sym, subst, ap, ◌∙◌}
use Rattle.encoding_front.specs.Encodings.{IsReady, lists_of}
use Rattle.encoding_front.specs.calls.Resumed.{resumed_in}
use Rattle.encoding_front.specs.calls.Seeking.{find_mark}
use Rattle.encoding_front.specs.calls.VariantDecoders.{state_of}
use Rattle.encoding_front.specs.laws.Stream.{in_force}
use Rattle.encoding_front.proofs.BomLemmas.{begun_pieces, begun_source, begun_opening}
use Rattle.encoding_front.proofs.decoder.Decoder.new.Goals as goal

pub returns : goal.returns
returns c =
    let t = lists_of c.args.tables in
    let own = state_of c.new.result in
    let sought = c.new-2.ensures in
    let held = c.new-3.ensures in
    let named = sym (in_force c.new-2.result c.args.encoding c.new-3.result (λ _. ap (find_mark c.new-2.result) held)) in
    record {
      begins = record {
        pieces = begun_pieces t c.args.mark c.args.encoding c.new-2.result own.pieces c.new-3.result sought c.new.ensures.pieces held;
        pending = omega (arith, c.new.ensures.pending, ap length held);
        source = begun_source c.args.mark c.args.encoding c.new-2.result c.new-3.result sought held;
        opening = begun_opening c.args.mark c.args.encoding c.new-2.result c.new-3.result own.room own.pending sought held c.new.ensures.room c.new.ensures.pending;
        own = c.new.ensures.pieces;
        made = record {
          ready = subst (IsReady t) named c.requires;
          reads = c.new.ensures.resumed ∙ ap (resumed_in t) named;
        };
        open_ = refl;
      };
    }
