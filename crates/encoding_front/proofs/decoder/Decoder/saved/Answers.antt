use Rattle.std.proofs.Common.{◌++◌, length, arith, refl, sym, ◌∙◌, ap}
use Rattle.encoding_mem.specs.calls.Resuming.{reading_of}
use Rattle.encoding_front.specs.calls.DecoderViews.{decoder_view}
use Rattle.encoding_front.specs.calls.Seeking.{find_mark, sought_encoding}
use Rattle.encoding_front.specs.calls.SavedDecoders.{Saves, sought_reading}
use Rattle.encoding_front.specs.calls.VariantDecoders.{state_of}
use Rattle.encoding_front.specs.laws.SavedDecoders.{can_be_resumed}
use Rattle.encoding_front.specs.laws.Stream.{in_force}
use Rattle.encoding_front.proofs.BomLemmas.{few_of}
use Rattle.encoding_front.proofs.decoder.Decoder.saved.Goals as goal

pub new-requires : goal.new-requires
new-requires c =
    let d = c.args.self.now in
    let few = few_of (length d.held) (state_of d.inner).pending d.few in
    omega (arith, few, ap length c.as_slice.ensures)

pub returns : goal.returns
returns c =
    let d = c.args.self.now in
    let own = state_of d.inner in
    let held = c.new.ensures ∙ c.as_slice.ensures in
    let back = sym held in
    let saves : Saves _ (decoder_view d) = record {
      own = c.saved.ensures.same;
      sound = record {
        pending = sym c.saved.ensures.pending;
        few = c.saved.ensures.few;
        room = d.room;
        short = λ some. omega (arith, d.few (omega (arith, some, ap length held)), ap length held);
        fresh = d.fresh;
        prefix = λ sought. ap (find_mark d.sought) held ∙ d.prefix sought;
      };
      state = ap (sought_reading d.sought (reading_of own)) back;
      opening = ap (λ x. record { sought = d.sought; held = x; room = own.room; pending = own.pending }) back;
      in_force = in_force d.sought d.encoding d.held d.prefix;
      source = λ x. ap (λ y. sought_encoding d.sought d.encoding (y ++ x)) back;
      finished = refl;
    } in
    record {
      saves = saves;
      goes_on = λ t made. can_be_resumed t _ (decoder_view d) saves made;
    }
