use Rattle.encoding_front.specs.calls.DecoderViews.{decoder_view}
use Rattle.jillapun_c.proofs.HeldDecoderLemmas.{held_by, sound_by}
use Rattle.jillapun_c.proofs.decoder.handle.DecoderHandle.keep.Goals as goal

pub returns-clause-holds : goal.returns-clause-holds
returns-clause-holds c =
    let tables = c.args.self.now.tables.tables in
    held_by tables c.of-self.result c.saved.result (decoder_view c.args.decoder.now) c.of-self.ensures c.saved.ensures.saves c.requires

pub invariant_of-self : goal.invariant_of-self
invariant_of-self c =
    let tables = c.args.self.now.tables.tables in
    record {
      sound = sound_by tables c.of-self.result (decoder_view c.args.decoder.now)
          (held_by tables c.of-self.result c.saved.result (decoder_view c.args.decoder.now) c.of-self.ensures c.saved.ensures.saves c.requires);
    }
