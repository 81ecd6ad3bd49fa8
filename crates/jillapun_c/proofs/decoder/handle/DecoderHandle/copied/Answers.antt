use Rattle.jillapun_c.proofs.decoder.handle.DecoderHandle.copied.Goals as goal

pub invariant_of-result : goal.invariant_of-result
invariant_of-result c = record { sound = rw c.copied.ensures c.args.self.now.sound }
