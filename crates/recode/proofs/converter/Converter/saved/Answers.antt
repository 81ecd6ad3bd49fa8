use Rattle.std.proofs.Common.{◌-◌, arith, drop, length-take, refl}
use Rattle.encoding_front.specs.contracts.decoder.DecoderStreamDecoder.TheImpl.{view-value}
use Rattle.recode.proofs.converter.Converter.saved.Goals as goal

pub returns : goal.returns
returns c =
    let own = c.args.self.now in
    rw (c.of.ensures, c.current_set.ensures) (record {
      decoder = (view-value).it own.engine.decoder;
      decoder_saved = c.saved.ensures.saves;
      decoder_made = own.codecs.decoder;
      reader = (view-value).it own.engine.verdict.reader;
      reader_saved = c.saved-2.ensures.saves;
      reader_made = own.codecs.reader;
      is = rw own.codecs.target refl;
      sound = record { limit = own.small; within = own.within; waits = record { small = omega (arith, own.holds.within, own.holds.order, length-take (own.engine.to - own.engine.from) (drop own.engine.from own.text)); scalars = own.holds.scalars; whole = own.holds.whole }; ready = own.codecs.ready; set = own.codecs.set; rests = λ o. rw own.codecs.target at (own.rests o) };
    })
