use Rattle.std.proofs.Common.{refl}
use Rattle.encoding_front.proofs.SavedNewLemmas.{new_resumes, saved_of_new}
use Rattle.encoding_front.proofs.decoder.saved_decoder.SavedDecoder.new.Goals as goal

pub returns-clause-words : goal.returns-clause-words
returns-clause-words c = record { in_force = refl; sought = c.new.ensures; held = refl; open_ = refl; mode = refl; pending = refl }

pub returns-clause-goes_on : goal.returns-clause-goes_on
returns-clause-goes_on c t ready = new_resumes t c.args.mark c.args.encoding c.new.result _ c.new.ensures ready

pub returns-clause-new : goal.returns-clause-new
returns-clause-new c t taken ready = saved_of_new t c.args.mark c.args.encoding c.new.result _ c.new.ensures taken ready
