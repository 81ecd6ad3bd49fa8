use Rattle.std.proofs.Common.{refl, ◌++◌, ◌∙◌, ap, take}
use Rattle.encoding_mem.proofs.DestinationLemmas.{take_into, drop_into}
use Rattle.encoding_mem.specs.calls.EncoderRule.{left}
use Rattle.encoding_mem.proofs.codec.encode.copy_run.Goals as goal

pub returns-clause-run : goal.returns-clause-run
returns-clause-run g c =
    let e = c.copy_ascii.ensures in
    let run = take c.copy_ascii.result c.copy_ascii.new.dst in
    record {
      run = run;
      ascii = e.ascii;
      taken = e.text ∙ ap (λ l. run ++ left g.S.Source.text l (g.S.Source.offset c.copy_ascii.new.self)) e.same;
      put = take_into _ _ _ _ _ c.requires e.fits;
    }

pub returns-clause-behind : goal.returns-clause-behind
returns-clause-behind g c = drop_into _ _ _ _ _ c.requires refl c.copy_ascii.ensures.fits c.copy_ascii.ensures.behind
