-- The codecs of an engine are those of a job.
use Rattle.std.specs.Prelude.{◌≡◌}
use Rattle.encoding_mem.specs.calls.EncoderRule.{EncoderParts, Moves}
use Rattle.encoding_mem.specs.declared.codec.form.EscapeState.TheVariants.{Ascii}
use Rattle.encoding_front.specs.Encodings.{IsReady, output_encoding_of}
use Rattle.encoding_front.specs.calls.Stream.{DecoderView, IsMadeFrom}
use Rattle.recode.specs.Job.{target_of}
use Rattle.recode.specs.declared.engine.Engine.{Engine}
use Rattle.recode.specs.declared.job.Job.{Job}

-- Both decoders, that of the input and the one that reads the output back, are of the job's indexes. The encoder writes
-- in the job's target, whose indexes are there, and the set in force is one that calls leave.
pub record AreCodecsOf {D E : Type 0} (view : D → DecoderView) (parts : E → EncoderParts) (j : Job) (c : Engine D E) : Type 0 where
  pub decoder : IsMadeFrom j.tables.now (view c.decoder)
  pub reader : IsMadeFrom j.tables.now (view c.verdict.reader)
  pub ready : IsReady j.tables.now (output_encoding_of j.to)
  pub target : (parts c.encoder).coding ≡ target_of j
  pub set : ∥ Moves (target_of j) Ascii (parts c.encoder).set ∥₁
