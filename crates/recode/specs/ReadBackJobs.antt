-- The jobs by which an output is compared with its input.
use Rattle.encoding_front.specs.Encodings.{output_encoding_of}
use Rattle.encoding_front.specs.declared.encoding.Encoding.{Encoding}
use Rattle.encoding_front.specs.declared.mark.Mark.TheVariants.{Keep}
use Rattle.recode.specs.declared.job.Job.{Job}

-- the job that reads what a job writes, and writes UTF-8, with marks kept
abbrev pub back : Job → Job
back j = record j { from = output_encoding_of j.to; to = Encoding.Utf8; mark = Keep }

-- the job that reads what a job reads, and writes UTF-8
abbrev pub in_utf8 : Job → Job
in_utf8 j = record j { to = Encoding.Utf8 }
