-- What was saved of a converter, and a converter that goes on from it.
use Rattle.std.specs.Prelude.{◌≡◌, ◌^◌, ◌≤◌, ℕ, false, List, length, true}
use Rattle.std.specs.Borrow.{Bor}
use Rattle.std.specs.Str.{all_scalars, chars, encode_utf8_all}
use Rattle.encoding_mem.specs.calls.EncoderRule.{Moves}
use Rattle.encoding_mem.specs.declared.codec.form.EscapeState.TheVariants.{Ascii}
use Rattle.encoding_tables.specs.IndexLists.{IndexLists}
use Rattle.encoding_front.specs.Encodings.{IsReady, coding_of, output_encoding_of}
use Rattle.encoding_front.specs.calls.SavedDecoders.{Saves}
use Rattle.encoding_front.specs.calls.Stream.{DecoderView, IsMadeFrom}
use Rattle.recode.specs.Converter.{ConverterView}
use Rattle.recode.specs.calls.Turns.{IsBetweenCalls, Standing, waiting}
use Rattle.recode.specs.declared.converter.saved_converter.SavedConverter.{SavedConverter}
use Rattle.recode.specs.declared.converter.saved_converter.SavedJob.{SavedJob}
use Rattle.recode.specs.declared.job.Job.{Job}
use Rattle.recode.specs.declared.job.Policy.{Policy}

-- the job that words say, with these tables
abbrev pub job_with : SavedJob → Bor IndexLists → Job
job_with w tables = record { from = w.from; to = w.to; mark = w.mark; policy = w.policy; limit = w.limit; tables = tables }

-- where the conversion stands, over these indexes and under this policy, by what was saved, the text that waits, and how
-- its two decoders read on
abbrev pub saved_standing : SavedConverter → (text : List ℕ) → IndexLists → Policy → (decoder reader : DecoderView) → Standing
saved_standing w text lists policy decoder reader = record {
  state = record {
    decoder = decoder.state;
    finished = decoder.finished;
    source = decoder.source;
    coding = coding_of lists w.job.to;
    set = w.set;
    policy = policy;
    verdict = record { reader = reader; by_log = w.verdict.by_log; faithful = w.verdict.faithful };
    counts = w.counts;
  };
  answer = w.answer;
  text = chars text;
}

-- the converter that was saved
abbrev pub saved_view : SavedConverter → (text : List ℕ) → IndexLists → (decoder reader : DecoderView) → ConverterView
saved_view w text lists decoder reader =
    let c = saved_standing w text lists w.job.policy decoder reader in record { job = w.job; lists = lists; state = c.state; waiting = waiting c; ended = w.ended; over = w.over }

-- bytes that can wait: text in UTF-8, at most 1 KiB
pub record CanWait (text : List ℕ) : Type 0 where
  pub small : length text ≤ 1024
  pub scalars : all_scalars (chars text) ≡ true
  pub whole : text ≡ encode_utf8_all (chars text)

-- What was saved is sound over these indexes: the limit is one of a job, and no more was read; what waits is text; the
-- indexes of the target are there, and the set in force is one that calls leave; and a call can be made, unless all is
-- written.
pub record IsSoundSaved (w : SavedConverter) (text : List ℕ) (lists : IndexLists) (decoder reader : DecoderView) : Type 0 where
  pub limit : w.job.limit ≤ 2 ^ 48
  pub within : w.counts.read ≤ w.job.limit
  pub waits : CanWait text
  pub ready : IsReady lists (output_encoding_of w.job.to)
  pub set : ∥ Moves (coding_of lists w.job.to) Ascii w.set ∥₁
  pub rests : w.over ≡ false → IsBetweenCalls (saved_standing w text lists Policy.Decimal decoder reader) w.ended

-- What was saved, and the text that waits, are those of a converter: what its two decoders keep, which are of the job's
-- indexes, and where its conversion stands.
pub record SavesConverter (w : SavedConverter) (text : List ℕ) (v : ConverterView) : Type 0 where
  pub decoder : DecoderView
  pub decoder_saved : Saves w.decoder decoder
  pub decoder_made : IsMadeFrom v.lists decoder
  pub reader : DecoderView
  pub reader_saved : Saves w.verdict.reader reader
  pub reader_made : IsMadeFrom v.lists reader
  pub is : v ≡ saved_view w text v.lists decoder reader
  pub sound : IsSoundSaved w text v.lists decoder reader

-- a converter can go on over these indexes from what was saved: it is that of some converter of a job that has them
abbrev pub CanGoOnFrom : IndexLists → SavedConverter → (text : List ℕ) → Type 0
CanGoOnFrom lists w text = ∥ ((v : ConverterView) × (v.lists ≡ lists) × SavesConverter w text v) ∥₁
