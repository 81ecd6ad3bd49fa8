-- What a conversion has still to write for the bytes to come.
use Rattle.std.specs.Prelude.{ℕ, ◌+◌, ◌-◌, ◌≤◌, List}
use Rattle.encoding_mem.specs.declared.codec.reference.Reference.{Reference}
use Rattle.encoding_mem.specs.calls.Decoding.{DecoderState}
use Rattle.encoding_mem.specs.Coding.{Coding}
use Rattle.encoding_mem.specs.Items.{Item, trace_from}
use Rattle.encoding_mem.specs.declared.codec.form.EscapeState.{EscapeState}
use Rattle.recode.specs.declared.counts.Counts.{Counts}

-- the trace of the decoder's pieces, from the set of the encoder and the counts, with references of this form
abbrev pub trace_to_write : Reference → DecoderState → Coding → EscapeState → Counts → List ℕ → List Item
trace_to_write ref d e s c r = trace_from ref e s (c.read - d.pending) c.index (d.pieces r)

-- What the counts keep: the pending bytes are among those read, no more characters were passed than bytes, and no
-- more lines than characters.
pub record AreSound (pending : ℕ) (c : Counts) : Type 0 where
  pub index : c.index + pending ≤ c.read
  pub bad : c.bad ≤ c.index
  pub lost : c.lost ≤ c.index
