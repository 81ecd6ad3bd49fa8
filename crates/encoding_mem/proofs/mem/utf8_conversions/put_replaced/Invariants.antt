use Rattle.std.proofs.Common.{◌+◌, ◌-◌, ◌≡◌, ◌≤◌, length}
use Rattle.encoding_mem.specs.contracts.utf8.decoder.Utf8DecoderSinkDecoder.TheImpl.{ghosts}
use Rattle.encoding_mem.proofs.ReplacementLemmas.{HasWritten}
use Rattle.encoding_mem.proofs.mem.utf8_conversions.put_replaced.Given as goal

abbrev pub invariant-parts : goal.invariant-parts
invariant-parts l = record {
  within : l.read ≤ length l.src;
  same : l.sink.units.ghost_name ≡ l.initial.sink.units.ghost_name;
  has : HasWritten l.src l.initial.sink.units.now l.initial.sink.written (ghosts.state l.decoder).pieces l.read l.sink.units.now l.sink.written;
}

abbrev pub decreases-parts : goal.decreases-parts
decreases-parts l = (ghosts.state l.decoder).pending + (length l.src - l.read)
