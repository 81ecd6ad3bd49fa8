use Rattle.std.proofs.lemmas.Str.{encodes-chars}
use Rattle.encoding_mem.proofs.codec.utf8_sink.Utf8SinkSink.put_text.Goals as goal

pub returns-clause-writes : goal.returns-clause-writes
returns-clause-writes c = (c.put_bytes.ensures.same_reference, rw (encodes-chars c.args.text.now c.utf8.text, ← c.as_bytes.ensures.value) c.put_bytes.ensures.adds)
