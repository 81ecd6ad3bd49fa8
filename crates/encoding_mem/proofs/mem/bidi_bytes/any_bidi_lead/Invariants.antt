use Rattle.std.proofs.Common.{◌≡◌, take}
use Rattle.std.specs.List.{list_any}
use Rattle.encoding_mem.specs.BidiBytes.{is_bidi_lead}
use Rattle.encoding_mem.proofs.mem.bidi_bytes.any_bidi_lead.Given as goal

abbrev pub invariant-loop-byte : goal.invariant-loop-byte
invariant-loop-byte l = l.any ≡ list_any is_bidi_lead (take l.byte-index l.bytes)
