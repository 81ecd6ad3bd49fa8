use Rattle.std.proofs.lemmas.Str.{IsUtf8-from_ascii}
use Rattle.encoding_mem.proofs.AsciiLemmas.{ascii_take}
use Rattle.encoding_mem.proofs.mem.ascii.ascii_prefix.Goals as goal

pub from_utf8_unchecked-requires : goal.from_utf8_unchecked-requires
from_utf8_unchecked-requires c = IsUtf8-from_ascii _ (ascii_take c.args.bytes.now c.first_byte_from-end.result c.first_byte_from-end.ensures.within c.first_byte_from-end.ensures.below)
