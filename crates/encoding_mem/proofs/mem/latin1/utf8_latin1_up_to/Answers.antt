use Rattle.std.proofs.Common.{arith, refl, length-take}
use Rattle.encoding_mem.proofs.Latin1Lemmas.{bytes_up_to, latin1_from_ascii}
use Rattle.encoding_mem.proofs.PrefixLemmas.{whole_prefix}
use Rattle.encoding_mem.specs.Latin1.{IsLatin1Text}
use Rattle.encoding_mem.proofs.mem.latin1.utf8_latin1_up_to.Goals as goal

pub returns-then-is_ascii : goal.returns-then-is_ascii
returns-then-is_ascii c = whole_prefix IsLatin1Text c.args.bytes.now (latin1_from_ascii c.args.bytes.now (c.if-is_ascii.ensures.0 refl))

pub returns-then-is_latin1_text : goal.returns-then-is_latin1_text
returns-then-is_latin1_text c = whole_prefix IsLatin1Text c.args.bytes.now (c.if-is_latin1_text.ensures refl)

pub returns : goal.returns
returns c = bytes_up_to c.args.bytes.now _ c.first_byte_from-low.result c.utf8_valid_up_to.result refl c.first_byte_from-low.ensures.within (omega (arith, c.first_byte_from-low.ensures.within, length-take c.first_byte_from-low.result c.args.bytes.now)) c.first_byte_from-low.ensures.below c.first_byte_from-low.ensures.ends c.utf8_valid_up_to.ensures
