use Rattle.std.proofs.Common.{◌∙◌, length, take, refl, sym, ap, arith}
use Rattle.std.proofs.lemmas.List.{take_all}
use Rattle.std.proofs.lemmas.Str.{utf8_valid_len-IsUtf8}
use Rattle.encoding_mem.proofs.mem.utf8_conversions.text_prefix.Goals as goal

pub from_utf8_unchecked-requires : goal.from_utf8_unchecked-requires
from_utf8_unchecked-requires c = let latin1 = c.if-is_latin1_text.ensures refl in latin1.0

pub returns-then-is_latin1_text-clause-prefix : goal.returns-then-is_latin1_text-clause-prefix
returns-then-is_latin1_text-clause-prefix c =
    let bytes = c.args.bytes.now in
    let latin1 = c.if-is_latin1_text.ensures refl in
    c.from_utf8_unchecked.ensures ∙ sym (ap (λ n. take n bytes) (utf8_valid_len-IsUtf8 bytes latin1.0) ∙ take_all (length bytes) bytes (omega arith))

pub returns-then-is_latin1_text-clause-longest : goal.returns-then-is_latin1_text-clause-longest
returns-then-is_latin1_text-clause-longest c = λ i more le utf8.
    let latin1 = c.if-is_latin1_text.ensures refl in
    absurd (omega (arith, more, le, utf8_valid_len-IsUtf8 c.args.bytes.now latin1.0))

pub returns-in-Ok-clause-prefix : goal.returns-in-Ok-clause-prefix
returns-in-Ok-clause-prefix c =
    let bytes = c.args.bytes.now in
    c.in-Ok.ensures.cases.0 ∙ sym (ap (λ n. take n bytes) (utf8_valid_len-IsUtf8 bytes c.in-Ok.ensures.cases.1) ∙ take_all (length bytes) bytes (omega arith))

pub returns-in-Ok-clause-longest : goal.returns-in-Ok-clause-longest
returns-in-Ok-clause-longest c = λ i more le utf8. absurd (omega (arith, more, le, utf8_valid_len-IsUtf8 c.args.bytes.now c.in-Ok.ensures.cases.1))

pub returns-in-Err-clause-longest : goal.returns-in-Err-clause-longest
returns-in-Err-clause-longest c = λ i more le utf8. c.in-Err.ensures.cases.1.longest i (omega (arith, more, c.in-Err.ensures.valid_len)) utf8
