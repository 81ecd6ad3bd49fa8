use Rattle.std.proofs.Common.{◌∙◌}
use Rattle.recode.specs.calls.PivotText.{Holds}
use Rattle.recode.specs.declared.job.Pivot.TheVariants.{Utf8, Utf16}
use Rattle.recode.proofs.CodecCallLemmas.{spelled, text_of, utf16, utf8}
use Rattle.recode.proofs.codec_calls.text_in.Goals as goal

pub returns-in-Utf8-clause-chars : goal.returns-in-Utf8-clause-chars
returns-in-Utf8-clause-chars c = λ text scalars held.
    let h : Holds (Utf8 c.in-Utf8.bytes) c.args.len text = rw c.in-Utf8.is at held in
    text_of utf8 text _ scalars (c.from_utf8_unchecked.ensures ∙ h.1)

pub returns-in-Utf8-clause-text : goal.returns-in-Utf8-clause-text
returns-in-Utf8-clause-text c =
    let h : Holds (Utf8 c.in-Utf8.bytes) c.args.len c.requires.0 = rw c.in-Utf8.is at c.requires.2 in
    let k = spelled utf8 c.requires.0 _ c.requires.1 (c.from_utf8_unchecked.ensures ∙ h.1) in
    record { scalars = k.0; whole = k.1 }

pub returns-in-Utf16-clause-chars : goal.returns-in-Utf16-clause-chars
returns-in-Utf16-clause-chars c = λ text scalars held.
    let h : Holds (Utf16 c.in-Utf16.units) c.args.len text = rw c.in-Utf16.is at held in
    text_of utf16 text _ scalars h.1

pub returns-in-Utf16-clause-text : goal.returns-in-Utf16-clause-text
returns-in-Utf16-clause-text c =
    let h : Holds (Utf16 c.in-Utf16.units) c.args.len c.requires.0 = rw c.in-Utf16.is at c.requires.2 in
    let k = spelled utf16 c.requires.0 _ c.requires.1 h.1 in
    record { scalars = k.0; whole = k.1 }
