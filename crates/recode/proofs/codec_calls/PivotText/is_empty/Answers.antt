use Rattle.recode.proofs.CodecCallLemmas.{empty, utf16, utf8}
use Rattle.recode.proofs.codec_calls.PivotText.is_empty.Goals as goal

pub returns-in-Utf8 : goal.returns-in-Utf8
returns-in-Utf8 c =
    let text = rw c.in-Utf8.is at c.requires in
    rw c.in-Utf8.is (empty utf8 _ _ c.is_empty.ensures text.whole)

pub returns-in-Utf16 : goal.returns-in-Utf16
returns-in-Utf16 c =
    let text = rw c.in-Utf16.is at c.requires in
    rw c.in-Utf16.is (empty utf16 _ _ c.is_empty-in-Utf16.ensures text.whole)
