use Rattle.std.proofs.Common.{◌∙◌, ap, refl, sym, ◌++◌}
use Rattle.std.specs.Str.{encode_utf8_all}
use Rattle.encoding_mem.specs.calls.Writing.{encode_utf16_all}
use Rattle.recode.proofs.CodecCallLemmas.{begins_spelled, left_behind, no_start, starts, utf16, utf8}
use Rattle.recode.proofs.codec_calls.PivotText.strip_prefix.Goals as goal

pub returns-in_err-rest-in-Utf8-Utf8 : goal.returns-in_err-rest-in-Utf8-Utf8
returns-in_err-rest-in-Utf8-Utf8 c =
    let text = rw c.in-Utf8-Utf8.is-0 at c.requires.text in
    let prefix = rw c.in-Utf8-Utf8.is-1 at c.requires.prefix in
    rw (c.from_residual.ensures, c.in-Utf8-Utf8.is-0, c.in-Utf8-Utf8.is-1)
    (λ begins. c.in_err-rest-in-Utf8-Utf8.ensures.cases (encode_utf8_all begins.0) (begins_spelled utf8 _ _ begins.0 text.whole prefix.whole begins.1))

pub returns-in_err-rest-in-Utf16-Utf16 : goal.returns-in_err-rest-in-Utf16-Utf16
returns-in_err-rest-in-Utf16-Utf16 c =
    let text = rw c.in-Utf16-Utf16.is-0 at c.requires.text in
    let prefix = rw c.in-Utf16-Utf16.is-1 at c.requires.prefix in
    rw (c.from_residual-in_err-rest-in-Utf16-Utf16.ensures, c.in-Utf16-Utf16.is-0, c.in-Utf16-Utf16.is-1)
    (λ begins. no_start _ _ c.in_err-rest-in-Utf16-Utf16.ensures.cases (encode_utf16_all begins.0) (begins_spelled utf16 _ _ begins.0 text.whole prefix.whole begins.1))

pub returns-in_ok-rest-in-Utf8-Utf8 : goal.returns-in_ok-rest-in-Utf8-Utf8
returns-in_ok-rest-in-Utf8-Utf8 c =
    let text = rw c.in-Utf8-Utf8.is-0 at c.requires.text in
    let prefix = rw c.in-Utf8-Utf8.is-1 at c.requires.prefix in
    let cases = c.in_ok-rest-in-Utf8-Utf8.ensures.cases in
    let left = left_behind utf8 c.in-Utf8-Utf8.text.now c.in-Utf8-Utf8.start.now c.in_ok-rest-in-Utf8-Utf8.rest.now text.scalars text.whole prefix.scalars prefix.whole (cases.1.1 ∙ ap (λ l. c.in-Utf8-Utf8.start.now ++ l) (sym cases.2)) in
    rw (c.in-Utf8-Utf8.is-0, c.in-Utf8-Utf8.is-1) (record { parts = left.0; text = record { scalars = left.1; whole = left.2 }; form = refl })

pub returns-in_ok-rest-in-Utf16-Utf16 : goal.returns-in_ok-rest-in-Utf16-Utf16
returns-in_ok-rest-in-Utf16-Utf16 c =
    let text = rw c.in-Utf16-Utf16.is-0 at c.requires.text in
    let prefix = rw c.in-Utf16-Utf16.is-1 at c.requires.prefix in
    let cases = c.in_ok-rest-in-Utf16-Utf16.ensures.cases in
    let left = left_behind utf16 c.in-Utf16-Utf16.units.now c.in-Utf16-Utf16.start.now c.in_ok-rest-in-Utf16-Utf16.rest.now text.scalars text.whole prefix.scalars prefix.whole
    (starts c.in-Utf16-Utf16.units.now c.in-Utf16-Utf16.start.now c.in_ok-rest-in-Utf16-Utf16.rest.now cases.0 cases.1) in
    rw (c.in-Utf16-Utf16.is-0, c.in-Utf16-Utf16.is-1) (record { parts = left.0; text = record { scalars = left.1; whole = left.2 }; form = refl })
