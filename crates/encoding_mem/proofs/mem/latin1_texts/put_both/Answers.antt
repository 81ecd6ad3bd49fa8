use Rattle.std.proofs.Common.{◌≡◌, ◌≤◌, ◌∙◌, ◌++◌, ◌-◌, length, take, drop, length-append, ap, arith}
use Rattle.std.proofs.lemmas.List.{take_at}
use Rattle.encoding_mem.proofs.DestinationLemmas.{take_into}
use Rattle.encoding_mem.proofs.mem.latin1_texts.put_both.Goals as goal

pub returns-clause-text : goal.returns-clause-text
returns-clause-text c =
    let text = c.args.text.now in
    let put = c.copy_from_slice.new.self in
    let copied : put ≡ text = c.copy_from_slice.ensures.after ∙ c.as_bytes.ensures.value in
    let begun = put ++ drop (length text) c.args.dst.now in
    let within : length text ≤ length begun = omega (arith, length-append put (drop (length text) c.args.dst.now), ap length copied) in
    let e = c.convert_latin1_to_utf8.ensures in
    take_into (length text) (length begun - length text) c.convert_latin1_to_utf8.result begun c.convert_latin1_to_utf8.new.dst within e.fits
    ∙ ap (λ l. l ++ take c.convert_latin1_to_utf8.result c.convert_latin1_to_utf8.new.dst) (take_at put (drop (length text) c.args.dst.now) (length text) (ap length copied) ∙ copied)
    ∙ ap (λ l. text ++ l) e.text
