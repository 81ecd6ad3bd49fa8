use Rattle.std.proofs.Common.{◌∙◌, sym, ap, take, ◌++◌}
use Rattle.std.specs.Str.{chars}
use Rattle.std.proofs.lemmas.Str.{IsUtf8-take, encodes-chars}
use Rattle.encoding_mem.proofs.Utf8TextLemmas.{chars_at}
use Rattle.encoding_mem.proofs.codec.source.whole_characters.Goals as goal

pub returns-clause-chars : goal.returns-clause-chars
returns-clause-chars c =
    let text = c.args.text.now in
    let n = c.floor_char_boundary.result in
    let b = c.floor_char_boundary.ensures.boundary in
    record {
      prefix = chars (take n text);
      taken = chars_at text n c.utf8.text b ∙ ap (λ l. chars (take n text) ++ chars l) (sym c.split_at.ensures.back);
      put = c.split_at.ensures.front ∙ sym (encodes-chars (take n text) (IsUtf8-take text n c.utf8.text b));
    }
