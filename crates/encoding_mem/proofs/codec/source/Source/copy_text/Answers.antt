use Rattle.std.proofs.Common.{◌∙◌, take, sym, ap, encode_utf8_all}
use Rattle.std.proofs.lemmas.Str.{chars-IsAscii, encodes-chars, IsUtf8-from_ascii}
use Rattle.encoding_mem.proofs.codec.source.Source.copy_text.Goals as goal

pub returns-clause-text : goal.returns-clause-text
returns-clause-text g c =
    let e = c.copy_ascii.ensures in
    let run = take c.copy_ascii.result c.copy_ascii.new.dst in
    record {
      prefix = run;
      taken = e.text;
      put = sym (encodes-chars run (IsUtf8-from_ascii run e.ascii)) ∙ ap encode_utf8_all (chars-IsAscii run e.ascii);
    }
