use Rattle.std.proofs.Common.{◌≡◌, ◌∙◌, map, ap, inr, slice_index_or, string_bytes}
use Rattle.std.proofs.lemmas.List.Elements.{All-map}
use Rattle.std.proofs.lemmas.Str.{IsUtf8-string_bytes}
use Rattle.std.specs.Str.{IsUtf8}
use Rattle.recode_system.proofs.command_line.answer_on.Goals as goal

pub returns-clause-answered : goal.returns-clause-answered
returns-clause-answered g c =
    let all = map string_bytes c.in-Ok.owned.items in
    let slices : map (λ s. s.now) c.as_slice-2.result.now ≡ all =
    ap (map (λ s. s.now)) c.as_slice-2.ensures.value ∙ c.in-Ok-slices.ensures ∙ ap (map string_bytes) c.as_slice.ensures.value in
    inr (inr record {
      words = all;
      given = c.in-Ok.ensures.words;
      texts = All-map IsUtf8 string_bytes c.in-Ok.owned.items (λ k d h. IsUtf8-string_bytes (slice_index_or c.in-Ok.owned.items k d));
      answered = rw (← slices, ← c.with_name-words.ensures.words) c.program_on.ensures.answer;
    })
