use Rattle.std.proofs.Common.{◌≡◌, ◌∙◌, rules, sym, subst}
use Rattle.std.specs.Str.{chars}
use Rattle.std.proofs.lemmas.Str.{chars-IsAscii, scalars-chars}
use Rattle.encoding_front.specs.Encodings.{output_encoding_of}
use Rattle.encoding_front.specs.declared.encoding.Encoding.TheVariants.{Utf8}
use Rattle.recode_places.specs.Fates.{AreAllKept}
use Rattle.recode_places.specs.calls.FatesViews.{fates_target}
use Rattle.recode_places.proofs.FateLemmas.{kept_ascii, kept_utf8}
use Rattle.recode_places.proofs.fates.Fates.keeps.Goals as goal

pub returns-then-eq : goal.returns-then-eq
returns-then-eq c =
    let is : output_encoding_of c.args.self.now.to ≡ Utf8 = search rules in
    record { kept = λ _. kept_utf8 c.args.self.now.tables.now c.args.self.now.to is (chars c.args.text.now) (scalars-chars c.args.text.now c.utf8.text) }

pub returns-then-is_ascii_compatible : goal.returns-then-is_ascii_compatible
returns-then-is_ascii_compatible c = record {
  kept = λ yes.
      let ascii = (rw yes at c.is_ascii.ensures.cases) in
      subst (AreAllKept (fates_target c.args.self.now)) (sym (chars-IsAscii c.args.text.now ascii))
      (kept_ascii c.args.self.now.tables.now c.args.self.now.to (sym c.is_ascii_compatible.ensures ∙ c.if-is_ascii_compatible.true) c.args.text.now ascii);
}
