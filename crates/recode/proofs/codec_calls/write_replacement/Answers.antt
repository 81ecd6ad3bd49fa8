use Rattle.std.proofs.Common.{◌∷◌, ◌∙◌, ◌-◌, [], arith, drop, refl, take}
use Rattle.recode.proofs.TurnLemmas.{from_start}
use Rattle.recode.proofs.CodecCallLemmas.{spelled, text_of, utf16, utf8, written_prefix, written_within}
use Rattle.recode.proofs.codec_calls.write_replacement.Goals as goal

pub returns-in-Utf8-clause-chars : goal.returns-in-Utf8-clause-chars
returns-in-Utf8-clause-chars c =
    let k = c.replace_in_bytes in
    text_of utf8 (0xFFFD ∷ []) (take (k.result - 0) (drop 0 k.new.dst)) refl (from_start k.result k.new.dst ∙ written_prefix _ _ _ _ k.ensures)

pub returns-in-Utf8-clause-holds : goal.returns-in-Utf8-clause-holds
returns-in-Utf8-clause-holds c =
    let k = c.replace_in_bytes in
    let h = spelled utf8 (0xFFFD ∷ []) (take (k.result - 0) (drop 0 k.new.dst)) refl (from_start k.result k.new.dst ∙ written_prefix _ _ _ _ k.ensures) in
    record { order = omega arith; within = written_within _ _ _ _ k.auto.dst k.ensures; scalars = h.0; whole = h.1 }

pub returns-in-Utf16-clause-chars : goal.returns-in-Utf16-clause-chars
returns-in-Utf16-clause-chars c =
    let k = c.replace_in_units in
    text_of utf16 (0xFFFD ∷ []) (take (k.result - 0) (drop 0 k.new.dst)) refl (from_start k.result k.new.dst ∙ written_prefix _ _ _ _ k.ensures)

pub returns-in-Utf16-clause-holds : goal.returns-in-Utf16-clause-holds
returns-in-Utf16-clause-holds c =
    let k = c.replace_in_units in
    let h = spelled utf16 (0xFFFD ∷ []) (take (k.result - 0) (drop 0 k.new.dst)) refl (from_start k.result k.new.dst ∙ written_prefix _ _ _ _ k.ensures) in
    record { order = omega arith; within = written_within _ _ _ _ k.auto.dst k.ensures; scalars = h.0; whole = h.1 }
