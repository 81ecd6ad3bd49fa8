-- Worked rows of `specs/Coding.antt`. Outputs are in `Encoding`.
use Rattle.std.specs.Prelude.{◌≡◌, [], ◌∷◌, codes, Some, None, refl}
use Rattle.std.proofs.Common.{arith}
use Rattle.std.specs.Fmt.{digits}
use Rattle.encoding_mem.specs.declared.codec.form.Form.TheVariants.{Mapped, Unmapped}
use Rattle.encoding_mem.specs.declared.codec.reference.Reference.TheVariants.{Decimal}
use Rattle.encoding_mem.specs.Coding.{Coding, IsCoding, open_from, last_set, lost_count, form_of_bytes}
use Rattle.encoding_mem.specs.examples.SampleCoding.{sample_coding}
use Rattle.encoding_mem.specs.declared.codec.form.EscapeState.TheVariants.{Ascii, Roman, Jis}

-- 日 has the bytes it was found with, and is unmappable if it was found with none
bytes_found : form_of_bytes 0x65E5 (Some (0x93 ∷ 0xFA ∷ [])) ≡ Mapped (0x93 ∷ 0xFA ∷ [])
bytes_found = refl

no_bytes_found : form_of_bytes 0x65E5 None ≡ Unmapped 0x65E5
no_bytes_found = refl

-- `A`, é, あ, Ê: the two with accents have no bytes in the sample target
lost_letters : lost_count sample_coding (0x41 ∷ 0xE9 ∷ 0x3042 ∷ 0xCA ∷ []) ≡ 2
lost_letters = refl

-- a yen sign needs Roman, in which `A` stays; あ needs JIS
roman_stays : last_set sample_coding Ascii (0xA5 ∷ 0x41 ∷ []) ≡ Roman
roman_stays = refl

jis_is_last : last_set sample_coding Roman (0x41 ∷ 0x3042 ∷ []) ≡ Jis
jis_is_last = refl

-- the escape to Roman, the yen sign, and the reference of é in Roman
reference_in_roman : open_from Decimal sample_coding Ascii (0xA5 ∷ 0xE9 ∷ []) ≡ 0x1B ∷ 0x28 ∷ 0x4A ∷ 0x5C ∷ codes "&#233;"
unfolding digits
reference_in_roman = refl

-- no target needs more than four bytes at once
not_five_at_once : (e : Coding) → ¬ (IsCoding 5 e)
not_five_at_once e coding = absurd (omega (arith, coding.few))
