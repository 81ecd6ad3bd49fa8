-- Worked rows of `specs/calls/TextUnits.antt`.
use Rattle.std.proofs.Common.{◌≡◌, refl}
use Rattle.encoding_mem.specs.calls.TextUnits.{size_from_lead}

-- the last byte of ASCII, and the bytes at which each size begins: U+0080, U+0800 and U+10000
ascii : size_from_lead 0x7F ≡ 1
ascii = refl

begins_two : size_from_lead 0xC2 ≡ 2
begins_two = refl

ends_two : size_from_lead 0xDF ≡ 2
ends_two = refl

begins_three : size_from_lead 0xE0 ≡ 3
begins_three = refl

ends_three : size_from_lead 0xEF ≡ 3
ends_three = refl

begins_four : size_from_lead 0xF0 ≡ 4
begins_four = refl

-- the continuation byte after ASCII, which begins none
behind_ascii : size_from_lead 0x80 ≡ 2
behind_ascii = refl
