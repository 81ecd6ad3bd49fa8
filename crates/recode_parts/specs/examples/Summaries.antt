-- Worked rows of `specs/Summaries.antt`.
use Rattle.std.proofs.Common.{false, refl, sym, true}
use Rattle.std.proofs.lemmas.Bool.{false≢true}
use Rattle.encoding_front.specs.declared.encoding.Encoding.{Encoding}
use Rattle.recode_parts.specs.Summaries.{AddsParts}

-- a part of seven bytes that lost a character, and one of five that lost nothing
adds-two : AddsParts
    (record { report = record { read = 7; bad = 0; lost = 1; calls = 8; encoding = Encoding.Utf8; faithful = false }; characters = 6 })
    (record { report = record { read = 5; bad = 0; lost = 0; calls = 4; encoding = Encoding.Utf8; faithful = true }; characters = 3 })
    (record { report = record { read = 12; bad = 0; lost = 1; calls = 12; encoding = Encoding.Utf8; faithful = false }; characters = 9 })
adds-two = record { read = refl; bad = refl; lost = refl; calls = refl; encoding = refl; faithful = refl; characters = refl }

-- refuted: a loss in the first part is forgotten
adds-forgets_loss : AddsParts
    (record { report = record { read = 7; bad = 0; lost = 1; calls = 8; encoding = Encoding.Utf8; faithful = false }; characters = 6 })
    (record { report = record { read = 5; bad = 0; lost = 0; calls = 4; encoding = Encoding.Utf8; faithful = true }; characters = 3 })
    (record { report = record { read = 12; bad = 0; lost = 1; calls = 12; encoding = Encoding.Utf8; faithful = true }; characters = 9 }) → ⊥
adds-forgets_loss h = false≢true (sym h.faithful)
