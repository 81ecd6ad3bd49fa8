-- Worked rows of `specs/Parts.antt`.
use Rattle.std.specs.Prelude.{◌≡◌, [], ◌∷◌, refl}
use Rattle.std.proofs.Common.{arith}
use Rattle.std.proofs.lemmas.Bool.{false≢true}
use Rattle.encoding_mem.specs.Items.{Byte, LostAt, MalformedAt}
use Rattle.recode_log.specs.declared.line.LogLine.TheVariants.{Bad, Lost}
use Rattle.encoding_front.specs.declared.encoding.Encoding.{Encoding}
use Rattle.encoding_front.specs.declared.mark.Mark.TheVariants.{Keep, Sniff}
use Rattle.recode.specs.Parts.{CanBeCut, later, moved, moved_line, noted}
use Rattle.recode.specs.declared.job.Job.{Job}

-- 10 bytes and 4 characters stand before the part
moved_bad : moved_line 10 4 (Bad 3 2) ≡ Bad 13 2
moved_bad = refl

moved_lost : moved_line 10 4 (Lost 3 0x20AC) ≡ Lost 7 0x20AC
moved_lost = refl

item_moved_bad : moved 10 4 (MalformedAt 3 2) ≡ MalformedAt 13 2
item_moved_bad = refl

item_moved_lost : moved 10 4 (LostAt 3 0x20AC) ≡ LostAt 7 0x20AC
item_moved_lost = refl

lines_among_bytes : noted (Byte 0x41 ∷ MalformedAt 1 1 ∷ Byte 0x26 ∷ LostAt 2 0xFFFD ∷ []) ≡ Bad 1 1 ∷ Lost 2 0xFFFD ∷ []
lines_among_bytes = refl

-- a mark of UTF-8 names the encoding of all parts, whatever was said, and the others have none
abbrev said : Job → Encoding → Encoding → Job
said j from to = record j { from = from; to = to; mark = Sniff }

behind_a_mark : (j : Job) → CanBeCut (said j Encoding.Utf16Be Encoding.Windows1252) (0xEF ∷ 0xBB ∷ 0xBF ∷ 0x41 ∷ 0x0A ∷ [])
behind_a_mark j = record { ends = record { before = 0xEF ∷ 0xBB ∷ 0xBF ∷ 0x41 ∷ []; byte = 0x0A; is_cut = omega arith; split = refl }; source = refl; target = refl }

later_encoding : (j : Job) → (later (said j Encoding.Utf16Be Encoding.Windows1252) (0xEF ∷ 0xBB ∷ 0xBF ∷ 0x41 ∷ 0x0A ∷ [])).from ≡ Encoding.Utf8
later_encoding j = refl

later_mark : (j : Job) → (later (said j Encoding.Utf16Be Encoding.Windows1252) (0xEF ∷ 0xBB ∷ 0xBF ∷ 0x41 ∷ 0x0A ∷ [])).mark ≡ Keep
later_mark j = refl

-- neither behind a mark of UTF-16, nor to ISO-2022-JP; UTF-16 as the target is UTF-8
utf16_by_its_mark : (j : Job) → CanBeCut (said j Encoding.Utf8 Encoding.Utf8) (0xFF ∷ 0xFE ∷ 0x0A ∷ []) → ⊥
utf16_by_its_mark j c = false≢true c.source

to_iso_2022_jp : (j : Job) → CanBeCut (said j Encoding.Utf8 Encoding.Iso2022Jp) (0x0A ∷ []) → ⊥
to_iso_2022_jp j c = false≢true c.target

to_utf16 : (j : Job) → CanBeCut (said j Encoding.Big5 Encoding.Utf16Le) (0x0A ∷ [])
to_utf16 j = record { ends = record { before = []; byte = 0x0A; is_cut = omega arith; split = refl }; source = refl; target = refl }
