-- Worked rows of `specs/WrittenItems.antt`, `specs/Policy.antt` and `specs/TaggedByte.antt`.
use Rattle.std.specs.Prelude.{◌≡◌, List, [], ◌∷◌, ◌++◌, map, codes, refl}
use Rattle.std.specs.Fmt.{digits}
use Rattle.encoding_mem.specs.Items.{Item, Byte, MalformedAt, LostAt}
use Rattle.recode.specs.Policy.{up_to_loss, written_under}
use Rattle.recode.specs.TaggedByte.{Line, Out, log_bytes, tagged, output_bytes}
use Rattle.recode.specs.WrittenItems.{bad_line_count, lost_line_count}
use Rattle.recode.specs.declared.job.Policy.{Policy}

-- `A`, a malformed sequence of two bytes, an unmappable character of which one byte is written, and another
unfoldable items : List Item
items = Byte 0x41 ∷ MalformedAt 1 2 ∷ LostAt 1 65533 ∷ Byte 0x26 ∷ LostAt 2 232 ∷ []

one_malformed : bad_line_count items ≡ 1
unfolding items
one_malformed = refl

two_lost : lost_line_count items ≡ 2
unfolding items
two_lost = refl

in_order : tagged items
    ≡ Out 0x41 ∷ (map Line (codes "bad 1 2\n") ++ (map Line (codes "lost 1 65533\n") ++ (Out 0x26 ∷ map Line (codes "lost 2 232\n"))))
unfolding items digits
in_order = refl

what_is_written : output_bytes (tagged items) ≡ 0x41 ∷ 0x26 ∷ []
unfolding items digits
what_is_written = refl

what_is_logged : log_bytes (tagged items) ≡ codes "bad 1 2\nlost 1 65533\nlost 2 232\n"
unfolding items digits
what_is_logged = refl

-- a stop leaves what comes before the first lost character, a malformed sequence among it, and its line
up_to_the_first : written_under Policy.Stop items ≡ Byte 0x41 ∷ MalformedAt 1 2 ∷ LostAt 1 65533 ∷ []
unfolding items
up_to_the_first = refl

none_is_lost : up_to_loss (Byte 0x41 ∷ MalformedAt 1 2 ∷ Byte 0x3F ∷ []) ≡ Byte 0x41 ∷ MalformedAt 1 2 ∷ Byte 0x3F ∷ []
none_is_lost = refl

all_under_a_reference : written_under Policy.Hexadecimal items ≡ items
all_under_a_reference = refl
