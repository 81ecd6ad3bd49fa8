-- Worked rows of `specs/Converter.antt`, and wrong outcomes that it refuses.
use Rattle.std.specs.Prelude.{◌≡◌, ℕ, ◌+◌, ◌<◌, List, [], ◌∷◌, Bool, IsTrue, codes, false, map, refl, true}
use Rattle.std.specs.Borrow.{Bor}
use Rattle.std.specs.Fmt.{digits}
use Rattle.std.proofs.Common.{ap, arith, sym, ◌∙◌}
use Rattle.encoding_mem.specs.Coding.{lost_count}
use Rattle.encoding_mem.specs.Items.{Byte, Item, LostAt, MalformedAt}
use Rattle.encoding_mem.specs.Piece.{malformed, malformed_count, text, well_formed}
use Rattle.encoding_mem.specs.laws.Piece.{well_formed_count}
use Rattle.encoding_mem.specs.declared.codec.reference.Reference.TheVariants.{Decimal, Hexadecimal}
use Rattle.recode_log.specs.declared.line.LogLine.TheVariants.{Bad, Lost}
use Rattle.encoding_tables.specs.IndexLists.{IndexLists}
use Rattle.recode.specs.Converter.{ConverterEndsWith, ConverterView, ConvertsPart, IsReportButCalls, found_items, is_all_converted, owes, saved_job}
use Rattle.recode.specs.Job.{input_pieces, input_text, target_of}
use Rattle.recode.specs.SavedConverters.{job_with}
use Rattle.recode.specs.State.{State, characters_with, characters_after, text_after}
use Rattle.recode.specs.declared.converter.ConverterResult.TheVariants.{Found, InputEmpty, OutputFull}
use Rattle.recode.specs.declared.converter.saved_converter.SavedJob.{SavedJob}
use Rattle.recode.specs.declared.job.Job.{Job}
use Rattle.recode.specs.declared.job.Report.{Report}

-- two bytes at offset 3 are malformed: nothing but their line is found
malformed_is_found : found_items Decimal (Found (Bad 3 2)) ≡ MalformedAt 3 2 ∷ []
malformed_is_found = refl

-- the character with index 1, U+00E8, has no bytes: after its line comes its reference
lost_is_found : found_items Decimal (Found (Lost 1 0xE8)) ≡ LostAt 1 0xE8 ∷ map Byte (codes "&#232;")
unfolding digits
lost_is_found = refl

lost_in_hexadecimal : found_items Hexadecimal (Found (Lost 1 0xE8)) ≡ LostAt 1 0xE8 ∷ map Byte (codes "&#xE8;")
unfolding digits
lost_in_hexadecimal = refl

nothing_is_found : found_items Decimal OutputFull ≡ []
nothing_is_found = refl

nothing_at_the_end : found_items Decimal InputEmpty ≡ []
nothing_at_the_end = refl

all_is_converted : is_all_converted InputEmpty ≡ true
all_is_converted = refl

not_if_room_is_wanted : is_all_converted OutputFull ≡ false
not_if_room_is_wanted = refl

not_if_something_is_found : is_all_converted (Found (Bad 3 2)) ≡ false
not_if_something_is_found = refl

-- room is wanted if three bytes are free, and not if four are
three_are_few : (v : ConverterView) → v.over ≡ false → ConverterEndsWith v (0x41 ∷ []) false 3 OutputFull
three_are_few v open_ = (omega arith, open_)

four_are_not : (v : ConverterView) → ConverterEndsWith v (0x41 ∷ []) false 4 OutputFull → ⊥
four_are_not v h = absurd (omega (arith, h.0))

-- `A`, and a malformed sequence of two bytes, wait before the text of the bytes to come: they stand for two characters
what_is_to_come : (s : State) (r : List ℕ) → text_after (well_formed 1 (0x41 ∷ []) ∷ malformed 2 ∷ []) s r ≡ 0x41 ∷ 0xFFFD ∷ text (s.decoder.pieces r)
what_is_to_come s r = refl

-- five characters were encoded, those two wait, and no byte is to come
seven_characters : (s : State) → s.counts.index ≡ 5 → s.decoder.pieces [] ≡ [] → characters_after (well_formed 1 (0x41 ∷ []) ∷ malformed 2 ∷ []) s [] ≡ 7
seven_characters s five none = rw (five, none) refl

five_if_none_wait : (s : State) → s.counts.index ≡ 5 → s.decoder.pieces [] ≡ [] → characters_with s [] ≡ 5
five_if_none_wait s five none = rw (five, none) refl

-- a job is what its words say with its tables, and its words are those
words_of_a_job : (w : SavedJob) (tables : Bor IndexLists) → saved_job (job_with w tables) ≡ w
words_of_a_job w tables = refl

job_of_words : (j : Job) → job_with (saved_job j) j.tables ≡ j
job_of_words j = refl

-- ---- wrong outcomes

-- all that was handed in as the last is converted, and the conversion is not over
last_is_not_over : (v : ConverterView) (free : ℕ) → ConverterEndsWith v [] true free InputEmpty → v.over ≡ false → ⊥
last_is_not_over v free h open_ = let over : v.over ≡ true = h.over in cc

-- more may be handed in, and the conversion is over
over_before_the_last : (v : ConverterView) (free : ℕ) → ConverterEndsWith v [] false free InputEmpty → v.over ≡ true → ⊥
over_before_the_last v free h over = let open_ : v.over ≡ false = h.over in cc

-- all is said to be converted, and a byte is not read
unread_byte : (v : ConverterView) (last : Bool) (free : ℕ) → ConverterEndsWith v (0x41 ∷ []) last free InputEmpty → ⊥
unread_byte v last free h = let none : 0x41 ∷ [] ≡ [] = h.all in cc

-- all is said to be converted, and a piece waits to be written
waiting_piece : (v : ConverterView) (last : Bool) (free : ℕ) → ConverterEndsWith v [] last free InputEmpty → v.waiting ≡ malformed 2 ∷ [] → ⊥
waiting_piece v last free h waits = let none : v.waiting ≡ [] = h.none in cc

-- a malformed sequence without a byte is found
empty_sequence : (v : ConverterView) (last : Bool) (free : ℕ) → ConverterEndsWith v [] last free (Found (Bad 3 0)) → ⊥
empty_sequence v last free h = absurd (omega (arith, h.0.1))

-- a line is counted twice
counted_twice : (v v' : ConverterView) (last : Bool) (bytes rest : List ℕ) → ConvertsPart v v' last bytes rest (found_items Decimal (Found (Bad 3 2)))
    → v'.state.counts.bad ≡ v.state.counts.bad + 2 → ⊥
counted_twice v v' last bytes rest h twice = absurd (omega (arith, twice, h.lines.bad))

-- a line is not counted
not_counted : (v v' : ConverterView) (last : Bool) (bytes rest : List ℕ) → ConvertsPart v v' last bytes rest (found_items Decimal (Found (Lost 1 0xE8)))
    → v'.state.counts.lost ≡ v.state.counts.lost → ⊥
unfolding digits
not_counted v v' last bytes rest h same = absurd (omega (arith, same, h.lines.lost))

-- a byte is read and lost: it was to be written, and neither was nor will be
byte_is_lost : (v v' : ConverterView) (last : Bool) → ConvertsPart v v' last (0x41 ∷ []) [] [] → owes v (0x41 ∷ []) ≡ Byte 0x41 ∷ [] → owes v' [] ≡ [] → ⊥
byte_is_lost v v' last h owed none = let same : owes v (0x41 ∷ []) ≡ owes v' [] = h.owed [] (λ end. refl) in let one : Byte 0x41 ∷ [] ≡ [] = sym owed ∙ (same ∙ none) in cc

-- a byte is written twice: by this call, and by those to come
byte_is_written_twice : (v v' : ConverterView) (last : Bool) → ConvertsPart v v' last (0x41 ∷ []) [] (Byte 0x41 ∷ []) → owes v (0x41 ∷ []) ≡ Byte 0x41 ∷ []
    → owes v' [] ≡ Byte 0x41 ∷ [] → ⊥
byte_is_written_twice v v' last h owed again =
    let same : owes v (0x41 ∷ []) ≡ Byte 0x41 ∷ owes v' [] = h.owed [] (λ end. refl) in
    let one : Byte 0x41 ∷ [] ≡ Byte 0x41 ∷ (Byte 0x41 ∷ []) = sym owed ∙ (same ∙ ap (λ (l : List Item). Byte 0x41 ∷ l) again) in cc

-- something was lost, and after the last call nothing was
verdict_is_true_again : (v v' : ConverterView) (bytes : List ℕ) (items : List Item) (free : ℕ) → ConvertsPart v v' true bytes [] items → ConverterEndsWith v' [] true free InputEmpty
    → v.state.verdict.faithful ≡ false → v'.state.verdict.faithful ≡ true → ⊥
verdict_is_true_again v v' bytes items free h ends lost kept =
    let was : v.state.verdict.faithful ≡ true = ((h.verdict [] (λ end. refl)).1 ((ends.whole refl).told.1 kept)).0 in cc

-- the end is read, though more bytes are to come
ended_before_the_last : (v v' : ConverterView) (bytes rest : List ℕ) (items : List Item) → ConvertsPart v v' false bytes rest items → v'.ended ≡ true → ⊥
ended_before_the_last v v' bytes rest items h ended = let last : false ≡ true = (h.ended ended).0 in cc

-- a report has a malformed sequence, and calls the conversion faithful
malformed_but_faithful : (j : Job) (x : List ℕ) (p : Report) → IsReportButCalls j x p → 0 < p.bad → IsTrue p.faithful → ⊥
malformed_but_faithful j x p h some said =
    let none : malformed_count (input_pieces j x) ≡ 0 = well_formed_count (input_pieces j x) (h.faithful.0 said).source in
    absurd (omega (arith, some, none, h.bad))

-- a report has one lost character less than the text
one_loss_less : (j : Job) (x : List ℕ) (p : Report) → IsReportButCalls j x p → p.lost + 1 ≡ lost_count (target_of j) (input_text j x) → ⊥
one_loss_less j x p h less = absurd (omega (arith, less, h.lost))
