-- Worked rows of `specs/Leavings.antt`, from UTF-8 to UTF-8.
use Rattle.std.proofs.Common.{ℕ, List, [], ◌∷◌, ◌≡◌, ◌∙◌, arith, refl, sym}
use Rattle.encoding_mem.specs.Pieces.{pieces_in}
use Rattle.encoding_front.specs.declared.encoding.Encoding.{Encoding}
use Rattle.encoding_front.specs.declared.mark.Mark.TheVariants.{Keep}
use Rattle.std.specs.Char.{encode_utf8}
use Rattle.recode.specs.Job.{trace}
use Rattle.recode.specs.Latency.{TookCertain, open_trace}
use Rattle.recode.specs.Leavings.{LeftBy}
use Rattle.recode.specs.TaggedByte.{Line, Out, TaggedByte, tagged}
use Rattle.recode.specs.declared.job.Fault.TheVariants.{Read, TooLong, Write}
use Rattle.recode.specs.declared.job.Job.{Job}
use Rattle.recode.specs.declared.job.Policy.{Policy}

abbrev utf8_job : Job → ℕ → Job
utf8_job j limit = record j { from = Encoding.Utf8; to = Encoding.Utf8; mark = Keep; policy = Policy.Decimal; limit = limit }

-- of no bytes nothing is certain
took_certain-none : (j : Job) (limit : ℕ) → TookCertain (utf8_job j limit) [] []
unfolding pieces_in
took_certain-none j limit = record { items = []; first = λ r bytes. (open_trace (utf8_job j limit) r, refl); longest = λ more c. c [] tt; whole = refl }

-- the first read fails
left_by-first_read : (j : Job) → LeftBy Read (utf8_job j 9) [] []
left_by-first_read j = took_certain-none j 9

-- the first read gives a byte, and the limit is none: it is refused
left_by-too_long : (j : Job) → LeftBy TooLong (utf8_job j 0) ((0x41 ∷ []) ∷ []) []
left_by-too_long j = (took_certain-none j 0, omega arith)

-- a write fails that takes none of A
left_by-nothing_of_a : (j : Job) → LeftBy Write (utf8_job j 9) ((0x41 ∷ []) ∷ []) []
left_by-nothing_of_a j = λ r h. (tagged (trace (utf8_job j 9) (0x41 ∷ r)), refl)

-- a line of the log is no prefix of what is written for A
trace-a : (j : Job) → tagged (trace (utf8_job j 9) (0x41 ∷ [])) ≡ Out 0x41 ∷ []
unfolding pieces_in encode_utf8
trace-a j = refl

no_line : (rest : List TaggedByte) → Out 0x41 ∷ [] ≡ Line 98 ∷ rest → ⊥
no_line rest is = absurd (cc)

left_by-line_of_a : (j : Job) → LeftBy Write (utf8_job j 9) ((0x41 ∷ []) ∷ []) (Line 98 ∷ []) → ⊥
left_by-line_of_a j h = let p = h [] (λ is. refl) in no_line p.0 (sym (trace-a j) ∙ p.1)
