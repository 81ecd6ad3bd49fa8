-- Worked rows of what a fault leaves: what was read, and what is certain.
use Rattle.std.specs.Prelude.{◌≡◌, ℕ, ◌+◌, List, [], ◌∷◌, ◌++◌, map, refl, replicate, true, false, None}
use Rattle.std.proofs.Common.{ap}
use Rattle.encoding_mem.specs.Coding.{Coding}
use Rattle.encoding_mem.specs.Items.{Byte, MalformedAt, closing, trace_from}
use Rattle.encoding_mem.specs.Piece.{well_formed}
use Rattle.encoding_mem.specs.Pieces.{pieces_in}
use Rattle.encoding_mem.specs.declared.codec.form.EscapeState.{EscapeState}
use Rattle.encoding_mem.specs.declared.codec.reference.Reference.{Reference}
use Rattle.encoding_tables.specs.IndexLists.{IndexLists}
use Rattle.encoding_tables.specs.declared.index_kind.IndexKind.{IndexKind}
use Rattle.encoding_tables.specs.examples.IndexLists.{alone}
use Rattle.encoding_front.specs.declared.encoding.Encoding.{Encoding}
use Rattle.encoding_front.specs.declared.mark.Mark.TheVariants.{Keep}
use Rattle.recode.specs.Job.{target_of, trace}
use Rattle.recode.specs.Latency.{open_trace}
use Rattle.recode.specs.Session.{at_end, input_of}
use Rattle.recode.specs.declared.job.Fault.TheVariants.{Read, TooLong}
use Rattle.recode.specs.declared.job.Job.{Job}
use Rattle.recode.specs.declared.job.Policy.{Policy}

-- two reads give three bytes; if they are too long, the last is refused
input_of-two_reads : input_of Read ((1 ∷ 2 ∷ []) ∷ (3 ∷ []) ∷ []) ≡ 1 ∷ 2 ∷ 3 ∷ []
input_of-two_reads = refl

input_of-too_long : input_of TooLong ((1 ∷ 2 ∷ []) ∷ (3 ∷ []) ∷ []) ≡ 1 ∷ 2 ∷ []
input_of-too_long = refl

-- the end is a read that gives nothing, as the last of all
at_end-nothing : at_end ((1 ∷ []) ∷ [] ∷ []) ≡ true
at_end-nothing = refl

at_end-some : at_end ([] ∷ (1 ∷ []) ∷ []) ≡ false
at_end-some = refl

at_end-no_read : at_end [] ≡ false
at_end-no_read = refl

-- of jis0208 U+30CF at 422; U+FFFD at 0
unfoldable ha : IndexLists
ha = record { flats = alone IndexKind.Jis0208 (replicate 422 0 ++ (0x30CF ∷ [])); rows = None }

unfoldable mapped_fffd : IndexLists
mapped_fffd = record { flats = alone IndexKind.Jis0208 (0xFFFD ∷ []); rows = None }

abbrev to_iso_2022_jp : Job → IndexLists → Encoding → Job
to_iso_2022_jp j t from = record j { from = from; to = Encoding.Iso2022Jp; mark = Keep; policy = Policy.Decimal; tables = record j.tables { now = t } }

-- the escape at the end is left out
open_trace-ha : (j : Job) → open_trace (to_iso_2022_jp j ha Encoding.Utf8) (0xE3 ∷ 0x83 ∷ 0x8F ∷ []) ≡ map Byte (0x1B ∷ 0x24 ∷ 0x42 ∷ 0x25 ∷ 0x4F ∷ [])
unfolding pieces_in ha
open_trace-ha j = refl

-- In replacement what follows the first byte adds nothing. If U+FFFD is in jis0208, each input has the same trace, with the
-- escape at the end: it is common to all continuations, and written at the end alone.
nothing_more : (ref : Reference) (e : Coding) (s : EscapeState) (offset i : ℕ) (r : List ℕ) → trace_from ref e s offset i (map (λ _. well_formed 1 []) r) ≡ closing e s
nothing_more ref e s offset i [] = refl
nothing_more ref e s offset i (b ∷ r) = nothing_more ref e s (offset + 1) (i + 0) r

trace-replacement : (j : Job) (r : List ℕ) → trace (to_iso_2022_jp j mapped_fffd Encoding.Replacement) (0x41 ∷ r)
    ≡ MalformedAt 0 1 ∷ map Byte (0x1B ∷ 0x24 ∷ 0x42 ∷ 0x21 ∷ 0x21 ∷ 0x1B ∷ 0x28 ∷ 0x42 ∷ [])
unfolding mapped_fffd
trace-replacement j r =
    ap (λ l. MalformedAt 0 1 ∷ (map Byte (0x1B ∷ 0x24 ∷ 0x42 ∷ 0x21 ∷ 0x21 ∷ []) ++ l)) (nothing_more Reference.Decimal (target_of (to_iso_2022_jp j mapped_fffd Encoding.Replacement)) EscapeState.Jis 1 1 r)

open_trace-replacement : (j : Job) → open_trace (to_iso_2022_jp j mapped_fffd Encoding.Replacement) (0x41 ∷ [])
    ≡ MalformedAt 0 1 ∷ map Byte (0x1B ∷ 0x24 ∷ 0x42 ∷ 0x21 ∷ 0x21 ∷ [])
unfolding mapped_fffd
open_trace-replacement j = refl
