-- Worked rows of `specs/Fits.antt`.
use Rattle.std.specs.Prelude.{Err, IfErr, [], ◌∷◌, refl, codes, ℕ}
use Rattle.std.specs.List.{slice_index_or}
use Rattle.std.specs.Fmt.{digits}
use Rattle.std.proofs.Common.{ap, arith, inl, inr}
use Rattle.encoding_mem.specs.Piece.{malformed, well_formed}
use Rattle.recode_places.specs.Fits.{Fits, IsLeftOfLog, IsNotUnfit}
use Rattle.recode_places.specs.Logs.{IsLogEnd, bytes}
use Rattle.recode_places.specs.declared.entry.Stop.{Stop}
use Rattle.recode_places.specs.declared.entry.Stop.TheVariants.{Unfit}

-- `a`, and a byte that is malformed: the log has the lines of the byte and of its U+FFFD
of_whole : Fits 0 0 (well_formed 1 (0x61 ∷ []) ∷ malformed 1 ∷ []) (codes "bad 1 1\nlost 1 65533\n")
unfolding digits
of_whole = (
  [],
  codes "bad 1 1\nlost 1 65533\n",
  refl,
  (0x61, inl refl, inl refl),
  (
    codes "bad 1 1\n",
    codes "lost 1 65533\n",
    refl,
    inr (((omega arith, omega arith, omega arith), tt), refl),
    (codes "lost 1 65533\n", [], refl, (0xFFFD, inl refl, inr ((omega arith, refl), refl)), inl (refl, omega arith)),
  ),
)

-- or the first of them alone, and a message
of_part : Fits 0 0 (well_formed 1 (0x61 ∷ []) ∷ malformed 1 ∷ []) (codes "bad 1 1\nrecode: write fault\n")
unfolding digits
of_part = (
  [],
  codes "bad 1 1\nrecode: write fault\n",
  refl,
  (0x61, inl refl, inl refl),
  (
    codes "bad 1 1\n",
    codes "recode: write fault\n",
    refl,
    inr (((omega arith, omega arith, omega arith), tt), refl),
    ([], codes "recode: write fault\n", refl, (0xFFFD, inl refl, inl refl), inr (codes "write fault\n", refl)),
  ),
)

-- two malformed sequences, of two bytes and of one: the second stands at offset 2, and its U+FFFD has index 1
of_two : Fits 0 0 (malformed 2 ∷ malformed 1 ∷ []) (codes "bad 0 2\nlost 0 65533\nbad 2 1\nlost 1 65533\n")
unfolding digits
of_two = (
  codes "bad 0 2\n",
  codes "lost 0 65533\nbad 2 1\nlost 1 65533\n",
  refl,
  inr (((omega arith, omega arith, omega arith), tt), refl),
  (
    codes "lost 0 65533\n",
    codes "bad 2 1\nlost 1 65533\n",
    refl,
    (0xFFFD, inl refl, inr ((omega arith, refl), refl)),
    (
      codes "bad 2 1\n",
      codes "lost 1 65533\n",
      refl,
      inr (((omega arith, omega arith, omega arith), tt), refl),
      (codes "lost 1 65533\n", [], refl, (0xFFFD, inl refl, inr ((omega arith, refl), refl)), inl (refl, omega arith)),
    ),
  ),
)

-- 63 bytes with no line feed may be a line that is cut short
of_longest_cut : IsLogEnd (codes "aaaaaaaaaaaaaaaaaaaaaaaaaaaaaaaaaaaaaaaaaaaaaaaaaaaaaaaaaaaaaaa")
of_longest_cut = inl (refl, omega arith)

-- 64 are too many for a line
of_no_line : ¬ (IsLogEnd (codes "aaaaaaaaaaaaaaaaaaaaaaaaaaaaaaaaaaaaaaaaaaaaaaaaaaaaaaaaaaaaaaaa"))
of_no_line h = elim h [ inl cut ↦ absurd (omega (arith, cut.1)) | inr message ↦ absurd (omega (arith, ap (λ l. slice_index_or l 0 0) message.1)) ]

-- refuted: a log that fits is refused at its first line
of_refused : (IsLeftOfLog (Fits 0 0 (well_formed 1 (0x61 ∷ []) ∷ malformed 1 ∷ [])) (bytes (codes "bad 1 1\nlost 1 65533\n")) → IfErr {T = ℕ} {E = Stop} (Err (Unfit 1)) IsNotUnfit) → ⊥
of_refused h = h of_whole

-- refuted: a log fits that has a line more than the input has losses
of_line_too_many : Fits 0 0 [] (codes "bad 0 1\n") → ⊥
of_line_too_many h = elim h [ inl end ↦ absurd (omega (arith, end.0)) | inr message ↦ absurd (omega (arith, ap (λ l. slice_index_or l 0 0) message.1)) ]
