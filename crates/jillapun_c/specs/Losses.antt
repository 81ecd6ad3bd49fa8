-- What a record of a loss stands for: a line of the log.
use Rattle.std.specs.Prelude.{◌≡◌, ℕ, List, [], ◌∷◌, Option, Some, None, map, option_map, refl, unwrap_or, ◌==◌, if◌then◌else◌}
use Rattle.std.specs.List.{flat_map}
use Rattle.recode_log.specs.Line.{line_bytes}
use Rattle.recode_log.specs.declared.line.LogLine.{LogLine}
use Rattle.recode_log.specs.declared.line.LogLine.TheVariants.{Bad, Lost}
use Rattle.jillapun_c.specs.declared.losses.Loss.{Loss}
use Rattle.jillapun_c.specs.declared.status.TheConstants.{BAD, LOST}

-- the line of the log that a record stands for: of kind `BAD` that of a malformed sequence, of kind `LOST` that of a
-- character without bytes, and of another kind none
abbrev pub line_of : Loss → Option LogLine
line_of loss =
    if loss.kind == BAD then Some (Bad loss.place loss.number) else (if loss.kind == LOST then Some (Lost loss.place loss.number) else None)

-- the bytes of that line; if there is none, a byte that no log has
abbrev pub loss_bytes : Loss → List ℕ
loss_bytes loss = unwrap_or (option_map line_bytes (line_of loss)) (0 ∷ [])

-- the log that some records stand for: their lines, in their order
abbrev pub log_of_losses : List Loss → List ℕ
log_of_losses losses = flat_map loss_bytes losses

-- three bytes in, a malformed sequence of one byte; then a lost character, before which five stand
two_losses : map line_of (record { place = 3; number = 1; kind = BAD } ∷ record { place = 5; number = 26085; kind = LOST } ∷ []) ≡ Some (Bad 3 1) ∷ Some (Lost 5 26085) ∷ []
two_losses = refl

-- a kind that is neither
no_line : line_of (record { place = 3; number = 1; kind = 2 }) ≡ None
no_line = refl
