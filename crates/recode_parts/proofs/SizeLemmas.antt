-- How long the log of a run is, and that of a part can be moved.
use Rattle.std.proofs.Common.{◌≡◌, ℕ, ◌+◌, ◌*◌, ◌<◌, ◌≤◌, ◌^◌, List, [], ◌∷◌, ◌++◌, map, length, sym, subst, ◌∙◌, ap, arith, length-append}
use Rattle.std.specs.List.{All, flat_map}
use Rattle.std.proofs.lemmas.List.Elements.{All-cons, All-head, All-nil, All-tail}
use Rattle.encoding_mem.specs.Coding.{Coding}
use Rattle.encoding_mem.specs.Items.{Byte, Item, LostAt, MalformedAt}
use Rattle.encoding_mem.specs.Piece.{ArePieces, Piece, malformed, sizes, well_formed}
use Rattle.encoding_mem.specs.declared.codec.form.EscapeState.TheVariants.{Ascii}
use Rattle.encoding_mem.specs.declared.codec.form.Form.{Form}
use Rattle.encoding_mem.specs.declared.codec.form.Form.TheVariants.{Mapped, Unmapped}
use Rattle.recode_log.specs.Line.{IsValid, line_bytes}
use Rattle.recode_log.specs.declared.line.LogLine.{LogLine}
use Rattle.recode.specs.Job.{form_lines, input_pieces, log_lines, log_of, lost_log_lines, target_of, whole_trace}
use Rattle.recode.specs.Parts.{lines_of, moved_line, noted}
use Rattle.recode.specs.Policy.{reference_form, up_to_loss, written_under}
use Rattle.recode.specs.declared.job.Job.{Job}
use Rattle.recode.specs.declared.job.Policy.{Policy}
use Rattle.recode.specs.laws.Parts.{noted-trace}
use Rattle.recode_places.specs.Logs.{CanBeLogged}
use Rattle.recode_places.specs.Places.{feeds}
use Rattle.recode_parts.specs.Joins.{CanBeMoved}

-- ---- how many lines

form_has_one : (i : ℕ) (f : Form) → length (form_lines i f) ≤ 1
form_has_one i (Mapped bs) = omega arith
form_has_one i (Unmapped c) = omega arith

characters_have_one : (e : Coding) (i : ℕ) (t : List ℕ) → length (lost_log_lines e i t) ≤ length t
characters_have_one e i [] = omega arith
characters_have_one e i (c ∷ t) =
    omega (arith, form_has_one i (e.form c), characters_have_one e (i + 1) t, length-append (form_lines i (e.form c)) (lost_log_lines e (i + 1) t))

bytes_have_two : (e : Coding) (offset i : ℕ) (ps : List Piece) → ArePieces ps → length (log_lines e offset i ps) ≤ 2 * sizes ps
bytes_have_two e offset i [] h = omega arith
bytes_have_two e offset i (well_formed n cs ∷ ps) h =
    let rest = log_lines e (offset + n) (i + length cs) ps in
    let few : length cs ≤ n = h.0.few in
    omega (arith, few, characters_have_one e i cs, bytes_have_two e (offset + n) (i + length cs) ps h.1, length-append (lost_log_lines e i cs) rest)
bytes_have_two e offset i (malformed n ∷ ps) h =
    let rest = log_lines e (offset + n) (i + 1) ps in
    let some : 0 < n = h.0.some in
    omega (arith, some, characters_have_one e i (0xFFFD ∷ []), bytes_have_two e (offset + n) (i + 1) ps h.1, length-append (lost_log_lines e i (0xFFFD ∷ [])) rest)

fewer_up_to_loss : (s : List Item) → length (noted (up_to_loss s)) ≤ length (noted s)
fewer_up_to_loss [] = omega arith
fewer_up_to_loss (Byte b ∷ s) = fewer_up_to_loss s
fewer_up_to_loss (MalformedAt offset size ∷ s) = omega (arith, fewer_up_to_loss s)
fewer_up_to_loss (LostAt i c ∷ s) = omega arith

fewer_written : (p : Policy) (s : List Item) → length (noted (written_under p s)) ≤ length (noted s)
fewer_written Policy.Decimal s = omega arith
fewer_written Policy.Hexadecimal s = omega arith
fewer_written Policy.Stop s = fewer_up_to_loss s

-- ---- how many bytes

module _ (ends : (l : LogLine) → CanBeLogged l → (body : List ℕ) × (line_bytes l ≡ body ++ 10 ∷ []) × (feeds body ≡ 0) × (length body < 64)) where
  lines_are_short : (ls : List LogLine) → All CanBeLogged ls → length (flat_map line_bytes ls) ≤ 64 * length ls
  lines_are_short [] h = omega arith
  lines_are_short (l ∷ ls) h =
      let end = ends l (All-head CanBeLogged l ls h) in
      let whole : length (line_bytes l) ≡ length end.0 + 1 = ap length end.1 ∙ length-append end.0 (10 ∷ []) in
      omega (arith, whole, end.3, lines_are_short ls (All-tail CanBeLogged l ls h), length-append (line_bytes l) (flat_map line_bytes ls))

  pub log_is_short : (j : Job) (x : List ℕ) → ArePieces (input_pieces j x) → sizes (input_pieces j x) ≡ length x → log_of j x ≡ flat_map line_bytes (lines_of j x)
      → All CanBeLogged (lines_of j x) → length x ≤ 2 ^ 48 → length (log_of j x) ≤ 2 ^ 55
  log_is_short j x pieces size log logged within =
      let all : noted (whole_trace j x) ≡ log_lines (target_of j) 0 0 (input_pieces j x) = noted-trace (reference_form j.policy) (target_of j) Ascii 0 0 (input_pieces j x) in
      omega (arith, within, size, ap length log, lines_are_short (lines_of j x) logged, fewer_written j.policy (whole_trace j x), ap length all, bytes_have_two (target_of j) 0 0 (input_pieces j x) pieces)

-- ---- lines that can be moved

all_behind : (ls ks : List LogLine) → All CanBeLogged (ls ++ ks) → All CanBeLogged ks
all_behind [] ks h = h
all_behind (l ∷ ls) ks h = all_behind ls ks (All-tail CanBeLogged l (ls ++ ks) h)

module _ (n m : ℕ) where
  abbrev Moves : LogLine → Type 0
  Moves l = IsValid (moved_line n m l)

  all_moved : (ls : List LogLine) → All CanBeLogged (map (moved_line n m) ls) → All Moves ls
  all_moved [] h = All-nil Moves
  all_moved (l ∷ ls) h =
      All-cons Moves l ls (All-head CanBeLogged (moved_line n m l) (map (moved_line n m) ls) h).0 (all_moved ls (All-tail CanBeLogged (moved_line n m l) (map (moved_line n m) ls) h))

  pub lines_can_be_moved : (log : List ℕ) (first lines whole : List LogLine) → log ≡ flat_map line_bytes lines → All CanBeLogged lines → whole ≡ first ++ map (moved_line n m) lines → All CanBeLogged whole → CanBeMoved n m log
  lines_can_be_moved log first lines whole read logged joined all =
      record { lines = lines; logged = logged; moved = all_moved lines (all_behind first (map (moved_line n m) lines) (subst (All CanBeLogged) joined all)); read = read }
