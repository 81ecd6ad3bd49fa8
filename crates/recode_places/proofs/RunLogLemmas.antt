-- The log of a run fits its input: what comes from the definition of its lines, line by line.
use Rattle.std.proofs.Common.{◌≡◌, ℕ, ◌+◌, ◌-◌, ◌^◌, ◌<◌, ◌≤◌, inl, inr, true, List, [], ◌∷◌, ◌++◌, length, take, drop, codes, refl, sym, ◌∙◌, ap, subst, arith, append_assoc, append-nil, length-append, take-append-drop}
use Rattle.std.specs.Char.{IsScalar}
use Rattle.std.specs.List.{All, flat_map}
use Rattle.std.specs.Str.{all_scalars}
use Rattle.std.proofs.Math.Utf8.{scalar}
use Rattle.std.proofs.Math.Seq.{take-append-add}
use Rattle.std.proofs.lemmas.Bool.{and_parts, cases_lt}
use Rattle.std.proofs.lemmas.Grind.{flat_map-append}
use Rattle.std.proofs.lemmas.List.{length-take, take-append-le}
use Rattle.std.proofs.lemmas.List.Elements.{All-cons, All-nil}
use Rattle.encoding_mem.specs.Piece.{Piece, well_formed, malformed, sizes, ArePieces}
use Rattle.encoding_mem.specs.Coding.{Coding}
use Rattle.encoding_mem.specs.declared.codec.form.EscapeState.TheVariants.{Ascii}
use Rattle.recode.specs.Conversion.{message_of}
use Rattle.recode.specs.Parts.{lines_of as lines_of_run, noted}
use Rattle.recode.specs.Policy.{reference_form, written_under}
use Rattle.recode.specs.TaggedByte.{IsPrefix}
use Rattle.recode.specs.laws.Parts.{noted-cut, noted-trace}
use Rattle.recode.specs.declared.job.Fault.{Fault}
use Rattle.recode.specs.declared.job.Fault.TheVariants.{Log, Read, TooLong, Unmappable, Write}
use Rattle.recode.specs.declared.job.Job.{Job}
use Rattle.recode.specs.declared.job.Policy.{Policy}
use Rattle.encoding_mem.specs.declared.codec.form.Form.{Form}
use Rattle.encoding_mem.specs.declared.codec.form.Form.TheVariants.{Mapped, Unmapped}
use Rattle.recode_log.specs.Line.{line_bytes, row_bytes}
use Rattle.recode_log.specs.declared.line.LogLine.{LogLine}
use Rattle.recode_log.specs.declared.line.LogLine.TheVariants.{Bad, Lost}
use Rattle.recode.specs.Job.{RunsThrough, form_lines, input_pieces, lines_up_to_loss, log_lines, log_of, lost_log_lines, target_of, whole_trace}
use Rattle.recode_places.specs.Fits.{Fits, FitsCharacter, FitsText, IsLineOrNone, Then}
use Rattle.recode_places.specs.Logs.{CanBeLogged, IsLoggedAs, IsLogEnd}
use Rattle.recode_places.specs.Places.{feeds}
use Rattle.recode_places.proofs.LineLemmas.{Lacks, begins_longer, heads, lacks_from_feeds, line_ends, tails}
use Rattle.recode_places.proofs.LoggedFormLemmas.{IsLoggedForm, logged_form}
use Rattle.recode_places.proofs.ShortPieceLemmas.{AreShort, short_pieces}

-- ---- the lines of a run can be logged

abbrev pub CanAllBeLogged : List LogLine → Type 0
CanAllBeLogged [] = Unit {0}
CanAllBeLogged (l ∷ ls) = CanBeLogged l × CanAllBeLogged ls

all_logged_append : (ls more : List LogLine) → CanAllBeLogged ls → CanAllBeLogged more → CanAllBeLogged (ls ++ more)
all_logged_append [] more h k = k
all_logged_append (l ∷ ls) more h k = (h.0, all_logged_append ls more h.1 k)

-- pieces that can be logged: each has bytes and is short if it is malformed
abbrev pub AreLoggable : List Piece → Type 0
AreLoggable ps = ArePieces ps × AreShort ps

is_scalar : (c : ℕ) → scalar c ≡ true → IsScalar c
is_scalar c h = h

-- the number of a character that is logged is a scalar
logged_scalar : (c d : ℕ) → IsScalar c → IsLoggedAs c d → IsScalar d
logged_scalar c d h (inl same) = subst IsScalar (sym same) h
logged_scalar c d h (inr other) = subst IsScalar (sym other.0) refl

module _ (e : Coding) (forms : (c : ℕ) → IsLoggedForm c (e.form c)) where
  form_logged : (i c : ℕ) (f : Form) → IsLoggedForm c f → i ≤ 2 ^ 48 → IsScalar c → CanAllBeLogged (form_lines i f)
  form_logged i c (Mapped bs) h within s = tt
  form_logged i c (Unmapped d) h within s = ((within, logged_scalar c d s h), tt)

  text_logged : (i : ℕ) (t : List ℕ) → all_scalars t ≡ true → i + length t ≤ 2 ^ 48 → CanAllBeLogged (lost_log_lines e i t)
  text_logged i [] h within = tt
  text_logged i (c ∷ t) h within =
      let parts = and_parts (scalar c) (all_scalars t) h in
      all_logged_append (form_lines i (e.form c)) (lost_log_lines e (i + 1) t)
      (form_logged i c (e.form c) (forms c) (omega (arith, within)) (is_scalar c parts.0))
      (text_logged (i + 1) t parts.1 (omega (arith, within)))

  pub lines_logged : (offset i : ℕ) (ps : List Piece) → AreLoggable ps → i ≤ offset → offset + sizes ps ≤ 2 ^ 48 → CanAllBeLogged (log_lines e offset i ps)
  lines_logged offset i [] h few within = tt
  lines_logged offset i (well_formed n cs ∷ ps) h few within =
      let few_chars : length cs ≤ n = h.0.0.few in
      all_logged_append (lost_log_lines e i cs) (log_lines e (offset + n) (i + length cs) ps)
      (text_logged i cs h.0.0.are_scalars (omega (arith, few, few_chars, within)))
      (lines_logged (offset + n) (i + length cs) ps (h.0.1, h.1.1) (omega (arith, few, few_chars)) (omega (arith, within)))
  lines_logged offset i (malformed n ∷ ps) h few within =
      let some : 0 < n = h.0.0.some in (
        ((omega (arith, within), omega (arith, some), h.1.0), tt),
        all_logged_append (lost_log_lines e i (0xFFFD ∷ [])) (log_lines e (offset + n) (i + 1) ps)
            (text_logged i (0xFFFD ∷ []) refl (omega (arith, few, some, within)))
            (lines_logged (offset + n) (i + 1) ps (h.0.1, h.1.1) (omega (arith, few, some)) (omega (arith, within))),
      )

-- ---- the first lines of a log fit, and what ends a log after them

head_or : {X : Type 0} → List X → X → X
head_or [] x = x
head_or (y ∷ ys) x = y

tail_of : {X : Type 0} → List X → List X
tail_of [] = []
tail_of (y ∷ ys) = ys

-- what an equation of lists that begin with an element says
same_head : (x y : LogLine) (xs ys : List LogLine) → x ∷ xs ≡ y ∷ ys → x ≡ y
unfolding head_or
same_head x y xs ys e = ap (λ l. head_or l x) e

same_tail : (x y : LogLine) (xs ys : List LogLine) → x ∷ xs ≡ y ∷ ys → xs ≡ ys
unfolding tail_of
same_tail x y xs ys e = ap tail_of e

-- the first lines of a log, then what ends it, fit what the lines are of
abbrev pub FitsFirst : List LogLine → (List ℕ → Type 0) → Type 0
FitsFirst lines P = (ls more : List LogLine) (end : List ℕ) → lines ≡ ls ++ more → IsLogEnd end → P (flat_map line_bytes ls ++ end)

-- a line comes first, or nothing does
first_line : (l : LogLine) (lines : List LogLine) (P : List ℕ → Type 0) → CanBeLogged l → FitsFirst lines P → FitsFirst (l ∷ lines) (Then (IsLineOrNone l) P)
first_line l lines P h fits [] more end e ends = ([], end, refl, inl refl, fits [] lines end refl ends)
first_line l lines P h fits (k ∷ ls) more end e ends = (
  line_bytes k,
  flat_map line_bytes ls ++ end,
  append_assoc (line_bytes k) (flat_map line_bytes ls) end,
  inr (h, ap line_bytes (sym (same_head l k lines (ls ++ more) e))),
  fits ls more end (same_tail l k lines (ls ++ more) e) ends,
)

no_lines : FitsFirst [] IsLogEnd
no_lines [] more end same ends = ends
no_lines (l ∷ ls) more end same ends = absurd (omega (arith, ap length same))

module _ (e : Coding) (forms : (c : ℕ) → IsLoggedForm c (e.form c)) where
  -- a character, by its form
  first_character : (i c : ℕ) (f : Form) (lines : List LogLine) (P : List ℕ → Type 0) → IsLoggedForm c f → CanAllBeLogged (form_lines i f) → FitsFirst lines P → FitsFirst (form_lines i f ++ lines) (Then (FitsCharacter i c) P)
  first_character i c (Mapped bs) lines P h logged fits ls more end same ends =
      ([], flat_map line_bytes ls ++ end, refl, (c, inl refl, inl refl), fits ls more end same ends)
  first_character i c (Unmapped d) lines P h logged fits ls more end same ends =
      let k = first_line (Lost i d) lines P logged.0 fits ls more end same ends in
      (k.0, k.1, k.2, (d, h, k.3), k.4)

  first_text : (i : ℕ) (t : List ℕ) (lines : List LogLine) (After : ℕ → List ℕ → Type 0) → CanAllBeLogged (lost_log_lines e i t) → FitsFirst lines (After (i + length t)) → FitsFirst (lost_log_lines e i t ++ lines) (FitsText i t After)
  first_text i [] lines After logged fits =
      let same : i + length {A = ℕ} [] ≡ i = omega arith in
      subst (λ n. FitsFirst lines (After n)) same fits
  first_text i (c ∷ t) lines After logged fits =
      let parts = split_logged (form_lines i (e.form c)) (lost_log_lines e (i + 1) t) logged in
      let same : i + length (c ∷ t) ≡ (i + 1) + length t = omega arith in
      subst (λ ls. FitsFirst ls (Then (FitsCharacter i c) (FitsText (i + 1) t After))) (sym (append_assoc (form_lines i (e.form c)) (lost_log_lines e (i + 1) t) lines))
      (first_character i c (e.form c) (lost_log_lines e (i + 1) t ++ lines) (FitsText (i + 1) t After) (forms c) parts.0
      (first_text (i + 1) t lines After parts.1 (subst (λ n. FitsFirst lines (After n)) same fits)))
    where
      split_logged : (ls more : List LogLine) → CanAllBeLogged (ls ++ more) → CanAllBeLogged ls × CanAllBeLogged more
      split_logged [] more h = (tt, h)
      split_logged (l ∷ ls) more h = let k = split_logged ls more h.1 in ((h.0, k.0), k.1)

  pub first_lines : (offset i : ℕ) (ps : List Piece) → AreLoggable ps → i ≤ offset → offset + sizes ps ≤ 2 ^ 48 → FitsFirst (log_lines e offset i ps) (Fits i offset ps)
  first_lines offset i [] h few within = no_lines
  first_lines offset i (well_formed n cs ∷ ps) h few within =
      let few_chars : length cs ≤ n = h.0.0.few in
      first_text i cs (log_lines e (offset + n) (i + length cs) ps) (λ j. Fits j (offset + n) ps)
      (text_logged e forms i cs h.0.0.are_scalars (omega (arith, few, few_chars, within)))
      (first_lines (offset + n) (i + length cs) ps (h.0.1, h.1.1) (omega (arith, few, few_chars)) (omega (arith, within)))
  first_lines offset i (malformed n ∷ ps) h few within =
      let some : 0 < n = h.0.0.some in
      first_line (Bad offset n) (lost_log_lines e i (0xFFFD ∷ []) ++ log_lines e (offset + n) (i + 1) ps) (Then (FitsCharacter i 0xFFFD) (Fits (i + 1) (offset + n) ps))
      ((omega (arith, within), omega (arith, some), h.1.0), tt)
      (first_text i (0xFFFD ∷ []) (log_lines e (offset + n) (i + 1) ps) (λ j. Fits j (offset + n) ps)
      (text_logged e forms i (0xFFFD ∷ []) refl (omega (arith, few, some, within)))
      (first_lines (offset + n) (i + 1) ps (h.0.1, h.1.1) (omega (arith, few, some)) (omega (arith, within))))

-- ---- any first bytes of a log are whole lines and what ends it

-- bytes are some first lines, and what ends a log
pub record CutsLog (lines : List LogLine) (bytes : List ℕ) : Type 0 where
  pub before : List LogLine
  pub after : List LogLine
  pub end : List ℕ
  pub split : lines ≡ before ++ after
  pub whole : bytes ≡ flat_map line_bytes before ++ end
  pub ends : IsLogEnd end

no_feeds : (xs : List ℕ) → Lacks 10 xs → feeds xs ≡ 0
no_feeds [] h = refl
no_feeds (c ∷ xs) h = grind (arith, h.0, no_feeds xs h.1)

lacks_part : (xs ys : List ℕ) → Lacks 10 (xs ++ ys) → Lacks 10 xs
lacks_part [] ys h = tt
lacks_part (x ∷ xs) ys h = (h.0, lacks_part xs ys h.1)

-- some first bytes of two parts in a row are within the first part, and not all of it, or all of it and more
pub data Overlaps (first second bytes rest : List ℕ) : Type 0 where
  inside : (x : ℕ) (left : List ℕ) → first ≡ bytes ++ (x ∷ left) → Overlaps first second bytes rest
  beyond : (more : List ℕ) → bytes ≡ first ++ more → second ≡ more ++ rest → Overlaps first second bytes rest

overlaps : (first second bytes rest : List ℕ) → first ++ second ≡ bytes ++ rest → Overlaps first second bytes rest
overlaps [] second bytes rest e = beyond bytes refl e
overlaps (x ∷ first) second [] rest e = inside x first refl
overlaps (x ∷ first) second (b ∷ bytes) rest e = one_more (overlaps first second bytes rest (tails x b (first ++ second) (bytes ++ rest) e))
  where
    same : x ≡ b
    same = heads x b (first ++ second) (bytes ++ rest) e

    one_more : Overlaps first second bytes rest → Overlaps (x ∷ first) second (b ∷ bytes) rest
    one_more (inside y left k) = inside y left (ap (λ z. z ∷ first) same ∙ ap (λ l. b ∷ l) k)
    one_more (beyond more k m) = beyond more (ap (λ l. b ∷ l) k ∙ ap (λ z. z ∷ (first ++ more)) (sym same)) m

-- a line that is cut short ends a log
cut_line : (l : LogLine) (bytes : List ℕ) (x : ℕ) (left : List ℕ) → CanBeLogged l → line_bytes l ≡ bytes ++ (x ∷ left) → IsLogEnd bytes
cut_line l bytes x left h e =
    let ends = line_ends l h in
    let same : bytes ++ (x ∷ left) ≡ ends.body ++ (10 ∷ []) = sym e ∙ ends.whole in
    let sizes_are : length bytes + (1 + length left) ≡ length ends.body + 1 = omega (arith, ap length same, length-append bytes (x ∷ left), length-append ends.body (10 ∷ [])) in
    let part = begins_longer bytes (x ∷ left) ends.body (10 ∷ []) (omega (arith, sizes_are)) same in
    inl (
      no_feeds bytes (lacks_part bytes part.0 (subst (Lacks 10) part.1 ends.lacks)),
      omega (arith, ends.short, sizes_are),
    )

pub cut_log : (lines : List LogLine) → CanAllBeLogged lines → (bytes rest : List ℕ) → flat_map line_bytes lines ≡ bytes ++ rest → CutsLog lines bytes
cut_log [] h [] rest e = record { before = []; after = []; end = []; split = refl; whole = refl; ends = inl (refl, omega arith) }
cut_log [] h (b ∷ bytes) rest e = absurd (omega (arith, ap length e))
cut_log (l ∷ lines) h bytes rest e = by (cut_log lines h.1) (overlaps (line_bytes l) (flat_map line_bytes lines) bytes rest e)
  where
    by : ((bs more : List ℕ) → flat_map line_bytes lines ≡ bs ++ more → CutsLog lines bs) → Overlaps (line_bytes l) (flat_map line_bytes lines) bytes rest → CutsLog (l ∷ lines) bytes
    by cut_rest (inside x left k) = record { before = []; after = l ∷ lines; end = bytes; split = refl; whole = refl; ends = cut_line l bytes x left h.0 k }
    by cut_rest (beyond more k m) =
        let cut = cut_rest more rest m in
        record {
          before = l ∷ cut.before;
          after = cut.after;
          end = cut.end;
          split = ap (λ ls. l ∷ ls) cut.split;
          whole = k ∙ ap (λ bs. line_bytes l ++ bs) cut.whole ∙ sym (append_assoc (line_bytes l) (flat_map line_bytes cut.before) cut.end);
          ends = cut.ends;
        }

-- ---- what a policy leaves that stops

pub first_of_lines : (lines : List LogLine) → (more : List LogLine) × (lines ≡ lines_up_to_loss lines ++ more)
first_of_lines [] = ([], refl)
first_of_lines (Bad offset n ∷ lines) = let k = first_of_lines lines in (k.0, ap (λ ls. Bad offset n ∷ ls) k.1)
first_of_lines (Lost i c ∷ lines) = (lines, refl)

pub bytes_of_first : (lines first more : List LogLine) → lines ≡ first ++ more → flat_map line_bytes lines ≡ flat_map line_bytes first ++ flat_map line_bytes more
bytes_of_first lines first more e = ap (flat_map line_bytes) e ∙ flat_map-append line_bytes first more

-- ---- a message

pub message_ends : (more : List ℕ) (told : ℕ) → IsLogEnd (take told (codes "recode: " ++ more))
message_ends more told = elim (cases_lt told 8) [
  | inl few ↦ inl (
    ap feeds (take-append-le told (codes "recode: ") more (omega (arith, few))) ∙ no_feeds (take told (codes "recode: ")) (few_lack told),
    omega (arith, ap length (take-append-le told (codes "recode: ") more (omega (arith, few))), length-take told (codes "recode: ")),
  )
  | inr many ↦ inr (take (told - 8) more, ap (λ n. take n (codes "recode: " ++ more)) (omega (arith, many)) ∙ take-append-add (codes "recode: ") more (told - 8))
]
  where
    few_lack : (n : ℕ) → Lacks 10 (take n (codes "recode: "))
    few_lack n = lacks_part (take n (codes "recode: ")) (drop n (codes "recode: ")) (subst (Lacks 10) (sym (take-append-drop n (codes "recode: "))) (lacks_from_feeds (codes "recode: ") refl))

pub fault_ends : (f : Fault) (told : ℕ) → IsLogEnd (take told (message_of f))
fault_ends Read told = message_ends (codes "read fault\n") told
fault_ends Write told = message_ends (codes "write fault\n") told
fault_ends Log told = message_ends (codes "log fault\n") told
fault_ends TooLong told = message_ends (codes "input too long\n") told
fault_ends (Unmappable index scalar) told = message_ends (row_bytes (codes "unmappable ") index scalar) told

-- ---- a job

split_logged : (ls more : List LogLine) → CanAllBeLogged (ls ++ more) → CanAllBeLogged ls
split_logged [] more h = tt
split_logged (l ∷ ls) more h = (h.0, split_logged ls more h.1)

-- some first bytes of some first lines
first_bytes : (e : Coding) (forms : (c : ℕ) → IsLoggedForm c (e.form c)) (ps : List Piece) → AreLoggable ps → sizes ps ≤ 2 ^ 48 → (first after : List LogLine) → log_lines e 0 0 ps ≡ first ++ after
    → (bytes rest : List ℕ) → flat_map line_bytes first ≡ bytes ++ rest → Fits 0 0 ps bytes
first_bytes e forms ps h within first after split bytes rest same =
    let logged = split_logged first after (subst CanAllBeLogged split (lines_logged e forms 0 0 ps h (omega arith) (omega (arith, within)))) in
    let cut = cut_log first logged bytes rest same in
    subst (Fits 0 0 ps) (sym cut.whole)
    (first_lines e forms 0 0 ps h (omega arith) (omega (arith, within)) cut.before (cut.after ++ after) cut.end
    (split ∙ ap (λ ls. ls ++ after) cut.split ∙ append_assoc cut.before cut.after after) cut.ends)

stops : Policy → ℕ
stops Policy.Stop = 1
stops Policy.Decimal = 0
stops Policy.Hexadecimal = 0

module _ (j : Job) (x : List ℕ) (pieces : ArePieces (input_pieces j x)) (whole : sizes (input_pieces j x) ≡ length x) (within : length x ≤ 2 ^ 48) where
  abbrev pub lines_of : List LogLine
  lines_of = log_lines (target_of j) 0 0 (input_pieces j x)

  loggable : AreLoggable (input_pieces j x)
  loggable = (pieces, short_pieces j.tables.now j.mark j.from x)

  pub lines_fit : (first : List LogLine) (end : List ℕ) → IsPrefix first lines_of → IsLogEnd end → Fits 0 0 (input_pieces j x) (flat_map line_bytes first ++ end)
  lines_fit first end prefix ends =
      first_lines (target_of j) (logged_form j.tables.now j.to) 0 0 (input_pieces j x) loggable (omega arith) (omega (arith, whole, within)) first prefix.0 end prefix.1 ends

  part_fits : (first after : List LogLine) → lines_of ≡ first ++ after → (bytes rest : List ℕ) → flat_map line_bytes first ≡ bytes ++ rest → Fits 0 0 (input_pieces j x) bytes
  part_fits = first_bytes (target_of j) (logged_form j.tables.now j.to) (input_pieces j x) loggable (omega (arith, whole, within))

  pub log_fits : (RunsThrough j x → log_of j x ≡ flat_map line_bytes lines_of) → (j.policy ≡ Policy.Stop → log_of j x ≡ flat_map line_bytes (lines_up_to_loss lines_of))
      → (bytes : List ℕ) → IsPrefix bytes (log_of j x) → Fits 0 0 (input_pieces j x) bytes
  unfolding stops
  log_fits through stopped bytes prefix = by j.policy refl
    where
      whole_log : RunsThrough j x → Fits 0 0 (input_pieces j x) bytes
      whole_log runs = part_fits lines_of [] (sym (append-nil lines_of)) bytes prefix.0 (sym (through runs) ∙ prefix.1)

      by : (p : Policy) → j.policy ≡ p → Fits 0 0 (input_pieces j x) bytes
      by Policy.Decimal is = whole_log (λ e. absurd (omega (arith, ap stops (sym is ∙ e))))
      by Policy.Hexadecimal is = whole_log (λ e. absurd (omega (arith, ap stops (sym is ∙ e))))
      by Policy.Stop is =
          let front = first_of_lines lines_of in
          part_fits (lines_up_to_loss lines_of) front.0 front.1 bytes prefix.0 (sym (stopped is) ∙ prefix.1)

  -- the lines that are written
  whole_logged : CanAllBeLogged (noted (whole_trace j x))
  whole_logged = subst CanAllBeLogged (sym (noted-trace (reference_form j.policy) (target_of j) Ascii 0 0 (input_pieces j x))) (lines_logged (target_of j) (logged_form j.tables.now j.to) 0 0 (input_pieces j x) loggable (omega arith) (omega (arith, whole, within)))

  logged_under : (p : Policy) → CanAllBeLogged (noted (written_under p (whole_trace j x)))
  logged_under Policy.Decimal = whole_logged
  logged_under Policy.Hexadecimal = whole_logged
  logged_under Policy.Stop =
      let front = first_of_lines (noted (whole_trace j x)) in
      subst CanAllBeLogged (sym (noted-cut (whole_trace j x))) (split_logged (lines_up_to_loss (noted (whole_trace j x))) front.0 (subst CanAllBeLogged front.1 whole_logged))

  pub run_logged : All CanBeLogged (lines_of_run j x)
  run_logged = all_logged (lines_of_run j x) (logged_under j.policy)
    where
      all_logged : (ls : List LogLine) → CanAllBeLogged ls → All CanBeLogged ls
      all_logged [] h = All-nil CanBeLogged
      all_logged (l ∷ ls) h = All-cons CanBeLogged l ls h.0 (all_logged ls h.1)

-- a line by its line feed
pub line_feed : (l : LogLine) → CanBeLogged l → (body : List ℕ) × (line_bytes l ≡ body ++ (10 ∷ [])) × (feeds body ≡ 0) × (length body < 64)
line_feed l h = let ends = line_ends l h in (ends.body, ends.whole, no_feeds ends.body ends.lacks, ends.short)
