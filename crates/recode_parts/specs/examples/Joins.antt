-- Worked rows of `specs/Joins.antt`.
use Rattle.std.proofs.Common.{◌≡◌, ◌∙◌, ℕ, ◌-◌, ◌^◌, List, [], ◌∷◌, ◌++◌, ap, append-nil, codes, length, length-append, length-take, map, refl, sym, take, arith}
use Rattle.std.specs.Fmt.{digits}
use Rattle.std.specs.List.{All, concat, flat_map, slice_index_or}
use Rattle.std.proofs.lemmas.List.{same_from_push}
use Rattle.std.proofs.lemmas.List.Elements.{All-cons, All-head, All-nil}
use Rattle.recode_log.specs.Call.{Call, Failed, IsWriteOfSome, Passed}
use Rattle.recode_log.specs.declared.counted.Counted.{Counted}
use Rattle.recode_log.specs.declared.line.LogLine.{LogLine}
use Rattle.recode_log.specs.declared.line.LogLine.TheVariants.{Bad, Lost}
use Rattle.recode_places.specs.Logs.{CanBeLogged}
use Rattle.recode_log.specs.Line.{IsValid, line_bytes}
use Rattle.recode.specs.Parts.{moved_line}
use Rattle.recode_parts.specs.Joins.{CanBeMoved, IsReadOfSome, JoinCalls, JoinsFirst, JoinsLog, MovesLines, failed_reads}

-- ten bytes and three characters stand before a part: a malformed sequence is named by its offset in the whole, a lost
-- character by its index there
moves-two : MovesLines 10 3 (codes "bad 6 1\nlost 1 128169\n") (codes "bad 16 1\nlost 4 128169\n")
unfolding digits
moves-two = record {
  from = record {
    lines = Bad 6 1 ∷ Lost 1 128169 ∷ [];
    logged = All-cons CanBeLogged (Bad 6 1) (Lost 1 128169 ∷ []) ((omega arith, omega arith, omega arith), tt) (All-cons CanBeLogged (Lost 1 128169) [] (omega arith, refl) (All-nil CanBeLogged));
    moved = All-cons (λ l. IsValid (moved_line 10 3 l)) (Bad 6 1) (Lost 1 128169 ∷ []) (omega arith, omega arith, omega arith) (All-cons (λ l. IsValid (moved_line 10 3 l)) (Lost 1 128169) [] (omega arith) (All-nil (λ l. IsValid (moved_line 10 3 l))));
    read = refl;
  };
  written = refl;
}

pub one-line : MovesLines 10 3 (codes "bad 6 1\n") (codes "bad 16 1\n")
unfolding digits
one-line = record { from = record { lines = Bad 6 1 ∷ []; logged = All-cons CanBeLogged (Bad 6 1) [] ((omega arith, omega arith, omega arith), tt) (All-nil CanBeLogged); moved = All-cons (λ l. IsValid (moved_line 10 3 l)) (Bad 6 1) [] (omega arith, omega arith, omega arith) (All-nil (λ l. IsValid (moved_line 10 3 l))); read = refl }; written = refl }

-- lines without bytes are none
no_lines : (lines : List LogLine) → length (flat_map line_bytes lines) ≡ 0 → lines ≡ []
no_lines [] none = refl
no_lines (Bad offset n ∷ lines) none = absurd (omega (arith, none))
no_lines (Lost index scalar ∷ lines) none = absurd (omega (arith, none))

-- as `recode_places::laws::lines_are_told_apart` says
module _ (apart : (a b : LogLine) (x y : List ℕ) → CanBeLogged a → CanBeLogged b → line_bytes a ++ x ≡ line_bytes b ++ y → (a ≡ b) × (x ≡ y)) where
  -- the bytes of one line are read as no other lines
  only_line : (l : LogLine) (lines : List LogLine) → CanBeLogged l → All CanBeLogged lines → line_bytes l ≡ flat_map line_bytes lines → lines ≡ l ∷ []
  only_line (Bad offset n) [] can logged e = absurd (omega (arith, ap length e))
  only_line (Lost index scalar) [] can logged e = absurd (omega (arith, ap length e))
  only_line l (k ∷ lines) can logged e =
      let same = apart l k [] (flat_map line_bytes lines) can (All-head CanBeLogged k lines logged) (append-nil (line_bytes l) ∙ e) in
      ap (λ x. x ∷ lines) (sym same.0) ∙ ap (λ ls. l ∷ ls) (no_lines lines (ap length (sym same.1)))

  -- refuted: a malformed sequence keeps its offset in the part
  moves-not_at_all : MovesLines 10 3 (codes "bad 6 1\n") (codes "bad 6 1\n") → ⊥
  unfolding digits
  moves-not_at_all h =
      let lines = only_line (Bad 6 1) h.from.lines ((omega arith, omega arith, omega arith), tt) h.from.logged h.from.read in
      let moved : codes "bad 6 1\n" ≡ codes "bad 16 1\n" = h.written ∙ ap (λ ls. flat_map line_bytes (map (moved_line 10 3) ls)) lines in
      omega (arith, ap length moved)

  -- refuted: the index of a lost character is moved by bytes
  moves-index_by_bytes : MovesLines 10 3 (codes "lost 1 128169\n") (codes "lost 11 128169\n") → ⊥
  unfolding digits
  moves-index_by_bytes h =
      let lines = only_line (Lost 1 128169) h.from.lines (omega arith, refl) h.from.logged h.from.read in
      let moved : codes "lost 11 128169\n" ≡ codes "lost 4 128169\n" = h.written ∙ ap (λ ls. flat_map line_bytes (map (moved_line 10 3) ls)) lines in
      omega (arith, ap length moved)

-- at the greatest offset that a line can name
can_be_moved-greatest : CanBeMoved (2 ^ 48 - 6) 3 (codes "bad 6 1\n")
unfolding digits
can_be_moved-greatest = record { lines = Bad 6 1 ∷ []; logged = All-cons CanBeLogged (Bad 6 1) [] ((omega arith, omega arith, omega arith), tt) (All-nil CanBeLogged); moved = All-cons (λ l. IsValid (moved_line (2 ^ 48 - 6) 3 l)) (Bad 6 1) [] (omega arith, omega arith, omega arith) (All-nil (λ l. IsValid (moved_line (2 ^ 48 - 6) 3 l))); read = refl }

-- a part's log that comes in two reads, then its end
joins-one : JoinsLog 10 3 [] (codes "bad 6" ∷ codes " 1\n" ∷ [] ∷ []) (codes "bad 0 1\n") (codes "bad 0 1\nbad 16 1\n")
joins-one = record { part = codes "bad 6 1\n"; moved = codes "bad 16 1\n"; given = (codes "bad 6" ∷ codes " 1\n" ∷ [], refl, refl); size = omega arith; lines = one-line; wrote = refl }

-- refuted: a log is joined whose end was not read
joins-unread : (log log' : List ℕ) → JoinsLog 10 3 [] (codes "bad 6 1\n" ∷ []) log log' → ⊥
joins-unread log log' h = omega (arith, ap length (same_from_push [] h.given.0 (codes "bad 6 1\n") [] h.given.1).1)

-- no line begins with the letter r
pub no_line : (lines : List LogLine) (rest : List ℕ) → flat_map line_bytes lines ≡ 114 ∷ rest → ⊥
no_line [] rest e = cc
no_line (Bad offset length ∷ lines) rest e = let same : ◌≡◌ {A = ℕ} 98 114 = cc in omega (arith, same)
no_line (Lost index scalar ∷ lines) rest e = let same : ◌≡◌ {A = ℕ} 108 114 = cc in omega (arith, same)

-- refuted: a message of `recode` is joined as lines of a log
joins-message : (log log' : List ℕ) → JoinsLog 10 3 [] (codes "recode: read fault\n" ∷ [] ∷ []) log log' → ⊥
joins-message log log' h =
    let reads = (same_from_push (codes "recode: read fault\n" ∷ []) h.given.0 [] [] h.given.1).0 in
    no_line h.lines.from.lines (codes "ecode: read fault\n") (sym h.lines.from.read ∙ sym h.given.2 ∙ ap concat (sym reads))

-- refuted: the log of the whole loses what it had
joins-overwrites : (reads : List (List ℕ)) → JoinsLog 10 3 [] reads (codes "bad 0 1\n") (codes "bad 16 1\n") → ⊥
joins-overwrites reads h = omega (arith, ap (λ l. slice_index_or l 4 0) h.wrote)

-- a writer that took six bytes of a line, and then failed
joins-first : JoinsFirst 10 3 [] (codes "bad 6 1\nba" ∷ []) [] (codes "bad 16")
joins-first = record { first = codes "bad 6 1\n"; more = codes "ba"; moved = codes "bad 16 1\n"; count = 6; given = (codes "bad 6 1\nba" ∷ [], refl, refl); lines = one-line; wrote = refl }

-- refuted: a byte is written though none was read
joins-first_unread : JoinsFirst 10 3 [] [] [] (98 ∷ []) → ⊥
joins-first_unread h =
    let none : h.first ++ h.more ≡ [] = sym h.given.2 ∙ ap concat (sym h.given.1) in
    let lines = no_lines h.lines.from.lines (omega (arith, ap length none, length-append h.first h.more, ap length h.lines.from.read)) in
    let wrote : ◌≡◌ {A = List ℕ} (98 ∷ []) (take h.count []) = h.wrote ∙ ap (take h.count) (h.lines.written ∙ ap (λ ls. flat_map line_bytes (map (moved_line 10 3) ls)) lines) in
    omega (arith, ap length wrote, length-take {A = ℕ} h.count [])

-- a device with these calls, none of which failed
abbrev pub device_of_calls : List Call → Counted ℕ
device_of_calls calls = record { recorded = record { inner = 0; history = record { calls = calls } }; failures = 0 }

-- an empty log: the end was read once, with room for four bytes, and nothing was written
join_calls-empty : JoinCalls (device_of_calls []) (device_of_calls (Passed 4 [] ∷ [])) (device_of_calls []) (device_of_calls [])
join_calls-empty = record {
  calls = Passed 4 [] ∷ [];
  reads = record { made = refl; some = All-cons IsReadOfSome (Passed 4 []) [] (omega arith) (All-nil IsReadOfSome); counted = refl };
  writes = record { calls = []; made = refl; some = All-nil IsWriteOfSome; counted = refl };
}

-- of two calls the second failed
failed_reads-second : failed_reads (Passed 4 [] ∷ Failed 4 ∷ []) ≡ 1
failed_reads-second = refl

-- a read without room is no such call
is_read-no_room : IsReadOfSome (Passed 0 []) → ⊥
is_read-no_room h = absurd (omega (arith, h))
