-- What is joined is of the whole.
use Rattle.std.proofs.Common.{◌≡◌, ℕ, ◌&&◌, ◌↔◌, IsTrue, Bool, true, false, List, [], ◌∷◌, ◌++◌, map, length, refl, sym, ◌∙◌, ap, arith, append_assoc, length-append}
use Rattle.std.specs.List.{All, flat_map}
use Rattle.std.proofs.lemmas.Grind.{flat_map-append}
use Rattle.std.proofs.lemmas.List.Elements.{All-head, All-tail}
use Rattle.encoding_mem.specs.Coding.{lost_count}
use Rattle.encoding_mem.specs.Parts.{EndsInCut}
use Rattle.encoding_mem.specs.Piece.{malformed_count}
use Rattle.encoding_front.specs.Encodings.{is_ascii_compatible_of}
use Rattle.encoding_front.specs.declared.encoding.Encoding.{Encoding}
use Rattle.encoding_front.specs.declared.mark.Mark.TheVariants.{Keep}
use Rattle.encoding_front.specs.laws.Parts.{parts_of}
use Rattle.recode_log.specs.Line.{line_bytes}
use Rattle.recode_log.specs.declared.line.LogLine.{LogLine}
use Rattle.recode_log.specs.declared.line.LogLine.TheVariants.{Bad, Lost}
use Rattle.recode.specs.Job.{Faithful, IsValidJob, input_pieces, input_text, log_of, source_in, target_of}
use Rattle.recode.specs.Parts.{AddsUp, CanBeCut, later, lines_of, moved_line}
use Rattle.recode.specs.Session.{IsReport}
use Rattle.recode.specs.declared.job.Job.{Job}
use Rattle.recode.specs.declared.job.Report.{Report}
use Rattle.recode_places.specs.Logs.{CanBeLogged}
use Rattle.recode_parts.specs.Joins.{MovesLines}
use Rattle.recode_parts.specs.Summaries.{AddsParts, IsSummary}
use Rattle.recode_parts.specs.declared.summary.Summary.{Summary}

-- ---- parts that follow one another

module _ (j : Job) (x y : List ℕ) (v : IsValidJob j) (c : CanBeCut j x) where
  same_source : source_in j (x ++ y) ≡ source_in j x
  same_source = ap (λ s. s.0) (parts_of j.tables.now j.mark j.from x y v.tables c.ends c.source).0

  pub cut_again : EndsInCut y → CanBeCut j (x ++ y)
  cut_again ends = record {
    ends = record { before = x ++ ends.before; byte = ends.byte; is_cut = ends.is_cut; split = ap (λ l. x ++ l) ends.split ∙ sym (append_assoc x ends.before (ends.byte ∷ [])) };
    source = ap is_ascii_compatible_of same_source ∙ c.source;
    target = c.target;
  }

  pub later_stays : later j (x ++ y) ≡ later j x
  later_stays = ap (λ (e : Encoding). record j { from = e; mark = Keep }) same_source

-- ---- summaries

both_true : (a b s : Bool) → s ≡ (a && b) → IsTrue s ↔ (IsTrue a × IsTrue b)
both_true true b s e = (λ h. (refl, sym e ∙ h), λ k. e ∙ k.1)
both_true false b s e = (λ h. absurd (never (sym e ∙ h)), λ k. absurd (never k.0))
  where
    never : false ≡ true → ⊥
    never h = cc

module _ (j : Job) (x y : List ℕ)
    (text : input_text j (x ++ y) ≡ input_text j x ++ input_text (later j x) y)
    (verdict : Faithful j (x ++ y) ↔ (Faithful j x × Faithful (later j x) y))
    (reports : (p q r : Report) → IsReport j x p → IsReport (later j x) y q → IsReport j (x ++ y) r → AddsUp p q r) where
  pub adds_to_whole : (p q s : Summary) → IsSummary j x p → IsSummary (later j x) y q → AddsParts p q s → IsSummary j (x ++ y) s
  adds_to_whole p q s one other adds =
      let both = both_true p.report.faithful q.report.faithful s.report.faithful adds.faithful in
      let told : IsTrue s.report.faithful ↔ Faithful j (x ++ y) = (
        λ h. let each = both.0 h in verdict.1 (one.report.faithful.0 each.0, other.report.faithful.0 each.1),
        λ f. let each = verdict.0 f in both.1 (one.report.faithful.1 each.0, other.report.faithful.1 each.1),
      ) in
      let whole : Report = record { read = length (x ++ y); bad = malformed_count (input_pieces j (x ++ y)); lost = lost_count (target_of j) (input_text j (x ++ y)); calls = 0; encoding = source_in j (x ++ y); faithful = s.report.faithful } in
      let sums : AddsUp p.report q.report whole = reports p.report q.report whole one.report other.report (record { read = refl; bad = refl; lost = refl; encoding = refl; faithful = told }) in
      record {
        report = record {
          read = adds.read ∙ sym sums.read;
          bad = adds.bad ∙ sym sums.bad;
          lost = adds.lost ∙ sym sums.lost;
          encoding = adds.encoding ∙ sym sums.encoding;
          faithful = told;
        };
        characters = omega (arith, adds.characters, one.characters, other.characters, ap length text, length-append (input_text j x) (input_text (later j x) y));
      }

-- ---- logs

-- a log has one reading as lines
module _ (told_apart : (a b : LogLine) (x y : List ℕ) → CanBeLogged a → CanBeLogged b → line_bytes a ++ x ≡ line_bytes b ++ y → (a ≡ b) × (x ≡ y)) where
  pub same_lines : (ls ks : List LogLine) → All CanBeLogged ls → All CanBeLogged ks → flat_map line_bytes ls ≡ flat_map line_bytes ks → ls ≡ ks
  same_lines [] [] h k e = refl
  same_lines [] (Bad o n ∷ ks) h k e = absurd (omega (arith, ap length e))
  same_lines [] (Lost i s ∷ ks) h k e = absurd (omega (arith, ap length e))
  same_lines (Bad o n ∷ ls) [] h k e = absurd (omega (arith, ap length e))
  same_lines (Lost i s ∷ ls) [] h k e = absurd (omega (arith, ap length e))
  same_lines (a ∷ ls) (b ∷ ks) h k e =
      let first = told_apart a b (flat_map line_bytes ls) (flat_map line_bytes ks) (All-head CanBeLogged a ls h) (All-head CanBeLogged b ks k) e in
      ap (λ l. l ∷ ls) first.0 ∙ ap (λ l. b ∷ l) (same_lines ls ks (All-tail CanBeLogged a ls h) (All-tail CanBeLogged b ks k) first.1)

  -- so the lines of a part that were moved are those that the whole's log has
  pub joined : (j : Job) (x y moved : List ℕ) (n m : ℕ)
      → log_of j x ≡ flat_map line_bytes (lines_of j x)
      → log_of (later j x) y ≡ flat_map line_bytes (lines_of (later j x) y)
      → log_of j (x ++ y) ≡ flat_map line_bytes (lines_of j (x ++ y))
      → lines_of j (x ++ y) ≡ lines_of j x ++ map (moved_line n m) (lines_of (later j x) y)
      → All CanBeLogged (lines_of (later j x) y)
      → MovesLines n m (log_of (later j x) y) moved
      → log_of j (x ++ y) ≡ log_of j x ++ moved
  joined j x y moved n m first second whole lines logged moves =
      let same = same_lines moves.from.lines (lines_of (later j x) y) moves.from.logged logged (sym moves.from.read ∙ second) in
      whole ∙ ap (flat_map line_bytes) lines
      ∙ flat_map-append line_bytes (lines_of j x) (map (moved_line n m) (lines_of (later j x) y))
      ∙ ap (λ l. l ++ flat_map line_bytes (map (moved_line n m) (lines_of (later j x) y))) (sym first)
      ∙ ap (λ ls. log_of j x ++ flat_map line_bytes (map (moved_line n m) ls)) (sym same)
      ∙ ap (λ l. log_of j x ++ l) (sym moves.written)
