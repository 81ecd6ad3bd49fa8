-- Lines of a log that are moved, one after another.
use Rattle.std.proofs.Common.{◌≡◌, ℕ, ◌+◌, ◌≤◌, List, [], ◌∷◌, ◌++◌, map, take, drop, length, refl, ap, subst, sym, ◌∙◌, arith, append-nil, length-append}
use Rattle.std.proofs.Math.Seq.{take-add}
use Rattle.std.proofs.lemmas.List.{length-take-le}
use Rattle.std.proofs.lemmas.Slice.{take-put_mid}
use borrow.Rule.Slice.PartMut.{put_mid}
use Rattle.std.proofs.lemmas.Grind.{flat_map-append}
use Rattle.std.proofs.lemmas.List.{map-append}
use Rattle.std.proofs.lemmas.List.Elements.{All-append, All-cons, All-nil}
use Rattle.recode_log.specs.Line.{IsValid, line_bytes}
use Rattle.recode_log.specs.declared.line.LogLine.{LogLine}
use Rattle.recode.specs.Parts.{moved_line}
use Rattle.recode_places.specs.Logs.{CanBeLogged}
use Rattle.recode_parts.specs.Joins.{MovesLines}

module _ (n m : ℕ) where
  abbrev Moves : LogLine → Type 0
  Moves l = IsValid (moved_line n m l)

  -- no line
  pub moves_none : MovesLines n m [] []
  moves_none = record { from = record { lines = []; logged = All-nil CanBeLogged; moved = All-nil Moves; read = refl }; written = refl }

  -- the lines of two texts in a row
  pub moves_both : (x y x' y' : List ℕ) → MovesLines n m x x' → MovesLines n m y y' → MovesLines n m (x ++ y) (x' ++ y')
  moves_both x y x' y' h k =
      let p = h.from in
      let q = k.from in
      record {
        from = record {
          lines = p.lines ++ q.lines;
          logged = All-append CanBeLogged p.lines q.lines p.logged q.logged;
          moved = All-append Moves p.lines q.lines p.moved q.moved;
          read = cc (flat_map-append line_bytes p.lines q.lines, p.read, q.read);
        };
        written = cc (map-append (moved_line n m) p.lines q.lines, flat_map-append line_bytes (map (moved_line n m) p.lines) (map (moved_line n m) q.lines), h.written, k.written);
      }

  -- one line
  pub moves_line : (l : LogLine) → CanBeLogged l → Moves l → MovesLines n m (line_bytes l) (line_bytes (moved_line n m l))
  moves_line l h v = record {
    from = record {
      lines = l ∷ [];
      logged = All-cons CanBeLogged l [] h (All-nil CanBeLogged);
      moved = All-cons Moves l [] v (All-nil Moves);
      read = sym (append-nil (line_bytes l));
    };
    written = sym (append-nil (line_bytes (moved_line n m l)));
  }

  -- the next line of some bytes, after those that were moved
  pub moves_next : (bytes dst text part : List ℕ) (read k len written gap size put : ℕ) (l l' : LogLine)
      → MovesLines n m (take read bytes) (take written dst) → CanBeLogged l → line_bytes l ≡ take k (drop read bytes) → k ≡ len
      → l' ≡ moved_line n m l → IsValid l' → take size text ≡ line_bytes l' → size ≡ length (line_bytes l') → part ≡ take put text → put ≡ size → written ≤ length dst
      → MovesLines n m (take (read + len) bytes) (take (written + size) (put_mid written gap dst part))
  moves_next bytes dst text part read k len written gap size put l l' moves logged line at is valid text_is size_is part_is put_is within =
      let copied : part ≡ line_bytes l' = part_is ∙ ap (λ z. take z text) put_is ∙ text_is in
      let whole : take (read + len) bytes ≡ take read bytes ++ line_bytes l = take-add read len bytes ∙ ap (λ z. take read bytes ++ take z (drop read bytes)) (sym at) ∙ ap (λ z. take read bytes ++ z) (sym line) in
      let out : take (written + size) (put_mid written gap dst part) ≡ take written dst ++ line_bytes (moved_line n m l) =
      take-put_mid written gap dst part (written + size) (omega (arith, size_is, ap length copied)) within ∙ ap (λ z. take written dst ++ z) (copied ∙ ap line_bytes is) in
      rw (whole, out) (moves_both (take read bytes) (line_bytes l) (take written dst) (line_bytes (moved_line n m l)) moves (moves_line l logged (subst IsValid is valid)))

-- what is put into a room stands within it
pub put_within : (a k n : ℕ) (xs ys : List ℕ) → a ≤ length xs → n ≡ length ys → a + n ≤ length (put_mid a k xs ys)
put_within a k n xs ys within same =
    omega (arith, length-append (take a xs) (ys ++ drop k (drop a xs)), length-take-le a xs within, length-append ys (drop k (drop a xs)), same)

-- the text of a line, as it is put
pub text_size : (text part : List ℕ) (size put : ℕ) (l : LogLine) → take size text ≡ line_bytes l → size ≡ length (line_bytes l) → part ≡ take put text → put ≡ size → size ≡ length part
text_size text part size put l text_is size_is part_is put_is =
    size_is ∙ ap length (sym text_is) ∙ sym (ap length (part_is ∙ ap (λ z. take z text) put_is))
