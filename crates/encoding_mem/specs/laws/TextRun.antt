-- Runs of ASCII, for the rules in which each ASCII byte is itself.
use Rattle.std.proofs.Common.{◌≡◌, ℕ, suc, ◌<◌, List, [], ◌∷◌, ◌++◌, drop, refl, sym, ◌∙◌, ap}
use Rattle.std.specs.Char.{len_utf8}
use Rattle.std.specs.Str.{chars, IsAscii}
use Rattle.std.proofs.lemmas.Str.{chars-IsAscii, len_utf8_ascii}
use Rattle.encoding_mem.specs.Piece.{Piece, well_formed, piece_len}
use Rattle.encoding_mem.specs.Pieces.{pieces_in, pieces_by}
use Rattle.encoding_mem.specs.laws.Pieces.{AllCut, CutsEach, pieces_in-cons}
use Rattle.encoding_mem.specs.calls.TextRun.{text_pieces}

-- in this mode an ASCII byte is itself, whatever follows, and the mode stays
pub record IsPlain {M : Type 0} (first_piece : M → List ℕ → Piece) (after : M → List ℕ → M) (m : M) : Type 0 where
  pub itself : (b : ℕ) (x : List ℕ) → b < 0x80 → first_piece m (b ∷ x) ≡ well_formed 1 (b ∷ [])
  pub stays : (b : ℕ) (x : List ℕ) → b < 0x80 → after m (b ∷ x) ≡ m

ascii_bytes : {M : Type 0} (first_piece : M → List ℕ → Piece) (after : M → List ℕ → M) → AllCut first_piece → (m : M) → IsPlain first_piece after m → (t r : List ℕ) → IsAscii t → pieces_in first_piece after m (t ++ r) ≡ text_pieces t ++ pieces_in first_piece after m r
ascii_bytes first_piece after cuts m plain [] r h = refl
ascii_bytes first_piece after cuts m plain (b ∷ t) r h =
    let low : b < 0x80 = h 0 in
    let one : well_formed 1 (b ∷ []) ≡ well_formed (len_utf8 b) (b ∷ []) = ap (λ n. well_formed n (b ∷ [])) (sym (len_utf8_ascii b low)) in
    pieces_in-cons first_piece after cuts m b (t ++ r)
    ∙ ap (λ p. p ∷ pieces_in first_piece after (after m (b ∷ (t ++ r))) (drop (piece_len p) (b ∷ (t ++ r)))) (plain.itself b (t ++ r) low)
    ∙ ap (λ n. well_formed 1 (b ∷ []) ∷ pieces_in first_piece after n (t ++ r)) (plain.stays b (t ++ r) low)
    ∙ ap (λ p. p ∷ pieces_in first_piece after m (t ++ r)) one
    ∙ ap (λ ps. well_formed (len_utf8 b) (b ∷ []) ∷ ps) (ascii_bytes first_piece after cuts m plain t r (λ i. h (suc i)))

-- a run of ASCII can be copied as it is
pub pieces_in-ascii : {M : Type 0} (first_piece : M → List ℕ → Piece) (after : M → List ℕ → M) → AllCut first_piece → (m : M) → IsPlain first_piece after m → (t r : List ℕ) → IsAscii t → pieces_in first_piece after m (t ++ r) ≡ text_pieces (chars t) ++ pieces_in first_piece after m r
pieces_in-ascii first_piece after cuts m plain t r h = ascii_bytes first_piece after cuts m plain t r h ∙ ap (λ cs. text_pieces cs ++ pieces_in first_piece after m r) (sym (chars-IsAscii t h))

-- the same if there is one mode
pub pieces_by-ascii : (first_piece : List ℕ → Piece) → CutsEach first_piece → ((b : ℕ) (x : List ℕ) → b < 0x80 → first_piece (b ∷ x) ≡ well_formed 1 (b ∷ [])) → (t r : List ℕ) → IsAscii t → pieces_by first_piece (t ++ r) ≡ text_pieces (chars t) ++ pieces_by first_piece r
pieces_by-ascii first_piece cuts itself t r h = pieces_in-ascii {M = Unit {0}} (λ _. first_piece) (λ m _. m) (λ _. cuts) tt (record { itself = itself; stays = λ b x low. refl }) t r h
