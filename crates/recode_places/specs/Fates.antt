-- What becomes of a character in a target encoding: it is written as a text of its own, and what was written is read
-- back.
use Rattle.std.specs.Prelude.{◌≡◌, ℕ, ◌==◌, if◌then◌else◌, List, [], ◌∷◌, Option, Some, None}
use Rattle.encoding_mem.specs.Coding.{Coding, output}
use Rattle.encoding_mem.specs.Piece.{Piece, malformed_count, text}
use Rattle.encoding_mem.specs.declared.codec.form.Form.{Form}
use Rattle.encoding_mem.specs.declared.codec.form.Form.TheVariants.{Mapped, Unmapped}
use Rattle.encoding_mem.specs.declared.codec.reference.Reference.TheVariants.{Decimal}
use Rattle.encoding_tables.specs.IndexLists.{IndexLists}
use Rattle.encoding_front.specs.Encodings.{coding_of, output_encoding_of, pieces_of}
use Rattle.encoding_front.specs.declared.encoding.Encoding.{Encoding}
use Rattle.recode_places.specs.declared.fates.Fate.{Fate}
use Rattle.recode_places.specs.declared.fates.Fate.TheVariants.{Folded, Kept, Lost}

-- the character of a text that has one alone
abbrev pub only_one : List ℕ → Option ℕ
only_one [] = None
only_one (c ∷ []) = Some c
only_one (c ∷ d ∷ t) = None

-- the character that pieces stand for, if they are well-formed and their text is one alone
abbrev pub read_alone : List Piece → Option ℕ
read_alone ps = if malformed_count ps == 0 then only_one (text ps) else None

-- the fate of a character whose bytes read back as this one, or as no single one
abbrev pub fate_read_back : (c : ℕ) → Option ℕ → Fate
fate_read_back c None = Folded None
fate_read_back c (Some d) = if d == c then Kept else Folded (Some d)

-- the fate of a character by its form in a coding: lost if it has no bytes, or as what is written for it reads back
abbrev pub fate_by_form : (c : ℕ) → (read_back : Option ℕ) → Form → Fate
fate_by_form c read_back (Unmapped d) = Lost
fate_by_form c read_back (Mapped bs) = fate_read_back c read_back

-- the fate of a character in a coding, whose output is read as these pieces
abbrev pub fate_by : Coding → (pieces : List ℕ → List Piece) → ℕ → Fate
fate_by e pieces c = fate_by_form c (read_alone (pieces (output Decimal e (c ∷ [])))) (e.form c)

-- the encoding that is asked for, and the indexes
pub record Target : Type 0 where
  pub tables : IndexLists
  pub encoding : Encoding

-- how bytes in the output encoding of a target are read
abbrev pub target_pieces : Target → List ℕ → List Piece
target_pieces t = pieces_of t.tables (output_encoding_of t.encoding)

-- the fate of a character in the output encoding of a target
unfoldable pub fate_of : Target → ℕ → Fate
fate_of t c = fate_by (coding_of t.tables t.encoding) (target_pieces t) c

-- each character of a text is kept in a target
abbrev pub AreAllKept : Target → List ℕ → Type 0
AreAllKept t [] = Unit {0}
AreAllKept t (c ∷ cs) = (fate_of t c ≡ Kept) × AreAllKept t cs
