-- A piece that is well-formed is so whatever bytes follow: if the first pieces of some bytes and those of a continuation
-- are the same up to a place, and are well-formed there, they are the same there. A mark may still begin.
use Rattle.std.proofs.Common.{◌≡◌, ◌⊎◌, ℕ, zero, suc, ◌<◌, ◌≤◌, ◌==◌, ◌&&◌, Bool, true, false, cond, nat_lt, List, [], ◌∷◌, ◌++◌, length, drop, refl, sym, ◌∙◌, ap, subst, arith, inl, inr, Option, Some, None}
use Rattle.std.specs.Prelude.{eqb, is_some}
use Rattle.std.specs.Int.{is_in_range}
use Rattle.std.specs.List.{starts_with}
use Rattle.std.specs.Option.{unwrap_or}
use Rattle.std.proofs.lemmas.Bool.{and_parts, cases_eq, eqb-true, eq-eqb, ne_eqb, false≢true}
use Rattle.std.proofs.lemmas.List.{drop-append-le}
use Rattle.encoding_mem.specs.Piece.{IsWellFormedPiece, Piece, malformed, piece_len, well_formed}
use Rattle.encoding_mem.specs.Pieces.{pieces_by, pieces_in}
use Rattle.encoding_mem.specs.Utf8.{first_piece_utf8, scalar_of_three, scalar_of_two, second_max, second_min, utf8_after_lead, utf8_after_three, utf8_after_two}
use Rattle.encoding_mem.specs.laws.Pieces.{AllCut, CutsEach, pieces_in-cons, pieces_in-nil}
use Rattle.encoding_mem.specs.laws.Utf8.{cuts_utf8}
use Rattle.encoding_tables.specs.EachByte.{first_piece_by_byte}
use Rattle.encoding_tables.specs.IndexLists.{AreAcceptedTables, IndexLists, index_entries, range_rows}
use Rattle.encoding_tables.specs.Lookups.{AreEntries}
use Rattle.encoding_tables.specs.SingleByte.{char_of_byte}
use Rattle.encoding_tables.specs.UserDefined.{user_char_of_byte}
use Rattle.encoding_tables.specs.Utf16.{after_high_surrogate, first_piece_utf16, unit_of}
use Rattle.std.specs.Char.Utf16.{is_high_surrogate}
use Rattle.encoding_tables.specs.Replacement.{pieces_replacement}
use Rattle.encoding_tables.specs.declared.index_kind.IndexKind.{IndexKind}
use Rattle.encoding_tables.specs.laws.Replacement.{after_replacement, all_left, cuts_replacement, first_piece_replacement}
use Rattle.encoding_tables.specs.laws.SingleByte.{cuts_single_byte}
use Rattle.encoding_tables.specs.laws.SingleByteTables.{entries_scalars}
use Rattle.encoding_tables.specs.laws.UserDefined.{cuts_user_defined}
use Rattle.encoding_tables.specs.laws.Utf16.{cuts_utf16}
use Rattle.encoding_codecs.specs.TwoByte.{after_bytes, first_piece_by_lead, piece_of_first, piece_of_trail}
use Rattle.encoding_codecs.specs.EucJp.{euc_jp_after, euc_jp_after_8f, euc_jp_first, euc_jp_pair, euc_pair, is_pointer_byte}
use Rattle.encoding_codecs.specs.Gb18030.{gb18030_after_lead, gb18030_after_three, gb18030_after_two, gb18030_first, gb18030_pair}
use Rattle.encoding_codecs.specs.Iso2022Jp.{ascii_mode, ascii_piece, escape_at, katakana_piece, pieces_in_mode, roman_piece}
use Rattle.encoding_codecs.specs.calls.TwoByteRule.{TwoByteRule, IsTwoByte, big5_rule, euc_kr_rule, shift_jis_rule}
use Rattle.encoding_codecs.specs.declared.iso_2022_jp_decoder.Mode.{Mode}
use Rattle.encoding_codecs.specs.declared.iso_2022_jp_decoder.Mode.TheVariants.{Ascii, Roman, Katakana, Jis}
use Rattle.encoding_codecs.specs.declared.lead_byte_rule.FirstByte.{FirstByte}
use Rattle.encoding_codecs.specs.declared.lead_byte_rule.FirstByte.TheVariants.{Alone, Lead, Unused}
use Rattle.encoding_codecs.specs.declared.two_byte.PairValue.{PairValue}
use Rattle.encoding_codecs.specs.declared.two_byte.PairValue.TheVariants.{NoChar}
use Rattle.encoding_codecs.specs.laws.Big5.{big5_is_two_byte}
use Rattle.encoding_codecs.specs.laws.EucJp.{euc_jp_is_lead_rule}
use Rattle.encoding_codecs.specs.laws.EucKr.{euc_kr_is_two_byte}
use Rattle.encoding_codecs.specs.laws.FirstPieces.{first_piece_euc_jp, first_piece_gb18030}
use Rattle.encoding_codecs.specs.laws.Gb18030.{cuts_gb18030}
use Rattle.encoding_codecs.specs.laws.Gb18030Tables.{gb18030_tables}
use Rattle.encoding_codecs.specs.laws.Iso2022Jp.{agrees, cuts_iso_2022_jp}
use Rattle.encoding_codecs.specs.laws.Iso2022JpDecide.{char_first_piece, escape_first_piece, first_piece_iso_2022_jp, jis_pair_first_piece, mode_after}
use Rattle.encoding_codecs.specs.laws.ShiftJis.{shift_jis_is_two_byte}
use Rattle.encoding_codecs.specs.laws.TwoByte.{cuts_rule, cuts_two_byte}
use Rattle.encoding_front.specs.Codecs.{codec_of}
use Rattle.encoding_front.specs.EncodingTable.{codec_kind_of}
use Rattle.encoding_front.specs.Encodings.{byte_order_marks, first_mark, pieces_of}
use Rattle.encoding_front.specs.Marks.{mark_piece, marks_taken, source_of, takes_mark_of}
use Rattle.encoding_front.specs.declared.codec_kind.CodecKind.{CodecKind}
use Rattle.encoding_front.specs.declared.encoding.Encoding.{Encoding}
use Rattle.encoding_front.specs.declared.mark.Mark.{Mark}
use Rattle.encoding_mem.specs.Decided.{AreBytes}
use Rattle.std.specs.Prelude.{filter}

-- ---- one piece

-- q is p, if p is well-formed
abbrev Same : (p q : Piece) → Type 0
Same p q = IsWellFormedPiece p → q ≡ p

same_cond : (t : Bool) (p q p' q' : Piece) → Same p p' → Same q q' → Same (cond t p q) (cond t p' q')
same_cond true p q p' q' h k = h
same_cond false p q p' q' h k = k

-- a well-formed first piece stays, whatever follows
abbrev KeepsPiece : (List ℕ → Piece) → Type 0
KeepsPiece f = (x r : List ℕ) → Same (f x) (f (x ++ r))

keeps_utf8_three : (b c d : ℕ) → KeepsPiece (utf8_after_three b c d)
keeps_utf8_three b c d [] r = λ h. absurd h
keeps_utf8_three b c d (e ∷ x) r = λ h. refl

keeps_utf8_two : (b c : ℕ) → KeepsPiece (utf8_after_two b c)
keeps_utf8_two b c [] r = λ h. absurd h
keeps_utf8_two b c (d ∷ x) r =
    same_cond (is_in_range 0x80 0xBF d) _ _ _ _ (same_cond (nat_lt b 0xF0) (well_formed 3 (scalar_of_three b c d ∷ [])) _ (well_formed 3 (scalar_of_three b c d ∷ [])) _ (λ h. refl) (keeps_utf8_three b c d x r)) (λ h. absurd h)

keeps_utf8_lead : (b : ℕ) → KeepsPiece (utf8_after_lead b)
keeps_utf8_lead b [] r = λ h. absurd h
keeps_utf8_lead b (c ∷ x) r =
    same_cond (is_in_range (second_min b) (second_max b) c) _ _ _ _ (same_cond (nat_lt b 0xE0) (well_formed 2 (scalar_of_two b c ∷ [])) _ (well_formed 2 (scalar_of_two b c ∷ [])) _ (λ h. refl) (keeps_utf8_two b c x r)) (λ h. absurd h)

keeps_utf8 : KeepsPiece first_piece_utf8
keeps_utf8 [] r = λ h. absurd h
keeps_utf8 (b ∷ x) r =
    same_cond (nat_lt b 0x80) (well_formed 1 (b ∷ [])) _ (well_formed 1 (b ∷ [])) _ (λ h. refl) (same_cond (is_in_range 0xC2 0xF4 b) _ (malformed 1) _ (malformed 1) (keeps_utf8_lead b x r) (λ h. refl))

keeps_high : (e : Bool) (u : ℕ) → KeepsPiece (after_high_surrogate e u)
keeps_high e u [] r = λ h. absurd h
keeps_high e u (c ∷ []) r = λ h. absurd h
keeps_high e u (c ∷ d ∷ x) r = λ h. refl

keeps_utf16 : (e : Bool) → KeepsPiece (first_piece_utf16 e)
keeps_utf16 e [] r = λ h. absurd h
keeps_utf16 e (a ∷ []) r = λ h. absurd h
keeps_utf16 e (a ∷ b ∷ x) r =
    let u = unit_of e a b in
    same_cond (is_high_surrogate u) (after_high_surrogate e u x) _ (after_high_surrogate e u (x ++ r)) _ (keeps_high e u x r) (λ h. refl)

keeps_by_byte : (char_of : ℕ → Option ℕ) → KeepsPiece (first_piece_by_byte char_of)
keeps_by_byte char_of [] r = λ h. absurd h
keeps_by_byte char_of (b ∷ x) r = λ h. refl

keeps_after : (n : ℕ) (value : ℕ → PairValue) → KeepsPiece (after_bytes n value)
keeps_after n value [] r = λ h. absurd h
keeps_after n value (b ∷ x) r = λ h. refl

same_first : (o : FirstByte) (p q : Piece) → Same p q → Same (piece_of_first o p) (piece_of_first o q)
same_first (Alone c) p q h = λ k. refl
same_first Lead p q h = h
same_first Unused p q h = λ k. refl

keeps_by_lead : (first : ℕ → FirstByte) (after : ℕ → List ℕ → Piece) → ((a : ℕ) → KeepsPiece (after a)) → KeepsPiece (first_piece_by_lead first after)
keeps_by_lead first after keeps [] r = λ h. absurd h
keeps_by_lead first after keeps (a ∷ x) r = same_cond (nat_lt a 0x80) (well_formed 1 (a ∷ [])) _ (well_formed 1 (a ∷ [])) _ (λ h. refl) (same_first (first a) (after a x) (after a (x ++ r)) (keeps a x r))

keeps_8f : (jis0212 : List ℕ) → KeepsPiece (euc_jp_after_8f jis0212)
keeps_8f jis0212 [] r = λ h. absurd h
keeps_8f jis0212 (b ∷ x) r =
    same_cond (is_pointer_byte b) (after_bytes 2 (euc_pair jis0212 b) x) (piece_of_trail 1 NoChar b) (after_bytes 2 (euc_pair jis0212 b) (x ++ r)) (piece_of_trail 1 NoChar b) (keeps_after 2 (euc_pair jis0212 b) x r) (λ h. refl)

keeps_euc_jp : (jis0208 jis0212 : List ℕ) (a : ℕ) → KeepsPiece (euc_jp_after jis0208 jis0212 a)
keeps_euc_jp jis0208 jis0212 a x r =
    same_cond (a == 0x8F) (euc_jp_after_8f jis0212 x) (after_bytes 1 (euc_jp_pair jis0208 a) x) (euc_jp_after_8f jis0212 (x ++ r)) (after_bytes 1 (euc_jp_pair jis0208 a) (x ++ r)) (keeps_8f jis0212 x r) (keeps_after 1 (euc_jp_pair jis0208 a) x r)

keeps_gb_three : (rows : List (ℕ × ℕ)) (a b c : ℕ) → KeepsPiece (gb18030_after_three rows a b c)
keeps_gb_three rows a b c [] r = λ h. absurd h
keeps_gb_three rows a b c (d ∷ x) r = λ h. refl

keeps_gb_two : (rows : List (ℕ × ℕ)) (a b : ℕ) → KeepsPiece (gb18030_after_two rows a b)
keeps_gb_two rows a b [] r = λ h. absurd h
keeps_gb_two rows a b (c ∷ x) r =
    same_cond (is_in_range 0x81 0xFE c) (gb18030_after_three rows a b c x) (malformed 1) (gb18030_after_three rows a b c (x ++ r)) (malformed 1) (keeps_gb_three rows a b c x r) (λ h. refl)

keeps_gb_lead : (flat : List ℕ) (rows : List (ℕ × ℕ)) (a : ℕ) → KeepsPiece (gb18030_after_lead flat rows a)
keeps_gb_lead flat rows a [] r = λ h. absurd h
keeps_gb_lead flat rows a (b ∷ x) r =
    same_cond (is_in_range 0x30 0x39 b) (gb18030_after_two rows a b x) (piece_of_trail 1 (gb18030_pair flat a b) b) (gb18030_after_two rows a b (x ++ r)) (piece_of_trail 1 (gb18030_pair flat a b) b) (keeps_gb_two rows a b x r) (λ h. refl)

-- in ISO-2022-JP an escape may still be malformed
abbrev KeepsBoth : (List ℕ → Piece) → Type 0
KeepsBoth f = (x r : List ℕ) → IsWellFormedPiece (f x) → IsWellFormedPiece (f (x ++ r)) → f (x ++ r) ≡ f x

-- a character's piece does not begin with 1B
no_1B : (jis0208 : List ℕ) (m : Mode) (b : ℕ) (x : List ℕ) → IsWellFormedPiece (char_first_piece jis0208 m b x) → b ≡ 0x1B → ⊥
no_1B jis0208 Ascii b x h is = subst (λ c. IsWellFormedPiece (ascii_piece c)) is h
no_1B jis0208 Roman b x h is = subst (λ c. IsWellFormedPiece (roman_piece c)) is h
no_1B jis0208 Katakana b x h is = subst (λ c. IsWellFormedPiece (katakana_piece c)) is h
no_1B jis0208 Jis b x h is = subst (λ c. IsWellFormedPiece (char_first_piece jis0208 Jis c x)) is h

no_escape : (b : ℕ) (x : List ℕ) → (b ≡ 0x1B → ⊥) → escape_at (b ∷ x) ≡ None
no_escape b [] n = refl
no_escape b (c ∷ []) n = refl
no_escape b (c ∷ d ∷ x) n = rw (ne_eqb b 0x1B n) refl

keeps_char : (jis0208 : List ℕ) (m : Mode) (b : ℕ) (x r : List ℕ) → Same (char_first_piece jis0208 m b x) (char_first_piece jis0208 m b (x ++ r))
keeps_char jis0208 Ascii b x r = λ h. refl
keeps_char jis0208 Roman b x r = λ h. refl
keeps_char jis0208 Katakana b x r = λ h. refl
keeps_char jis0208 Jis b [] r = same_cond (is_in_range 0x21 0x7E b) (malformed 1) (malformed 1) (jis_pair_first_piece jis0208 b r) (malformed 1) (λ h. absurd h) (λ h. refl)
keeps_char jis0208 Jis b (c ∷ x) r = λ h. refl

-- an escape's piece, if it is well-formed
escapes_same : (x y : List ℕ) → IsWellFormedPiece (escape_first_piece x) → IsWellFormedPiece (escape_first_piece y) → escape_first_piece y ≡ escape_first_piece x
escapes_same x y h k = both (is_some (escape_at x)) (is_some (escape_at y)) h k
  where
    both : (s t : Bool) → IsWellFormedPiece (cond s (malformed 3) (well_formed 3 [])) → IsWellFormedPiece (cond t (malformed 3) (well_formed 3 [])) → cond t (malformed 3) (well_formed 3 []) ≡ cond s (malformed 3) (well_formed 3 [])
    both true t h k = absurd h
    both false true h k = absurd k
    both false false h k = refl

-- fewer than three bytes are no escape
keeps_short : (jis0208 : List ℕ) (m : Mode) (b : ℕ) (x r : List ℕ) → escape_at (b ∷ x) ≡ None → IsWellFormedPiece (first_piece_iso_2022_jp jis0208 m (b ∷ x)) → first_piece_iso_2022_jp jis0208 m (b ∷ (x ++ r)) ≡ first_piece_iso_2022_jp jis0208 m (b ∷ x)
keeps_short jis0208 m b x r none h =
    let char : first_piece_iso_2022_jp jis0208 m (b ∷ x) ≡ char_first_piece jis0208 m b x = ap (λ (o : Option Mode). cond (is_some o) (escape_first_piece (drop 3 (b ∷ x))) (char_first_piece jis0208 m b x)) none in
    let well : IsWellFormedPiece (char_first_piece jis0208 m b x) = subst IsWellFormedPiece char h in
    ap (λ (o : Option Mode). cond (is_some o) (escape_first_piece (drop 3 (b ∷ (x ++ r)))) (char_first_piece jis0208 m b (x ++ r))) (no_escape b (x ++ r) (no_1B jis0208 m b x well))
    ∙ keeps_char jis0208 m b x r well
    ∙ sym char

keeps_iso_2022_jp : (jis0208 : List ℕ) (m : Mode) → KeepsBoth (first_piece_iso_2022_jp jis0208 m)
keeps_iso_2022_jp jis0208 m [] r h k = absurd h
keeps_iso_2022_jp jis0208 m (b ∷ []) r h k = keeps_short jis0208 m b [] r refl h
keeps_iso_2022_jp jis0208 m (b ∷ c ∷ []) r h k = keeps_short jis0208 m b (c ∷ []) r refl h
keeps_iso_2022_jp jis0208 m (b ∷ c ∷ d ∷ x) r h k = either (is_some (escape_at (b ∷ c ∷ d ∷ x))) h k
  where
    either : (t : Bool) → IsWellFormedPiece (cond t (escape_first_piece x) (char_first_piece jis0208 m b (c ∷ d ∷ x))) → IsWellFormedPiece (cond t (escape_first_piece (x ++ r)) (char_first_piece jis0208 m b (c ∷ d ∷ (x ++ r))))
        → cond t (escape_first_piece (x ++ r)) (char_first_piece jis0208 m b (c ∷ d ∷ (x ++ r))) ≡ cond t (escape_first_piece x) (char_first_piece jis0208 m b (c ∷ d ∷ x))
    either true h k = escapes_same x (x ++ r) h k
    either false h k = keeps_char jis0208 m b (c ∷ d ∷ x) r h

-- the mode after it is the same, if the piece is
escape_size : (x : List ℕ) → piece_len (escape_first_piece x) ≡ 3
escape_size x = either (is_some (escape_at x))
  where
    either : (t : Bool) → piece_len (cond t (malformed 3) (well_formed 3 [])) ≡ 3
    either true = refl
    either false = refl

module _ (jis0208 : List ℕ) (scalars : AreEntries jis0208) where
  mode_short : (m : Mode) (b : ℕ) (x r : List ℕ) (o : Option Mode) → length (b ∷ x) < 3 → escape_at (b ∷ x) ≡ None → escape_at (b ∷ (x ++ r)) ≡ o → first_piece_iso_2022_jp jis0208 m (b ∷ (x ++ r)) ≡ first_piece_iso_2022_jp jis0208 m (b ∷ x) → mode_after m (b ∷ (x ++ r)) ≡ mode_after m (b ∷ x)
  mode_short m b x r None few none is same = ap (λ (o : Option Mode). unwrap_or o m) (is ∙ sym none)
  mode_short m b x r (Some own) few none is same =
      let escape : first_piece_iso_2022_jp jis0208 m (b ∷ (x ++ r)) ≡ escape_first_piece (drop 3 (b ∷ (x ++ r))) = ap (λ (o : Option Mode). cond (is_some o) (escape_first_piece (drop 3 (b ∷ (x ++ r)))) (char_first_piece jis0208 m b (x ++ r))) is in
      absurd (omega (arith, few, (cuts_iso_2022_jp jis0208 scalars m b x).within, ap piece_len same, ap piece_len escape, escape_size (drop 3 (b ∷ (x ++ r)))))

  mode_stays : (m : Mode) (y r : List ℕ) → 0 < length y → first_piece_iso_2022_jp jis0208 m (y ++ r) ≡ first_piece_iso_2022_jp jis0208 m y → mode_after m (y ++ r) ≡ mode_after m y
  mode_stays m [] r some same = absurd (omega (arith, some))
  mode_stays m (b ∷ []) r some same = mode_short m b [] r (escape_at (b ∷ r)) (omega arith) refl refl same
  mode_stays m (b ∷ c ∷ []) r some same = mode_short m b (c ∷ []) r (escape_at (b ∷ c ∷ r)) (omega arith) refl refl same
  mode_stays m (b ∷ c ∷ d ∷ x) r some same = refl

-- ---- all pieces

-- a piece that is well-formed in both is one
abbrev pub StaysWellFormed : (List ℕ → List Piece) → Type 0
StaysWellFormed pieces = (before : List Piece) (y r : List ℕ) (a b : Piece) (A B : List Piece) → IsWellFormedPiece a → IsWellFormedPiece b → pieces y ≡ before ++ (a ∷ A) → pieces (y ++ r) ≡ before ++ (b ∷ B) → b ≡ a

module _ {M : Type 0} (f : M → List ℕ → Piece) (after : M → List ℕ → M) (cuts : AllCut f) (keeps : (m : M) → KeepsBoth (f m))
    (mode : (m : M) (y r : List ℕ) → 0 < length y → f m (y ++ r) ≡ f m y → after m (y ++ r) ≡ after m y) where
  stable_from : (before : List Piece) (m : M) (y r : List ℕ) (a b : Piece) (A B : List Piece) → IsWellFormedPiece a → IsWellFormedPiece b
      → pieces_in f after m y ≡ before ++ (a ∷ A) → pieces_in f after m (y ++ r) ≡ before ++ (b ∷ B) → b ≡ a
  stable_from [] m [] r a b A B ha hb ea eb = let none : [] ≡ a ∷ A = sym (pieces_in-nil f after m) ∙ ea in absurd (cc)
  stable_from (p ∷ before) m [] r a b A B ha hb ea eb = let none : [] ≡ p ∷ (before ++ (a ∷ A)) = sym (pieces_in-nil f after m) ∙ ea in absurd (cc)
  stable_from [] m (c ∷ y) r a b A B ha hb ea eb =
      let one : f m (c ∷ y) ∷ pieces_in f after (after m (c ∷ y)) (drop (piece_len (f m (c ∷ y))) (c ∷ y)) ≡ a ∷ A = sym (pieces_in-cons f after cuts m c y) ∙ ea in
      let other : f m (c ∷ (y ++ r)) ∷ pieces_in f after (after m (c ∷ (y ++ r))) (drop (piece_len (f m (c ∷ (y ++ r)))) (c ∷ (y ++ r))) ≡ b ∷ B = sym (pieces_in-cons f after cuts m c (y ++ r)) ∙ eb in
      let is_a : f m (c ∷ y) ≡ a = cc in
      let is_b : f m (c ∷ (y ++ r)) ≡ b = cc in
      sym is_b ∙ keeps m (c ∷ y) r (subst IsWellFormedPiece (sym is_a) ha) (subst IsWellFormedPiece (sym is_b) hb) ∙ is_a
  stable_from (p ∷ before) m (c ∷ y) r a b A B ha hb ea eb =
      let one : f m (c ∷ y) ∷ pieces_in f after (after m (c ∷ y)) (drop (piece_len (f m (c ∷ y))) (c ∷ y)) ≡ p ∷ (before ++ (a ∷ A)) = sym (pieces_in-cons f after cuts m c y) ∙ ea in
      let other : f m (c ∷ (y ++ r)) ∷ pieces_in f after (after m (c ∷ (y ++ r))) (drop (piece_len (f m (c ∷ (y ++ r)))) (c ∷ (y ++ r))) ≡ p ∷ (before ++ (b ∷ B)) = sym (pieces_in-cons f after cuts m c (y ++ r)) ∙ eb in
      let is_p : f m (c ∷ y) ≡ p = cc in
      let is_q : f m (c ∷ (y ++ r)) ≡ p = cc in
      let ta : pieces_in f after (after m (c ∷ y)) (drop (piece_len (f m (c ∷ y))) (c ∷ y)) ≡ before ++ (a ∷ A) = cc in
      let tb : pieces_in f after (after m (c ∷ (y ++ r))) (drop (piece_len (f m (c ∷ (y ++ r)))) (c ∷ (y ++ r))) ≡ before ++ (b ∷ B) = cc in
      let m2 = after m (c ∷ y) in
      let same : after m (c ∷ (y ++ r)) ≡ m2 = mode m (c ∷ y) r (omega arith) (is_q ∙ sym is_p) in
      let fits : piece_len p ≤ length (c ∷ y) = omega (arith, (cuts m c y).within, ap piece_len is_p) in
      let rest : drop (piece_len p) (c ∷ (y ++ r)) ≡ drop (piece_len p) (c ∷ y) ++ r = drop-append-le (piece_len p) (c ∷ y) r fits in
      stable_from before m2 (drop (piece_len p) (c ∷ y)) r a b A B ha hb
      (ap (λ q. pieces_in f after m2 (drop (piece_len q) (c ∷ y))) (sym is_p) ∙ ta)
      (ap (pieces_in f after m2) (sym rest) ∙ ap (λ q. pieces_in f after m2 (drop (piece_len q) (c ∷ (y ++ r)))) (sym is_q) ∙ ap (λ k. pieces_in f after k (drop (piece_len (f m (c ∷ (y ++ r)))) (c ∷ (y ++ r)))) (sym same) ∙ tb)

stable_by : (f : List ℕ → Piece) → CutsEach f → KeepsPiece f → StaysWellFormed (pieces_by f)
stable_by f cuts keeps before y r = stable_from {M = Unit {0}} (λ _. f) (λ m _. m) (λ _. cuts) (λ _ x r h k. keeps x r h) (λ m y r some is. refl) before tt y r

stable_two_byte : (e : TwoByteRule) → IsTwoByte e → StaysWellFormed (pieces_by (first_piece_by_lead e.first (λ a. after_bytes 1 (e.pair a))))
stable_two_byte e is = stable_by (first_piece_by_lead e.first (λ a. after_bytes 1 (e.pair a))) (cuts_two_byte e is) (keeps_by_lead e.first (λ a. after_bytes 1 (e.pair a)) (λ a. keeps_after 1 (e.pair a)))

stable_replacement : StaysWellFormed pieces_replacement
stable_replacement before y r a b A B ha hb ea eb =
    stable_from first_piece_replacement after_replacement cuts_replacement keeps (λ m y r some is. refl) before false y r a b A B ha hb (all_left y ∙ ea) (all_left (y ++ r) ∙ eb)
  where
    keeps : (m : Bool) → KeepsBoth (first_piece_replacement m)
    keeps true x r h k = refl
    keeps false x r h k = refl

stable_iso_2022_jp : (jis0208 : List ℕ) → AreEntries jis0208 → StaysWellFormed (pieces_in_mode jis0208 ascii_mode)
stable_iso_2022_jp jis0208 scalars before y r a b A B ha hb ea eb =
    stable_from (first_piece_iso_2022_jp jis0208) mode_after (cuts_iso_2022_jp jis0208 scalars) (keeps_iso_2022_jp jis0208) (mode_stays jis0208 scalars) before ascii_mode y r a b A B ha hb
    (agrees jis0208 scalars ascii_mode y ∙ ea) (agrees jis0208 scalars ascii_mode (y ++ r) ∙ eb)

stable_in : (t : IndexLists) (s : CodecKind) → AreAcceptedTables t → StaysWellFormed (codec_of t s).pieces
stable_in t CodecKind.Utf8 taken = stable_by first_piece_utf8 cuts_utf8 keeps_utf8
stable_in t (CodecKind.Utf16 e) taken = stable_by (first_piece_utf16 e) (cuts_utf16 e) (keeps_utf16 e)
stable_in t CodecKind.Replacement taken = stable_replacement
stable_in t CodecKind.UserDefined taken = stable_by (first_piece_by_byte user_char_of_byte) cuts_user_defined (keeps_by_byte user_char_of_byte)
stable_in t (CodecKind.SingleByte kind) taken =
    stable_by (first_piece_by_byte (char_of_byte (index_entries t kind))) (cuts_single_byte (index_entries t kind) (entries_scalars t kind taken)) (keeps_by_byte (char_of_byte (index_entries t kind)))
stable_in t CodecKind.Big5 taken = stable_two_byte (big5_rule (index_entries t IndexKind.Big5)) (big5_is_two_byte (index_entries t IndexKind.Big5) (entries_scalars t IndexKind.Big5 taken))
stable_in t CodecKind.EucKr taken = stable_two_byte (euc_kr_rule (index_entries t IndexKind.EucKr)) (euc_kr_is_two_byte (index_entries t IndexKind.EucKr) (entries_scalars t IndexKind.EucKr taken))
stable_in t CodecKind.ShiftJis taken = stable_two_byte (shift_jis_rule (index_entries t IndexKind.Jis0208)) (shift_jis_is_two_byte (index_entries t IndexKind.Jis0208) (entries_scalars t IndexKind.Jis0208 taken))
stable_in t CodecKind.EucJp taken =
    let jis0208 = index_entries t IndexKind.Jis0208 in
    let jis0212 = index_entries t IndexKind.Jis0212 in
    stable_by (first_piece_euc_jp jis0208 jis0212) (cuts_rule _ _ _ (euc_jp_is_lead_rule jis0208 jis0212 (entries_scalars t IndexKind.Jis0208 taken) (entries_scalars t IndexKind.Jis0212 taken)))
    (keeps_by_lead euc_jp_first (euc_jp_after jis0208 jis0212) (keeps_euc_jp jis0208 jis0212))
stable_in t (CodecKind.Gb18030 extended) taken =
    let flat = index_entries t IndexKind.Gb18030 in
    stable_by (first_piece_gb18030 flat (range_rows t)) (cuts_gb18030 flat (range_rows t) (gb18030_tables t taken)) (keeps_by_lead gb18030_first (gb18030_after_lead flat (range_rows t)) (keeps_gb_lead flat (range_rows t)))
stable_in t CodecKind.Iso2022Jp taken = stable_iso_2022_jp (index_entries t IndexKind.Jis0208) (entries_scalars t IndexKind.Jis0208 taken)

stable_behind : (n : ℕ) (pieces : List ℕ → List Piece) → StaysWellFormed pieces → StaysWellFormed (λ y. mark_piece n ++ pieces y)
stable_behind zero pieces h before y r a b A B ha hb ea eb = h before y r a b A B ha hb ea eb
stable_behind (suc n) pieces h [] y r a b A B ha hb ea eb = cc
stable_behind (suc n) pieces h (p ∷ before) y r a b A B ha hb ea eb =
    let ta : pieces y ≡ before ++ (a ∷ A) = cc in
    let tb : pieces (y ++ r) ≡ before ++ (b ∷ B) = cc in
    h before y r a b A B ha hb ta tb

-- the pieces of a whole input behind a mark of n bytes, or none
pub stable_of : (t : IndexLists) (e : Encoding) (n : ℕ) → AreAcceptedTables t → StaysWellFormed (λ y. mark_piece n ++ pieces_of t e y)
stable_of t e n taken = stable_behind n (pieces_of t e) (stable_in t (codec_kind_of e) taken)

-- ---- marks

-- bytes with which a mark does not begin, and that it does not begin with, decide that
apart : (m x w : List ℕ) → starts_with eqb m x ≡ false → starts_with eqb (x ++ w) m ≡ starts_with eqb x m
apart [] x w h = refl
apart (c ∷ m) [] w h = absurd (false≢true (sym h))
apart (c ∷ m) (b ∷ x) w h = elim (cases_eq c b) [
  | inl is ↦ ap (λ t. eqb c b && t) (apart m x w (rw (eq-eqb b c (sym is)) at h))
  | inr other ↦ rw (ne_eqb c b other) refl
]

-- the bytes that are left of a mark that begins with x
completed : (m x : List ℕ) → starts_with eqb m x ≡ true → x ++ drop (length x) m ≡ m
completed m [] h = refl
completed [] (b ∷ x) h = absurd (false≢true h)
completed (c ∷ m) (b ∷ x) h =
    let parts = and_parts (eqb b c) (starts_with eqb m x) h in
    ap (λ d. d ∷ (x ++ drop (length x) m)) (eqb-true b c parts.0) ∙ ap (λ l. c ∷ l) (completed m x parts.1)

begins_itself : (m : List ℕ) → starts_with eqb m m ≡ true
begins_itself [] = refl
begins_itself (c ∷ m) = rw (eq-eqb c c refl) (begins_itself m)

bytes_left : (n : ℕ) (m : List ℕ) → AreBytes m → AreBytes (drop n m)
bytes_left zero m h = h
bytes_left (suc n) [] h = tt
bytes_left (suc n) (c ∷ m) h = bytes_left n m h.1

-- marks of bytes
abbrev AreOfBytes : List (Encoding × List ℕ) → Type 0
AreOfBytes [] = Unit {0}
AreOfBytes (m ∷ marks) = AreBytes m.1 × AreOfBytes marks

of_bytes_taken : (test : Encoding × List ℕ → Bool) (marks : List (Encoding × List ℕ)) → AreOfBytes marks → AreOfBytes (filter test marks)
of_bytes_taken test [] h = tt
of_bytes_taken test (m ∷ marks) h = either (test m) (of_bytes_taken test marks h.1)
  where
    either : (b : Bool) → AreOfBytes (filter test marks) → AreOfBytes (cond b (m ∷ filter test marks) (filter test marks))
    either true more = (h.0, more)
    either false more = more

-- some bytes make x one of the marks
record IsPart (marks : List (Encoding × List ℕ)) (x : List ℕ) : Type 0 where
  pub more : List ℕ
  pub bytes : AreBytes more
  pub of : Encoding
  pub first : first_mark marks (x ++ more) ≡ Some (of, length (x ++ more))

first_or_part : (marks : List (Encoding × List ℕ)) (x : List ℕ) → AreOfBytes marks → ((w : List ℕ) → first_mark marks (x ++ w) ≡ first_mark marks x) ⊎ IsPart marks x
first_or_part [] x h = inl (λ w. refl)
first_or_part (m ∷ marks) x h = begins (starts_with eqb m.1 x) refl (first_or_part marks x h.1)
  where
    next : (b : Bool) → starts_with eqb x m.1 ≡ b → starts_with eqb m.1 x ≡ false → ((w : List ℕ) → first_mark marks (x ++ w) ≡ first_mark marks x) ⊎ IsPart marks x
        → ((w : List ℕ) → first_mark (m ∷ marks) (x ++ w) ≡ first_mark (m ∷ marks) x) ⊎ IsPart (m ∷ marks) x
    next b is unlike (inl same) = inl (λ w.
        ap (λ t. cond t (Some (m.0, length m.1)) (first_mark marks (x ++ w))) (apart m.1 x w unlike) ∙ ap (λ o. cond (starts_with eqb x m.1) (Some (m.0, length m.1)) o) (same w))
    next true is unlike (inr k) = inl (λ w.
        ap (λ t. cond t (Some (m.0, length m.1)) (first_mark marks (x ++ w))) (apart m.1 x w unlike ∙ is) ∙ sym (ap (λ t. cond t (Some (m.0, length m.1)) (first_mark marks x)) is))
    next false is unlike (inr k) = inr (record {
      more = k.more;
      bytes = k.bytes;
      of = k.of;
      first = ap (λ t. cond t (Some (m.0, length m.1)) (first_mark marks (x ++ k.more))) (apart m.1 x k.more unlike ∙ is) ∙ k.first;
    })

    begins : (b : Bool) → starts_with eqb m.1 x ≡ b → ((w : List ℕ) → first_mark marks (x ++ w) ≡ first_mark marks x) ⊎ IsPart marks x → ((w : List ℕ) → first_mark (m ∷ marks) (x ++ w) ≡ first_mark (m ∷ marks) x) ⊎ IsPart (m ∷ marks) x
    begins true is more =
        let all : x ++ drop (length x) m.1 ≡ m.1 = completed m.1 x is in
        inr (record {
          more = drop (length x) m.1;
          bytes = bytes_left (length x) m.1 h.0;
          of = m.0;
          first = subst (λ y. first_mark (m ∷ marks) y ≡ Some (m.0, length y)) (sym all) (rw (begins_itself m.1) refl);
        })
    begins false is more = next (starts_with eqb x m.1) refl is more

marks_are_bytes : AreOfBytes byte_order_marks
marks_are_bytes = ((omega arith, (omega arith, (omega arith, tt))), ((omega arith, (omega arith, tt)), ((omega arith, (omega arith, tt)), tt)))

-- an input of which all is a mark
pub record IsAllMark (mark : Mark) (e : Encoding) (x : List ℕ) : Type 0 where
  pub of : Encoding
  pub is : source_of mark e x ≡ (of, length x)

-- the source is decided, or some bytes make all of the input a mark
pub source_or_mark : (mark : Mark) (e : Encoding) (x : List ℕ)
    → ((w : List ℕ) → source_of mark e (x ++ w) ≡ source_of mark e x) ⊎ ((more : List ℕ) × AreBytes more × IsAllMark mark e (x ++ more))
source_or_mark mark e x = elim (first_or_part (marks_taken mark e) x (of_bytes_taken (λ m. takes_mark_of mark e m.0) byte_order_marks marks_are_bytes)) [
  | inl same ↦ inl (λ w. ap (λ o. unwrap_or o (e, 0)) (same w))
  | inr k ↦ inr (k.more, k.bytes, record { of = k.of; is = ap (λ o. unwrap_or o (e, 0)) k.first })
]
