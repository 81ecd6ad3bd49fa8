-- Where an input in an encoding with leads can be cut: after a byte that is no trail.
use Rattle.std.proofs.Common.{◌≡◌, ℕ, ◌+◌, ◌-◌, ◌≤◌, ◌==◌, Bool, true, false, cond, nat_lt, List, [], ◌∷◌, ◌++◌, length, refl, ◌∙◌, ap, arith, Option, None, Some}
use Rattle.std.specs.Int.{is_in_range}
use Rattle.std.proofs.lemmas.Bool.{lt-ltb}
use Rattle.encoding_mem.specs.Parts.{IsCutByte, StandsAlone}
use Rattle.encoding_mem.specs.Piece.{Piece, malformed, well_formed, piece_len, piece_of_scalar}
use Rattle.encoding_mem.specs.declared.codec.form.Form.TheVariants.{Mapped}
use Rattle.encoding_mem.specs.laws.Parts.{ClosesAt, Stays, cut_is_below, not_both, stands_alone, stays_cond, stays_const, stays_within}
use Rattle.encoding_tables.specs.Lookups.{AreEntries}
use Rattle.encoding_tables.specs.Ranges.{range_value}
use Rattle.encoding_codecs.specs.TwoByte.{after_bytes, first_piece_by_lead, piece_of_first, piece_of_trail}
use Rattle.encoding_codecs.specs.Big5.{big5_form, pieces_big5}
use Rattle.encoding_codecs.specs.EucJp.{euc_jp_after, euc_jp_after_8f, euc_jp_form, euc_jp_first, euc_jp_pair, euc_pair, is_pointer_byte, pieces_euc_jp}
use Rattle.encoding_codecs.specs.EucKr.{euc_kr_form, pieces_euc_kr}
use Rattle.encoding_codecs.specs.Gb18030.{gb18030_after_lead, gb18030_after_three, gb18030_after_two, gb18030_first, gb18030_four_pointer, gb18030_pair, pieces_gb18030}
use Rattle.encoding_codecs.specs.Gb18030Coding.{gb18030_form}
use Rattle.encoding_codecs.specs.ShiftJis.{pieces_shift_jis, shift_jis_form}
use Rattle.encoding_codecs.specs.calls.TwoByteRule.{TwoByteRule, big5_rule, euc_kr_rule, shift_jis_rule, IsTwoByte}
use Rattle.encoding_codecs.specs.declared.lead_byte_rule.FirstByte.{FirstByte}
use Rattle.encoding_codecs.specs.declared.lead_byte_rule.FirstByte.TheVariants.{Alone, Lead, Unused}
use Rattle.encoding_codecs.specs.declared.two_byte.PairValue.{PairValue}
use Rattle.encoding_codecs.specs.declared.two_byte.PairValue.TheVariants.{NoChar, OneChar, TwoChars}
use Rattle.encoding_codecs.specs.laws.Big5.{big5_is_two_byte}
use Rattle.encoding_codecs.specs.laws.EucJp.{euc_jp_is_lead_rule}
use Rattle.encoding_codecs.specs.laws.EucKr.{euc_kr_is_two_byte}
use Rattle.encoding_codecs.specs.laws.FirstPieces.{first_piece_big5, first_piece_euc_jp, first_piece_euc_kr, first_piece_gb18030, first_piece_shift_jis}
use Rattle.encoding_codecs.specs.laws.Gb18030.{AreGbTables, cuts_gb18030}
use Rattle.encoding_codecs.specs.laws.ShiftJis.{shift_jis_is_two_byte}
use Rattle.encoding_codecs.specs.laws.TwoByte.{cuts_rule, cuts_two_byte, lead_ascii}

-- what the bytes before a cut make of it: at most themselves
trail_fits : (n : ℕ) (v : PairValue) (b : ℕ) → piece_len (piece_of_trail n v b) ≤ n + 1
trail_fits n NoChar b = either (nat_lt b 0x80)
  where
    either : (t : Bool) → piece_len (cond t (malformed n) (malformed (n + 1))) ≤ n + 1
    either true = omega arith
    either false = omega arith
trail_fits n (OneChar c) b = omega arith
trail_fits n (TwoChars c d) b = omega arith

stays_first : (o : FirstByte) (f : List ℕ → Piece) (n : ℕ) → 1 ≤ n → Stays f n → Stays (λ y. piece_of_first o (f y)) n
stays_first (Alone c) f n some h = stays_const (well_formed 1 (c ∷ [])) n some
stays_first Lead f n some h = h
stays_first Unused f n some h = stays_const (malformed 1) n some

module _ (a : ℕ) (h : IsCutByte a) where
  -- with a cut, some bytes give nothing
  trail_stays : (n : ℕ) (v : PairValue) → v ≡ NoChar → Stays (λ _. piece_of_trail n v a) n
  trail_stays n v is = stays_const (piece_of_trail n v a) n (omega (arith, ap piece_len nothing))
    where
      nothing : piece_of_trail n v a ≡ malformed n
      nothing = ap (λ w. piece_of_trail n w a) is ∙ (rw (lt-ltb a 0x80 (omega arith)) refl)

  after_stays : (n : ℕ) (value : ℕ → PairValue) → value a ≡ NoChar → (x : List ℕ) → Stays (λ y. after_bytes n value (x ++ a ∷ y)) (n + length x)
  after_stays n value is [] = stays_within _ n _ (omega arith) (trail_stays n (value a) is)
  after_stays n value is (b ∷ x) = stays_const (piece_of_trail n (value b) b) _ (omega (arith, trail_fits n (value b) b))

  lead_closes : (first : ℕ → FirstByte) (after : ℕ → List ℕ → Piece) → ((b : ℕ) (x : List ℕ) → Stays (λ y. after b (x ++ a ∷ y)) (1 + length x)) → ClosesAt (first_piece_by_lead first after) a
  lead_closes first after stays = record {
    alone = λ y. lead_ascii first after a y (omega arith);
    before = λ b x.
        stays_cond (nat_lt b 0x80) (λ _. well_formed 1 (b ∷ [])) (λ y. piece_of_first (first b) (after b (x ++ a ∷ y))) _ (λ _. stays_const (well_formed 1 (b ∷ [])) _ (omega arith))
        (λ _. stays_first (first b) (λ y. after b (x ++ a ∷ y)) _ (omega arith) (stays b x));
  }

  two_byte_alone : (e : TwoByteRule) → IsTwoByte e → ((b : ℕ) → e.pair b a ≡ NoChar) → ClosesAt (first_piece_by_lead e.first (λ b. after_bytes 1 (e.pair b))) a
  two_byte_alone e is none = lead_closes e.first (λ b. after_bytes 1 (e.pair b)) (λ b x. after_stays 1 (e.pair b) (none b) x)

  pub big5_stands_alone : (flat : List ℕ) → AreEntries flat → StandsAlone (pieces_big5 flat) a
  big5_stands_alone flat scalars =
      stands_alone (first_piece_big5 flat) a (cuts_two_byte (big5_rule flat) (big5_is_two_byte flat scalars))
      (two_byte_alone (big5_rule flat) (big5_is_two_byte flat scalars) (λ b. rw (cut_is_below 0x40 0x7E a (omega arith), cut_is_below 0xA1 0xFE a (omega arith)) refl))

  pub euc_kr_stands_alone : (flat : List ℕ) → AreEntries flat → StandsAlone (pieces_euc_kr flat) a
  euc_kr_stands_alone flat scalars =
      stands_alone (first_piece_euc_kr flat) a (cuts_two_byte (euc_kr_rule flat) (euc_kr_is_two_byte flat scalars))
      (two_byte_alone (euc_kr_rule flat) (euc_kr_is_two_byte flat scalars) (λ b. rw (cut_is_below 0x41 0xFE a (omega arith)) refl))

  pub shift_jis_stands_alone : (jis0208 : List ℕ) → AreEntries jis0208 → StandsAlone (pieces_shift_jis jis0208) a
  shift_jis_stands_alone jis0208 scalars =
      stands_alone (first_piece_shift_jis jis0208) a (cuts_two_byte (shift_jis_rule jis0208) (shift_jis_is_two_byte jis0208 scalars))
      (two_byte_alone (shift_jis_rule jis0208) (shift_jis_is_two_byte jis0208 scalars) (λ b. rw (cut_is_below 0x40 0x7E a (omega arith), cut_is_below 0x80 0xFC a (omega arith)) refl))

  -- EUC-JP
  no_pointer : is_pointer_byte a ≡ false
  no_pointer = cut_is_below 0xA1 0xFE a (omega arith)

  euc_none : (flat : List ℕ) (b : ℕ) → euc_pair flat b a ≡ NoChar
  euc_none flat b = rw no_pointer refl

  euc_jp_none : (jis0208 : List ℕ) (b : ℕ) → euc_jp_pair jis0208 b a ≡ NoChar
  euc_jp_none jis0208 b = either (b == 0x8E)
    where
      no_katakana : is_in_range 0xA1 0xDF a ≡ false
      no_katakana = cut_is_below 0xA1 0xDF a (omega arith)

      either : (t : Bool) → cond t (cond (is_in_range 0xA1 0xDF a) (OneChar (0xFF61 + (a - 0xA1))) NoChar) (euc_pair jis0208 b a) ≡ NoChar
      either true = rw no_katakana refl
      either false = euc_none jis0208 b

  after_8f_stays : (jis0212 : List ℕ) (x : List ℕ) → Stays (λ y. euc_jp_after_8f jis0212 (x ++ a ∷ y)) (1 + length x)
  after_8f_stays jis0212 [] =
      stays_cond (is_pointer_byte a) (λ y. after_bytes 2 (euc_pair jis0212 a) y) (λ _. piece_of_trail 1 NoChar a) 1 (λ t. absurd (not_both _ no_pointer t)) (λ _. trail_stays 1 NoChar refl)
  after_8f_stays jis0212 (b ∷ x) =
      stays_cond (is_pointer_byte b) (λ y. after_bytes 2 (euc_pair jis0212 b) (x ++ a ∷ y)) (λ _. piece_of_trail 1 NoChar b) _
      (λ _. stays_within _ (2 + length x) _ (omega arith) (after_stays 2 (euc_pair jis0212 b) (euc_none jis0212 b) x)) (λ _. stays_const (piece_of_trail 1 NoChar b) _ (omega (arith, trail_fits 1 NoChar b)))

  pub euc_jp_stands_alone : (jis0208 jis0212 : List ℕ) → AreEntries jis0208 → AreEntries jis0212 → StandsAlone (pieces_euc_jp jis0208 jis0212) a
  euc_jp_stands_alone jis0208 jis0212 scalars more =
      stands_alone (first_piece_euc_jp jis0208 jis0212) a (cuts_rule _ _ _ (euc_jp_is_lead_rule jis0208 jis0212 scalars more))
      (lead_closes euc_jp_first (euc_jp_after jis0208 jis0212)
      (λ b x. stays_cond (b == 0x8F) (λ y. euc_jp_after_8f jis0212 (x ++ a ∷ y)) (λ y. after_bytes 1 (euc_jp_pair jis0208 b) (x ++ a ∷ y)) _ (λ _. after_8f_stays jis0212 x) (λ _. after_stays 1 (euc_jp_pair jis0208 b) (euc_jp_none jis0208 b) x)))

  -- gb18030 and GBK
  scalar_fits : (n : ℕ) (o : Option ℕ) → piece_len (piece_of_scalar n o) ≡ n
  scalar_fits n None = refl
  scalar_fits n (Some c) = refl

  three_stays : (rows : List (ℕ × ℕ)) (b c d : ℕ) (x : List ℕ) → Stays (λ y. gb18030_after_three rows b c d (x ++ a ∷ y)) (3 + length x)
  three_stays rows b c d [] =
      stays_cond (is_in_range 0x30 0x39 a) (λ _. piece_of_scalar 4 (range_value rows (gb18030_four_pointer b c d a))) (λ _. malformed 1) 3 (λ t. absurd (not_both _ (cut_is_below 0x30 0x39 a h) t)) (λ _. stays_const (malformed 1) 3 (omega arith))
  three_stays rows b c d (e ∷ x) =
      stays_cond (is_in_range 0x30 0x39 e) (λ _. piece_of_scalar 4 (range_value rows (gb18030_four_pointer b c d e))) (λ _. malformed 1) _
      (λ _. stays_const (piece_of_scalar 4 (range_value rows (gb18030_four_pointer b c d e))) _ (omega (arith, scalar_fits 4 (range_value rows (gb18030_four_pointer b c d e))))) (λ _. stays_const (malformed 1) _ (omega arith))

  two_stays : (rows : List (ℕ × ℕ)) (b c : ℕ) (x : List ℕ) → Stays (λ y. gb18030_after_two rows b c (x ++ a ∷ y)) (2 + length x)
  two_stays rows b c [] =
      stays_cond (is_in_range 0x81 0xFE a) (λ y. gb18030_after_three rows b c a y) (λ _. malformed 1) 2 (λ t. absurd (not_both _ (cut_is_below 0x81 0xFE a (omega arith)) t)) (λ _. stays_const (malformed 1) 2 (omega arith))
  two_stays rows b c (d ∷ x) =
      stays_cond (is_in_range 0x81 0xFE d) (λ y. gb18030_after_three rows b c d (x ++ a ∷ y)) (λ _. malformed 1) _ (λ _. stays_within _ (3 + length x) _ (omega arith) (three_stays rows b c d x)) (λ _. stays_const (malformed 1) _ (omega arith))

  gb18030_none : (flat : List ℕ) (b : ℕ) → gb18030_pair flat b a ≡ NoChar
  gb18030_none flat b = rw (cut_is_below 0x40 0x7E a (omega arith), cut_is_below 0x80 0xFE a (omega arith)) refl

  gb18030_stays : (flat : List ℕ) (rows : List (ℕ × ℕ)) (b : ℕ) (x : List ℕ) → Stays (λ y. gb18030_after_lead flat rows b (x ++ a ∷ y)) (1 + length x)
  gb18030_stays flat rows b [] =
      stays_cond (is_in_range 0x30 0x39 a) (λ y. gb18030_after_two rows b a y) (λ _. piece_of_trail 1 (gb18030_pair flat b a) a) 1 (λ t. absurd (not_both _ (cut_is_below 0x30 0x39 a h) t)) (λ _. trail_stays 1 (gb18030_pair flat b a) (gb18030_none flat b))
  gb18030_stays flat rows b (c ∷ x) =
      stays_cond (is_in_range 0x30 0x39 c) (λ y. gb18030_after_two rows b c (x ++ a ∷ y)) (λ _. piece_of_trail 1 (gb18030_pair flat b c) c) _
      (λ _. stays_within _ (2 + length x) _ (omega arith) (two_stays rows b c x)) (λ _. stays_const (piece_of_trail 1 (gb18030_pair flat b c) c) _ (omega (arith, trail_fits 1 (gb18030_pair flat b c) c)))

  pub gb18030_stands_alone : (flat : List ℕ) (rows : List (ℕ × ℕ)) → AreGbTables flat rows → StandsAlone (pieces_gb18030 flat rows) a
  gb18030_stands_alone flat rows tables = stands_alone (first_piece_gb18030 flat rows) a (cuts_gb18030 flat rows tables) (lead_closes gb18030_first (gb18030_after_lead flat rows) (gb18030_stays flat rows))

  -- and it is what is written for its character
  pub big5_writes : (flat : List ℕ) → big5_form flat a ≡ Mapped (a ∷ [])
  big5_writes flat = rw (lt-ltb a 0x80 (omega arith)) refl

  pub euc_kr_writes : (flat : List ℕ) → euc_kr_form flat a ≡ Mapped (a ∷ [])
  euc_kr_writes flat = rw (lt-ltb a 0x80 (omega arith)) refl

  pub euc_jp_writes : (jis0208 : List ℕ) → euc_jp_form jis0208 a ≡ Mapped (a ∷ [])
  euc_jp_writes jis0208 = rw (lt-ltb a 0x80 (omega arith)) refl

  pub shift_jis_writes : (jis0208 : List ℕ) → shift_jis_form jis0208 a ≡ Mapped (a ∷ [])
  shift_jis_writes jis0208 = rw (lt-ltb a 0x81 (omega arith)) refl

  pub gb18030_writes : (flat : List ℕ) (rows : List (ℕ × ℕ)) (extended : Bool) → gb18030_form flat rows extended a ≡ Mapped (a ∷ [])
  gb18030_writes flat rows extended = rw (lt-ltb a 0x80 (omega arith)) refl
