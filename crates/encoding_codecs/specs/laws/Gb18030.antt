-- Laws of the pieces of gb18030.
use Rattle.std.proofs.Common.{◌≡◌, ℕ, ◌+◌, ◌≤◌, Bool, cond, List, [], ◌∷◌, length, refl, arith, Option, None, Some}
use Rattle.std.specs.Prelude.{◌==◌, ◌||◌}
use Rattle.std.specs.Int.{is_in_range}
use Rattle.std.specs.Char.{IsScalar}
use Rattle.std.proofs.lemmas.Bool.Decides.{nat_tests}
use Rattle.encoding_mem.specs.Piece.{well_formed, malformed, Cuts, piece_of_scalar}
use Rattle.encoding_mem.specs.laws.Pieces.{CutsEach}
use Rattle.encoding_mem.specs.laws.Shows.{Shows, shows_cond, shows_cons, shows_const}
use Rattle.encoding_mem.specs.laws.Utf8.{cuts_cond, cuts_malformed, cuts_one}
use Rattle.encoding_mem.specs.laws.Writing.{cost_fits, cost_fits16}
use Rattle.encoding_mem.specs.declared.codec.first_piece.FirstPiece.TheVariants.{Malformed}
use Rattle.encoding_tables.specs.Lookups.{AreEntries, value_of}
use Rattle.encoding_tables.specs.Ranges.{range_value, HaveScalars}
use Rattle.encoding_mem.specs.calls.DecoderRule.{IsModest}
use Rattle.encoding_codecs.specs.TwoByte.{piece_of_trail}
use Rattle.encoding_codecs.specs.laws.TwoByteDecide.{decide_trail}
use Rattle.encoding_codecs.specs.Pointers.{value_of_entry}
use Rattle.encoding_codecs.specs.laws.Pointers.{is_first_if, is_value_if, is_value_of_entry}
use Rattle.encoding_codecs.specs.laws.TwoByte.{IsLeadByteRule, shows_end, shows_trail, cuts_trail, cuts_rule, modest_cond, modest_cut, modest_trail}
use Rattle.encoding_codecs.specs.declared.lead_byte_rule.FirstByte.TheVariants.{Alone, Lead, Unused}
use Rattle.encoding_codecs.specs.declared.two_byte.PairValue.TheVariants.{NoChar}
use Rattle.encoding_codecs.specs.Gb18030.{gb18030_first, gb18030_pair, gb18030_pair_pointer, gb18030_four_pointer, gb18030_after_three, gb18030_after_two, gb18030_after_lead}
use Rattle.encoding_codecs.specs.laws.Gb18030Decide.{decide_four, gb18030_decide_three, gb18030_decide_two, gb18030_decide_lead}
use Rattle.encoding_codecs.specs.calls.TwoByteRule.{IsFirstByte, IsPairValue}
use Rattle.encoding_codecs.specs.laws.FirstPieces.{first_piece_gb18030}

-- tables whose values are scalars
pub record AreGbTables (flat : List ℕ) (rows : List (ℕ × ℕ)) : Type 0 where
  pub entries : AreEntries flat
  pub values : HaveScalars rows

-- ---- what single bytes and pairs are

euro_is_scalar : IsScalar 0x20AC
euro_is_scalar = grind (arith, nat_tests)

pub gb18030_firsts : (a : ℕ) → IsFirstByte (gb18030_first a)
gb18030_firsts a =
    is_first_if (a == 0x80) (Alone 0x20AC) (cond (is_in_range 0x81 0xFE a) Lead Unused) (euro_is_scalar, omega arith)
    (is_first_if (is_in_range 0x81 0xFE a) Lead Unused tt tt)

pub gb18030_pairs : (flat : List ℕ) → AreEntries flat → (a b : ℕ) → IsPairValue (gb18030_pair flat a b)
gb18030_pairs flat entries a b =
    is_value_if (is_in_range 0x40 0x7E b || is_in_range 0x80 0xFE b) (value_of_entry (value_of flat (gb18030_pair_pointer a b))) NoChar
    (is_value_of_entry flat entries (gb18030_pair_pointer a b)) tt

-- ---- each first piece is some of the bytes

cuts_four : (o : Option ℕ) (k : ℕ) → 4 ≤ k → ((c : ℕ) → o ≡ Some c → IsScalar c) → Cuts (piece_of_scalar 4 o) k
cuts_four None k fits is = cuts_malformed 4 k (omega arith) fits
cuts_four (Some c) k fits is = cuts_one 4 c k (omega arith) fits (is c refl)

cuts_three : (rows : List (ℕ × ℕ)) → HaveScalars rows → (a b c : ℕ) (x : List ℕ) (k : ℕ) → 3 + length x ≤ k → Cuts (gb18030_after_three rows a b c x) k
cuts_three rows values a b c [] k fits = cuts_malformed 3 k (omega arith) (omega (arith, fits))
cuts_three rows values a b c (d ∷ x) k fits =
    let p : ℕ = gb18030_four_pointer a b c d in
    cuts_cond (is_in_range 0x30 0x39 d) (piece_of_scalar 4 (range_value rows p)) (malformed 1) k
    (λ _. cuts_four (range_value rows p) k (omega (arith, fits)) (values p)) (λ _. cuts_malformed 1 k (omega arith) (omega (arith, fits)))

cuts_two : (rows : List (ℕ × ℕ)) → HaveScalars rows → (a b : ℕ) (x : List ℕ) (k : ℕ) → 2 + length x ≤ k → Cuts (gb18030_after_two rows a b x) k
cuts_two rows values a b [] k fits = cuts_malformed 2 k (omega arith) (omega (arith, fits))
cuts_two rows values a b (c ∷ x) k fits =
    cuts_cond (is_in_range 0x81 0xFE c) (gb18030_after_three rows a b c x) (malformed 1) k
    (λ _. cuts_three rows values a b c x k (omega (arith, fits))) (λ _. cuts_malformed 1 k (omega arith) (omega (arith, fits)))

cuts_lead : (flat : List ℕ) (rows : List (ℕ × ℕ)) → AreGbTables flat rows → (a : ℕ) (x : List ℕ) → Cuts (gb18030_after_lead flat rows a x) (1 + length x)
cuts_lead flat rows tables a [] = cuts_malformed 1 _ (omega arith) (omega arith)
cuts_lead flat rows tables a (b ∷ x) =
    cuts_cond (is_in_range 0x30 0x39 b) (gb18030_after_two rows a b x) (piece_of_trail 1 (gb18030_pair flat a b) b) (1 + length (b ∷ x))
    (λ _. cuts_two rows tables.values a b x (1 + length (b ∷ x)) (omega arith)) (λ _. cuts_trail 1 (gb18030_pair flat a b) b _ (omega arith) (omega arith) (gb18030_pairs flat tables.entries a b))

-- ---- what is shown of the first piece

shows_four : (o : Option ℕ) (x : List ℕ) (last : Bool) → Shows (λ _. piece_of_scalar 4 o) 4 x last (decide_four o)
shows_four None x last = (shows_const (malformed 4) 4 x last (omega arith) (omega arith), omega arith)
shows_four (Some c) x last = shows_const (well_formed 4 (c ∷ [])) 4 x last (omega arith) (omega arith)

-- 00 breaks a form off
shows_three : (rows : List (ℕ × ℕ)) → HaveScalars rows → (a b c : ℕ) (x : List ℕ) (last : Bool) → Shows (gb18030_after_three rows a b c) 3 x last (gb18030_decide_three rows a b c x last)
shows_three rows values a b c [] last =
    shows_end (gb18030_after_three rows a b c) 3 last (0 ∷ []) (omega arith) (omega arith) refl (omega arith, tt) (omega arith) (λ e. omega (arith, e)) (λ x. (cuts_three rows values a b c x (3 + length x) (omega arith)).piece.some)
shows_three rows values a b c (d ∷ x) last = shows_cons (gb18030_after_three rows a b c) 3 d x last _
    (shows_cond (is_in_range 0x30 0x39 d) (λ _. piece_of_scalar 4 (range_value rows (gb18030_four_pointer a b c d))) (λ _. malformed 1) 4 x last _ _
    (shows_four (range_value rows (gb18030_four_pointer a b c d)) x last) (shows_const (malformed 1) 4 x last (omega arith) (omega arith), omega arith))

shows_two : (rows : List (ℕ × ℕ)) → HaveScalars rows → (a b : ℕ) (x : List ℕ) (last : Bool) → Shows (gb18030_after_two rows a b) 2 x last (gb18030_decide_two rows a b x last)
shows_two rows values a b [] last =
    shows_end (gb18030_after_two rows a b) 2 last (0 ∷ []) (omega arith) (omega arith) refl (omega arith, tt) (omega arith) (λ e. omega (arith, e)) (λ x. (cuts_two rows values a b x (2 + length x) (omega arith)).piece.some)
shows_two rows values a b (c ∷ x) last = shows_cons (gb18030_after_two rows a b) 2 c x last _
    (shows_cond (is_in_range 0x81 0xFE c) (gb18030_after_three rows a b c) (λ _. malformed 1) 3 x last _ _
    (shows_three rows values a b c x last) (shows_const (malformed 1) 3 x last (omega arith) (omega arith), omega arith))

-- FF is no trail
shows_lead : (flat : List ℕ) (rows : List (ℕ × ℕ)) → AreGbTables flat rows → (a : ℕ) (x : List ℕ) (last : Bool) → Shows (gb18030_after_lead flat rows a) 1 x last (gb18030_decide_lead flat rows a x last)
shows_lead flat rows tables a [] last =
    shows_end (gb18030_after_lead flat rows a) 1 last (0xFF ∷ []) (omega arith) (omega arith) refl (omega arith, tt) (omega arith) (λ e. omega (arith, e)) (λ x. (cuts_lead flat rows tables a x).piece.some)
shows_lead flat rows tables a (b ∷ x) last = shows_cons (gb18030_after_lead flat rows a) 1 b x last _
    (shows_cond (is_in_range 0x30 0x39 b) (gb18030_after_two rows a b) (λ _. piece_of_trail 1 (gb18030_pair flat a b) b) 2 x last _ _
    (shows_two rows tables.values a b x last) (shows_trail 1 (gb18030_pair flat a b) b x last (omega arith) (omega arith) (gb18030_pairs flat tables.entries a b)))

-- ---- room

modest_four : (o : Option ℕ) → IsModest (decide_four o)
modest_four None = omega arith
modest_four (Some c) = (omega (arith, cost_fits c), omega (arith, cost_fits16 c))

modest_three : (rows : List (ℕ × ℕ)) (a b c : ℕ) (x : List ℕ) (last : Bool) → IsModest (gb18030_decide_three rows a b c x last)
modest_three rows a b c [] last = modest_cut 3 last (omega arith)
modest_three rows a b c (d ∷ x) last = modest_cond (is_in_range 0x30 0x39 d) (decide_four (range_value rows (gb18030_four_pointer a b c d))) (Malformed 1) (modest_four (range_value rows (gb18030_four_pointer a b c d))) (omega arith)

modest_two : (rows : List (ℕ × ℕ)) (a b : ℕ) (x : List ℕ) (last : Bool) → IsModest (gb18030_decide_two rows a b x last)
modest_two rows a b [] last = modest_cut 2 last (omega arith)
modest_two rows a b (c ∷ x) last = modest_cond (is_in_range 0x81 0xFE c) (gb18030_decide_three rows a b c x last) (Malformed 1) (modest_three rows a b c x last) (omega arith)

modest_lead : (flat : List ℕ) (rows : List (ℕ × ℕ)) → AreEntries flat → (a : ℕ) (x : List ℕ) (last : Bool) → IsModest (gb18030_decide_lead flat rows a x last)
modest_lead flat rows entries a [] last = modest_cut 1 last (omega arith)
modest_lead flat rows entries a (b ∷ x) last =
    modest_cond (is_in_range 0x30 0x39 b) (gb18030_decide_two rows a b x last) (decide_trail 1 (gb18030_pair flat a b) b)
    (modest_two rows a b x last) (modest_trail 1 (gb18030_pair flat a b) b (omega arith) (gb18030_pairs flat entries a b))

-- ---- the whole rule

pub gb18030_rule : (flat : List ℕ) (rows : List (ℕ × ℕ)) → AreGbTables flat rows → IsLeadByteRule gb18030_first (gb18030_after_lead flat rows) (gb18030_decide_lead flat rows)
gb18030_rule flat rows tables = record {
  firsts = gb18030_firsts;
  cuts = λ a x _. cuts_lead flat rows tables a x;
  shows = λ a x last _. shows_lead flat rows tables a x last;
  modest = λ a x last _. modest_lead flat rows tables.entries a x last;
}

pub cuts_gb18030 : (flat : List ℕ) (rows : List (ℕ × ℕ)) → AreGbTables flat rows → CutsEach (first_piece_gb18030 flat rows)
cuts_gb18030 flat rows tables = cuts_rule gb18030_first (gb18030_after_lead flat rows) (gb18030_decide_lead flat rows) (gb18030_rule flat rows tables)
