-- Laws of EUC-JP.
use Rattle.std.proofs.Common.{◌≡◌, ℕ, ◌+◌, ◌<◌, Bool, true, false, cond, List, [], ◌∷◌, length, lit≤, arith, refl, nat_lt}
use Rattle.std.specs.Prelude.{◌==◌, ◌||◌}
use Rattle.std.proofs.lemmas.Bool.{lt-ltb}
use Rattle.encoding_mem.specs.Coding.{IsCoding}
use Rattle.encoding_mem.specs.Piece.{Piece, piece_len, Cuts}
use Rattle.encoding_mem.specs.calls.DecoderRule.{IsModest}
use Rattle.encoding_mem.specs.laws.Shows.{Shows, shows_cond, shows_cons}
use Rattle.encoding_mem.specs.laws.Utf8.{cuts_cond, cuts_malformed}
use Rattle.encoding_mem.specs.declared.codec.form.Form.TheVariants.{Mapped}
use Rattle.encoding_mem.specs.declared.codec.first_piece.FirstPiece.{FirstPiece}
use Rattle.encoding_mem.specs.Stateless.{stateless}
use Rattle.encoding_tables.specs.Lookups.{AreEntries, first_pointer}
use Rattle.encoding_codecs.specs.EucJp.{is_pointer_byte, euc_jp_pair_pointer, euc_jp_first, euc_pair, euc_jp_pair, euc_jp_after_8f, euc_jp_after, euc_jp_own_bytes, euc_jp_pair_bytes, euc_jp_char_bytes, euc_jp_form}
use Rattle.encoding_codecs.specs.laws.EucJpDecide.{decide_8f, decide_euc_jp}
use Rattle.encoding_codecs.specs.JisForms.{folded, is_katakana, is_katakana_byte, katakana_of_byte}
use Rattle.encoding_codecs.specs.laws.JisForms.{AreFew, few_or, few_map, few_if, few_one, few_two, few_none, two_byte_laws, katakana_is_char, first_if, pair_if}
use Rattle.encoding_codecs.specs.laws.Pointers.{is_value_of_entry}
use Rattle.encoding_codecs.specs.TwoByte.{after_bytes, piece_of_trail}
use Rattle.encoding_codecs.specs.laws.TwoByte.{IsLeadByteRule, some_after, shows_end, shows_trail, shows_after, cuts_trail, cuts_after, modest_trail, modest_after}
use Rattle.encoding_codecs.specs.declared.two_byte.PairValue.TheVariants.{NoChar, OneChar}
use Rattle.encoding_codecs.specs.calls.TwoByteRule.{IsFirstByte, IsPairValue}

-- a target of at most two bytes a character
few_own : (c : ℕ) → AreFew (euc_jp_own_bytes c)
few_own c = few_if (nat_lt c 0x80) few_one (few_if (c == 0xA5) few_one (few_if (c == 0x203E) few_one (few_if (is_katakana c) few_two few_none)))

few_bytes : (jis0208 : List ℕ) (c : ℕ) → AreFew (euc_jp_char_bytes jis0208 c)
few_bytes jis0208 c = few_or (euc_jp_own_bytes c) _ (few_own c) (few_map euc_jp_pair_bytes (first_pointer jis0208 (folded c) 0 8836) (λ p. lit≤ tt))

pub euc_jp_laws : (jis0208 : List ℕ) → IsCoding 2 (stateless (euc_jp_form jis0208))
euc_jp_laws jis0208 = two_byte_laws (euc_jp_char_bytes jis0208) (few_bytes jis0208)

-- ASCII gives itself
pub euc_jp_ascii : (jis0208 : List ℕ) (c : ℕ) → c < 0x80 → euc_jp_form jis0208 c ≡ Mapped (c ∷ [])
euc_jp_ascii jis0208 c low = rw (lt-ltb c 0x80 low) refl

-- ---- what its bytes give are scalars

firsts : (a : ℕ) → IsFirstByte (euc_jp_first a)
firsts a = first_if (a == 0x8E || a == 0x8F || is_pointer_byte a) _ _ (λ _. tt) (λ _. tt)

pair_by_index : (flat : List ℕ) → AreEntries flat → (a b : ℕ) → IsPairValue (euc_pair flat a b)
pair_by_index flat scalars a b =
    pair_if (is_pointer_byte b) _ NoChar
    (λ _. is_value_of_entry flat scalars (euc_jp_pair_pointer a b))
    (λ _. tt)

pairs : (jis0208 : List ℕ) → AreEntries jis0208 → (a b : ℕ) → IsPairValue (euc_jp_pair jis0208 a b)
pairs jis0208 scalars a b =
    pair_if (a == 0x8E) _ _
    (λ _. pair_if (is_katakana_byte b) (OneChar (katakana_of_byte b)) NoChar (λ is. (katakana_is_char b is).0) (λ _. tt))
    (λ _. pair_by_index jis0208 scalars a b)

-- ---- the piece that 8F begins

some_8f : (jis0212 x : List ℕ) → 0 < piece_len (euc_jp_after_8f jis0212 x)
some_8f jis0212 [] = omega arith
some_8f jis0212 (b ∷ x) = either (is_pointer_byte b)
  where
    either : (t : Bool) → 0 < piece_len (cond t (after_bytes 2 (euc_pair jis0212 b) x) (piece_of_trail 1 NoChar b))
    either true = some_after 2 (euc_pair jis0212 b) x (omega arith)
    either false = some_after 1 (λ _. NoChar) (b ∷ x) (omega arith)

shows_8f : (jis0212 : List ℕ) → AreEntries jis0212 → (x : List ℕ) (last : Bool) → Shows (euc_jp_after_8f jis0212) 1 x last (decide_8f jis0212 x last)
shows_8f jis0212 scalars [] last =
    shows_end (euc_jp_after_8f jis0212) 1 last (0xFF ∷ []) (omega arith) (omega arith) refl (omega arith, tt) (omega arith) (λ e. absurd (omega (arith, e))) (some_8f jis0212)
shows_8f jis0212 scalars (b ∷ x) last =
    shows_cons (euc_jp_after_8f jis0212) 1 b x last _
    (shows_cond (is_pointer_byte b) (after_bytes 2 (euc_pair jis0212 b)) (λ _. piece_of_trail 1 NoChar b) 2 x last _ _
    (shows_after 2 (euc_pair jis0212 b) x last (omega arith) (omega arith) (pair_by_index jis0212 scalars b))
    (shows_trail 1 NoChar b x last (omega arith) (omega arith) tt))

cuts_8f : (jis0212 : List ℕ) → AreEntries jis0212 → (x : List ℕ) → Cuts (euc_jp_after_8f jis0212 x) (1 + length x)
cuts_8f jis0212 scalars [] = cuts_malformed 1 _ (omega arith) (omega arith)
cuts_8f jis0212 scalars (b ∷ x) =
    cuts_cond (is_pointer_byte b) (after_bytes 2 (euc_pair jis0212 b) x) (piece_of_trail 1 NoChar b) _
    (λ _. longer (cuts_after 2 (euc_pair jis0212 b) x (omega arith) (pair_by_index jis0212 scalars b)))
    (λ _. cuts_trail 1 NoChar b _ (omega arith) (omega arith) tt)
  where
    longer : {p : Piece} → Cuts p (2 + length x) → Cuts p (1 + length (b ∷ x))
    longer h = record { piece = h.piece; within = omega (arith, h.within) }

modest_either : (t : Bool) (F G : FirstPiece) → IsModest F → IsModest G → IsModest (cond t F G)
modest_either true F G h k = h
modest_either false F G h k = k

modest_8f : (jis0212 : List ℕ) → AreEntries jis0212 → (x : List ℕ) (last : Bool) → IsModest (decide_8f jis0212 x last)
modest_8f jis0212 scalars [] last = modest_after 1 (λ _. NoChar) [] last (omega arith) (λ _. tt)
modest_8f jis0212 scalars (b ∷ x) last =
    modest_either (is_pointer_byte b) _ _
    (modest_after 2 (euc_pair jis0212 b) x last (omega arith) (pair_by_index jis0212 scalars b))
    (modest_trail 1 NoChar b (omega arith) tt)

-- ---- the rule

pub euc_jp_is_lead_rule : (jis0208 jis0212 : List ℕ) → AreEntries jis0208 → AreEntries jis0212
    → IsLeadByteRule euc_jp_first (euc_jp_after jis0208 jis0212) (decide_euc_jp jis0208 jis0212)
euc_jp_is_lead_rule jis0208 jis0212 scalars more = record {
  firsts = firsts;
  cuts = λ a x _. cuts_cond (a == 0x8F) (euc_jp_after_8f jis0212 x) (after_bytes 1 (euc_jp_pair jis0208 a) x) _
      (λ _. cuts_8f jis0212 more x)
      (λ _. cuts_after 1 (euc_jp_pair jis0208 a) x (omega arith) (pairs jis0208 scalars a));
  shows = λ a x last _. shows_cond (a == 0x8F) (euc_jp_after_8f jis0212) (after_bytes 1 (euc_jp_pair jis0208 a)) 1 x last _ _
      (shows_8f jis0212 more x last)
      (shows_after 1 (euc_jp_pair jis0208 a) x last (omega arith) (omega arith) (pairs jis0208 scalars a));
  modest = λ a x last _. modest_either (a == 0x8F) _ _
      (modest_8f jis0212 more x last)
      (modest_after 1 (euc_jp_pair jis0208 a) x last (omega arith) (pairs jis0208 scalars a));
}
