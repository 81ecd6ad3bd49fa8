-- What is known of the first piece of EUC-JP if more bytes may come: each definition follows the one of
-- specs/EucJp.antt for the piece.
use Rattle.std.specs.Prelude.{ℕ, Bool, List, [], ◌∷◌, ◌==◌, if◌then◌else◌}
use Rattle.encoding_mem.specs.declared.codec.first_piece.FirstPiece.{FirstPiece}
use Rattle.encoding_mem.specs.calls.DecoderRule.{cut_short}
use Rattle.encoding_codecs.specs.EucJp.{is_pointer_byte, euc_pair, euc_jp_pair}
use Rattle.encoding_codecs.specs.laws.TwoByteDecide.{decide_after, decide_trail}
use Rattle.encoding_codecs.specs.declared.two_byte.PairValue.TheVariants.{NoChar}

-- what is known of a piece of EUC-JP after the byte 8F, by the bytes that follow
abbrev pub decide_8f : List ℕ → List ℕ → Bool → FirstPiece
decide_8f jis0212 [] last = cut_short 1 last
decide_8f jis0212 (b ∷ x) last = if is_pointer_byte b
    then decide_after 2 (euc_pair jis0212 b) x last
    else decide_trail 1 NoChar b

-- what is known of a piece of EUC-JP after its lead, by the bytes that follow
abbrev pub decide_euc_jp : (jis0208 jis0212 : List ℕ) → ℕ → List ℕ → Bool → FirstPiece
decide_euc_jp jis0208 jis0212 a x last = if a == 0x8F then decide_8f jis0212 x last else decide_after 1 (euc_jp_pair jis0208 a) x last
