-- How many characters units of UTF-16 have, and where those that were copied end.
use Rattle.std.proofs.Common.{◌≡◌, ℕ, zero, suc, get_or, ◌+◌, ◌<◌, ◌≤◌, List, [], ◌∷◌, ◌++◌, length, take, drop, sym, ◌∙◌, ap, arith, inl, inr, append_assoc}
use Rattle.std.specs.Char.Utf16.{utf16_lossy_chars}
use Rattle.std.proofs.lemmas.Bool.{cases_lt, lt-ltb, le-ltb}
use Rattle.std.proofs.lemmas.List.{drop-drop}
use Rattle.encoding_mem.specs.calls.EncoderRule.{IsCopied}
use Rattle.encoding_mem.specs.calls.Writing.{len_utf16}
use Rattle.encoding_mem.specs.Conversions.{IsUnitBoundary, units_in_utf8}
use Rattle.encoding_mem.proofs.UnitPrefixLemmas.{reads_boundary, split_at}
use Rattle.encoding_mem.proofs.Utf16Lemmas.{plain_unit}

-- units below the surrogates are a character each
pub plain_run : (n : ℕ) (units : List ℕ) → n ≤ length units → ((k : ℕ) → k < n → get_or units k 0 < 0xD800) → length (utf16_lossy_chars units) ≡ n + length (utf16_lossy_chars (drop n units))
plain_run zero units within low = omega arith
plain_run (suc n) [] within low = absurd (omega arith)
plain_run (suc n) (u ∷ units) within low =
    let one : length (utf16_lossy_chars (u ∷ units)) ≡ suc (length (utf16_lossy_chars units)) = ap length (plain_unit (u ∷ units) (omega arith) (inl (low 0 (omega arith)))) in
    let more = plain_run n units (omega arith) (λ k less. low (suc k) (omega (arith, less))) in
    omega (arith, one, more)

pub some_units : (c : ℕ) → 1 ≤ len_utf16 c
some_units c = elim (cases_lt c 0x1_0000) [ inl low ↦ rw (lt-ltb c 0x1_0000 low) (omega arith) | inr high ↦ rw (le-ltb c 0x1_0000 high) (omega arith) ]

-- a character, and then units below the surrogates
pub counted : (units here behind : List ℕ) (read c size run : ℕ) → here ≡ drop read units → behind ≡ drop (read + size) units → utf16_lossy_chars here ≡ c ∷ utf16_lossy_chars (drop size here)
    → run ≤ length behind → ((k : ℕ) → k < run → get_or behind k 0 < 0xD800) → length (utf16_lossy_chars (drop read units)) ≡ 1 + run + length (utf16_lossy_chars (drop (read + size + run) units))
counted units here behind read c size run at after first within low =
    let next : drop size here ≡ behind = ap (drop size) at ∙ drop-drop size read units ∙ sym after in
    let left : drop run behind ≡ drop (read + size + run) units = ap (drop run) after ∙ drop-drop run (read + size) units in
    let one = ap length first in
    omega (arith, ap (λ l. length (utf16_lossy_chars l)) at, one, ap (λ l. length (utf16_lossy_chars l)) next, plain_run run behind within low, ap (λ l. length (utf16_lossy_chars l)) left)

-- the longest prefix in UTF-8 is copied text
pub prefix_copied : (units out : List ℕ) (read : ℕ) → IsUnitBoundary units read → out ≡ units_in_utf8 (take read units) → IsCopied (utf16_lossy_chars units) out (utf16_lossy_chars (drop read units))
prefix_copied units out read whole bytes = record { prefix = utf16_lossy_chars (take read units); taken = split_at read units whole; put = bytes }

pub copied_from : (units here out : List ℕ) (offset read : ℕ) → here ≡ drop offset units → IsCopied (utf16_lossy_chars here) out (utf16_lossy_chars (drop read here))
    → IsCopied (utf16_lossy_chars (drop offset units)) out (utf16_lossy_chars (drop (offset + read) units))
copied_from units here out offset read at copied =
    let left : drop read here ≡ drop (offset + read) units = ap (drop read) at ∙ drop-drop read offset units in
    record {
      prefix = copied.prefix;
      taken = ap utf16_lossy_chars (sym at) ∙ copied.taken ∙ ap (λ l. copied.prefix ++ utf16_lossy_chars l) left;
      put = copied.put;
    }

-- what was read ends between characters
pub past_copied : (units here out : List ℕ) (offset read : ℕ) → here ≡ drop offset units → IsUnitBoundary units offset
    → IsCopied (utf16_lossy_chars here) out (utf16_lossy_chars (drop read here)) → IsUnitBoundary units (offset + read)
past_copied units here out offset read at whole copied =
    let before : List ℕ = utf16_lossy_chars (take offset units) in
    let more = copied_from units here out offset read at copied in
    reads_boundary units (before ++ more.prefix) (offset + read)
    (split_at offset units whole ∙ ap (λ l. before ++ l) more.taken ∙ sym (append_assoc before more.prefix (utf16_lossy_chars (drop (offset + read) units))))
