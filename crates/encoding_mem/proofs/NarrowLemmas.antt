-- What is written so far of UTF-8 of Latin1 characters, a byte for each.
use Rattle.std.proofs.Common.{◌≡◌, ℕ, ◌+◌, ◌-◌, ◌*◌, ◌/◌, ◌%◌, ◌<◌, ◌≤◌, inl, inr, true, List, [], ◌∷◌, ◌++◌, length, take, drop, set, get_or, refl, sym, ◌∙◌, ap, subst, arith, append_assoc, length-drop, encode_utf8_all}
use Rattle.std.specs.Str.{chars, IsAscii, IsUtf8, all_scalars}
use Rattle.std.proofs.Math.Utf8.{scalar}
use Rattle.std.proofs.lemmas.Bool.{cases_lt, and_parts}
use Rattle.std.proofs.lemmas.List.{length-set, take-append-drop, take_rest, take_more_set, drop-drop, get_or-drop}
use Rattle.std.proofs.lemmas.Str.{IsUtf8-drop, chars-encodes, encode_ascii}
use borrow.Rule.Slice.PartMut.{put_mid}
use Rattle.encoding_mem.specs.Latin1.{AllLatin1}
use Rattle.encoding_mem.specs.LongestPrefix.{IsLongestPrefix}
use Rattle.encoding_mem.proofs.AsciiLemmas.{behind_ascii}
use Rattle.encoding_mem.proofs.AsciiRunLemmas.{run_boundary, run_chars}
use Rattle.encoding_mem.proofs.DestinationLemmas.{take_into, drop_into, drop_past_set}
use Rattle.encoding_mem.proofs.Latin1Lemmas.{each_back}
use Rattle.encoding_mem.proofs.LongestPrefixLemmas.{length_put}
use Rattle.encoding_mem.proofs.UnitCopyLemmas.{further}
use Rattle.encoding_mem.proofs.UnitWritingLemmas.{rest_length}
use Rattle.encoding_mem.proofs.Utf8TextLemmas.{of_two}

-- A text that begins with a character from U+0080 to U+00FF.
pub record BeginsWithTwo (text : List ℕ) : Type 0 where
  pub long : 2 ≤ length text
  pub utf8 : IsUtf8 (drop 2 text)
  pub first : chars text ≡ (get_or text 0 0 % 4 * 64 + get_or text 1 0 % 64) ∷ chars (drop 2 text)

two_of : (c : ℕ) (cs text : List ℕ) → all_scalars (c ∷ cs) ≡ true → 0x80 ≤ c → c ≤ 0xFF → text ≡ (0xC0 + c / 0x40) ∷ (0x80 + c % 0x40) ∷ encode_utf8_all cs → chars text ≡ c ∷ cs
    → BeginsWithTwo text
two_of c cs text are from to is chars_are =
    let rest : drop 2 text ≡ encode_utf8_all cs = ap (drop 2) is in
    let lead : get_or text 0 0 ≡ 0xC0 + c / 0x40 = ap (λ l. get_or l 0 0) is in
    let next : get_or text 1 0 ≡ 0x80 + c % 0x40 = ap (λ l. get_or l 1 0) is in
    let value : c ≡ get_or text 0 0 % 4 * 64 + get_or text 1 0 % 64 = omega (arith, lead, next) in
    let others : all_scalars cs ≡ true = (and_parts (scalar c) (all_scalars cs) are).1 in
    record {
      long = omega (arith, ap length is);
      utf8 = subst IsUtf8 (sym rest) (cs, (others, refl));
      first = chars_are ∙ ap (λ l. c ∷ l) (sym (chars-encodes cs others) ∙ ap chars (sym rest)) ∙ ap (λ v. v ∷ chars (drop 2 text)) value;
    }

two_in : (cs text : List ℕ) → all_scalars cs ≡ true → encode_utf8_all cs ≡ text → 0 < length text → 0x80 ≤ get_or text 0 0 → AllLatin1 cs → BeginsWithTwo text
two_in [] text are is some high low = absurd (omega (arith, some, ap length is))
two_in (c ∷ cs) text are is some high low = elim (cases_lt c 0x80) [
  | inl ascii ↦
      let begins : text ≡ c ∷ encode_utf8_all cs = sym is ∙ ap (λ l. l ++ encode_utf8_all cs) (encode_ascii c ascii) in
      absurd (omega (arith, high, ap (λ l. get_or l 0 0) begins))
  | inr from ↦
      let begins : text ≡ (0xC0 + c / 0x40) ∷ (0x80 + c % 0x40) ∷ encode_utf8_all cs = sym is ∙ ap (λ l. l ++ encode_utf8_all cs) (of_two c from (omega (arith, low 0))) in
      two_of c cs text are from (low 0) begins (ap chars (sym is) ∙ chars-encodes (c ∷ cs) are)
]

pub begins_with_two : (text : List ℕ) → IsUtf8 text → 0 < length text → 0x80 ≤ get_or text 0 0 → AllLatin1 (chars text) → BeginsWithTwo text
begins_with_two text utf8 some high low =
    two_in utf8.0 text utf8.1.0 utf8.1.1 some high (subst AllLatin1 (ap chars (sym utf8.1.1) ∙ chars-encodes utf8.0 utf8.1.0) low)

-- Of the text so many bytes are read, and the destination has their characters. Of what is after it, a byte for every
-- two that are left to read may have changed.
pub record IsNarrowed (text old : List ℕ) (read : ℕ) (new : List ℕ) (written : ℕ) : Type 0 where
  pub within : read ≤ length text
  pub size : length new ≡ length old
  pub few : written ≤ read
  pub utf8 : IsUtf8 (drop read text)
  pub whole : chars text ≡ take written new ++ chars (drop read text)
  pub behind : drop (written + (length text - read) / 2) new ≡ drop (written + (length text - read) / 2) old

-- a run of ASCII more
pub run_narrowed : (text old : List ℕ) (read : ℕ) (new : List ℕ) (written : ℕ) (ys : List ℕ) (n : ℕ) → IsNarrowed text old read new written → length text ≤ length old
    → IsLongestPrefix IsAscii (take (length text - read) (drop read text)) n → length ys ≡ length (take (length new - written) (drop written new))
    → take n ys ≡ take n (take (length text - read) (drop read text))
    → (let end = n + (length (take (length text - read) (drop read text)) - n) / 2 in drop end ys ≡ drop end (take (length new - written) (drop written new)))
    → IsNarrowed text old (read + n) (put_mid written (length new - written) new ys) (written + n)
run_narrowed text old read new written ys n w room prefix size copied behind =
    let left = rest_length text read in
    let inside = prefix.within in
    let len : length ys ≡ length new - written = size ∙ rest_length new written in
    let here : written ≤ length new = omega (arith, w.few, w.size, w.within) in
    let e = n + (length (take (length text - read) (drop read text)) - n) / 2 in
    let enough : e ≤ length ys = omega (arith, len, left, inside, w.few, w.size, w.within) in
    let moved = drop_into written (length new - written) e new ys here refl enough behind in
    let end = written + n + (length text - (read + n)) / 2 in
    let same_end : written + e ≡ end = omega (arith, left, inside) in
    let rest = drop read text in
    let part : take n (take (length text - read) rest) ≡ take n rest = ap (take n) (take_rest text read) in
    let ascii : IsAscii (take n rest) = subst IsAscii part prefix.well_formed in
    let fits : n ≤ length rest = omega (arith, inside, left, length-drop read text) in
    let next : drop n rest ≡ drop (read + n) text = drop-drop n read text in
    let text_is : chars rest ≡ take n rest ++ chars (drop n rest) = run_chars rest (take n rest) (drop n rest) (sym (take-append-drop n rest)) ascii in
    record {
      within = omega (arith, inside, left, w.within);
      size = length_put written (length new - written) new ys here refl len ∙ w.size;
      few = omega (arith, w.few);
      utf8 = subst IsUtf8 next (IsUtf8-drop rest n w.utf8 (run_boundary rest (take n rest) n w.utf8 fits refl ascii));
      whole =
          w.whole ∙ ap (λ l. take written new ++ l) text_is ∙ sym (append_assoc (take written new) (take n rest) (chars (drop n rest)))
          ∙ ap (λ l. (take written new ++ l) ++ chars (drop n rest)) (sym (copied ∙ part))
          ∙ ap (λ l. l ++ chars (drop n rest)) (sym (take_into written (length new - written) n new ys here (omega (arith, inside, left, enough))))
          ∙ ap (λ l. take (written + n) (put_mid written (length new - written) new ys) ++ chars l) next;
      behind = subst (λ i. drop i (put_mid written (length new - written) new ys) ≡ drop i new) same_end moved ∙ further new old (written + (length text - read) / 2) end (omega (arith, left, inside)) w.behind;
    }

-- what is after it is not ASCII
pub high_next : (text : List ℕ) (read n : ℕ) → IsLongestPrefix IsAscii (take (length text - read) (drop read text)) n → read + n < length text → 0x80 ≤ get_or text (read + n) 0
high_next text read n prefix more =
    let high = behind_ascii (take (length text - read) (drop read text)) n prefix (omega (arith, rest_length text read, more)) in
    omega (arith, high, ap (λ l. get_or l n 0) (take_rest text read), get_or-drop read text n 0)

-- a character of two bytes is next
pub two_next : (text old : List ℕ) (read : ℕ) (new : List ℕ) (written : ℕ) → IsNarrowed text old read new written → AllLatin1 (chars text) → read < length text → 0x80 ≤ get_or text read 0
    → BeginsWithTwo (drop read text)
two_next text old read new written w low some high =
    let here : get_or (drop read text) 0 0 ≡ get_or text read 0 = get_or-drop read text 0 0 ∙ ap (λ k. get_or text k 0) (omega arith) in
    begins_with_two (drop read text) w.utf8 (omega (arith, length-drop read text)) (omega (arith, here, high))
    (each_back (λ c. c ≤ 0xFF) (take written new) (chars (drop read text)) (subst AllLatin1 w.whole low))

-- it is written
pub two_narrowed : (text old : List ℕ) (read : ℕ) (new : List ℕ) (written : ℕ) → IsNarrowed text old read new written → length text ≤ length old → BeginsWithTwo (drop read text)
    → IsNarrowed text old (read + 2) (set new written (get_or text read 0 % 4 * 64 + get_or text (read + 1) 0 % 64)) (written + 1)
two_narrowed text old read new written w room two =
    let v = get_or text read 0 % 4 * 64 + get_or text (read + 1) 0 % 64 in
    let long : read + 2 ≤ length text = omega (arith, two.long, length-drop read text) in
    let inside : written < length new = omega (arith, w.few, w.size) in
    let lead : get_or (drop read text) 0 0 ≡ get_or text read 0 = get_or-drop read text 0 0 ∙ ap (λ k. get_or text k 0) (omega arith) in
    let next : get_or (drop read text) 1 0 ≡ get_or text (read + 1) 0 = get_or-drop read text 1 0 in
    let value : get_or (drop read text) 0 0 % 4 * 64 + get_or (drop read text) 1 0 % 64 ≡ v = ap (λ a. a % 4 * 64 + get_or (drop read text) 1 0 % 64) lead ∙ ap (λ b. get_or text read 0 % 4 * 64 + b % 64) next in
    let rest : drop 2 (drop read text) ≡ drop (read + 2) text = drop-drop 2 read text in
    let text_is : chars (drop read text) ≡ v ∷ chars (drop (read + 2) text) = two.first ∙ ap (λ c. c ∷ chars (drop 2 (drop read text))) value ∙ ap (λ l. v ∷ chars l) rest in
    let end = written + 1 + (length text - (read + 2)) / 2 in
    record {
      within = long;
      size = length-set new written v ∙ w.size;
      few = omega (arith, w.few);
      utf8 = subst IsUtf8 rest two.utf8;
      whole =
          w.whole ∙ ap (λ l. take written new ++ l) text_is ∙ sym (append_assoc (take written new) (v ∷ []) (chars (drop (read + 2) text)))
          ∙ ap (λ l. l ++ chars (drop (read + 2) text)) (sym (take_more_set new written v inside));
      behind = further (set new written v) new (written + 1) end (omega arith) (drop_past_set new written v) ∙ further new old (written + (length text - read) / 2) end (omega (arith, long)) w.behind;
    }
