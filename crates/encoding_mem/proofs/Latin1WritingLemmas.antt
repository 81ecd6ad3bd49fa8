-- What is written so far of Latin1 in UTF-8.
use Rattle.std.proofs.Common.{◌≡◌, ℕ, ◌+◌, ◌-◌, ◌*◌, ◌/◌, ◌%◌, ◌<◌, ◌≤◌, List, [], ◌∷◌, ◌++◌, length, take, drop, set, get_or, refl, sym, ◌∙◌, ap, subst, arith, encode_utf8_all}
use Rattle.std.specs.Char.{len_utf8}
use Rattle.std.specs.Str.{IsAscii}
use Rattle.std.proofs.lemmas.List.{length-drop, length-set, length-take-le, take-append-drop, take-append-le, take-take, take_rest, take_more, take_more_set}
use Rattle.std.proofs.lemmas.Bool.Decides.{nat_tests}
use Rattle.std.proofs.lemmas.Str.{encode_ascii, encodes-append, encodes-IsAscii}
use borrow.Rule.Slice.PartMut.{put_mid}
use Rattle.encoding_mem.specs.Conversions.{IsLongest}
use Rattle.encoding_mem.specs.calls.Writing.{Adds}
use Rattle.encoding_mem.specs.laws.Utf8.{encode_two}
use Rattle.encoding_mem.proofs.AsciiLemmas.{ascii_take}
use Rattle.encoding_mem.proofs.DestinationLemmas.{take_into, drop_into, drop_past_set}
use Rattle.encoding_mem.proofs.LongestPrefixLemmas.{adds_prefix, adds_behind, behind_more, encode_next, latin1_over, length_put, take_sum}
use Rattle.encoding_mem.proofs.PlainUnitsLemmas.{put_two}
use Rattle.encoding_mem.proofs.UnitCopyLemmas.{further}
use Rattle.encoding_mem.proofs.UnitWritingLemmas.{rest_length}

-- a byte from 80 hex on has two bytes
pub high_put : (b : ℕ) (dst : List ℕ) → 0x80 ≤ b → b < 256 → 2 ≤ length dst
    → Adds dst 0 (encode_utf8_all (b ∷ [])) (set (set dst 1 (128 + b % 64)) 0 (192 + b / 64)) 2
high_put b dst from below room = rw (encode_two b from (omega arith)) (put_two (192 + b / 64) (128 + b % 64) dst room)

-- Of the source so many bytes are read, and the destination has their text. Of what is after it, as many bytes as are
-- left to read may have changed.
pub record IsLatin1Written (src old : List ℕ) (read : ℕ) (new : List ℕ) (written : ℕ) : Type 0 where
  pub within : read ≤ length src
  pub size : length new ≡ length old
  pub few : written ≤ 2 * read
  pub bytes : take written new ≡ encode_utf8_all (take read src)
  pub behind : drop (written + (length src - read)) new ≡ drop (written + (length src - read)) old

-- a run of ASCII more
pub latin1_run_written : (src old : List ℕ) (read : ℕ) (new : List ℕ) (written : ℕ) (ys : List ℕ) (n : ℕ) → IsLatin1Written src old read new written → 2 * length src ≤ length old
    → n ≤ length (take (length src - read) (drop read src)) → length ys ≡ length (take (length new - written) (drop written new))
    → ((k : ℕ) → k < n → get_or (take (length src - read) (drop read src)) k 0 < 0x80) → take n ys ≡ take n (take (length src - read) (drop read src))
    → drop (length (take (length src - read) (drop read src))) ys ≡ drop (length (take (length src - read) (drop read src))) (take (length new - written) (drop written new))
    → IsLatin1Written src old (read + n) (put_mid written (length new - written) new ys) (written + n)
latin1_run_written src old read new written ys n w room inside size low copied behind =
    let left = rest_length src read in
    let len : length ys ≡ length new - written = size ∙ rest_length new written in
    let here : written ≤ length new = omega (arith, w.few, w.size, w.within) in
    let enough : length src - read ≤ length ys = omega (arith, len, w.few, w.size, w.within) in
    let kept = subst (λ m. drop m ys ≡ drop m (take (length new - written) (drop written new))) left behind in
    let moved = drop_into written (length new - written) (length src - read) new ys here refl enough kept in
    let part : take n (take (length src - read) (drop read src)) ≡ take n (drop read src) = ap (take n) (take_rest src read) in
    let fits : n ≤ length (drop read src) = omega (arith, inside, left, length-drop read src) in
    let ascii = ascii_take (drop read src) n fits (λ k before. omega (arith, low k before, ap (λ l. get_or l k 0) (take_rest src read))) in
    let end = written + n + (length src - (read + n)) in
    record {
      within = omega (arith, inside, left, w.within);
      size = length_put written (length new - written) new ys here refl len ∙ w.size;
      few = omega (arith, w.few);
      bytes =
          take_into written (length new - written) n new ys here (omega (arith, inside, left, enough)) ∙ ap (λ l. l ++ take n ys) w.bytes
          ∙ ap (λ l. encode_utf8_all (take read src) ++ l) (copied ∙ part ∙ sym (encodes-IsAscii (take n (drop read src)) ascii))
          ∙ sym (encodes-append (take read src) (take n (drop read src))) ∙ ap encode_utf8_all (sym (take_sum read n src w.within));
      behind = further _ new (written + (length src - read)) end (omega arith) moved ∙ further new old (written + (length src - read)) end (omega arith) w.behind;
    }

-- a byte from 80 hex on more
pub latin1_high_written : (src old : List ℕ) (read : ℕ) (new : List ℕ) (written : ℕ) (ys : List ℕ) → IsLatin1Written src old read new written → 2 * length src ≤ length old
    → read < length src → length ys ≡ length (take (length new - written) (drop written new))
    → Adds (take (length new - written) (drop written new)) 0 (encode_utf8_all (get_or src read 0 ∷ [])) ys 2
    → IsLatin1Written src old (read + 1) (put_mid written (length new - written) new ys) (written + 2)
latin1_high_written src old read new written ys w room inside size adds =
    let len : length ys ≡ length new - written = size ∙ rest_length new written in
    let here : written ≤ length new = omega (arith, w.few, w.size, w.within) in
    let enough : 2 ≤ length ys = omega (arith, len, w.few, w.size) in
    let moved = drop_into written (length new - written) 2 new ys here refl enough (adds_behind _ _ ys 2 adds) in
    let end = written + 2 + (length src - (read + 1)) in
    record {
      within = omega arith;
      size = length_put written (length new - written) new ys here refl len ∙ w.size;
      few = omega (arith, w.few);
      bytes =
          take_into written (length new - written) 2 new ys here enough ∙ ap (λ l. l ++ take 2 ys) w.bytes
          ∙ ap (λ l. encode_utf8_all (take read src) ++ l) (adds_prefix _ _ ys 2 adds)
          ∙ sym (encodes-append (take read src) (get_or src read 0 ∷ [])) ∙ ap encode_utf8_all (sym (take_more src read 0 inside));
      behind = further _ new (written + 2) end (omega arith) moved ∙ further new old (written + (length src - read)) end (omega arith) w.behind;
    }

-- Of the source so many bytes are read, the destination has their text, and what is after it is as it was.
pub record IsLatin1Put (src old : List ℕ) (read : ℕ) (new : List ℕ) (written : ℕ) : Type 0 where
  pub within : read ≤ length src
  pub size : length new ≡ length old
  pub room : written ≤ length new
  pub bytes : take written new ≡ encode_utf8_all (take read src)
  pub behind : drop written new ≡ drop written old

-- a part more
pub latin1_part_put : (src old : List ℕ) (read : ℕ) (new : List ℕ) (written : ℕ) (ys part : List ℕ) (n k : ℕ) → IsLatin1Put src old read new written
    → read + n ≤ length src → part ≡ take n (drop read src) → length ys ≡ length (take (length new - written) (drop written new)) → k ≤ length ys
    → take k ys ≡ encode_utf8_all part → drop k ys ≡ drop k (take (length new - written) (drop written new))
    → IsLatin1Put src old (read + n) (put_mid written (length new - written) new ys) (written + k)
latin1_part_put src old read new written ys part n k w inside is size fits wrote behind =
    let len : length ys ≡ length new - written = size ∙ rest_length new written in
    let same = length_put written (length new - written) new ys w.room refl len in
    record {
      within = inside;
      size = same ∙ w.size;
      room = omega (arith, same, len, fits, w.room);
      bytes =
          take_into written (length new - written) k new ys w.room fits ∙ ap (λ l. l ++ take k ys) w.bytes
          ∙ ap (λ l. encode_utf8_all (take read src) ++ l) (wrote ∙ ap encode_utf8_all is)
          ∙ sym (encodes-append (take read src) (take n (drop read src))) ∙ ap encode_utf8_all (sym (take_sum read n src w.within));
      behind = behind_more written k _ new old (drop_into written (length new - written) k new ys w.room refl fits behind) w.behind;
    }

-- an ASCII byte more
pub latin1_byte_put : (src old : List ℕ) (read : ℕ) (new : List ℕ) (written : ℕ) → IsLatin1Put src old read new written → read < length src → get_or src read 0 < 0x80
    → written < length new → IsLatin1Put src old (read + 1) (set new written (get_or src read 0)) (written + 1)
latin1_byte_put src old read new written w inside low fits =
    let b = get_or src read 0 in
    record {
      within = omega arith;
      size = length-set new written b ∙ w.size;
      room = omega (arith, length-set new written b);
      bytes =
          take_more_set new written b fits ∙ ap (λ l. l ++ (b ∷ [])) w.bytes ∙ ap (λ l. encode_utf8_all (take read src) ++ l) (sym (encode_ascii b low))
          ∙ encode_next src read inside;
      behind = behind_more written 1 (set new written b) new old (drop_past_set new written b) w.behind;
    }

-- when no more fits
pub latin1_longest : (src old : List ℕ) (read : ℕ) (new : List ℕ) (written : ℕ) → IsLatin1Put src old read new written
    → (read < length src → length new < written + len_utf8 (get_or src read 0)) → IsLongest (λ _. Unit {0}) (λ i. length (encode_utf8_all (take i src))) (length src) (length old) read
latin1_longest src old read new written w tight =
    let size : length (encode_utf8_all (take read src)) ≡ written = ap length (sym w.bytes) ∙ length-take-le written new w.room in
    record {
      within = w.within;
      whole = tt;
      fits = omega (arith, size, w.room, w.size);
      longest = λ k more le _. latin1_over src read (length old) (omega (arith, size, w.size, tight (omega arith))) k more le;
    }

-- a byte from 80 hex on has two bytes, and each has one at least
pub high_is_two : (b : ℕ) → 0x80 ≤ b → 2 ≤ len_utf8 b
high_is_two b from = grind (arith, nat_tests)

-- the text of Latin1 is the ASCII at its start, and what its other bytes give
behind_run : (src run rest : List ℕ) → run ≡ take (length run) src → IsAscii run → rest ≡ drop (length run) src → run ++ encode_utf8_all rest ≡ encode_utf8_all src
behind_run src run rest is low at =
    ap (λ l. l ++ encode_utf8_all rest) (sym (encodes-IsAscii run low)) ∙ sym (encodes-append run rest)
    ∙ ap encode_utf8_all (ap (λ l. l ++ rest) is ∙ ap (λ l. take (length run) src ++ l) at ∙ take-append-drop (length run) src)

-- so that what was put at the start of some memory, which is then cut short, is the text
pub decoded : (src run rest ys kept items : List ℕ) (n len : ℕ) → run ≡ take (length run) src → IsAscii run → rest ≡ drop (length run) src
    → items ≡ take n (take len (ys ++ kept)) → n ≤ len → n ≤ length ys → take n ys ≡ run ++ encode_utf8_all rest → items ≡ encode_utf8_all src
decoded src run rest ys kept items n len is low at cut inside fits put =
    cut ∙ take-take n len (ys ++ kept) inside ∙ take-append-le n ys kept fits ∙ put ∙ behind_run src run rest is low at
