-- What is written so far of units in UTF-8.
use Rattle.std.proofs.Common.{◌≡◌, ℕ, ◌+◌, ◌-◌, ◌*◌, ◌<◌, ◌≤◌, List, [], ◌∷◌, ◌++◌, length, take, drop, get_or, refl, sym, ◌∙◌, ap, subst, arith, append_assoc, encode_utf8_all}
use Rattle.std.specs.Char.{len_utf8}
use Rattle.std.specs.Char.Utf16.{utf16_lossy_chars}
use Rattle.std.proofs.lemmas.List.{length-drop, length-take-le, take_rest, drop-drop}
use Rattle.std.proofs.lemmas.Str.{encodes-append}
use borrow.Rule.Slice.PartMut.{put_mid}
use Rattle.encoding_mem.specs.Conversions.{IsLongest, IsUnitBoundary, units_in_utf8}
use Rattle.encoding_mem.specs.Utf8Coding.{NextIsTooLong, ReadsLongest}
use Rattle.encoding_mem.proofs.DestinationLemmas.{take_into, drop_into, take_low}
use Rattle.encoding_mem.proofs.LongestPrefixLemmas.{length_put, behind_more}
use Rattle.encoding_mem.proofs.UnitPrefixLemmas.{written_longest, units_size, reads_boundary, reads_text, split_at}

-- of the units so many are read, and the destination has their text
pub record IsWritten (us old : List ℕ) (read : ℕ) (new : List ℕ) (written : ℕ) : Type 0 where
  pub within : read ≤ length us
  pub size : length new ≡ length old
  pub room : written ≤ length new
  pub behind : drop written new ≡ drop written old
  pub text : List ℕ
  pub split : utf16_lossy_chars us ≡ text ++ utf16_lossy_chars (drop read us)
  pub bytes : take written new ≡ encode_utf8_all text

pub none_written : (us old : List ℕ) → IsWritten us old 0 old 0
none_written us old = record {
  within = omega arith;
  size = refl;
  room = omega arith;
  behind = refl;
  text = [];
  split = refl;
  bytes = refl;
}

-- what is read of the units after an offset
pub past_part : (us part : List ℕ) (read n : ℕ) → utf16_lossy_chars (take (length us - read) (drop read us)) ≡ part ++ utf16_lossy_chars (drop n (take (length us - read) (drop read us)))
    → utf16_lossy_chars (drop read us) ≡ part ++ utf16_lossy_chars (drop (read + n) us)
past_part us part read n h =
    let left = ap (drop n) (take_rest us read) ∙ drop-drop n read us in
    ap utf16_lossy_chars (sym (take_rest us read)) ∙ h ∙ ap (λ l. part ++ utf16_lossy_chars l) left

pub rest_length : (us : List ℕ) (read : ℕ) → length (take (length us - read) (drop read us)) ≡ length us - read
rest_length us read = ap length (take_rest us read) ∙ length-drop read us

-- a part more is written after it
pub more_written : (us old : List ℕ) (read : ℕ) (new : List ℕ) (written : ℕ) (ys part : List ℕ) (n k : ℕ) → IsWritten us old read new written
    → read + n ≤ length us → length ys ≡ length (take (length new - written) (drop written new)) → k ≤ length ys
    → utf16_lossy_chars (drop read us) ≡ part ++ utf16_lossy_chars (drop (read + n) us) → take k ys ≡ encode_utf8_all part
    → drop k ys ≡ drop k (take (length new - written) (drop written new))
    → IsWritten us old (read + n) (put_mid written (length new - written) new ys) (written + k)
more_written us old read new written ys part n k w within size fits chars wrote behind =
    let len : length ys ≡ length new - written = size ∙ ap length (take_rest new written) ∙ length-drop written new in
    let same = length_put written (length new - written) new ys w.room refl len in
    record {
      within = within;
      size = same ∙ w.size;
      room = omega (arith, same, len, fits, w.room);
      behind = behind_more written k _ new old (drop_into written _ k new ys w.room refl fits behind) w.behind;
      text = w.text ++ part;
      split = w.split ∙ ap (λ l. w.text ++ l) chars ∙ sym (append_assoc w.text part _);
      bytes = take_into written _ k new ys w.room fits ∙ ap (λ l. l ++ take k ys) w.bytes ∙ ap (λ l. encode_utf8_all w.text ++ l) wrote ∙ sym (encodes-append w.text part);
    }

-- the text of units up to a boundary is written after it
pub units_written : (us old : List ℕ) (read : ℕ) (new : List ℕ) (written : ℕ) (ys : List ℕ) (n k : ℕ) → IsWritten us old read new written
    → n ≤ length (take (length us - read) (drop read us)) → IsUnitBoundary (take (length us - read) (drop read us)) n
    → length ys ≡ length (take (length new - written) (drop written new)) → k ≤ length ys
    → take k ys ≡ units_in_utf8 (take n (take (length us - read) (drop read us))) → drop k ys ≡ drop k (take (length new - written) (drop written new))
    → IsWritten us old (read + n) (put_mid written (length new - written) new ys) (written + k)
units_written us old read new written ys n k w inside boundary size fits wrote behind =
    let here = take (length us - read) (drop read us) in
    more_written us old read new written ys (utf16_lossy_chars (take n here)) n k w
    (omega (arith, inside, rest_length us read, w.within)) size fits (past_part us (utf16_lossy_chars (take n here)) read n (split_at n here boundary)) wrote behind

-- what is read ends at a boundary, and what is written is its text
pub written_boundary : (us old : List ℕ) (read : ℕ) (new : List ℕ) (written : ℕ) → IsWritten us old read new written → IsUnitBoundary us read
written_boundary us old read new written w = reads_boundary us w.text read w.split

pub written_units : (us old : List ℕ) (read : ℕ) (new : List ℕ) (written : ℕ) → IsWritten us old read new written → take written new ≡ units_in_utf8 (take read us)
written_units us old read new written w = w.bytes ∙ ap encode_utf8_all (reads_text us w.text read w.split)

-- where it ends
end_is_short : (us : List ℕ) (free : ℕ) → utf16_lossy_chars us ≡ [] → NextIsTooLong (utf16_lossy_chars us) free
end_is_short us free none = subst (λ l. NextIsTooLong l free) (sym none) tt

pub reads_to_end : (us old : List ℕ) (read : ℕ) (new : List ℕ) (written : ℕ) → IsWritten us old read new written → utf16_lossy_chars (drop read us) ≡ []
    → ReadsLongest (utf16_lossy_chars us) (take written new) (utf16_lossy_chars (drop read us)) (length new - written)
reads_to_end us old read new written w none = record {
  prefix = w.text;
  split = w.split;
  bytes = w.bytes;
  longest = end_is_short (drop read us) (length new - written) none;
}

pub reads_to_char : (us old : List ℕ) (read : ℕ) (new : List ℕ) (written c : ℕ) (rest : List ℕ) → IsWritten us old read new written → utf16_lossy_chars (drop read us) ≡ c ∷ rest
    → length new - written < len_utf8 c → ReadsLongest (utf16_lossy_chars us) (take written new) (utf16_lossy_chars (drop read us)) (length new - written)
reads_to_char us old read new written c rest w at tight = record {
  prefix = w.text;
  split = w.split;
  bytes = w.bytes;
  longest = subst (λ l. NextIsTooLong l (length new - written)) (sym at) tight;
}

pub is_longest : (us old : List ℕ) (read : ℕ) (new : List ℕ) (written : ℕ) → IsWritten us old read new written
    → ReadsLongest (utf16_lossy_chars us) (take written new) (utf16_lossy_chars (drop read us)) (length new - written)
    → IsLongest (IsUnitBoundary us) (λ i. length (units_in_utf8 (take i us))) (length us) (length old) read
is_longest us old read new written w r =
    subst (λ (room : ℕ). IsLongest (IsUnitBoundary us) (λ i. length (units_in_utf8 (take i us))) (length us) room read) w.size
    (written_longest us (take written new) read (length new) written w.within r (length-take-le written new w.room) w.room)

-- three bytes a unit at most
pub few_bytes : (us new : List ℕ) (read written : ℕ) → ((k : ℕ) → get_or us k 0 < 0x1_0000) → read ≤ length us → written ≤ length new → take written new ≡ units_in_utf8 (take read us) → written ≤ 3 * read
few_bytes us new read written low within room is =
    omega (arith, length-take-le written new room, ap length is, units_size (take read us) (take_low 0x1_0000 read us (omega arith) low), length-take-le read us within)

pub few_written : (us old : List ℕ) (read : ℕ) (new : List ℕ) (written : ℕ) → ((k : ℕ) → get_or us k 0 < 0x1_0000) → IsWritten us old read new written → written ≤ 3 * read
few_written us old read new written low w = few_bytes us new read written low w.within w.room (written_units us old read new written w)
