-- Blocks of units in UTF-8.
use Rattle.std.proofs.Common.{◌≡◌, ℕ, ◌+◌, ◌*◌, ◌-◌, ◌/◌, ◌%◌, ◌<◌, ◌≤◌, List, [], ◌∷◌, ◌++◌, length, take, drop, set, get_or, inl, inr, refl, sym, ◌∙◌, ap, arith, append_assoc, length-append, length-drop, encode_utf8_all}
use Rattle.std.proofs.lemmas.Bool.{cases_lt, le-leb, lt-leb}
use Rattle.std.proofs.lemmas.Str.{encode_ascii, encodes-IsAscii, encodes-append, length-encode}
use Rattle.std.proofs.lemmas.List.{append-nil, get_or-drop, drop-drop, length-set, length-take-le, take_more_set}
use Rattle.std.proofs.Math.Seq.{drop-append-add}
use Rattle.std.proofs.lemmas.Bool.Decides.{nat_tests}
use Rattle.std.specs.Char.{encode_utf8, len_utf8}
use Rattle.std.specs.Char.Utf16.{utf16_lossy_chars}
use lib.Dec.{leb}
use mir.Val.{bool_byte}
use borrow.Rule.Slice.PartMut.{put_mid, post_of}
use Rattle.encoding_mem.specs.Conversions.{IsUnitBoundary, units_in_utf8}
use Rattle.encoding_mem.specs.calls.Writing.{Adds, len_utf16}
use Rattle.encoding_mem.specs.laws.Utf8.{encode_two, encode_three}
use Rattle.encoding_mem.proofs.AsciiLemmas.{ascii_take}
use Rattle.encoding_mem.proofs.AsciiRunLemmas.{run_units}
use Rattle.encoding_mem.proofs.DestinationLemmas.{drop_past_set, take_into}
use Rattle.encoding_mem.proofs.LongestPrefixLemmas.{behind_more}
use Rattle.encoding_mem.proofs.UnitPrefixLemmas.{first_of, reads_text}
use Rattle.encoding_mem.proofs.UnitWritingLemmas.{IsWritten, none_written, rest_length, units_written}
use Rattle.encoding_mem.proofs.Utf16Lemmas.{plain_unit}

pub put_two : (a b : ℕ) (dst : List ℕ) → 2 ≤ length dst → Adds dst 0 (a ∷ b ∷ []) (set (set dst 1 b) 0 a) 2
put_two a b [] room = absurd (omega arith)
put_two a b (x ∷ []) room = absurd (omega arith)
put_two a b (x ∷ y ∷ dst) room = record { counted = refl; within = omega arith; list = refl }

-- the start of four bytes, as long as a unit is, is its character
abbrev IsStart : ℕ → List ℕ → Type 0
IsStart u quad = take (bool_byte (leb 0x80 u) + bool_byte (leb 0x800 u) + 1) quad ≡ encode_utf8 u

pub quad_one : (u lead x y z : ℕ) → u < 0x80 → lead ≡ u → IsStart u (lead ∷ x ∷ y ∷ z ∷ [])
quad_one u lead x y z low is =
    let below : u < 0x800 = omega (arith, low) in
    rw (lt-leb 0x80 u low, lt-leb 0x800 u below, encode_ascii u low, is) refl

pub quad_two : (u lead middle y z : ℕ) → 0x80 ≤ u → u < 0x800 → lead ≡ 192 + u / 64 → middle ≡ u → IsStart u (lead ∷ (128 + middle % 64) ∷ y ∷ z ∷ [])
quad_two u lead middle y z from below is same = rw (le-leb 0x80 u from, lt-leb 0x800 u below, encode_two u from below, is, same) refl

pub quad_three : (u lead middle z : ℕ) → 0x800 ≤ u → u < 0x10000 → lead ≡ 224 + u / 4096 → middle ≡ u / 64 → IsStart u (lead ∷ (128 + middle % 64) ∷ (128 + u % 64) ∷ z ∷ [])
quad_three u lead middle z from below is next =
    let over : 0x80 ≤ u = omega (arith, from) in
    rw (le-leb 0x80 u over, le-leb 0x800 u from, encode_three u from below, is, next) refl

-- a unit that is no surrogate is its character
pub plain_at : (us : List ℕ) (i : ℕ) → i < length us → get_or us i 0 < 0xD800 → utf16_lossy_chars (drop i us) ≡ (get_or us i 0 ∷ []) ++ utf16_lossy_chars (drop (i + 1) us)
plain_at us i inside low =
    let here : get_or (drop i us) 0 0 ≡ get_or us i 0 = get_or-drop i us 0 0 ∙ ap (λ k. get_or us k 0) (omega arith) in
    plain_unit (drop i us) (omega (arith, length-drop i us)) (inl (omega (arith, here)))
    ∙ ap (λ u. u ∷ utf16_lossy_chars (drop 1 (drop i us))) here ∙ ap (λ l. get_or us i 0 ∷ utf16_lossy_chars l) (drop-drop 1 i us)

-- ASCII is its UTF-8
pub ascii_in_utf8 : (us : List ℕ) (n : ℕ) → n ≤ length us → ((k : ℕ) → k < n → get_or us k 0 < 0x80) → take n us ≡ units_in_utf8 (take n us)
ascii_in_utf8 us n within low =
    let ascii = ascii_take us n within low in
    sym (encodes-IsAscii (take n us) ascii) ∙ ap encode_utf8_all (reads_text us (take n us) n (run_units n us within ascii))

-- units have a character
pub has_character : (us : List ℕ) → 0 < length us → utf16_lossy_chars us ≡ [] → ⊥
has_character us some none =
    let first = first_of us some in
    let same : first.0 ∷ first.1 ≡ [] = sym first.2 ∙ none in
    cc

-- a character of one unit has one to three bytes, and one of two units has four
pub bytes_of_units : (c n : ℕ) → n ≡ len_utf16 c → (len_utf8 c ≤ n + 2) × (n ≤ 2) × (n ≤ len_utf8 c)
bytes_of_units c n size = grind (arith, nat_tests)

pub char_bytes : (c : ℕ) → length (encode_utf8_all (c ∷ [])) ≡ len_utf8 c
char_bytes c = length-append (encode_utf8 c) [] ∙ omega (arith, length-encode c)

-- so there is room for a character of n units and so many bytes, if three bytes a unit are left, and one more if it may
-- end after them
pub room_for_char : (len end room read written n bytes : ℕ) → read < end → read + n ≤ len → bytes ≤ n + 2 → n ≤ 2 → written ≤ 3 * read
    → 3 * end ≤ room → (end < len → 3 * end < room) → bytes ≤ room - written
room_for_char len end room read written n bytes before inside size few_units few three over = elim (cases_lt end len) [
  | inl more ↦ let one_more = over more in omega arith
  | inr whole ↦ omega arith
]

-- a run of ASCII is put
pub ascii_written : (us old : List ℕ) (n : ℕ) → n ≤ length us → n ≤ length old → ((k : ℕ) → k < n → get_or us k 0 < 0x80) → take n old ≡ take n us → IsWritten us old n old n
ascii_written us old n within room low put = record {
  within = within;
  size = refl;
  room = room;
  behind = refl;
  text = take n us;
  split = run_units n us within (ascii_take us n within low);
  bytes = put ∙ sym (encodes-IsAscii (take n us) (ascii_take us n within low));
}

-- an ASCII unit more
pub one_written : (us old : List ℕ) (read : ℕ) (new : List ℕ) (written : ℕ) → IsWritten us old read new written → read < length us → get_or us read 0 < 0x80 → written < length new
    → IsWritten us old (read + 1) (set new written (get_or us read 0)) (written + 1)
one_written us old read new written w inside low fits =
    let u = get_or us read 0 in
    record {
      within = omega arith;
      size = length-set new written u ∙ w.size;
      room = omega (arith, length-set new written u);
      behind = drop_past_set new written u ∙ sym (drop-drop 1 written new) ∙ ap (drop 1) w.behind ∙ drop-drop 1 written old;
      text = w.text ++ (u ∷ []);
      split = w.split ∙ ap (λ l. w.text ++ l) (plain_at us read inside (omega arith)) ∙ sym (append_assoc w.text (u ∷ []) _);
      bytes = take_more_set new written u fits ∙ ap (λ l. l ++ (u ∷ [])) w.bytes ∙ ap (λ l. encode_utf8_all w.text ++ l) (sym (ap (λ l. l ++ []) (encode_ascii u low))) ∙ sym (encodes-append w.text (u ∷ []));
    }

-- Four bytes for each unit, of which the next ones are written over what it has not.

-- four bytes begin with a unit's character, and the last is its length
abbrev pub IsQuad : ℕ → List ℕ → Type 0
IsQuad u quad = (length quad ≡ 4) × (get_or quad 3 0 ≡ len_utf8 u) × (take (get_or quad 3 0) quad ≡ encode_utf8 u)

-- so many units are put, and what stands three bytes after them, or more, is as it was
pub record IsPutOver (us old : List ℕ) (read : ℕ) (new : List ℕ) (written : ℕ) : Type 0 where
  pub so_far : IsWritten us new read new written
  pub same : length new ≡ length old
  pub far : drop (written + 3) new ≡ drop (written + 3) old

pub none_over : (us old : List ℕ) → IsPutOver us old 0 old 0
none_over us old = record { so_far = none_written us old; same = refl; far = refl }

quad_length : (u : ℕ) (quad : List ℕ) → IsQuad u quad → (1 ≤ get_or quad 3 0) × (get_or quad 3 0 ≤ 4)
quad_length u quad q = rw (q.1) (grind (arith, nat_tests))

pub quad_few : (u : ℕ) (quad : List ℕ) → IsQuad u quad → u < 0x10000 → get_or quad 3 0 ≤ 3
quad_few u quad q low = rw (q.1) (grind (arith, nat_tests))

length_mid : (a k : ℕ) (xs ys : List ℕ) → a + k ≤ length xs → length ys ≡ k → length (put_mid a k xs ys) ≡ length xs
length_mid a k xs ys room size =
    omega (arith, length-append (take a xs) (ys ++ post_of a k xs), length-append ys (post_of a k xs), length-take-le a xs (omega arith), length-drop k (drop a xs), length-drop a xs)

-- what stands after what was put into the middle
past_mid : (a k n : ℕ) (xs ys : List ℕ) → a ≤ length xs → length ys ≡ k → k ≤ n → drop (a + n) (put_mid a k xs ys) ≡ drop (a + n) xs
past_mid a k n xs ys within size past =
    let rest : n ≡ length ys + (n - k) = omega arith in
    let all : k + (n - k) ≡ n = omega arith in
    ap (λ m. drop (m + n) (put_mid a k xs ys)) (sym (length-take-le a xs within)) ∙ drop-append-add (take a xs) (ys ++ post_of a k xs) n
    ∙ ap (λ m. drop m (ys ++ post_of a k xs)) rest ∙ drop-append-add ys (post_of a k xs) (n - k)
    ∙ drop-drop (n - k) k (drop a xs) ∙ ap (λ m. drop m (drop a xs)) all ∙ drop-drop n a xs

pub quad_put : (us old : List ℕ) (read : ℕ) (new : List ℕ) (written : ℕ) (quad : List ℕ) → IsPutOver us old read new written → read < length us → get_or us read 0 < 0xD800
    → IsQuad (get_or us read 0) quad → written + 4 ≤ length new → IsPutOver us old (read + 1) (put_mid written 4 new quad) (written + get_or quad 3 0)
quad_put us old read new written quad w inside low q room =
    let u = get_or us read 0 in
    let n = get_or quad 3 0 in
    let s = w.so_far in
    let len = quad_length u quad q in
    let same = length_mid written 4 new quad room q.0 in
    let next : written + n + 3 ≡ written + (n + 3) = omega arith in
    let more : written + (n + 3) ≡ written + 3 + n = omega arith in
    record {
      so_far = record {
        within = omega arith;
        size = refl;
        room = omega (arith, same, len.1, room);
        behind = refl;
        text = s.text ++ (u ∷ []);
        split = s.split ∙ ap (λ l. s.text ++ l) (plain_at us read inside low) ∙ sym (append_assoc s.text (u ∷ []) _);
        bytes = take_into written 4 n new quad s.room (omega (arith, len.1, q.0)) ∙ ap (λ l. l ++ take n quad) s.bytes
            ∙ ap (λ l. encode_utf8_all s.text ++ l) (q.2 ∙ sym (append-nil (encode_utf8 u))) ∙ sym (encodes-append s.text (u ∷ []));
      };
      same = same ∙ w.same;
      far = ap (λ m. drop m (put_mid written 4 new quad)) next ∙ past_mid written 4 (n + 3) new quad s.room q.0 (omega (arith, len.0))
          ∙ ap (λ m. drop m new) more ∙ behind_more (written + 3) n new new old refl w.far ∙ ap (λ m. drop m old) (sym more ∙ sym next);
    }

-- if the last three units are put by themselves, all are put, and nothing after them changes
pub last_put : (us old : List ℕ) (read : ℕ) (new : List ℕ) (written : ℕ) (ys : List ℕ) (k : ℕ) → IsPutOver us old read new written → read + 3 ≤ length us
    → IsUnitBoundary (take (length us - read) (drop read us)) 3 → length ys ≡ length (take (length new - written) (drop written new)) → k ≤ length ys → 3 ≤ k
    → take k ys ≡ units_in_utf8 (take 3 (take (length us - read) (drop read us))) → drop k ys ≡ drop k (take (length new - written) (drop written new))
    → IsWritten us old (read + 3) (put_mid written (length new - written) new ys) (written + k)
last_put us old read new written ys k w inside boundary size fits many wrote behind =
    let m = units_written us new read new written ys 3 k w.so_far (omega (arith, rest_length us read, inside)) boundary size fits wrote behind in
    let past : written + k ≡ written + 3 + (k - 3) = omega arith in
    record {
      within = m.within;
      size = m.size ∙ w.same;
      room = m.room;
      behind = m.behind ∙ ap (λ i. drop i new) past ∙ behind_more (written + 3) (k - 3) new new old refl w.far ∙ ap (λ i. drop i old) (sym past);
      text = m.text;
      split = m.split;
      bytes = m.bytes;
    }
