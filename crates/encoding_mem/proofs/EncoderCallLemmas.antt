-- The steps of the encoding driver, over texts. A step of a source over one character. What was written for what
-- was read, and what is next.
use Rattle.std.proofs.Common.{◌≡◌, ◌≢◌, ℕ, suc, ◌+◌, ◌-◌, ◌<◌, inl, inr, List, [], ◌∷◌, ◌++◌, length, sym, ◌∙◌, ap, subst, refl, arith, Bool, true, false, append_assoc, take, drop, ◌≤◌, ◌*◌, lit<}
use Rattle.std.proofs.lemmas.List.{append-nil, drop-drop, length-append}
use borrow.Rule.Slice.PartMut.{put_mid}
use Rattle.encoding_mem.proofs.LongestPrefixLemmas.{length_put}
use Rattle.encoding_mem.specs.Coding.{Coding, IsCoding, last_set, mapped_bytes, bytes_from, AllMapped, IsMapped}
use Rattle.encoding_mem.specs.laws.EncoderCalls.{all_mapped-append, bytes_from-append, last_set-append}
use Rattle.encoding_mem.specs.calls.EncoderCalls.{EncodeEndsWith, Encodes}
use Rattle.std.specs.Str.{IsAscii, IsCharBoundary, encode_utf8_all}
use Rattle.encoding_mem.specs.calls.EncoderRule.{CopiesAscii, CopiesUtf8, EncoderCall, EncoderParts, IsCopied, IsRun, Tight, WritesBytes}
use Rattle.encoding_mem.proofs.DestinationLemmas.{drop_into, length_into, take_into}
use Rattle.encoding_mem.specs.declared.codec.form.Form.TheVariants.{Mapped, Unmapped}
use Rattle.encoding_mem.specs.declared.codec.encoder_result.EncoderResult.{EncoderResult as Outcome}
use Rattle.encoding_mem.specs.declared.codec.encoder_result.EncoderResult.TheVariants as EncoderResult
use Rattle.encoding_mem.specs.declared.codec.form.EscapeState.{EscapeState}
use Rattle.encoding_mem.specs.declared.codec.form.EscapeState.TheVariants.{Ascii}
use Rattle.std.specs.Char.{encode_utf8, len_utf8}
use Rattle.std.proofs.lemmas.Str.{drop_past_char, length-encode, IsCharBoundary-from_rest}
use native.Mathlib.Nat.{mul-add, mul_comm}
use Rattle.encoding_mem.specs.calls.DecodedLength.{cost_in}
use Rattle.encoding_mem.specs.calls.EncodedLength.{IsBoundFor, bound_for, encoded_length_utf8}
use Rattle.encoding_mem.specs.declared.codec.room.Bound.{Bound}
use Rattle.std.proofs.Math.Nat.{mul-le-mul_left}

-- Of the text t from s the bytes w are written, from s' on the rest is left; what was read has no unmappable.
pub record Steps (e : Coding) (s : EscapeState) (t w : List ℕ) (s' : EscapeState) (rest : List ℕ) : Type 0 where
  pub prefix : List ℕ
  pub split : t ≡ prefix ++ rest
  pub mapped : AllMapped e prefix
  pub opens : w ≡ bytes_from e s prefix
  pub set : s' ≡ last_set e s prefix

pub start : (e : Coding) (s : EscapeState) (t : List ℕ) → Steps e s t [] s t
start e s t = record { prefix = []; split = refl; mapped = tt; opens = refl; set = refl }

-- A part further, each of whose scalars has bytes.
further : (e : Coding) (s : EscapeState) (t w : List ℕ) (s1 : EscapeState) (part rest : List ℕ) → AllMapped e part
    → Steps e s t w s1 (part ++ rest) → Steps e s t (w ++ bytes_from e s1 part) (last_set e s1 part) rest
further e s t w s1 part rest m p = record {
  prefix = p.prefix ++ part;
  split = p.split ∙ sym (append_assoc p.prefix part rest);
  mapped = all_mapped-append e p.prefix part p.mapped m;
  opens = rw (bytes_from-append e s p.prefix part, ← p.opens, ← p.set) refl;
  set = rw (last_set-append e s p.prefix part, ← p.set) refl;
}

-- Of a turn of the loop, which writes the escape and then the bytes.
pub turned : (e : Coding) (s : EscapeState) (t w : List ℕ) (s1 : EscapeState) (c d : ℕ) (here more rest w1 w2 bs : List ℕ)
    → Steps e s t w s1 here → here ≡ c ∷ more → here ≡ d ∷ rest → w1 ≡ w ++ e.escape s1 (e.set s1 c)
    → w2 ≡ w1 ++ bs → e.form c ≡ Mapped bs → Steps e s t w2 (e.set s1 c) rest
turned e s t w s1 c d here more rest w1 w2 bs p at next one two is =
    let same : d ∷ rest ≡ c ∷ more = sym next ∙ at in
    let same_rest : more ≡ rest = cc in
    let q = subst (Steps e s t w s1) (at ∙ ap (λ l. c ∷ l) same_rest) p in
    let wrote : w2 ≡ w ++ bytes_from e s1 (c ∷ []) = rw (two, one, is, append-nil bs) (append_assoc w (e.escape s1 (e.set s1 c)) bs) in
    subst (λ l. Steps e s t l (e.set s1 c) rest) (sym wrote) (further e s t w s1 (c ∷ []) rest (subst IsMapped (sym is) tt, tt) q)

-- Of a turn that copies a run of ASCII, and of text that is copied in UTF-8.
ascii_run : (e : Coding) (s : EscapeState) (run : List ℕ) → ((q : EscapeState) → e.escape q q ≡ []) → CopiesAscii e s → IsAscii run
    → AllMapped e run × (bytes_from e s run ≡ run) × (last_set e s run ≡ s)
ascii_run e s [] same plain low = (tt, refl, refl)
ascii_run e s (c ∷ run) same plain low =
    let one = plain c (low 0) in
    let more = ascii_run e s run same plain (λ i. low (suc i)) in
    ((subst IsMapped (sym one.1) tt, more.0), rw (one.0, same s, one.1, more.1) refl, rw one.0 more.2)

pub copied_run : {need : ℕ} (e : Coding) (s : EscapeState) (t w w2 : List ℕ) (s1 : EscapeState) (here rest : List ℕ) → IsCoding need e → CopiesAscii e s1
    → Steps e s t w s1 here → IsRun here rest w w2 → Steps e s t w2 s1 rest
copied_run e s t w w2 s1 here rest k plain p r =
    let run = ascii_run e s1 r.run k.same plain r.ascii in
    let all = further e s t w s1 r.run rest run.0 (subst (Steps e s t w s1) r.taken p) in
    subst (λ l. Steps e s t l s1 rest) (sym r.put) (rw (run.1, run.2) at all)

utf8_text : (e : Coding) (s : EscapeState) (part : List ℕ) → ((q : EscapeState) → e.escape q q ≡ []) → CopiesUtf8 e s
    → AllMapped e part × (bytes_from e s part ≡ encode_utf8_all part) × (last_set e s part ≡ s)
utf8_text e s [] same plain = (tt, refl, refl)
utf8_text e s (c ∷ part) same plain =
    let one = plain c in
    let more = utf8_text e s part same plain in
    ((subst IsMapped (sym one.1) tt, more.0), rw (one.0, same s, one.1, more.1) refl, rw one.0 more.2)

-- What a call leaves: before an escape that does not fit, after one, at the end, after the last escape, and at an
-- unmappable.
pub full : {need : ℕ} (e : Coding) (last : Bool) (s : EscapeState) (t w : List ℕ) (s1 : EscapeState) (rest : List ℕ) → IsCoding need e
    → Steps e s t w s1 rest → Encodes e last EncoderResult.OutputFull s t w s1 rest
full e last s t w s1 rest k p = record {
  before = p.prefix;
  next = rest;
  split = p.split;
  mapped = p.mapped;
  bytes = rw (← p.set, k.same s1, append-nil (bytes_from e s p.prefix)) p.opens;
  leaves = (refl, inl p.set);
}

pub escaped : (e : Coding) (last : Bool) (s : EscapeState) (t w : List ℕ) (s1 : EscapeState) (c : ℕ) (here more w1 : List ℕ)
    → Steps e s t w s1 here → here ≡ c ∷ more → w1 ≡ w ++ e.escape s1 (e.set s1 c) → Encodes e last EncoderResult.OutputFull s t w1 (e.set s1 c) here
escaped e last s t w s1 c here more w1 p at one = record {
  before = p.prefix;
  next = here;
  split = p.split;
  mapped = p.mapped;
  bytes = rw (← p.opens, ← p.set) one;
  leaves = (refl, inr (rw (at, ← p.set) refl));
}

pub finished : {need : ℕ} (e : Coding) (last : Bool) (s : EscapeState) (t w : List ℕ) (s1 : EscapeState) (rest : List ℕ) → IsCoding need e → last ≡ false
    → Steps e s t w s1 rest → rest ≡ [] → Encodes e last EncoderResult.InputEmpty s t w s1 rest
finished e true s t w s1 rest k h p empty = cc
finished e false s t w s1 rest k h p empty = record {
  before = p.prefix;
  next = rest;
  split = p.split;
  mapped = p.mapped;
  bytes = rw (← p.set, k.same s1, append-nil (bytes_from e s p.prefix)) p.opens;
  leaves = (empty, empty, p.set);
}

-- What is said of the last call is said of no other.
pub not_last : (last : Bool) (s q : EscapeState) → last ≡ false → last ≡ true → s ≡ q
not_last true s q h k = cc
not_last false s q h k = cc

pub ended : (e : Coding) (last : Bool) (s : EscapeState) (t w : List ℕ) (s1 : EscapeState) (rest w1 : List ℕ) → last ≡ true
    → Steps e s t w s1 rest → rest ≡ [] → w1 ≡ w ++ e.escape s1 Ascii → Encodes e last EncoderResult.InputEmpty s t w1 Ascii rest
ended e false s t w s1 rest w1 h p empty one = cc
ended e true s t w s1 rest w1 h p empty one = record {
  before = p.prefix;
  next = rest;
  split = p.split;
  mapped = p.mapped;
  bytes = rw (← p.opens, ← p.set) one;
  leaves = (empty, empty, refl);
}

pub unmapped : (e : Coding) (last : Bool) (s : EscapeState) (t w : List ℕ) (s1 : EscapeState) (c d m : ℕ) (here more rest w1 : List ℕ)
    → Steps e s t w s1 here → here ≡ c ∷ more → here ≡ d ∷ rest → w1 ≡ w ++ e.escape s1 (e.set s1 c)
    → e.form c ≡ Unmapped m → Encodes e last (EncoderResult.Unmappable m) s t w1 (e.set s1 c) rest
unmapped e last s t w s1 c d m here more rest w1 p at next one is =
    let same : d ∷ rest ≡ c ∷ more = sym next ∙ at in
    let same_rest : more ≡ rest = cc in
    record {
      before = p.prefix;
      next = here;
      split = p.split;
      mapped = p.mapped;
      bytes = rw (← p.opens, ← p.set) one;
      leaves = (c, at ∙ ap (λ l. c ∷ l) same_rest, is, rw (← p.set) refl);
    }

-- A call after text that was copied.
pub copied_first : {need : ℕ} (e : Coding) (last : Bool) (outcome : Outcome) (s : EscapeState) (t w rest w2 : List ℕ) (s' : EscapeState) (rest' : List ℕ)
    → IsCoding need e → CopiesUtf8 e s → IsCopied t w rest → Encodes e last outcome s rest w2 s' rest' → Encodes e last outcome s t (w ++ w2) s' rest'
copied_first e last outcome s t w rest w2 s' rest' k plain r p =
    let part = utf8_text e s r.prefix k.same plain in
    let set : last_set e s (r.prefix ++ p.before) ≡ last_set e s p.before = rw (last_set-append e s r.prefix p.before, part.2) refl in
    record {
      before = r.prefix ++ p.before;
      next = p.next;
      split = r.taken ∙ ap (λ l. r.prefix ++ l) p.split ∙ sym (append_assoc r.prefix p.before p.next);
      mapped = all_mapped-append e r.prefix p.before part.0 p.mapped;
      bytes = rw (r.put, p.bytes, bytes_from-append e s r.prefix p.before, part.1, part.2, set) (sym (append_assoc (encode_utf8_all r.prefix) _ _));
      leaves = rw set p.leaves;
    }

pub behind_put : (old mid new : List ℕ) (a n b : ℕ) → b ≡ a + n → drop a mid ≡ drop a old → drop b new ≡ drop b mid → drop b new ≡ drop b old
behind_put old mid new a n b end before now = now ∙ rw (end, ← drop-drop, before, drop-drop) refl

-- A whole call after such text, into what is left of the room.
pub after_copy : (x x' : EncoderParts) (last : Bool) (outcome : Outcome) (t middle rest after mid ys : List ℕ) (a n : ℕ) → IsCoding x.need x.coding → CopiesUtf8 x.coding x.set
    → a ≤ length mid → n ≤ length ys → length ys ≡ length mid - a → IsCopied t (take a mid) middle → after ≡ rest
    → EncoderCall x x' last outcome middle (take n ys) after (length ys - n)
    → EncoderCall x x' last outcome t (take (a + n) (put_mid a (length mid - a) mid ys)) rest (length (put_mid a (length mid - a) mid ys) - (a + n))
after_copy x x' last outcome t middle rest after mid ys a n k plain fits room left_over copied same p =
    let now = put_mid a (length mid - a) mid ys in
    let free : length ys - n ≡ length now - (a + n) = omega (arith, length_put a (length mid - a) mid ys fits refl left_over, left_over) in
    record {
      same = p.same;
      law = rw (take_into a (length mid - a) n mid ys fits room) (copied_first x.coding last outcome x.set t (take a mid) middle (take n ys) x'.set rest k plain copied (rw same at p.law));
      ends = subst (λ (free : ℕ). EncodeEndsWith x.need last outcome x'.set rest free) free (rw same at p.ends);
      tight = subst (λ (free : ℕ). Tight x.coding outcome x'.set rest free) free (rw same at p.tight);
    }

pub wrote_after : (old mid ys : List ℕ) (a n : ℕ) → a ≤ length mid → drop a mid ≡ drop a old
    → WritesBytes (take (length mid - a) (drop a mid)) ys n → WritesBytes old (put_mid a (length mid - a) mid ys) (a + n)
wrote_after old mid ys a n fits before w = record {
  room = length_into a (length mid - a) n mid ys fits w.room;
  behind = behind_put old mid (put_mid a (length mid - a) mid ys) a n (a + n) refl before (drop_into a (length mid - a) n mid ys fits refl w.room w.behind);
}

cost_zero : (t : Bool) → cost_in t 0 ≡ 1
cost_zero true = refl
cost_zero false = refl

pub le_times : (f n : ℕ) → 1 ≤ f → n ≤ f * n
le_times f n some = let less : n * 1 ≤ n * f = mul-le-mul_left n some in let turn : n * f ≡ f * n = mul_comm n f in omega (arith, less, turn)

-- if ASCII is copied, a byte is written for each character
pub ascii_costs : {need : ℕ} (e : Coding) (t : Bool) (l : Bound) (s : EscapeState) → IsCoding need e → IsBoundFor e t l → CopiesAscii e s → 1 ≤ l.factor
ascii_costs e t l s laws fits copies =
    let here = copies 0 (lit< tt) in
    let one : length (mapped_bytes (e.form 0)) ≡ 1 = ap (λ f. length (mapped_bytes f)) here.1 in
    let each = fits.each s 0 in
    let cost : cost_in t 0 ≡ 1 = cost_zero t in
    let paid : 1 ≤ l.factor * cost_in t 0 = omega (arith, each, one) in
    let times : l.factor * cost_in t 0 ≡ l.factor * 1 = ap (λ n. l.factor * n) cost in
    omega (arith, paid, times)

-- What is enough for a text is enough for what is left of it after a copy. what is left asks for no more room than
-- there is after what was copied, at most `u` bytes for a byte or unit
pub less_asked : (f u extra from offset size copied room : ℕ) → u ≤ f → from ≤ offset → offset ≤ size → copied ≤ u * (offset - from) → copied ≤ room
    → f * (size - from) + extra ≤ room → f * (size - offset) + extra ≤ room - copied
less_asked f u extra from offset size copied room some after within few fits enough =
    let n : ℕ = offset - from in
    let sum : size - from ≡ (size - offset) + n = omega (arith, after, within) in
    let parts : f * (size - from) ≡ f * (size - offset) + f * n = rw sum (mul-add f (size - offset) n) in
    let most : n * u ≤ n * f = mul-le-mul_left n some in
    omega (arith, enough, parts, most, mul_comm n u, mul_comm n f, few, fits)

-- a target that writes a character as its UTF-8 has room for that
utf8_cost : (e : Coding) (t : Bool) (l : Bound) (s : EscapeState) (c : ℕ) → IsBoundFor e t l → CopiesUtf8 e s → len_utf8 c ≤ l.factor * cost_in t c
utf8_cost e t l s c fits copies = omega (arith, fits.each s c, ap length (ap mapped_bytes (copies c).1), length-encode c)

-- if characters are copied in UTF-8, there is room for UTF-8
pub utf8_costs : (e : Coding) (t : Bool) (l : Bound) (s : EscapeState) → IsBoundFor e t l → CopiesUtf8 e s → (bound_for encoded_length_utf8 t).factor ≤ l.factor
utf8_costs e true l s fits copies = let most : 3 ≤ l.factor * 1 = utf8_cost e true l s 0xFFFF fits copies in omega (arith, most)
utf8_costs e false l s fits copies = let most : 1 ≤ l.factor * 1 = utf8_cost e false l s 0 fits copies in omega (arith, most)

-- What put wrote, by what the calls before it returned.
pub escape_is : (e : Coding) (w w1 slice escape : List ℕ) (s1 n : EscapeState) (c : ℕ) → w1 ≡ w ++ slice → slice ≡ escape → escape ≡ e.escape s1 n → n ≡ e.set s1 c
    → w1 ≡ w ++ e.escape s1 (e.set s1 c)
escape_is e w w1 slice escape s1 n c a b d h = a ∙ ap (λ l. w ++ l) (b ∙ d ∙ ap (λ q. e.escape s1 q) h)

-- If an escape, or the bytes of a character, do not fit, less than need is free.
pub escape_over : (need : ℕ) (e : Coding) (s q : EscapeState) (slice escape : List ℕ) (room : ℕ) → IsCoding need e
    → slice ≡ escape → escape ≡ e.escape s q → room < length slice → room < need
escape_over need e s q slice escape room k a b over =
    let n = k.escape_short s q in
    let l : length slice ≡ length (e.escape s q) = ap length (a ∙ b) in omega arith

pub form_over : (need : ℕ) (e : Coding) (c : ℕ) (slice bs : List ℕ) (room : ℕ) → IsCoding need e
    → slice ≡ bs → e.form c ≡ Mapped bs → room < length slice → room < need
form_over need e c slice bs room k a is over =
    let n = (k.short c).short in
    let m : length slice ≡ length (mapped_bytes (e.form c)) = rw is (ap length a) in omega arith

pub some_left : (t more : List ℕ) (c : ℕ) → t ≡ c ∷ more → 0 < length t
some_left t more c at = rw at (omega arith)

-- The escape to the set of the next character does not fit, or that to ASCII at the end.
pub tight_escape : (e : Coding) (s n : EscapeState) (c : ℕ) (t more slice escape : List ℕ) (room : ℕ) → t ≡ c ∷ more
    → slice ≡ escape → escape ≡ e.escape s n → n ≡ e.set s c → room < length slice → Tight e EncoderResult.OutputFull s t room
tight_escape e s n c t more slice escape room at a b is over =
    let m : length slice ≡ length (e.escape s (e.set s c)) = ap length (a ∙ b ∙ ap (e.escape s) is) in
    let enough : room < length (e.escape s (e.set s c)) = omega arith in
    rw at (inl enough)

pub tight_end : (e : Coding) (s : EscapeState) (t slice escape : List ℕ) (room : ℕ) → t ≡ []
    → slice ≡ escape → escape ≡ e.escape s Ascii → room < length slice → Tight e EncoderResult.OutputFull s t room
tight_end e s t slice escape room at a b over =
    let m : length slice ≡ length (e.escape s Ascii) = ap length (a ∙ b) in
    rw at (omega arith)

-- In the set of the next character its bytes do not fit.
pub tight_form : (need : ℕ) (e : Coding) (s1 s2 : EscapeState) (c : ℕ) (t more slice bs : List ℕ) (room : ℕ) → IsCoding need e
    → t ≡ c ∷ more → s2 ≡ e.set s1 c → slice ≡ bs → e.form c ≡ Mapped bs → room < length slice
    → Tight e EncoderResult.OutputFull s2 t room
tight_form need e s1 s2 c t more slice bs room k at here a is over =
    let m : length slice ≡ length (mapped_bytes (e.form c)) = rw is (ap length a) in
    let enough : room < length (mapped_bytes (e.form c)) = omega arith in
    rw at (inr (rw here (k.stays s1 c), enough))

-- An escape to ASCII that has bytes is from another set.
pub not_ascii : (need : ℕ) (e : Coding) (s : EscapeState) (slice escape : List ℕ) (room : ℕ) → IsCoding need e
    → slice ≡ escape → escape ≡ e.escape s Ascii → room < length slice → s ≢ Ascii
not_ascii need e s slice escape room k a b over ascii =
    let l : length slice ≡ length (e.escape s Ascii) = ap length (a ∙ b) in
    let none : length (e.escape s Ascii) ≡ 0 = rw ascii (ap length (k.same Ascii)) in
    absurd (omega arith)

-- A step of a source over one character.

pub char_len : (here more : List ℕ) (c : ℕ) → here ≡ encode_utf8 c ++ more → length here - length more ≡ len_utf8 c
char_len here more c is = omega (arith, ap length is, length-append (encode_utf8 c) more, length-encode c)

pub past_char : (text rest more : List ℕ) (i c n : ℕ) → rest ≡ drop i text → rest ≡ encode_utf8 c ++ more → n ≡ len_utf8 c → more ≡ drop (i + n) text
past_char text rest more i c n at is len = sym (ap (λ k. drop (i + k) text) len ∙ drop_past_char text more i c (sym at ∙ is))

pub first_boundary : (text here more : List ℕ) (i c : ℕ) → here ≡ drop i text → here ≡ encode_utf8 c ++ more → IsCharBoundary here (len_utf8 c) → IsCharBoundary (drop i text) (length here - length more)
first_boundary text here more i c at is b = subst (λ r. IsCharBoundary r (length here - length more)) at (subst (λ k. IsCharBoundary here k) (sym (char_len here more c is)) b)

pub boundary_past : (text rest : List ℕ) (i c n : ℕ) → i ≤ length text → rest ≡ drop i text → n ≡ len_utf8 c → IsCharBoundary rest (len_utf8 c) → IsCharBoundary text (i + n)
boundary_past text rest i c n within at len b = subst (λ k. IsCharBoundary text (i + k)) (sym len) (IsCharBoundary-from_rest text i (len_utf8 c) within (subst (λ r. IsCharBoundary r (len_utf8 c)) at b))

-- What was written for what was read, and what is next.

-- more bytes are written, for n more of the source
pub spent_more : (f from offset n written more : ℕ) → from ≤ offset → written ≤ f * (offset - from) → more ≤ f * n → written + more ≤ f * ((offset + n) - from)
spent_more f from offset n written more after spent h =
    let sum : (offset + n) - from ≡ (offset - from) + n = omega (arith, after) in
    rw sum (omega (arith, mul-add f (offset - from) n, spent, h))

-- they fit, if the room is enough for all
pub fits_all : (f extra from offset size written more room : ℕ) → from ≤ offset → offset ≤ size → f * (size - from) + extra ≤ room → written ≤ f * (offset - from) → more ≤ extra → written + more ≤ room
fits_all f extra from offset size written more room after within enough spent h =
    let less : f * (offset - from) ≤ f * (size - from) = mul-le-mul_left f (omega (arith, after, within)) in
    omega (arith, less, enough, spent, h)

pub first_same : {c d : ℕ} {x y : List ℕ} → c ∷ x ≡ d ∷ y → c ≡ d
first_same e = cc
