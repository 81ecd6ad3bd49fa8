-- What a look at the start of bytes shows of their first piece in ISO-2022-JP. Runs of ASCII in ISO-2022-JP, and
-- the mode in which they are read.
use Rattle.std.proofs.Common.{◌≡◌, ◌≢◌, ℕ, ◌-◌, slice_index, ◌+◌, ◌≤◌, ◌<◌, ◌==◌, ◌&&◌, ◌||◌, Bool, true, false, cond, IsTrue, List, [], ◌∷◌, ◌++◌, length, drop, refl, sym, ◌∙◌, ap, arith, lit≤, inl, inr, Option, Some, None, zero, suc, take, lit<, nat_le}
use Rattle.std.specs.Prelude.{is_some, not}
use Rattle.std.specs.Option.{unwrap_or}
use Rattle.std.proofs.lemmas.Bool.{eqb-true, ne_eqb, and_parts, or_cases, or_parts}
use Rattle.std.proofs.lemmas.List.{append-nil, take_all}
use Rattle.encoding_mem.specs.Piece.{Piece, well_formed, malformed, piece_len}
use Rattle.encoding_mem.specs.calls.DecoderRule.{TellsFirstPiece, IsModest}
use Rattle.encoding_mem.specs.Pieces.{pieces_in}
use Rattle.encoding_mem.specs.laws.Shows.{Shows, Awaits, SettlesMode, shows_first_piece_in, broken_then_well_formed, well_formed_then_broken}
use Rattle.encoding_mem.specs.declared.codec.first_piece.FirstPiece.{FirstPiece}
use Rattle.encoding_mem.specs.declared.codec.first_piece.FirstPiece.TheVariants.{More}
use Rattle.encoding_tables.specs.Lookups.{AreEntries}
use Rattle.encoding_codecs.specs.Iso2022Jp.{escape_at, escape_of, pieces_in_mode, ascii_piece, IsNeutral}
use Rattle.encoding_codecs.specs.laws.Iso2022JpDecide.{escape_first_piece, char_first_piece, first_piece_iso_2022_jp, mode_after, may_be_escape, is_jis_lead, is_open, shown, decide_iso_2022_jp}
use Rattle.encoding_codecs.specs.laws.Iso2022Jp.{IsSmall, small_prefix, cuts_iso_2022_jp, agrees, no_escape_at}
use Rattle.encoding_codecs.specs.declared.iso_2022_jp_decoder.Mode.{Mode}
use Rattle.encoding_codecs.specs.declared.iso_2022_jp_decoder.Mode.TheVariants.{Ascii, Roman, Katakana, Jis}
use Rattle.std.specs.Char.{len_utf8}
use Rattle.std.specs.Str.{chars, IsAscii}
use Rattle.std.proofs.lemmas.Bool.Decides.{nat_tests}
use Rattle.std.proofs.lemmas.Str.{chars-IsAscii, len_utf8_ascii}
use Rattle.encoding_mem.specs.calls.Decoding.{DecoderState}
use Rattle.encoding_mem.specs.Iso2022JpAscii.{IsIso2022JpAscii, IsIso2022JpAsciiByte}
use Rattle.encoding_mem.specs.laws.Pieces.{pieces_in-cons}
use Rattle.encoding_mem.specs.calls.DecodedLength.{is_units, decoded_length, decoded_length_multibyte}
use Rattle.encoding_mem.specs.calls.TextRun.{text_pieces, text_len}
use Rattle.encoding_mem.specs.declared.codec.room.OutputUnit.{OutputUnit}
use Rattle.encoding_mem.specs.declared.codec.room.OutputUnit.TheVariants.{Units, Bytes, Replaced}
use Rattle.encoding_mem.specs.Decided.{AreBytes}

-- ---- escapes

-- what can't become an escape stays what it is, and so does a whole escape
no_escape : (p q s : Bool) (X Y : Option Mode) → (p && (q || s)) ≡ false → cond p (cond q X (cond s Y None)) None ≡ None
no_escape false q s X Y e = refl
no_escape true true s X Y e = cc
no_escape true false true X Y e = cc
no_escape true false false X Y e = refl

escape_fixed : (x r : List ℕ) → may_be_escape x ≡ false → escape_at (x ++ r) ≡ escape_at x
escape_fixed [] r e = cc
escape_fixed (a ∷ []) [] e = refl
escape_fixed (a ∷ []) (b ∷ []) e = refl
escape_fixed (a ∷ []) (b ∷ c ∷ r) e = rw e refl
escape_fixed (a ∷ b ∷ []) [] e = refl
escape_fixed (a ∷ b ∷ []) (c ∷ r) e = no_escape (a == 0x1B) (b == 0x28) (b == 0x24) _ _ e
escape_fixed (a ∷ b ∷ c ∷ x) r e = refl

-- what may become an escape does, with the right bytes
record Completes (x : List ℕ) : Type 0 where
  more : List ℕ
  bytes : AreBytes more
  few : length more ≤ 3
  whole : is_some (escape_at (x ++ more)) ≡ true
  short : length x < 3
  none : is_some (escape_at x) ≡ false

an_escape : (p q s : Bool) → (p && (q || s)) ≡ true → is_some (cond p (cond q (Some Ascii) (cond s (Some Jis) None)) None) ≡ true
an_escape false q s e = cc
an_escape true true s e = refl
an_escape true false true e = refl
an_escape true false false e = cc

completes : (x : List ℕ) → may_be_escape x ≡ true → Completes x
completes [] e = record { more = 0x1B ∷ 0x28 ∷ 0x42 ∷ []; bytes = (omega arith, (omega arith, (omega arith, tt))); few = omega arith; whole = refl; short = omega arith; none = refl }
completes (a ∷ []) e = record { more = 0x28 ∷ 0x42 ∷ []; bytes = (omega arith, (omega arith, tt)); few = omega arith; whole = rw e refl; short = omega arith; none = refl }
completes (a ∷ b ∷ []) e = record { more = 0x42 ∷ []; bytes = (omega arith, tt); few = omega arith; whole = an_escape (a == 0x1B) (b == 0x28) (b == 0x24) e; short = omega arith; none = refl }
completes (a ∷ b ∷ c ∷ x) e = absurd (clash e)
  where
    clash : false ≡ true → ⊥
    clash h = cc

-- ---- bytes whose first piece is decided

fixed_char : (jis0208 : List ℕ) (m : Mode) (b : ℕ) (x r : List ℕ) → is_jis_lead m (b ∷ x) ≡ false → char_first_piece jis0208 m b (x ++ r) ≡ char_first_piece jis0208 m b x
fixed_char jis0208 Ascii b x r e = refl
fixed_char jis0208 Roman b x r e = refl
fixed_char jis0208 Katakana b x r e = refl
fixed_char jis0208 Jis b [] r e = rw e refl
fixed_char jis0208 Jis b (c ∷ x) r e = refl

fixed_escape : (x r : List ℕ) → is_some (escape_at x) ≡ true → may_be_escape (drop 3 x) ≡ false → escape_first_piece (drop 3 (x ++ r)) ≡ escape_first_piece (drop 3 x)
fixed_escape [] r e f = cc
fixed_escape (a ∷ []) r e f = cc
fixed_escape (a ∷ b ∷ []) r e f = cc
fixed_escape (a ∷ b ∷ c ∷ x) r e f = ap (λ o. cond (is_some o) (malformed 3) (well_formed 3 [])) (escape_fixed x r f)

fixed_by : (jis0208 : List ℕ) (m : Mode) (b : ℕ) (x r : List ℕ) (t : Bool) → is_some (escape_at (b ∷ x)) ≡ t → may_be_escape (b ∷ x) ≡ false
    → cond t (may_be_escape (drop 3 (b ∷ x))) (is_jis_lead m (b ∷ x)) ≡ false
    → first_piece_iso_2022_jp jis0208 m (b ∷ (x ++ r)) ≡ first_piece_iso_2022_jp jis0208 m (b ∷ x)
fixed_by jis0208 m b x r true e whole rest =
    rw (escape_fixed (b ∷ x) r whole, e) (fixed_escape (b ∷ x) r e rest)
fixed_by jis0208 m b x r false e whole rest =
    rw (escape_fixed (b ∷ x) r whole, e) (fixed_char jis0208 m b x r rest)

fixed : (jis0208 : List ℕ) (m : Mode) (x r : List ℕ) → is_open m x ≡ false → first_piece_iso_2022_jp jis0208 m (x ++ r) ≡ first_piece_iso_2022_jp jis0208 m x
fixed jis0208 m [] r e = cc
fixed jis0208 m (b ∷ x) r e =
    let parts = or_parts (may_be_escape (b ∷ x)) (cond (is_some (escape_at (b ∷ x))) (may_be_escape (drop 3 (b ∷ x))) (is_jis_lead m (b ∷ x))) e in
    fixed_by jis0208 m b x r (is_some (escape_at (b ∷ x))) refl parts.0 parts.1

-- ---- bytes whose first piece is not

malformed_1B : (jis0208 : List ℕ) (m : Mode) (x : List ℕ) → char_first_piece jis0208 m 0x1B x ≡ malformed 1
malformed_1B jis0208 Ascii x = refl
malformed_1B jis0208 Roman x = refl
malformed_1B jis0208 Katakana x = refl
malformed_1B jis0208 Jis x = refl

-- a prefix of an escape
awaits_1B : (jis0208 : List ℕ) (m : Mode) → Awaits (first_piece_iso_2022_jp jis0208 m) 0 (0x1B ∷ []) false
awaits_1B jis0208 m = record {
  goes_on = refl;
  short = omega arith;
  more = 0x28 ∷ 0x42 ∷ [];
  bytes = (omega arith, (omega arith, tt));
  few = omega arith;
  differs = broken_then_well_formed (first_piece_iso_2022_jp jis0208 m (0x1B ∷ [])) (first_piece_iso_2022_jp jis0208 m (0x1B ∷ 0x28 ∷ 0x42 ∷ [])) 1 3 [] (malformed_1B jis0208 m []) refl;
  soon = λ r. omega arith;
}

awaits_1B_28 : (jis0208 : List ℕ) (m : Mode) → Awaits (first_piece_iso_2022_jp jis0208 m) 0 (0x1B ∷ 0x28 ∷ []) false
awaits_1B_28 jis0208 m = record {
  goes_on = refl;
  short = omega arith;
  more = 0x42 ∷ [];
  bytes = (omega arith, tt);
  few = omega arith;
  differs = broken_then_well_formed (first_piece_iso_2022_jp jis0208 m (0x1B ∷ 0x28 ∷ [])) (first_piece_iso_2022_jp jis0208 m (0x1B ∷ 0x28 ∷ 0x42 ∷ [])) 1 3 [] (malformed_1B jis0208 m (0x28 ∷ [])) refl;
  soon = λ r. omega arith;
}

awaits_1B_24 : (jis0208 : List ℕ) (m : Mode) → Awaits (first_piece_iso_2022_jp jis0208 m) 0 (0x1B ∷ 0x24 ∷ []) false
awaits_1B_24 jis0208 m = record {
  goes_on = refl;
  short = omega arith;
  more = 0x42 ∷ [];
  bytes = (omega arith, tt);
  few = omega arith;
  differs = broken_then_well_formed (first_piece_iso_2022_jp jis0208 m (0x1B ∷ 0x24 ∷ [])) (first_piece_iso_2022_jp jis0208 m (0x1B ∷ 0x24 ∷ 0x42 ∷ [])) 1 3 [] (malformed_1B jis0208 m (0x24 ∷ [])) refl;
  soon = λ r. omega arith;
}

awaits_escape : (jis0208 : List ℕ) (m : Mode) (x : List ℕ) → 0 < length x → may_be_escape x ≡ true → Awaits (first_piece_iso_2022_jp jis0208 m) 0 x false
awaits_escape jis0208 m [] h e = absurd (omega (arith, h))
awaits_escape jis0208 m (a ∷ []) h e = rw (eqb-true a 0x1B e) (awaits_1B jis0208 m)
awaits_escape jis0208 m (a ∷ b ∷ []) h e =
    let parts = and_parts (a == 0x1B) (b == 0x28 || b == 0x24) e in
    rw (eqb-true a 0x1B parts.0) (elim (or_cases (b == 0x28) (b == 0x24) parts.1) [
      | inl one ↦ rw (eqb-true b 0x28 one) (awaits_1B_28 jis0208 m)
      | inr two ↦ rw (eqb-true b 0x24 two) (awaits_1B_24 jis0208 m)
    ])
awaits_escape jis0208 m (a ∷ b ∷ c ∷ x) h e = absurd (clash e)
  where
    clash : false ≡ true → ⊥
    clash k = cc

-- an escape that another may follow
size_escape : (x : List ℕ) → 3 ≤ piece_len (escape_first_piece x)
size_escape x = either (is_some (escape_at x))
  where
    either : (t : Bool) → 3 ≤ piece_len (cond t (malformed 3) (well_formed 3 []))
    either true = lit≤ tt
    either false = lit≤ tt

first_piece_escape : (jis0208 : List ℕ) (m : Mode) (a b c : ℕ) (x : List ℕ) → is_some (escape_of a b c) ≡ true → first_piece_iso_2022_jp jis0208 m (a ∷ b ∷ c ∷ x) ≡ escape_first_piece x
first_piece_escape jis0208 m a b c x e = rw e refl

awaits_another : (jis0208 : List ℕ) (m : Mode) (x : List ℕ) → is_some (escape_at x) ≡ true → may_be_escape (drop 3 x) ≡ true → Awaits (first_piece_iso_2022_jp jis0208 m) 0 x false
awaits_another jis0208 m [] e f = cc
awaits_another jis0208 m (a ∷ []) e f = cc
awaits_another jis0208 m (a ∷ b ∷ []) e f = cc
awaits_another jis0208 m (a ∷ b ∷ c ∷ x) e f =
    let k : Completes x = completes x f in
    let now : first_piece_iso_2022_jp jis0208 m (a ∷ b ∷ c ∷ x) ≡ well_formed 3 [] = first_piece_escape jis0208 m a b c x e ∙ ap (λ t. cond t (malformed 3) (well_formed 3 [])) k.none in
    let then : first_piece_iso_2022_jp jis0208 m (a ∷ b ∷ c ∷ (x ++ k.more)) ≡ malformed 3 = first_piece_escape jis0208 m a b c (x ++ k.more) e ∙ ap (λ t. cond t (malformed 3) (well_formed 3 [])) k.whole in
    record {
      goes_on = refl;
      short = omega (arith, k.short);
      more = k.more;
      bytes = k.bytes;
      few = k.few;
      differs = well_formed_then_broken (first_piece_iso_2022_jp jis0208 m (a ∷ b ∷ c ∷ x)) (first_piece_iso_2022_jp jis0208 m (a ∷ b ∷ c ∷ (x ++ k.more))) 3 3 [] now then;
      soon = λ r. omega (arith, k.short, size_escape (x ++ r), ap piece_len (first_piece_escape jis0208 m a b c (x ++ r) e));
    }

-- the first of two bytes
awaits_second : (jis0208 : List ℕ) (m : Mode) (x : List ℕ) → is_jis_lead m x ≡ true → Awaits (first_piece_iso_2022_jp jis0208 m) 0 x false
awaits_second jis0208 Ascii x e = cc
awaits_second jis0208 Roman x e = cc
awaits_second jis0208 Katakana x e = cc
awaits_second jis0208 Jis [] e = cc
awaits_second jis0208 Jis (b ∷ []) e =
    let now : first_piece_iso_2022_jp jis0208 Jis (b ∷ []) ≡ malformed 1 = rw e refl in
    let then : first_piece_iso_2022_jp jis0208 Jis (b ∷ 0x20 ∷ []) ≡ malformed 2 = rw e refl in
    record {
      goes_on = refl;
      short = omega arith;
      more = 0x20 ∷ [];
      bytes = (omega arith, tt);
      few = omega arith;
      differs = λ same. let clash : malformed 1 ≡ malformed 2 = sym now ∙ same ∙ then in cc;
      soon = λ r. omega arith;
    }
awaits_second jis0208 Jis (b ∷ c ∷ x) e = cc

awaits_by : (jis0208 : List ℕ) (m : Mode) (x : List ℕ) (t : Bool) → is_some (escape_at x) ≡ t → cond t (may_be_escape (drop 3 x)) (is_jis_lead m x) ≡ true → Awaits (first_piece_iso_2022_jp jis0208 m) 0 x false
awaits_by jis0208 m x true e f = awaits_another jis0208 m x e f
awaits_by jis0208 m x false e f = awaits_second jis0208 m x f

awaits : (jis0208 : List ℕ) (m : Mode) (x : List ℕ) → 0 < length x → is_open m x ≡ true → Awaits (first_piece_iso_2022_jp jis0208 m) 0 x false
awaits jis0208 m x h e = elim (or_cases (may_be_escape x) (cond (is_some (escape_at x)) (may_be_escape (drop 3 x)) (is_jis_lead m x)) e) [
  | inl may ↦ awaits_escape jis0208 m x h may
  | inr rest ↦ awaits_by jis0208 m x (is_some (escape_at x)) refl rest
]

-- ---- what is shown

shows_small : (f : List ℕ → Piece) (x : List ℕ) (last : Bool) (p : Piece) (k : ℕ) → k ≤ length x → IsSmall p k → ((r : List ℕ) → (IsTrue last → r ≡ []) → f (x ++ r) ≡ p) → Shows f 0 x last (shown p)
shows_small f x last (malformed n) k h s is = ((s.0, omega (arith, s.1), is), s.2)
shows_small f x last (well_formed n []) k h s is = (s.0, omega (arith, s.1), is)
shows_small f x last (well_formed n (c ∷ [])) k h s is = (s.0, omega (arith, s.1), is)
shows_small f x last (well_formed n (c ∷ d ∷ cs)) k h s is = absurd s

shows_known : (jis0208 : List ℕ) → AreEntries jis0208 → (m : Mode) (x : List ℕ) (last : Bool) → 0 < length x
    → ((r : List ℕ) → (IsTrue last → r ≡ []) → first_piece_iso_2022_jp jis0208 m (x ++ r) ≡ first_piece_iso_2022_jp jis0208 m x)
    → Shows (first_piece_iso_2022_jp jis0208 m) 0 x last (shown (first_piece_iso_2022_jp jis0208 m x))
shows_known jis0208 scalars m [] last h known = absurd (omega (arith, h))
shows_known jis0208 scalars m (b ∷ x) last h known =
    shows_small (first_piece_iso_2022_jp jis0208 m) (b ∷ x) last (first_piece_iso_2022_jp jis0208 m (b ∷ x)) (1 + length x) (omega arith) (small_prefix jis0208 scalars m b x) known

at_end : (jis0208 : List ℕ) (m : Mode) (x r : List ℕ) → r ≡ [] → first_piece_iso_2022_jp jis0208 m (x ++ r) ≡ first_piece_iso_2022_jp jis0208 m x
at_end jis0208 m x r none = ap (first_piece_iso_2022_jp jis0208 m) (ap (λ q. x ++ q) none ∙ append-nil x)

shows_by : (jis0208 : List ℕ) → AreEntries jis0208 → (m : Mode) (x : List ℕ) (last open_ : Bool) → 0 < length x → is_open m x ≡ open_
    → Shows (first_piece_iso_2022_jp jis0208 m) 0 x last (cond (not last && open_) More (shown (first_piece_iso_2022_jp jis0208 m x)))
shows_by jis0208 scalars m x true open_ h e = shows_known jis0208 scalars m x true h (λ r none. at_end jis0208 m x r (none refl))
shows_by jis0208 scalars m x false true h e = awaits jis0208 m x h e
shows_by jis0208 scalars m x false false h e = shows_known jis0208 scalars m x false h (λ r none. fixed jis0208 m x r e)

-- the mode after it
settles_by : (jis0208 : List ℕ) (m : Mode) (x : List ℕ) (last open_ : Bool) → is_open m x ≡ open_ → (cond (not last && open_) More (shown (first_piece_iso_2022_jp jis0208 m x)) ≡ More → ⊥) → SettlesMode mode_after m (mode_after m x) x last
settles_by jis0208 m x true open_ e known r none = ap (mode_after m) (ap (λ q. x ++ q) (none refl) ∙ append-nil x)
settles_by jis0208 m x false true e known r none = absurd (known refl)
settles_by jis0208 m x false false e known r none =
    let parts = or_parts (may_be_escape x) (cond (is_some (escape_at x)) (may_be_escape (drop 3 x)) (is_jis_lead m x)) e in
    ap (λ o. unwrap_or o m) (escape_fixed x r parts.0)

first_piece_by_rule : (jis0208 : List ℕ) → AreEntries jis0208 → (m : Mode) (x : List ℕ) (last : Bool) → 0 < length x
    → TellsFirstPiece (pieces_in (first_piece_iso_2022_jp jis0208) mode_after m) (pieces_in (first_piece_iso_2022_jp jis0208) mode_after (mode_after m x)) x last (decide_iso_2022_jp jis0208 m x last)
first_piece_by_rule jis0208 scalars m x last h =
    shows_first_piece_in (first_piece_iso_2022_jp jis0208) mode_after (cuts_iso_2022_jp jis0208 scalars) m (mode_after m x) x last (decide_iso_2022_jp jis0208 m x last) h
    (settles_by jis0208 m x last (is_open m x) refl) (shows_by jis0208 scalars m x last (is_open m x) h refl)

agree : (jis0208 : List ℕ) → AreEntries jis0208 → (m : Mode) → pieces_in (first_piece_iso_2022_jp jis0208) mode_after m ≡ pieces_in_mode jis0208 m
agree jis0208 scalars m = λ i x. agrees jis0208 scalars m x i

-- the first piece of the parts is what a look at the start shows
pub iso_2022_jp_first_piece : (jis0208 : List ℕ) → AreEntries jis0208 → (m : Mode) (x : List ℕ) (last : Bool) → 0 < length x
    → TellsFirstPiece (pieces_in_mode jis0208 m) (pieces_in_mode jis0208 (mode_after m x)) x last (decide_iso_2022_jp jis0208 m x last)
iso_2022_jp_first_piece jis0208 scalars m x last h = rw (← agree jis0208 scalars m, ← agree jis0208 scalars (mode_after m x)) (first_piece_by_rule jis0208 scalars m x last h)

-- ---- a character, whose first byte is not 1B

not_open : (m : Mode) (b c : ℕ) (x : List ℕ) → (b == 0x1B) ≡ false → is_some (escape_at (b ∷ c ∷ x)) ≡ false → is_open m (b ∷ c ∷ x) ≡ false
not_open Ascii b c [] e none = rw (e, none) refl
not_open Roman b c [] e none = rw (e, none) refl
not_open Katakana b c [] e none = rw (e, none) refl
not_open Jis b c [] e none = rw (e, none) refl
not_open Ascii b c (d ∷ x) e none = rw none refl
not_open Roman b c (d ∷ x) e none = rw none refl
not_open Katakana b c (d ∷ x) e none = rw none refl
not_open Jis b c (d ∷ x) e none = rw none refl

decides_by : (P Q : Piece) (escape last open_ : Bool) → escape ≡ false → open_ ≡ false → shown P ≡ cond (not last && open_) More (shown (cond escape Q P))
decides_by P Q escape true open_ none e = rw none refl
decides_by P Q escape false open_ none e = rw (none, e) refl

decides_char : (jis0208 : List ℕ) (m : Mode) (b : ℕ) (x : List ℕ) (last : Bool) → (b == 0x1B) ≡ false → is_some (escape_at (b ∷ x)) ≡ false
    → (not last && is_jis_lead m (b ∷ x)) ≡ false → shown (char_first_piece jis0208 m b x) ≡ decide_iso_2022_jp jis0208 m (b ∷ x) last
decides_char jis0208 m b [] last e none goes = rw (e, goes) refl
decides_char jis0208 m b (c ∷ x) last e none goes =
    decides_by (char_first_piece jis0208 m b (c ∷ x)) _ (is_some (escape_at (b ∷ c ∷ x))) last (is_open m (b ∷ c ∷ x)) none (not_open m b c x e none)

-- it is decided unless it needs its second byte
pub char_decides : (jis0208 : List ℕ) (m : Mode) (x : List ℕ) (last : Bool) → 0 < length x → slice_index x 0 ≢ 0x1B
    → (not last && is_jis_lead m x) ≡ false
    → shown (char_first_piece jis0208 m (slice_index x 0) (take (length x - 1) (drop 1 x))) ≡ decide_iso_2022_jp jis0208 m x last
char_decides jis0208 m [] last some e goes = absurd (omega (arith, some))
char_decides jis0208 m (b ∷ x) last some e goes =
    ap (λ y. shown (char_first_piece jis0208 m b y)) (take_all (length (b ∷ x) - 1) x (omega arith))
    ∙ decides_char jis0208 m b x last (ne_eqb b 0x1B e) (ap is_some (no_escape_at b x e)) goes

-- ---- room

modest_small : (p : Piece) (k : ℕ) → IsSmall p k → IsModest (shown p)
modest_small (malformed n) k s = s.0
modest_small (well_formed n []) k s = tt
modest_small (well_formed n (c ∷ [])) k s = (s.3, s.4)
modest_small (well_formed n (c ∷ d ∷ cs)) k s = absurd s

modest_unless : (t : Bool) (F : FirstPiece) → IsModest F → IsModest (cond t More F)
modest_unless true F h = tt
modest_unless false F h = h

pub iso_2022_jp_modest : (jis0208 : List ℕ) → AreEntries jis0208 → (m : Mode) (x : List ℕ) (last : Bool) → 0 < length x → IsModest (decide_iso_2022_jp jis0208 m x last)
iso_2022_jp_modest jis0208 scalars m [] last h = absurd (omega (arith, h))
iso_2022_jp_modest jis0208 scalars m (b ∷ x) last h =
    modest_unless (not last && is_open m (b ∷ x)) _ (modest_small (first_piece_iso_2022_jp jis0208 m (b ∷ x)) (1 + length x) (small_prefix jis0208 scalars m b x))

-- Runs of ASCII in ISO-2022-JP, and the mode in which they are read.

-- a prefix of such a run
pub plain_prefix : (k : ℕ) (x : List ℕ) → IsIso2022JpAscii x → IsIso2022JpAscii (take k x)
plain_prefix zero x h i = (lit< tt, λ e. absurd (omega arith), λ e. absurd (omega arith), λ e. absurd (omega arith))
plain_prefix (suc k) [] h i = (lit< tt, λ e. absurd (omega arith), λ e. absurd (omega arith), λ e. absurd (omega arith))
plain_prefix (suc k) (b ∷ x) h zero = h zero
plain_prefix (suc k) (b ∷ x) h (suc i) = plain_prefix k x (λ j. h (suc j)) i

-- each of its bytes is a character of ASCII, and the mode stays
plain_byte : (b : ℕ) → IsIso2022JpAsciiByte b → ascii_piece b ≡ well_formed 1 (b ∷ [])
plain_byte b h =
    let none : (nat_le 0x80 b || b == 0x0E || b == 0x0F || b == 0x1B) ≡ false = grind (arith, nat_tests, h.0, h.1, h.2) in
    rw none refl

plain_piece : (jis0208 : List ℕ) (b : ℕ) (x : List ℕ) → IsIso2022JpAsciiByte b → first_piece_iso_2022_jp jis0208 Ascii (b ∷ x) ≡ well_formed 1 (b ∷ [])
plain_piece jis0208 b x h = rw (no_escape_at b x h.3) (plain_byte b h)

plain_mode : (b : ℕ) (x : List ℕ) → IsIso2022JpAsciiByte b → mode_after Ascii (b ∷ x) ≡ Ascii
plain_mode b x h = ap (λ o. unwrap_or o Ascii) (no_escape_at b x h.3)

plain_bytes : (jis0208 : List ℕ) → AreEntries jis0208 → (t r : List ℕ) → IsIso2022JpAscii t
    → pieces_in (first_piece_iso_2022_jp jis0208) mode_after Ascii (t ++ r) ≡ text_pieces t ++ pieces_in (first_piece_iso_2022_jp jis0208) mode_after Ascii r
plain_bytes jis0208 scalars [] r h = refl
plain_bytes jis0208 scalars (b ∷ t) r h =
    let one : well_formed 1 (b ∷ []) ≡ well_formed (len_utf8 b) (b ∷ []) = ap (λ n. well_formed n (b ∷ [])) (sym (len_utf8_ascii b (h 0).0)) in
    pieces_in-cons (first_piece_iso_2022_jp jis0208) mode_after (cuts_iso_2022_jp jis0208 scalars) Ascii b (t ++ r)
    ∙ ap (λ p. p ∷ pieces_in (first_piece_iso_2022_jp jis0208) mode_after (mode_after Ascii (b ∷ (t ++ r))) (drop (piece_len p) (b ∷ (t ++ r)))) (plain_piece jis0208 b (t ++ r) (h 0))
    ∙ ap (λ m. well_formed 1 (b ∷ []) ∷ pieces_in (first_piece_iso_2022_jp jis0208) mode_after m (t ++ r)) (plain_mode b (t ++ r) (h 0))
    ∙ ap (λ p. p ∷ pieces_in (first_piece_iso_2022_jp jis0208) mode_after Ascii (t ++ r)) one
    ∙ ap (λ ps. well_formed (len_utf8 b) (b ∷ []) ∷ ps) (plain_bytes jis0208 scalars t r (λ i. h (suc i)))

pub plain_ascii : (t : List ℕ) → IsIso2022JpAscii t → IsAscii t
plain_ascii t h i = (h i).0

-- so it can be copied as it is
pub plain_pieces : (jis0208 : List ℕ) → AreEntries jis0208 → (t r : List ℕ) → IsIso2022JpAscii t
    → pieces_in_mode jis0208 Ascii (t ++ r) ≡ text_pieces (chars t) ++ pieces_in_mode jis0208 Ascii r
plain_pieces jis0208 scalars t r h =
    sym (agrees jis0208 scalars Ascii (t ++ r))
    ∙ plain_bytes jis0208 scalars t r h
    ∙ ap (λ cs. text_pieces cs ++ pieces_in (first_piece_iso_2022_jp jis0208) mode_after Ascii r) (sym (chars-IsAscii t (plain_ascii t h)))
    ∙ ap (λ ps. text_pieces (chars t) ++ ps) (agrees jis0208 scalars Ascii r)

-- no text can be copied too
pub no_chars : chars [] ≡ []
no_chars = chars-IsAscii [] (λ i. lit< tt)

pub no_pieces : (jis0208 : List ℕ) (m : Mode) (r : List ℕ) → pieces_in_mode jis0208 m r ≡ text_pieces (chars []) ++ pieces_in_mode jis0208 m r
no_pieces jis0208 m r = ap (λ cs. text_pieces cs ++ pieces_in_mode jis0208 m r) (sym no_chars)

pub no_room : (k : OutputUnit) (m : ℕ) → text_len (is_units k) [] + decoded_length decoded_length_multibyte k m ≤ decoded_length decoded_length_multibyte k (0 + m)
no_room Units m = rw no_chars (omega arith)
no_room Bytes m = omega arith
no_room Replaced m = omega arith

-- 5C is U+005C in ASCII alone
first_scalar : List Piece → ℕ
first_scalar [] = 0
first_scalar (malformed n ∷ ps) = 0
first_scalar (well_formed n [] ∷ ps) = 0
first_scalar (well_formed n (c ∷ cs) ∷ ps) = c

reads_ascii : (m : Mode) (jis0208 other : List ℕ) → pieces_in_mode jis0208 m (0x5C ∷ []) ≡ pieces_in_mode other Ascii (0x5C ∷ []) → m ≡ Ascii
unfolding pieces_in_mode pieces_in first_scalar
reads_ascii Ascii jis0208 other e = refl
reads_ascii Roman jis0208 other e = let same : 0xA5 ≡ 0x5C = ap first_scalar e in absurd (omega (arith, same))
reads_ascii Katakana jis0208 other e = let same : 0xFF9C ≡ 0x5C = ap first_scalar e in absurd (omega (arith, same))
reads_ascii Jis jis0208 other e = let same : 0 ≡ 0x5C = ap first_scalar e in absurd (omega (arith, same))

empty : (x : List ℕ) → length x ≡ 0 → x ≡ []
empty [] h = refl
empty (b ∷ x) h = absurd (omega (arith, h))

-- a rule with nothing pending that reads as an input is read from its start is in ASCII
pub neutral_is : (s : DecoderState) (jis0208 : List ℕ) (m : Mode) (pending : List ℕ) → s.pieces ≡ (λ x. pieces_in_mode jis0208 m (pending ++ x))
    → length pending ≡ 0 → IsNeutral s → m ≡ Ascii
neutral_is s jis0208 m pending pieces none h =
    let here : pieces_in_mode jis0208 m (pending ++ (0x5C ∷ [])) ≡ pieces_in_mode h.jis0208 Ascii (0x5C ∷ []) = ap (λ f. f (0x5C ∷ [])) (sym pieces ∙ h.start) in
    reads_ascii m jis0208 h.jis0208 (ap (λ l. pieces_in_mode jis0208 m (l ++ (0x5C ∷ []))) (sym (empty pending none)) ∙ here)

-- and one in ASCII does
pub reads_from_start : (s : DecoderState) (jis0208 : List ℕ) (m : Mode) (pending : List ℕ) → s.pieces ≡ (λ x. pieces_in_mode jis0208 m (pending ++ x))
    → length pending ≡ s.pending → s.pending ≡ 0 → m ≡ Ascii → IsNeutral s
reads_from_start s jis0208 m pending pieces size none is = record {
  none = none;
  jis0208 = jis0208;
  start = pieces ∙ ap (λ (p : List ℕ). λ (x : List ℕ). pieces_in_mode jis0208 m (p ++ x)) (empty pending (size ∙ none)) ∙ ap (λ (n : Mode). λ (x : List ℕ). pieces_in_mode jis0208 n x) is;
}
