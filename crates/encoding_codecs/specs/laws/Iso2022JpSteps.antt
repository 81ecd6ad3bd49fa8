-- What ISO-2022-JP writes for a character is read back as it, or is broken.
use Rattle.std.proofs.Common.{◌≡◌, ◌≢◌, ℕ, ◌+◌, ◌/◌, ◌%◌, ◌<◌, ◌≤◌, ◌==◌, ◌⊎◌, inl, inr, Bool, true, false, cond, nat_le, List, [], ◌∷◌, ◌++◌, length, drop, refl, sym, ◌∙◌, ap, subst, arith, lit<, lit≤, Option, Some, None, append_assoc}
use Rattle.std.specs.Prelude.{◌||◌}
use Rattle.std.specs.Int.{is_in_range}
use Rattle.std.proofs.lemmas.Bool.{cases_lt, cases_eq, cases_Bool, lt-ltb, le-ltb, le-leb, ne_eqb, eqb-false, or_parts, and_from}
use Rattle.std.proofs.lemmas.Bool.Decides.{nat_tests}
use Rattle.std.specs.Option.{option_and_then}
use Rattle.encoding_mem.specs.laws.Steps.{reference_behind}
use Rattle.encoding_mem.specs.declared.codec.reference.Reference.{Reference}
use Rattle.encoding_mem.specs.Agreement.{ReadsByStep}
use Rattle.encoding_mem.specs.Coding.{IsMapped, spelled, reference_bytes}
use Rattle.encoding_mem.specs.Piece.{Piece, well_formed, malformed, head_piece, piece_len, sizes, text, AreWellFormed}
use Rattle.encoding_mem.specs.ReadBack.{ReadsAs}
use Rattle.encoding_mem.specs.laws.Pieces.{pieces_in-cons}
use Rattle.encoding_mem.specs.Steps.{Follows, IsBroken, StepLaw, one_from}
use Rattle.encoding_mem.specs.declared.codec.form.Form.{Form}
use Rattle.encoding_mem.specs.declared.codec.form.Form.TheVariants.{Mapped, Unmapped}
use Rattle.encoding_mem.specs.declared.codec.form.EscapeState.{EscapeState}
use Rattle.encoding_mem.specs.declared.codec.form.EscapeState.TheVariants.{Ascii, Roman, Jis}
use Rattle.encoding_mem.specs.Decided.{IsUndecided}
use Rattle.encoding_tables.specs.LookupLaws.{IsPointer}
use Rattle.encoding_tables.specs.Lookups.{AreEntries, value_of, first_pointer}
use Rattle.encoding_tables.specs.laws.Pointers.{first_is_least}
use Rattle.encoding_codecs.specs.Iso2022Jp.{ascii_mode, roman_mode, jis_mode, ascii_piece, pieces_in_mode, jis_pair_pointer}
use Rattle.encoding_codecs.specs.laws.Iso2022JpDecide.{first_piece_iso_2022_jp, char_first_piece, mode_after}
use Rattle.encoding_codecs.specs.Iso2022JpForms.{looked_up, iso_2022_jp_pointer, ascii_form, iso_2022_jp_form, iso_2022_jp_set, iso_2022_jp_escape, iso_2022_jp_coding, iso_2022_jp_pair_bytes}
use Rattle.encoding_codecs.specs.laws.Iso2022JpForms.{set_of_one, escape_to, escape_is}
use Rattle.encoding_codecs.specs.laws.Iso2022Jp.{cuts_iso_2022_jp, agrees, no_escape_at, iso_2022_jp_ends}
use Rattle.encoding_codecs.specs.Iso2022JpSets.{mode_of, pieces_from_set}
use Rattle.encoding_codecs.specs.declared.iso_2022_jp_decoder.Mode.{Mode}
use Rattle.encoding_codecs.specs.laws.Pointers.{form_of_pointer}

-- ---- pieces at the start

cons : (jis0208 : List ℕ) → AreEntries jis0208 → (m : Mode) (b : ℕ) (x : List ℕ)
    → pieces_in_mode jis0208 m (b ∷ x) ≡ first_piece_iso_2022_jp jis0208 m (b ∷ x) ∷ pieces_in_mode jis0208 (mode_after m (b ∷ x)) (drop (piece_len (first_piece_iso_2022_jp jis0208 m (b ∷ x))) (b ∷ x))
cons jis0208 scalars m b x =
    sym (agrees jis0208 scalars m (b ∷ x))
    ∙ pieces_in-cons (first_piece_iso_2022_jp jis0208) mode_after (cuts_iso_2022_jp jis0208 scalars) m b x
    ∙ ap (λ ps. first_piece_iso_2022_jp jis0208 m (b ∷ x) ∷ ps) (agrees jis0208 scalars (mode_after m (b ∷ x)) (drop (piece_len (first_piece_iso_2022_jp jis0208 m (b ∷ x))) (b ∷ x)))

-- a byte that is a piece alone
byte : (jis0208 : List ℕ) → AreEntries jis0208 → (m : Mode) (b c : ℕ) (y : List ℕ) → b ≢ 0x1B → char_first_piece jis0208 m b y ≡ well_formed 1 (c ∷ [])
    → pieces_in_mode jis0208 m (b ∷ y) ≡ well_formed 1 (c ∷ []) ∷ pieces_in_mode jis0208 m y
byte jis0208 scalars m b c y n is = cons jis0208 scalars m b y ∙ rw (no_escape_at b y n, is) refl

-- two bytes of JIS
in_row : (n : ℕ) → n < 94 → is_in_range 0x21 0x7E (0x21 + n) ≡ true
in_row n h = and_from (nat_le 0x21 (0x21 + n)) (nat_le (0x21 + n) 0x7E) (le-leb 0x21 (0x21 + n) (omega arith)) (le-leb (0x21 + n) 0x7E (omega (arith, h)))

pair : (jis0208 : List ℕ) → AreEntries jis0208 → (k l d : ℕ) (y : List ℕ) → k < 94 → l < 94 → value_of jis0208 (jis_pair_pointer (0x21 + k) (0x21 + l)) ≡ Some d
    → pieces_in_mode jis0208 jis_mode ((0x21 + k) ∷ (0x21 + l) ∷ y) ≡ well_formed 2 (d ∷ []) ∷ pieces_in_mode jis0208 jis_mode y
pair jis0208 scalars k l d y h j is =
    cons jis0208 scalars jis_mode (0x21 + k) ((0x21 + l) ∷ y)
    ∙ rw (no_escape_at (0x21 + k) ((0x21 + l) ∷ y) (λ e. absurd (omega (arith, e))), in_row k h, ne_eqb (0x21 + l) 0x1B (λ e. absurd (omega (arith, e))), in_row l j, is) refl

-- an escape before a byte that is no 1B
ignored : (jis0208 : List ℕ) → AreEntries jis0208 → (m : Mode) (q : EscapeState) (f : ℕ) (z : List ℕ) → f ≢ 0x1B
    → pieces_in_mode jis0208 m (escape_to q ++ (f ∷ z)) ≡ well_formed 3 [] ∷ pieces_in_mode jis0208 (mode_of q) (f ∷ z)
ignored jis0208 scalars m Ascii f z n = cons jis0208 scalars m 0x1B (0x28 ∷ 0x42 ∷ f ∷ z) ∙ rw (no_escape_at f z n) refl
ignored jis0208 scalars m Roman f z n = cons jis0208 scalars m 0x1B (0x28 ∷ 0x4A ∷ f ∷ z) ∙ rw (no_escape_at f z n) refl
ignored jis0208 scalars m Jis f z n = cons jis0208 scalars m 0x1B (0x24 ∷ 0x42 ∷ f ∷ z) ∙ rw (no_escape_at f z n) refl

-- the piece of an escape, if there is one
abbrev skipped : List ℕ → List Piece
skipped [] = []
skipped (b ∷ bs) = well_formed 3 [] ∷ []

escapes : EscapeState → EscapeState → List Piece
escapes s q = skipped (iso_2022_jp_escape s q)

through : (jis0208 : List ℕ) → AreEntries jis0208 → (s q : EscapeState) (f : ℕ) (z : List ℕ) → f ≢ 0x1B
    → pieces_from_set jis0208 s (iso_2022_jp_escape s q ++ (f ∷ z)) ≡ escapes s q ++ pieces_from_set jis0208 q (f ∷ z)
unfolding escapes
through jis0208 scalars Ascii Ascii f z n = refl
through jis0208 scalars Roman Roman f z n = refl
through jis0208 scalars Jis Jis f z n = refl
through jis0208 scalars Ascii Roman f z n = ignored jis0208 scalars ascii_mode Roman f z n
through jis0208 scalars Ascii Jis f z n = ignored jis0208 scalars ascii_mode Jis f z n
through jis0208 scalars Roman Ascii f z n = ignored jis0208 scalars roman_mode Ascii f z n
through jis0208 scalars Roman Jis f z n = ignored jis0208 scalars roman_mode Jis f z n
through jis0208 scalars Jis Ascii f z n = ignored jis0208 scalars jis_mode Ascii f z n
through jis0208 scalars Jis Roman f z n = ignored jis0208 scalars jis_mode Roman f z n

-- an escape gives nothing
escapes_text : (s q : EscapeState) (ps : List Piece) → text (escapes s q ++ ps) ≡ text ps
unfolding escapes
escapes_text s q ps = either (iso_2022_jp_escape s q)
  where
    either : (escape : List ℕ) → text (skipped escape ++ ps) ≡ text ps
    either [] = refl
    either (b ∷ bs) = refl

escapes_well_formed : (s q : EscapeState) (ps : List Piece) → AreWellFormed ps → AreWellFormed (escapes s q ++ ps)
unfolding escapes
escapes_well_formed s q ps h = either (iso_2022_jp_escape s q)
  where
    either : (escape : List ℕ) → AreWellFormed (skipped escape ++ ps)
    either [] = h
    either (b ∷ bs) = (tt, h)

well_formed_behind : (s q : EscapeState) (ps : List Piece) → AreWellFormed (escapes s q ++ ps) → AreWellFormed ps
unfolding escapes
well_formed_behind s q ps h = either (iso_2022_jp_escape s q) h
  where
    either : (escape : List ℕ) → AreWellFormed (skipped escape ++ ps) → AreWellFormed ps
    either [] h = h
    either (b ∷ bs) h = h.1

escapes_sizes : (s q : EscapeState) (ps : List Piece) (bs : List ℕ) → sizes ps ≡ length bs → sizes (escapes s q ++ ps) ≡ length (iso_2022_jp_escape s q ++ bs)
unfolding escapes
escapes_sizes s q ps bs h = elim (escape_is s q) [
  | inl none ↦ rw none h
  | inr some ↦ rw some (sized q)
]
  where
    sized : (q : EscapeState) → sizes (skipped (escape_to q) ++ ps) ≡ length (escape_to q ++ bs)
    sized Ascii = omega (arith, h)
    sized Roman = omega (arith, h)
    sized Jis = omega (arith, h)

-- ---- what a character is in its set

-- bytes in a set, of which the first is no 1B, are a piece with the character c, or begin with one that has another
record Gives (jis0208 : List ℕ) (q : EscapeState) (bytes : List ℕ) (c : ℕ) : Type 0 where
  first : ℕ
  behind : List ℕ
  is : bytes ≡ first ∷ behind
  no_escape : first ≢ 0x1B
  reads : Follows (pieces_from_set jis0208 q) (pieces_from_set jis0208 q) (first ∷ behind) (c ∷ []) ⊎ IsBroken (pieces_from_set jis0208 q) (first ∷ behind) (c ∷ [])

behind_escape : (jis0208 : List ℕ) → AreEntries jis0208 → (s q : EscapeState) (bytes : List ℕ) (c : ℕ) → Gives jis0208 q bytes c
    → Follows (pieces_from_set jis0208 s) (pieces_from_set jis0208 q) (iso_2022_jp_escape s q ++ bytes) (c ∷ []) ⊎ IsBroken (pieces_from_set jis0208 s) (iso_2022_jp_escape s q ++ bytes) (c ∷ [])
behind_escape jis0208 scalars s q bytes c g = rw g.is (elim g.reads [
  | inl a ↦ inl (record {
    taken = escapes s q ++ a.taken;
    well_formed = escapes_well_formed s q a.taken a.well_formed;
    same = escapes_text s q a.taken ∙ a.same;
    whole = escapes_sizes s q a.taken (g.first ∷ g.behind) a.whole;
    rest = λ r.
        ap (pieces_from_set jis0208 s) (append_assoc (iso_2022_jp_escape s q) (g.first ∷ g.behind) r)
        ∙ through jis0208 scalars s q g.first (g.behind ++ r) g.no_escape
        ∙ ap (λ ps. escapes s q ++ ps) (a.rest r)
        ∙ sym (append_assoc (escapes s q) a.taken (pieces_from_set jis0208 q r));
  })
  | inr b ↦ inr (record {
    taken = escapes s q ++ b.taken;
    decided = λ r. let d = b.decided r in (
      d.0,
      ap (pieces_from_set jis0208 s) (append_assoc (iso_2022_jp_escape s q) (g.first ∷ g.behind) r)
          ∙ through jis0208 scalars s q g.first (g.behind ++ r) g.no_escape
          ∙ ap (λ ps. escapes s q ++ ps) d.1
          ∙ sym (append_assoc (escapes s q) b.taken d.0),
    );
    wrong = elim b.wrong [
      | inl none ↦ inl (λ all. none (well_formed_behind s q b.taken all))
      | inr apart ↦ inr (rw (escapes_text s q b.taken) apart)
    ];
  })
])

-- a piece with the character, or with another
gives_piece : (jis0208 : List ℕ) (q : EscapeState) (b : ℕ) (bs : List ℕ) (d c : ℕ) → b ≢ 0x1B
    → ((r : List ℕ) → pieces_from_set jis0208 q ((b ∷ bs) ++ r) ≡ well_formed (length (b ∷ bs)) (d ∷ []) ∷ pieces_from_set jis0208 q r) → Gives jis0208 q (b ∷ bs) c
gives_piece jis0208 q b bs d c n is = record {
  first = b;
  behind = bs;
  is = refl;
  no_escape = n;
  reads = elim (cases_eq d c) [
    | inl same ↦ inl (record { taken = well_formed (length (b ∷ bs)) (d ∷ []) ∷ []; well_formed = (tt, tt); same = ap (λ e. e ∷ []) same; whole = omega arith; rest = is })
    | inr other ↦ inr (record {
      taken = well_formed (length (b ∷ bs)) (d ∷ []) ∷ [];
      decided = λ r. (pieces_from_set jis0208 q r, is r);
      wrong = inr (record { offset = 0; in_one = lit< tt; in_other = lit< tt; apart = other });
    })
  ];
}

-- what begins with a piece that has another character
gives_other : (jis0208 : List ℕ) (q : EscapeState) (b : ℕ) (bs : List ℕ) (d c : ℕ) → b ≢ 0x1B → d ≢ c
    → ((y : List ℕ) → pieces_from_set jis0208 q (b ∷ y) ≡ well_formed 1 (d ∷ []) ∷ pieces_from_set jis0208 q y) → Gives jis0208 q (b ∷ bs) c
gives_other jis0208 q b bs d c n other is = record {
  first = b;
  behind = bs;
  is = refl;
  no_escape = n;
  reads = inr (record {
    taken = well_formed 1 (d ∷ []) ∷ [];
    decided = λ r. (pieces_from_set jis0208 q (bs ++ r), is (bs ++ r));
    wrong = inr (record { offset = 0; in_one = lit< tt; in_other = lit< tt; apart = other });
  });
}

-- ---- each form

-- the sets of one byte a character
abbrev IsOneByte : EscapeState → Type 0
IsOneByte Ascii = Unit {0}
IsOneByte Roman = Unit {0}
IsOneByte Jis = ⊥

one_byte : (single yen : Bool) (s : EscapeState) → IsOneByte (set_of_one single yen s)
one_byte true yen s = tt
one_byte false true s = tt
one_byte false false Ascii = tt
one_byte false false Roman = tt
one_byte false false Jis = tt

-- what is lost is in one of them
lost_in_one_byte : (s : EscapeState) (c d : ℕ) → IsOneByte (iso_2022_jp_set s c (Unmapped d))
lost_in_one_byte s c d = one_byte (c == 0x5C || c == 0x7E) (c == 0xA5 || c == 0x203E) s

-- a reference begins with 26, which is itself there
mark : (jis0208 : List ℕ) → AreEntries jis0208 → (q : EscapeState) (y : List ℕ) → IsOneByte q → pieces_from_set jis0208 q (0x26 ∷ y) ≡ well_formed 1 (0x26 ∷ []) ∷ pieces_from_set jis0208 q y
mark jis0208 scalars Ascii y one = byte jis0208 scalars ascii_mode 0x26 0x26 y (λ e. absurd (omega (arith, e))) refl
mark jis0208 scalars Roman y one = byte jis0208 scalars roman_mode 0x26 0x26 y (λ e. absurd (omega (arith, e))) refl
mark jis0208 scalars Jis y one = absurd one

gives_reference : (ref : Reference) (jis0208 : List ℕ) → AreEntries jis0208 → (q : EscapeState) (d c : ℕ) → IsOneByte q → c ≢ 0x26 → Gives jis0208 q (spelled ref (Unmapped d)) c
gives_reference ref jis0208 scalars q d c one other =
    rw (reference_behind ref d) (gives_other jis0208 q 0x26 (drop 1 (reference_bytes ref d)) 0x26 c (λ e. absurd (omega (arith, e))) (λ e. other (sym e)) (λ y. mark jis0208 scalars q y one))

-- ASCII if it is itself
plain : (c : ℕ) → c < 0x80 → (c == 0x0E || c == 0x0F || c == 0x1B) ≡ false → ascii_piece c ≡ well_formed 1 (c ∷ [])
plain c low free =
    let parts = or_parts (c == 0x0E || c == 0x0F) (c == 0x1B) free in
    let firsts = or_parts (c == 0x0E) (c == 0x0F) parts.0 in
    let none : (nat_le 0x80 c || c == 0x0E || c == 0x0F || c == 0x1B) ≡ false = grind (arith, nat_tests, low, firsts.0, firsts.1, parts.1) in
    rw none refl

gives_ascii : (jis0208 : List ℕ) → AreEntries jis0208 → (q : EscapeState) (c : ℕ) → IsOneByte q → c < 0x80 → (c == 0x0E || c == 0x0F || c == 0x1B) ≡ false
    → (q ≡ Ascii) ⊎ ((c == 0x5C || c == 0x7E) ≡ false) → Gives jis0208 q (c ∷ []) c
gives_ascii jis0208 scalars Ascii c one low free at =
    let n : c ≢ 0x1B = eqb-false c 0x1B (or_parts (c == 0x0E || c == 0x0F) (c == 0x1B) free).1 in
    gives_piece jis0208 Ascii c [] c c n (λ r. byte jis0208 scalars ascii_mode c c r n (plain c low free))
gives_ascii jis0208 scalars Roman c one low free (inl at) = absurd (clash at)
  where
    clash : Roman ≡ Ascii → ⊥
    clash e = cc
gives_ascii jis0208 scalars Roman c one low free (inr at) =
    let n : c ≢ 0x1B = eqb-false c 0x1B (or_parts (c == 0x0E || c == 0x0F) (c == 0x1B) free).1 in
    let parts = or_parts (c == 0x5C) (c == 0x7E) at in
    gives_piece jis0208 Roman c [] c c n (λ r. byte jis0208 scalars roman_mode c c r n (rw (parts.0, parts.1) (plain c low free)))
gives_ascii jis0208 scalars Jis c one low free at = absurd one

-- two bytes of a pointer
found : (flat : List ℕ) (d p : ℕ) → first_pointer flat d 0 8836 ≡ Some p → IsPointer flat d 0 8836 p
found flat d p e = (rw e at (first_is_least flat d 0 8836)).0

gives_pair : (jis0208 : List ℕ) → AreEntries jis0208 → (d p c : ℕ) → first_pointer jis0208 d 0 8836 ≡ Some p → Gives jis0208 Jis ((0x21 + p / 94) ∷ (0x21 + p % 94) ∷ []) c
gives_pair jis0208 scalars d p c e =
    let at = found jis0208 d p e in
    let below : p < 8836 = at.before in
    let high : p / 94 < 94 = omega (arith, below) in
    let low : p % 94 < 94 = omega arith in
    let back : jis_pair_pointer (0x21 + p / 94) (0x21 + p % 94) ≡ p = omega arith in
    let entry : value_of jis0208 (jis_pair_pointer (0x21 + p / 94) (0x21 + p % 94)) ≡ Some d = ap (value_of jis0208) back ∙ at.entry in
    gives_piece jis0208 Jis (0x21 + p / 94) ((0x21 + p % 94) ∷ []) d c (λ k. absurd (omega (arith, k))) (λ r. pair jis0208 scalars (p / 94) (p % 94) d r high low entry)

gives_pointer : (ref : Reference) (jis0208 : List ℕ) → AreEntries jis0208 → (o : Option ℕ) (s : EscapeState) (c : ℕ) → 0x80 ≤ c
    → let form = form_of_pointer iso_2022_jp_pair_bytes c (option_and_then (λ d. first_pointer jis0208 d 0 8836) o) in Gives jis0208 (iso_2022_jp_set s c form) (spelled ref form) c
gives_pointer ref jis0208 scalars None s c high = gives_reference ref jis0208 scalars _ c c (lost_in_one_byte s c c) (λ e. absurd (omega (arith, e, high)))
gives_pointer ref jis0208 scalars (Some d) s c high = by (first_pointer jis0208 d 0 8836) refl
  where
    by : (p : Option ℕ) → first_pointer jis0208 d 0 8836 ≡ p
        → let form = form_of_pointer iso_2022_jp_pair_bytes c (first_pointer jis0208 d 0 8836) in Gives jis0208 (iso_2022_jp_set s c form) (spelled ref form) c
    by None e = rw e (gives_reference ref jis0208 scalars _ c c (lost_in_one_byte s c c) (λ k. absurd (omega (arith, k, high))))
    by (Some p) e = rw e (gives_pair jis0208 scalars d p c e)

-- ---- each character

ascii_step : (ref : Reference) (jis0208 : List ℕ) → AreEntries jis0208 → (s : EscapeState) (c : ℕ) → c < 0x80
    → Gives jis0208 (iso_2022_jp_set s c (ascii_form c)) (spelled ref (ascii_form c)) c
ascii_step ref jis0208 scalars s c low = elim (cases_Bool (c == 0x0E || c == 0x0F || c == 0x1B)) [
  | inl control ↦ rw control (gives_reference ref jis0208 scalars _ 0xFFFD c (lost_in_one_byte s c 0xFFFD) (other c control))
  | inr free ↦ rw free (gives_ascii jis0208 scalars _ c (one_byte (c == 0x5C || c == 0x7E) (c == 0xA5 || c == 0x203E) s) low free (either (c == 0x5C || c == 0x7E) (c == 0xA5 || c == 0x203E)))
]
  where
    either : (single yen : Bool) → (set_of_one single yen s ≡ Ascii) ⊎ (single ≡ false)
    either true yen = inl refl
    either false yen = inr refl

    other : (c : ℕ) → (c == 0x0E || c == 0x0F || c == 0x1B) ≡ true → c ≢ 0x26
    other c control e = clash (rw e at control)
      where
        clash : false ≡ true → ⊥
        clash k = cc

high_step : (ref : Reference) (jis0208 katakana : List ℕ) → AreEntries jis0208 → (s : EscapeState) (c : ℕ) → 0x80 ≤ c
    → let form = cond (c == 0xA5) (Mapped (0x5C ∷ [])) (cond (c == 0x203E) (Mapped (0x7E ∷ [])) (form_of_pointer iso_2022_jp_pair_bytes c (iso_2022_jp_pointer jis0208 katakana c))) in
    Gives jis0208 (iso_2022_jp_set s c form) (spelled ref form) c
high_step ref jis0208 katakana scalars s c high = elim (cases_eq c 0xA5) [
  | inl yen ↦ rw yen (gives_piece jis0208 Roman 0x5C [] 0xA5 0xA5 (λ e. absurd (omega (arith, e))) (λ r. byte jis0208 scalars roman_mode 0x5C 0xA5 r (λ e. absurd (omega (arith, e))) refl))
  | inr free ↦ elim (cases_eq c 0x203E) [
    | inl line ↦ rw line (gives_piece jis0208 Roman 0x7E [] 0x203E 0x203E (λ e. absurd (omega (arith, e))) (λ r. byte jis0208 scalars roman_mode 0x7E 0x203E r (λ e. absurd (omega (arith, e))) refl))
    | inr frees ↦ rw (ne_eqb c 0xA5 free, ne_eqb c 0x203E frees) (gives_pointer ref jis0208 scalars (looked_up katakana c) s c high)
  ]
]

gives : (ref : Reference) (jis0208 katakana : List ℕ) → AreEntries jis0208 → (s : EscapeState) (c : ℕ)
    → let form = iso_2022_jp_form jis0208 katakana c in Gives jis0208 (iso_2022_jp_set s c form) (spelled ref form) c
gives ref jis0208 katakana scalars s c = elim (cases_lt c 0x80) [
  | inl low ↦ rw (lt-ltb c 0x80 low) (ascii_step ref jis0208 scalars s c low)
  | inr high ↦ rw (le-ltb c 0x80 high) (high_step ref jis0208 katakana scalars s c high)
]

pub iso_2022_jp_steps : (jis0208 katakana : List ℕ) → AreEntries jis0208 → StepLaw (iso_2022_jp_coding jis0208 katakana) (pieces_from_set jis0208)
iso_2022_jp_steps jis0208 katakana scalars ref s c is =
    behind_escape jis0208 scalars s (iso_2022_jp_set s c (iso_2022_jp_form jis0208 katakana c)) (spelled ref (iso_2022_jp_form jis0208 katakana c)) c (gives ref jis0208 katakana scalars s c)

-- ---- a character without bytes

-- its reference is never read as it
lost_is_broken : (ref : Reference) (jis0208 : List ℕ) → AreEntries jis0208 → (s q : EscapeState) (d c : ℕ) → IsOneByte q → c ≢ 0x26
    → IsBroken (pieces_from_set jis0208 s) (iso_2022_jp_escape s q ++ reference_bytes ref d) (c ∷ [])
lost_is_broken ref jis0208 scalars s q d c one other = rw (reference_behind ref d) (record {
  taken = escapes s q ++ well_formed 1 (0x26 ∷ []) ∷ [];
  decided = λ r. (
    pieces_from_set jis0208 q (drop 1 (reference_bytes ref d) ++ r),
    ap (pieces_from_set jis0208 s) (append_assoc (iso_2022_jp_escape s q) (0x26 ∷ drop 1 (reference_bytes ref d)) r)
        ∙ through jis0208 scalars s q 0x26 (drop 1 (reference_bytes ref d) ++ r) (λ e. absurd (omega (arith, e)))
        ∙ ap (λ ps. escapes s q ++ ps) (mark jis0208 scalars q (drop 1 (reference_bytes ref d) ++ r) one)
        ∙ sym (append_assoc (escapes s q) (well_formed 1 (0x26 ∷ []) ∷ []) (pieces_from_set jis0208 q (drop 1 (reference_bytes ref d) ++ r))),
  );
  wrong = inr (rw (escapes_text s q (well_formed 1 (0x26 ∷ []) ∷ [])) (record { offset = 0; in_one = lit< tt; in_other = lit< tt; apart = λ e. other (sym e) }));
})

lost_step : (ref : Reference) (jis0208 katakana : List ℕ) → AreEntries jis0208 → (s : EscapeState) (c : ℕ) → ¬ (IsMapped (iso_2022_jp_form jis0208 katakana c))
    → IsBroken (pieces_from_set jis0208 s) (one_from ref (iso_2022_jp_coding jis0208 katakana) s c) (c ∷ [])
lost_step ref jis0208 katakana scalars s c lost = by (iso_2022_jp_form jis0208 katakana c) refl
  where
    by : (f : Form) → iso_2022_jp_form jis0208 katakana c ≡ f → IsBroken (pieces_from_set jis0208 s) (iso_2022_jp_escape s (iso_2022_jp_set s c f) ++ spelled ref f) (c ∷ [])
    by (Mapped bs) is = absurd (lost (subst IsMapped (sym is) tt))
    by (Unmapped d) is = lost_is_broken ref jis0208 scalars s (iso_2022_jp_set s c (Unmapped d)) d c (lost_in_one_byte s c d) (λ same. lost (subst (λ a. IsMapped (iso_2022_jp_form jis0208 katakana a)) (sym same) tt))

-- ---- an escape that ends the bytes

-- it is ignored
last_escape : (jis0208 : List ℕ) → AreEntries jis0208 → (m : Mode) (q : EscapeState) → pieces_in_mode jis0208 m (escape_to q) ≡ well_formed 3 [] ∷ []
last_escape jis0208 scalars m Ascii = cons jis0208 scalars m 0x1B (0x28 ∷ 0x42 ∷ []) ∙ ap (λ ps. well_formed 3 [] ∷ ps) (iso_2022_jp_ends jis0208 ascii_mode)
last_escape jis0208 scalars m Roman = cons jis0208 scalars m 0x1B (0x28 ∷ 0x4A ∷ []) ∙ ap (λ ps. well_formed 3 [] ∷ ps) (iso_2022_jp_ends jis0208 roman_mode)
last_escape jis0208 scalars m Jis = cons jis0208 scalars m 0x1B (0x24 ∷ 0x42 ∷ []) ∙ ap (λ ps. well_formed 3 [] ∷ ps) (iso_2022_jp_ends jis0208 jis_mode)

ends_with_escape : (jis0208 : List ℕ) → AreEntries jis0208 → (s q : EscapeState) → ReadsAs (pieces_from_set jis0208 s) (iso_2022_jp_escape s q) []
ends_with_escape jis0208 scalars s q = elim (escape_is s q) [
  | inl none ↦ let is = iso_2022_jp_ends jis0208 (mode_of s) in rw none (record { well_formed = subst AreWellFormed (sym is) tt; same = ap text is })
  | inr some ↦ let is = last_escape jis0208 scalars (mode_of s) q in rw some (record { well_formed = subst AreWellFormed (sym is) (tt, tt); same = ap text is })
]

-- but after it another makes it malformed
escape_before_another : (jis0208 : List ℕ) → AreEntries jis0208 → (m : Mode) (q : EscapeState) → head_piece (pieces_in_mode jis0208 m (escape_to q ++ escape_to Ascii)) ≡ Some (malformed 3)
escape_before_another jis0208 scalars m Ascii = ap head_piece (cons jis0208 scalars m 0x1B (0x28 ∷ 0x42 ∷ escape_to Ascii))
escape_before_another jis0208 scalars m Roman = ap head_piece (cons jis0208 scalars m 0x1B (0x28 ∷ 0x4A ∷ escape_to Ascii))
escape_before_another jis0208 scalars m Jis = ap head_piece (cons jis0208 scalars m 0x1B (0x24 ∷ 0x42 ∷ escape_to Ascii))

escape_is_undecided : (jis0208 : List ℕ) → AreEntries jis0208 → (m : Mode) (q : EscapeState) → IsUndecided (pieces_in_mode jis0208 m) (escape_to q)
escape_is_undecided jis0208 scalars m q = record {
  more = escape_to Ascii;
  bytes = (lit< tt, (lit< tt, (lit< tt, tt)));
  short = lit≤ tt;
  differs = λ same. clash (sym (ap head_piece (last_escape jis0208 scalars m q)) ∙ same ∙ escape_before_another jis0208 scalars m q);
}
  where
    clash : Some (well_formed 3 []) ≡ Some (malformed 3) → ⊥
    clash e = cc

-- ---- step by step

pub iso_2022_jp_by_step : (jis0208 katakana : List ℕ) → AreEntries jis0208 → ReadsByStep (iso_2022_jp_coding jis0208 katakana) (pieces_from_set jis0208)
iso_2022_jp_by_step jis0208 katakana scalars = record {
  steps = iso_2022_jp_steps jis0208 katakana scalars;
  lost = λ ref s c is lost. lost_step ref jis0208 katakana scalars s c lost;
  nothing = λ s. iso_2022_jp_ends jis0208 (mode_of s);
  ignored = ends_with_escape jis0208 scalars;
  undecided = λ s s'. elim (escape_is s s') [
    | inl none ↦ inl none
    | inr some ↦ inr (rw some (escape_is_undecided jis0208 scalars (mode_of s) s'))
  ];
}
