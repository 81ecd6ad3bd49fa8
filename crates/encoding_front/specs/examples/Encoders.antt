-- Worked cases of encoders, and wrong outcomes of their calls. In the sample target a yen sign is 5C in Roman, and U+1F4A9 has no bytes.
use Rattle.std.specs.Prelude.{◌≡◌, ◌≢◌, ◌⊎◌, ◌<◌, Bool, true, false, IsTrue, None, Some, [], ◌∷◌, ◌++◌, codes, refl, ℕ, List, Option, length, map, replicate}
use Rattle.std.specs.Fmt.{digits}
use Rattle.std.proofs.Common.{inr, lit≤, lit<, inl, arith, subst, sym, ap, ◌∙◌, append-nil}
use Rattle.encoding_mem.specs.declared.codec.reference.Reference.TheVariants.{Decimal}
use Rattle.encoding_mem.specs.Coding.{AllMapped, lost_count, open_from, whole_from, last_set, IsMapped}
use Rattle.encoding_mem.specs.declared.codec.encoder_result.EncoderResult.TheVariants.{InputEmpty, OutputFull, Unmappable}
use Rattle.encoding_mem.specs.examples.SampleCoding.{sample_coding}
use Rattle.encoding_mem.specs.declared.codec.form.EscapeState.TheVariants.{Ascii, Roman}
use Rattle.encoding_front.specs.calls.Encoder.{Encoded, ReadsText, ReplacingEndsWith, kept_back, queried_room, queried_with_kept, EndsWithReference, EncoderState, Puts, Replaces}
use Rattle.encoding_front.specs.declared.coder_result.CoderResult.{CoderResult}
use Rattle.encoding_front.specs.declared.encoding.Encoding.TheVariants.{Iso2022Jp, Replacement, Utf8, Utf16Le, Windows1252, Big5, EucJp, EucKr, Gb18030, Gbk, ShiftJis, XUserDefined, Utf16Be}
use Rattle.encoding_tables.specs.IndexLists.{IndexLists}
use Rattle.encoding_tables.specs.examples.IndexLists.{no_flats}
use Rattle.encoding_front.specs.Encodings.{coding_of}
use Rattle.encoding_front.specs.declared.encoding.Encoding.{Encoding}
use Rattle.encoding_mem.specs.declared.codec.form.EscapeState.{EscapeState}
use Rattle.encoding_mem.specs.declared.codec.form.Form.{Form}

kept_utf_8 : kept_back Utf8 ≡ 0
kept_utf_8 = refl

kept_utf_16le : kept_back Utf16Le ≡ 0
kept_utf_16le = refl

kept_replacement : kept_back Replacement ≡ 0
kept_replacement = refl

kept_windows_1252 : kept_back Windows1252 ≡ 10
kept_windows_1252 = refl

room_iso_2022_jp : queried_room Iso2022Jp false 7 ≡ Some 31
room_iso_2022_jp = refl

room_with_reference_is_returned : queried_with_kept Iso2022Jp false 7 ≡ Some 41
room_with_reference_is_returned = refl

room_of_units_with_kept : queried_with_kept Iso2022Jp true 7 ≡ Some 48
room_of_units_with_kept = refl

-- the room without references is a usize, with the ten bytes it is none
room_fits : queried_room Windows1252 false 0xFFFFFFFFFFFFFFFF ≡ Some 0xFFFFFFFFFFFFFFFF
room_fits = refl

room_does_not_fit : queried_with_kept Windows1252 false 0xFFFFFFFFFFFFFFFF ≡ None
room_does_not_fit = refl

-- a last call that ends after the reference has still to write the escape to ASCII
yen_and_reference : whole_from Decimal sample_coding Ascii (0xA5 ∷ 0x1F4A9 ∷ [])
    ≡ (0x1B ∷ 0x28 ∷ 0x4A ∷ 0x5C ∷ codes "&#128169;") ++ whole_from Decimal sample_coding Roman []
unfolding digits
yen_and_reference = refl

owes_escape : ReplacingEndsWith true CoderResult.OutputFull Roman []
owes_escape = inr (refl, λ h. cc)

-- a call that is not the last has nothing more to write
owes_nothing : ReplacingEndsWith false CoderResult.InputEmpty Roman []
owes_nothing = (refl, λ h. absurd (cc))

-- the offset that is compared with the end of the part before the kept bytes
reference_ends : open_from Decimal sample_coding Ascii (0xA5 ∷ 0x1F4A9 ∷ []) ≡ 0x1B ∷ 0x28 ∷ 0x4A ∷ 0x5C ∷ codes "&#128169;"
unfolding digits
reference_ends = refl

one_lost : lost_count sample_coding (0xA5 ∷ 0x1F4A9 ∷ 0x41 ∷ []) ≡ 1
one_lost = refl

kept_by_others : map kept_back (Big5 ∷ EucJp ∷ EucKr ∷ Gb18030 ∷ Gbk ∷ Iso2022Jp ∷ ShiftJis ∷ XUserDefined ∷ []) ≡ replicate 8 10
kept_by_others = refl

kept_utf_16be : kept_back Utf16Be ≡ 0
kept_utf_16be = refl

-- the room for 7 units and for 7 bytes of text without references: 3n and n, n and n, 2n and n + 1, 4n and 2n + 2, 5n + 3 and 4n + 3
room_for_7 : Encoding → List (Option ℕ)
room_for_7 e = queried_room e true 7 ∷ queried_room e false 7 ∷ []

rooms_of_utf_8 : map room_for_7 (Utf8 ∷ Utf16Be ∷ Utf16Le ∷ Replacement ∷ []) ≡ replicate 4 (Some 21 ∷ Some 7 ∷ [])
unfolding room_for_7
rooms_of_utf_8 = refl

rooms_of_one_byte : map room_for_7 (Windows1252 ∷ XUserDefined ∷ []) ≡ replicate 2 (Some 7 ∷ Some 7 ∷ [])
unfolding room_for_7
rooms_of_one_byte = refl

rooms_of_two_bytes : map room_for_7 (Big5 ∷ EucJp ∷ EucKr ∷ ShiftJis ∷ Gbk ∷ []) ≡ replicate 5 (Some 14 ∷ Some 8 ∷ [])
unfolding room_for_7
rooms_of_two_bytes = refl

room_of_gb18030 : room_for_7 Gb18030 ≡ Some 28 ∷ Some 16 ∷ []
unfolding room_for_7
room_of_gb18030 = refl

room_of_iso_2022_jp : room_for_7 Iso2022Jp ≡ Some 38 ∷ Some 31 ∷ []
unfolding room_for_7
room_of_iso_2022_jp = refl

-- UTF-8 keeps nothing back
room_of_utf_8_with_kept : queried_with_kept Utf8 true 7 ≡ Some 21
room_of_utf_8_with_kept = refl

-- of ISO-2022-JP with no index: U+00A5 is written in Roman, and U+1F4A9 as a reference of 9 bytes
unfoldable no_tables : IndexLists
no_tables = record { flats = no_flats; rows = None }

abbrev yen_and_pile : List ℕ
yen_and_pile = 0xA5 ∷ 0x1F4A9 ∷ []

abbrev yen_and_its_reference : List ℕ
yen_and_its_reference = 0x1B ∷ 0x28 ∷ 0x4A ∷ 0x5C ∷ 0x26 ∷ 0x23 ∷ 0x31 ∷ 0x32 ∷ 0x38 ∷ 0x31 ∷ 0x36 ∷ 0x39 ∷ 0x3B ∷ []

written_in_roman : (open_from Decimal (coding_of no_tables Iso2022Jp) Ascii yen_and_pile ≡ yen_and_its_reference)
    × (last_set (coding_of no_tables Iso2022Jp) Ascii yen_and_pile ≡ Roman)
unfolding no_tables digits
written_in_roman = (refl, refl)

-- a set that is in force after a call has its escape among what is written, even if no character is
set_has_its_escape : Puts (coding_of no_tables Iso2022Jp) Ascii [] (0x1B ∷ 0x28 ∷ 0x4A ∷ []) Roman × Puts (coding_of no_tables Iso2022Jp) Ascii [] [] Ascii
unfolding no_tables
set_has_its_escape = (refl, refl)

-- after U+00A5 it is that of ASCII, and none if Roman stays
set_behind_yen : Puts (coding_of no_tables Iso2022Jp) Ascii (0xA5 ∷ []) (0x1B ∷ 0x28 ∷ 0x4A ∷ 0x5C ∷ 0x1B ∷ 0x28 ∷ 0x42 ∷ []) Ascii
    × Puts (coding_of no_tables Iso2022Jp) Ascii (0xA5 ∷ []) (0x1B ∷ 0x28 ∷ 0x4A ∷ 0x5C ∷ []) Roman
unfolding no_tables
set_behind_yen = (refl, refl)

-- The reference begins after 4 bytes: it is written into 14 bytes, of which 10 are kept back, and not into 13.
reaches_into_the_kept : EndsWithReference (coding_of no_tables Iso2022Jp) Ascii yen_and_pile yen_and_its_reference 4
unfolding no_tables digits
reaches_into_the_kept = record { before = 0xA5 ∷ []; lost = 0x1F4A9; is = refl; unmapped = λ h. h; whole = refl; begins = lit≤ tt }

-- U+00A5 U+1F4A9 into 18 bytes, of which 10 are kept back: the reference reaches into those, and ends the call. The
-- last call has still to write the escape to ASCII, another has nothing more to write.
state : EscapeState → EncoderState
state s = record { tables = no_tables; encoding = Iso2022Jp; set = s }

only_pile_is_lost : (before : List ℕ) (c : ℕ) (after : List ℕ) → yen_and_pile ≡ before ++ c ∷ after → ¬ (IsMapped ((coding_of no_tables Iso2022Jp).form c)) → after ≡ []
unfolding no_tables
only_pile_is_lost [] c after is lost = let same : 0xA5
    ≡ c = cc is in absurd (lost (subst (λ (d : ℕ). IsMapped ((coding_of no_tables Iso2022Jp).form d)) same tt))
only_pile_is_lost (x ∷ []) c after is lost = cc is
only_pile_is_lost (x ∷ y ∷ []) c after is lost = absurd (cc is)
only_pile_is_lost (x ∷ y ∷ z ∷ before) c after is lost = absurd (cc is)

last_call_into_18 : Replaces (state Ascii) true CoderResult.OutputFull yen_and_pile yen_and_its_reference (state Roman) [] true 18
unfolding no_tables digits state
last_call_into_18 = record {
  same = refl;
  prefix = yen_and_pile;
  split = refl;
  put = refl;
  bytes = refl;
  sets = λ h. absurd (cc h);
  moves = inr (inl (Ascii, 0xA5, refl));
  told = (λ h. lit< tt, λ h. refl);
  ends = inr (refl, λ h. cc);
  full = λ h. lit< tt;
  tight = λ h short. absurd (omega (arith, short));
  kept = λ h. record { before = 0xA5 ∷ []; lost = 0x1F4A9; is = refl; unmapped = λ h. h; whole = refl; begins = lit≤ tt };
  few = λ h. absurd (omega (arith, h));
  stops = λ before c after is lost reached. (only_pile_is_lost before c after is lost, refl);
}

-- ---- wrong outcomes: U+1F4A9 has no bytes in ISO-2022-JP

no_end_of : (c : ℕ) (t : List ℕ) → c ∷ t ≡ [] → ⊥
no_end_of c t none = cc

-- A call that returns `InputEmpty` has read all text: an unread character is refuted.
unread_character_is_no_end : (x x' : EncoderState) (w : List ℕ) (room : ℕ) → Encoded x true InputEmpty (0x41 ∷ []) w x' (0x41 ∷ []) room → ⊥
unread_character_is_no_end x x' w room call = no_end_of 0x41 [] call.codec.ends.0

-- A character without bytes is reported: `InputEmpty` after it is refuted.
all_of_pile : (before next : List ℕ) → 0x1F4A9 ∷ [] ≡ before ++ next → next ≡ [] → AllMapped (coding_of no_tables Iso2022Jp) before → ⊥
unfolding no_tables
all_of_pile [] next split none mapped = cc
all_of_pile (c ∷ before) next split none mapped = let same : c ≡ 0x1F4A9 = cc in subst (λ (d : ℕ). IsMapped ((coding_of no_tables Iso2022Jp).form d)) same mapped.0

lost_character_is_reported : (x' : EncoderState) (w rest : List ℕ) (room : ℕ) → Encoded (state Ascii) true InputEmpty (0x1F4A9 ∷ []) w x' rest room → ⊥
unfolding state
lost_character_is_reported x' w rest room call = all_of_pile call.codec.law.before call.codec.law.next call.codec.law.split call.codec.law.leaves.0 call.codec.law.mapped

-- It is reported as itself: another character is refuted.
reported_of_pile : (before next rest : List ℕ) (c : ℕ) → 0x1F4A9 ∷ [] ≡ before ++ next → next ≡ c ∷ rest → AllMapped (coding_of no_tables Iso2022Jp) before
    → (coding_of no_tables Iso2022Jp).form c ≡ Form.Unmapped 0x41 → ⊥
unfolding no_tables
reported_of_pile [] next rest c split is mapped form = let same : c ≡ 0x1F4A9 = cc in
    other 0x1F4A9 0x41 (subst (λ (d : ℕ). (coding_of no_tables Iso2022Jp).form d ≡ Form.Unmapped 0x41) same form) (omega arith)
  where
    other : (c d : ℕ) → Form.Unmapped c ≡ Form.Unmapped d → d < c → ⊥
    other c d same less = let is : c ≡ d = cc in omega (arith, is, less)
reported_of_pile (d ∷ before) next rest c split is mapped form = let same : d ≡ 0x1F4A9 = cc in subst (λ (d : ℕ). IsMapped ((coding_of no_tables Iso2022Jp).form d)) same mapped.0

other_character_is_not_reported : (last : Bool) (x' : EncoderState) (w rest : List ℕ) (room : ℕ) → Encoded (state Ascii) last (Unmappable 0x41) (0x1F4A9 ∷ []) w x' rest room → ⊥
unfolding state
other_character_is_not_reported last x' w rest room call = let law = call.codec.law in
    reported_of_pile law.before law.next rest law.leaves.0 law.split law.leaves.1 law.mapped law.leaves.2

-- A last call leaves ISO-2022-JP in ASCII: one that ends in Roman, or has not written the escape, is refuted.
last_call_ends_in_ascii : (w : List ℕ) (room : ℕ) → Encoded (state Ascii) true InputEmpty (0xA5 ∷ []) w (state Roman) [] room → ⊥
unfolding state
last_call_ends_in_ascii w room call = let ascii : Roman ≡ Ascii = call.codec.ends.1 refl in cc

last_escape_is_written : (room : ℕ) → Encoded (state Ascii) true InputEmpty (0xA5 ∷ []) (0x1B ∷ 0x28 ∷ 0x4A ∷ 0x5C ∷ []) (state Ascii) [] room → ⊥
unfolding no_tables state
last_escape_is_written room call = omega (arith, ap length call.bytes)

-- A call ends for lack of room only if what comes next does not fit: `OutputFull` is refuted with three free bytes,
-- with two free bytes before `A`, and with nothing left to write.
three_bytes_are_enough : (last : Bool) (t w rest : List ℕ) (x' : EncoderState) → Encoded (state Ascii) last OutputFull t w x' rest 3 → ⊥
unfolding state
three_bytes_are_enough last t w rest x' call = omega (arith, call.codec.ends.0)

letter_fits_into_two_bytes : (last : Bool) (w : List ℕ) → Encoded (state Ascii) last OutputFull (0x41 ∷ []) w (state Ascii) (0x41 ∷ []) 2 → ⊥
unfolding no_tables state
letter_fits_into_two_bytes last w call = by call.codec.tight
  where
    by : (2 < 0) ⊎ ((Ascii ≡ Ascii) × (2 < 1)) → ⊥
    by (inl few) = omega (arith, few)
    by (inr few) = omega (arith, few.1)

nothing_is_left : (t w : List ℕ) (room : ℕ) → Encoded (state Ascii) false OutputFull t w (state Ascii) [] room → ⊥
unfolding state
nothing_is_left t w room call = by call.codec.ends.1
  where
    by : (0 < 0) ⊎ ((false ≡ true) × (Ascii ≢ Ascii)) → ⊥
    by (inl more) = omega (arith, more)
    by (inr never) = never.1 refl

-- With replacement: a reference that is missing, or cut at the end of the buffer, is refuted.
reference_is_written : (size : ℕ) (lost : Bool) → Replaces (state Ascii) true CoderResult.InputEmpty (0x1F4A9 ∷ []) [] (state Ascii) [] lost size → ⊥
unfolding no_tables state digits
reference_is_written size lost call = omega (arith, ap length call.bytes)

reference_is_whole : (lost : Bool) → Replaces (state Ascii) false CoderResult.OutputFull (0x1F4A9 ∷ []) (codes "&#12") (state Ascii) [] lost 14 → ⊥
unfolding no_tables state digits
reference_is_whole lost call = omega (arith, ap length (call.bytes []))

-- A call returns whether it wrote a reference: `false` after one is refuted.
returned_for_pile : (prefix rest : List ℕ) → 0x1F4A9 ∷ [] ≡ prefix ++ rest → rest ≡ [] → (0 < lost_count (coding_of no_tables Iso2022Jp) prefix → IsTrue false) → ⊥
unfolding no_tables
returned_for_pile prefix rest split none told = let same : prefix ≡ 0x1F4A9 ∷ [] = sym (append-nil prefix) ∙ ap (λ l. prefix ++ l) (sym none) ∙ sym split in
    let never : false ≡ true = told (subst (λ (l : List ℕ). 0 < lost_count (coding_of no_tables Iso2022Jp) l) (sym same) (omega arith)) in cc

reference_is_returned : (x' : EncoderState) (w rest : List ℕ) (size : ℕ) → Replaces (state Ascii) true CoderResult.InputEmpty (0x1F4A9 ∷ []) w x' rest false size → ⊥
unfolding state
reference_is_returned x' w rest size call = returned_for_pile call.prefix rest call.split call.ends.0 call.told.1

-- Nothing is written into fewer bytes than are kept back for a reference: `A` into nine is refuted.
nine_bytes_take_nothing : (last lost : Bool) (t rest : List ℕ) (x' : EncoderState) (outcome : CoderResult) → Replaces (state Ascii) last outcome t (0x41 ∷ []) x' rest lost 9 → ⊥
unfolding state
nine_bytes_take_nothing last lost t rest x' outcome call = no_end_of 0x41 [] (call.few (omega arith)).1

-- Only a reference reaches into the kept bytes: `A` in the first of ten is refuted.
last_of : (prefix before rest : List ℕ) (lost : ℕ) → 0x41 ∷ [] ≡ prefix ++ rest → prefix ≡ before ++ lost ∷ [] → lost ≡ 0x41
last_of prefix [] rest lost split is = let whole : 0x41 ∷ [] ≡ lost ∷ rest = split ∙ ap (λ l. l ++ rest) is in cc
last_of prefix (c ∷ []) rest lost split is = let whole : 0x41 ∷ [] ≡ c ∷ lost ∷ rest = split ∙ ap (λ l. l ++ rest) is in absurd (cc)
last_of prefix (c ∷ d ∷ before) rest lost split is = let whole : 0x41 ∷ [] ≡ c ∷ d ∷ ((before ++ lost ∷ []) ++ rest) = split ∙ ap (λ l. l ++ rest) is in absurd (cc)

letter_is_not_among_the_kept : (last lost : Bool) (outcome : CoderResult) (rest : List ℕ) (x' : EncoderState) → Replaces (state Ascii) last outcome (0x41 ∷ []) (0x41 ∷ []) x' rest lost 10 → ⊥
unfolding no_tables state
letter_is_not_among_the_kept last lost outcome rest x' call = let ends = call.kept (omega arith) in
    ends.unmapped (subst (λ (c : ℕ). IsMapped ((coding_of no_tables Iso2022Jp).form c)) (sym (last_of call.prefix ends.before rest ends.lost call.split ends.is)) tt)

-- A last call with replacement leaves ISO-2022-JP in ASCII.
last_call_with_replacement_ends_in_ascii : (t w rest : List ℕ) (lost : Bool) (size : ℕ) → Replaces (state Ascii) true CoderResult.InputEmpty t w (state Roman) rest lost size → ⊥
unfolding state
last_call_with_replacement_ends_in_ascii t w rest lost size call = let ascii : Roman ≡ Ascii = call.ends.1 refl in cc

-- What was read of a text ends between characters: one byte of `é` is refuted.
half_a_character_is_not_read : ReadsText (0xC3 ∷ 0xA9 ∷ []) 1 → ⊥
half_a_character_is_not_read reads = omega (arith, reads.boundary.1 (omega arith) (omega arith))
