-- What was taken while the input goes on is the longest list of items that come first in what is written, whatever bytes
-- follow: of two continuations that decide the next piece otherwise, the next items differ.
use Rattle.std.proofs.Common.{◌≡◌, ◌≢◌, ◌⊎◌, ℕ, zero, suc, ◌+◌, ◌<◌, ◌≤◌, List, [], ◌∷◌, ◌++◌, length, drop, refl, sym, ◌∙◌, ap, subst, arith, append-nil, append_assoc, length-append, map, true, inl, inr, Option, Some, None}
use Rattle.std.proofs.Math.Seq.{drop-length}
use Rattle.std.proofs.lemmas.List.{append_cancel_left, drop-append-le, nil_from_length}
use Rattle.encoding_mem.specs.Coding.{Coding, last_set}
use Rattle.encoding_mem.specs.Decided.{AreBytes}
use Rattle.encoding_mem.specs.Items.{Byte, Item, LostAt, MalformedAt, closing, open_items}
use Rattle.encoding_mem.specs.Piece.{ArePieces, Piece, head_piece, malformed, sizes, text, well_formed}
use Rattle.encoding_mem.specs.declared.codec.form.EscapeState.{EscapeState}
use Rattle.encoding_mem.specs.declared.codec.form.EscapeState.TheVariants.{Ascii}
use Rattle.encoding_mem.specs.declared.codec.reference.Reference.{Reference}
use Rattle.encoding_mem.specs.laws.EncoderCalls.{last_set-append}
use Rattle.encoding_front.specs.Encodings.{is_ascii_compatible_of, output_encoding_of, pieces_of}
use Rattle.encoding_front.specs.laws.Parts.{one_set_for}
use Rattle.encoding_front.specs.Marks.{mark_piece, pieces_from, source_of}
use Rattle.encoding_front.specs.declared.encoding.Encoding.{Encoding}
use Rattle.encoding_front.specs.laws.Encodings.{are_pieces_of}
use Rattle.encoding_front.specs.laws.Input.{source_fits, whole_of}
use Rattle.recode.specs.Devices.{Devices}
use Rattle.recode.specs.Job.{IsValidJob, input_pieces, target_of, trace}
use Rattle.recode.specs.Latency.{HasReached, TookCertain, open_trace}
use Rattle.recode.specs.Policy.{reference_form, up_to_loss, written_under}
use Rattle.recode.specs.State.{State}
use Rattle.recode.specs.Step.{IsNearlyDecided}
use Rattle.recode.specs.TaggedByte.{IsPrefix, TaggedByte, tagged}
use Rattle.recode.specs.WrittenItems.{IsSpared, bad_line_count}
use Rattle.recode.specs.declared.job.Job.{Job}
use Rattle.recode.specs.declared.job.Policy.{Policy}
use Rattle.recode.specs.laws.Items.{bad_line_count-open, written_spared}
use Rattle.recode.proofs.LatencyLemmas.{items_from, items_of, no_pieces, open_trace_is, trace_closes}
use Rattle.recode.proofs.TraceLemmas.{written_front}
use Rattle.encoding_front.specs.laws.Stable.{IsAllMark, source_or_mark, stable_of}

-- Of two prefixes of one list one is a prefix of the other.
pub prefixes_of : {X : Type 0} (a b c d : List X) → a ++ b ≡ c ++ d → IsPrefix c a ⊎ ((p : X) × (more : List X) × (c ≡ a ++ (p ∷ more)) × (b ≡ p ∷ (more ++ d)))
prefixes_of [] b [] d e = inl ([], refl)
prefixes_of [] b (p ∷ c) d e = inr (p, c, refl, e)
prefixes_of (q ∷ a) b [] d e = inl (q ∷ a, refl)
prefixes_of (q ∷ a) b (p ∷ c) d e =
    let same : q ≡ p = cc in
    let tails : a ++ b ≡ c ++ d = cc in
    elim (prefixes_of a b c d tails) [
      | inl f ↦ inl (f.0, ap (λ x. x ∷ a) same ∙ ap (λ l. p ∷ l) f.1)
      | inr m ↦ inr (m.0, m.1, ap (λ l. p ∷ l) m.2 ∙ ap (λ x. x ∷ (a ++ (m.0 ∷ m.1))) (sym same), m.3)
    ]

-- the first of some items
abbrev first_item : List Item → Option Item
first_item [] = None
first_item (x ∷ s) = Some x

-- a policy keeps it
first_cut : (s : List Item) (it : Item) (z : List Item) → up_to_loss s ≡ it ∷ z → first_item s ≡ Some it
first_cut [] it z h = absurd (cc)
first_cut (LostAt i c ∷ s) it z h = let is : LostAt i c ≡ it = cc in ap Some is
first_cut (Byte b ∷ s) it z h = let is : Byte b ≡ it = cc in ap Some is
first_cut (MalformedAt o n ∷ s) it z h = let is : MalformedAt o n ≡ it = cc in ap Some is

first_under : (p : Policy) (s : List Item) (it : Item) (z : List Item) → written_under p s ≡ it ∷ z → first_item s ≡ Some it
first_under Policy.Stop s it z h = first_cut s it z h
first_under _ s it z h = ap first_item h

none_under : (p : Policy) → written_under p [] ≡ []
none_under Policy.Stop = refl
none_under _ = refl

-- the items of pieces in a row
items_join : (ref : Reference) (e : Coding) (s : EscapeState) (offset i : ℕ) (s1 : EscapeState) (offset1 i1 : ℕ) (ps qs : List Piece) → s1 ≡ last_set e s (text ps) → offset1 ≡ offset + sizes ps → i1 ≡ i + length (text ps)
    → items_from ref e s offset i (ps ++ qs) ≡ items_from ref e s offset i ps ++ items_from ref e s1 offset1 i1 qs
items_join ref e s offset i s1 offset1 i1 [] qs set_is offset_is index_is =
    let at : offset1 ≡ offset = omega (arith, offset_is) in
    let index : i1 ≡ i = omega (arith, index_is) in
    rw (set_is, at, index) refl
items_join ref e s offset i s1 offset1 i1 (well_formed n cs ∷ ps) qs set_is offset_is index_is =
    let s2 = last_set e s cs in
    let rest = items_join ref e s2 (offset + n) (i + length cs) s1 offset1 i1 ps qs (set_is ∙ last_set-append e s cs (text ps)) (omega (arith, offset_is)) (omega (arith, index_is, length-append cs (text ps))) in
    ap (λ l. open_items ref e s i cs ++ l) rest ∙ sym (append_assoc (open_items ref e s i cs) (items_from ref e s2 (offset + n) (i + length cs) ps) (items_from ref e s1 offset1 i1 qs))
items_join ref e s offset i s1 offset1 i1 (malformed n ∷ ps) qs set_is offset_is index_is =
    let s2 = e.set s 0xFFFD in
    let own = open_items ref e s i (0xFFFD ∷ []) in
    let rest = items_join ref e s2 (offset + n) (i + 1) s1 offset1 i1 ps qs set_is (omega (arith, offset_is)) (omega (arith, index_is)) in
    ap (λ l. MalformedAt offset n ∷ (own ++ l)) rest ∙ ap (λ l. MalformedAt offset n ∷ l) (sym (append_assoc own (items_from ref e s2 (offset + n) (i + 1) ps) (items_from ref e s1 offset1 i1 qs)))

-- a line of a malformed sequence that comes first is at the offset, or behind it
past_open : (own rest : List Item) (k n : ℕ) → bad_line_count own ≡ 0 → first_item (own ++ rest) ≡ Some (MalformedAt k n) → first_item rest ≡ Some (MalformedAt k n)
past_open [] rest k n h is = is
past_open (Byte b ∷ own) rest k n h is = absurd (cc)
past_open (LostAt i c ∷ own) rest k n h is = absurd (cc)
past_open (MalformedAt o m ∷ own) rest k n h is = absurd (omega (arith, h))

first_at : (ref : Reference) (e : Coding) (s : EscapeState) (offset i : ℕ) (ps : List Piece) (k n : ℕ) → first_item (items_from ref e s offset i ps) ≡ Some (MalformedAt k n) → offset ≤ k
first_at ref e s offset i [] k n is = absurd (cc)
first_at ref e s offset i (well_formed m cs ∷ ps) k n is =
    let rest = items_from ref e (last_set e s cs) (offset + m) (i + length cs) ps in
    omega (arith, first_at ref e (last_set e s cs) (offset + m) (i + length cs) ps k n (past_open (open_items ref e s i cs) rest k n (bad_line_count-open ref e s i cs) is))
first_at ref e s offset i (malformed m ∷ ps) k n is = let same : offset ≡ k = cc in omega (arith, same)

-- so a well-formed piece and a malformed one have no first item in common
never_both : (ref : Reference) (e : Coding) (s : EscapeState) (offset i : ℕ) (n m : ℕ) (cs : List ℕ) (A : List Piece) → 0 < m
    → first_item (items_from ref e s offset i (well_formed m cs ∷ A)) ≡ Some (MalformedAt offset n) → ⊥
never_both ref e s offset i n m cs A some is =
    let rest = items_from ref e (last_set e s cs) (offset + m) (i + length cs) A in
    omega (arith, some, first_at ref e (last_set e s cs) (offset + m) (i + length cs) A offset n (past_open (open_items ref e s i cs) rest offset n (bad_line_count-open ref e s i cs) is))

-- a mark has no items
no_items : (ref : Reference) (e : Coding) (s : EscapeState) (offset i n : ℕ) → items_from ref e s offset i (mark_piece n) ≡ []
no_items ref e s offset i zero = refl
no_items ref e s offset i (suc n) = refl

-- what is certain, beside the trace
pub trace_begins : (j : Job) (x : List ℕ) → IsPrefix (open_trace j x) (trace j x)
trace_begins j x =
    let all = trace_closes (reference_form j.policy) (target_of j) Ascii 0 0 (input_pieces j x) in
    let front = written_front j.policy (items_of j (input_pieces j x)) (closing (target_of j) (last_set (target_of j) Ascii (text (input_pieces j x)))) in
    (front.0, ap (written_under j.policy) all ∙ front.1 ∙ ap (λ l. l ++ front.0) (sym (open_trace_is j x)))

pub same_in_one_set : (j : Job) (x : List ℕ) → is_ascii_compatible_of (output_encoding_of j.to) ≡ true → open_trace j x ≡ trace j x
same_in_one_set j x ascii =
    let items : List Item = items_of j (input_pieces j x) in
    let none : closing (target_of j) (last_set (target_of j) Ascii (text (input_pieces j x))) ≡ [] = ap (map Byte) ((one_set_for j.tables.now j.to ascii).escape (last_set (target_of j) Ascii (text (input_pieces j x))) Ascii) in
    open_trace_is j x ∙ sym (ap (written_under j.policy) (trace_closes (reference_form j.policy) (target_of j) Ascii 0 0 (input_pieces j x) ∙ ap (λ l. items ++ l) none ∙ append-nil items))

-- where a conversion has come
module _ (t t1 : Devices) (j : Job) (s : State) (x : List ℕ) (ps : List Piece) (valid : IsValidJob j) (k : HasReached t t1 j s x ps) (settled : IsNearlyDecided s.decoder) where
  -- the items of the pieces that come next
  abbrev next_items : List Piece → List Item
  next_items qs = items_from (reference_form j.policy) (target_of j) (last_set (target_of j) Ascii (text ps)) (sizes ps) (length (text ps)) qs

  opens : (spared : IsSpared j.policy (items_of j ps)) (r : List ℕ) → open_trace j (x ++ r) ≡ items_of j ps ++ written_under j.policy (next_items (s.decoder.pieces r))
  opens spared r =
      open_trace_is j (x ++ r)
      ∙ ap (λ qs. written_under j.policy (items_of j qs)) (k.pieces r)
      ∙ ap (written_under j.policy) (items_join (reference_form j.policy) (target_of j) Ascii 0 0 (last_set (target_of j) Ascii (text ps)) (sizes ps) (length (text ps)) ps (s.decoder.pieces r) refl (omega arith) (omega arith))
      ∙ written_spared j.policy (items_of j ps) (next_items (s.decoder.pieces r)) spared

  -- if some bytes make all of the input a mark, nothing is certain
  none_at_mark : (r : List ℕ) → IsAllMark j.mark j.from (x ++ r) → open_trace j (x ++ r) ≡ []
  none_at_mark r m =
      let y = x ++ r in
      let none : pieces_of j.tables.now m.of (drop (length y) y) ≡ [] =
      ap (pieces_of j.tables.now m.of) (drop-length y) ∙ no_pieces (pieces_of j.tables.now m.of []) (are_pieces_of j.tables.now m.of valid.tables []) (omega (arith, whole_of j.tables.now m.of valid.tables [])) in
      let is : input_pieces j y ≡ mark_piece (length y) =
      ap (λ (q : Encoding × ℕ). pieces_from j.tables.now q y) m.is ∙ ap (λ qs. mark_piece (length y) ++ qs) none ∙ append-nil (mark_piece (length y)) in
      open_trace_is j y ∙ ap (λ qs. written_under j.policy (items_of j qs)) is ∙ ap (written_under j.policy) (no_items (reference_form j.policy) (target_of j) Ascii 0 0 (length y)) ∙ none_under j.policy

  module _ (same : (w : List ℕ) → source_of j.mark j.from (x ++ w) ≡ source_of j.mark j.from x) where
    -- what is well-formed next is so, whatever follows
    same_next : (w : List ℕ) (n m : ℕ) (cs ds : List ℕ) (A B : List Piece) → s.decoder.pieces [] ≡ well_formed n cs ∷ A → s.decoder.pieces w ≡ well_formed m ds ∷ B → well_formed m ds ≡ well_formed n cs
    same_next w n m cs ds A B ea eb =
        let o = source_of j.mark j.from x in
        let rest : drop o.1 (x ++ w) ≡ drop o.1 x ++ w = drop-append-le o.1 x w (source_fits j.mark j.from x) in
        stable_of j.tables.now o.0 o.1 valid.tables ps (drop o.1 x) w (well_formed n cs) (well_formed m ds) A B tt tt
        (ap (input_pieces j) (sym (append-nil x)) ∙ k.pieces [] ∙ ap (λ q. ps ++ q) ea)
        (ap (λ l. mark_piece o.1 ++ pieces_of j.tables.now o.0 l) (sym rest) ∙ ap (λ (q : Encoding × ℕ). pieces_from j.tables.now q (x ++ w)) (sym (same w)) ∙ k.pieces w ∙ ap (λ q. ps ++ q) eb)

    -- no item comes first behind what was taken, whatever follows
    differ : (it : Item) (w : List ℕ) (A B : List Piece) → s.decoder.pieces [] ≡ A → s.decoder.pieces w ≡ B → head_piece (s.decoder.pieces []) ≢ head_piece (s.decoder.pieces w)
        → first_item (next_items A) ≡ Some it → first_item (next_items B) ≡ Some it → ⊥
    differ it w [] B ea eb other one two = cc
    differ it w (p ∷ A) [] ea eb other one two = cc
    differ it w (malformed n ∷ A) (malformed m ∷ B) ea eb other one two =
        let is : n ≡ m = cc in
        other (ap head_piece ea ∙ ap (λ l. Some (malformed l)) is ∙ sym (ap head_piece eb))
    differ it w (malformed n ∷ A) (well_formed m ds ∷ B) ea eb other one two =
        never_both (reference_form j.policy) (target_of j) (last_set (target_of j) Ascii (text ps)) (sizes ps) (length (text ps)) n m ds B (subst ArePieces eb (s.decoder.are_pieces w)).0.some (two ∙ sym one)
    differ it w (well_formed n cs ∷ A) (malformed m ∷ B) ea eb other one two =
        never_both (reference_form j.policy) (target_of j) (last_set (target_of j) Ascii (text ps)) (sizes ps) (length (text ps)) m n cs A (subst ArePieces ea (s.decoder.are_pieces [])).0.some (one ∙ sym two)
    differ it w (well_formed n cs ∷ A) (well_formed m ds ∷ B) ea eb other one two =
        other (ap head_piece ea ∙ ap Some (sym (same_next w n m cs ds A B ea eb)) ∙ sym (ap head_piece eb))

    none_next : (it : Item) → ((r : List ℕ) → AreBytes r → first_item (next_items (s.decoder.pieces r)) ≡ Some it) → ⊥
    none_next it h = elim settled [
      | inl none ↦ let never : None ≡ Some it = ap (λ qs. first_item (next_items qs)) (sym none.1) ∙ h [] tt in cc
      | inr waits ↦ differ it waits.undecided.more (s.decoder.pieces []) (s.decoder.pieces waits.undecided.more) refl refl waits.undecided.differs (h [] tt) (h waits.undecided.more waits.undecided.bytes)
    ]

  pub certain : (taken : List TaggedByte) → IsSpared j.policy (items_of j ps) → taken ≡ tagged (items_of j ps) → TookCertain j x taken
  certain taken spared whole = record {
    items = items_of j ps;
    first = λ r bytes. (written_under j.policy (next_items (s.decoder.pieces r)), opens spared r);
    longest = λ more c. elim (source_or_mark j.mark j.from x) [
      | inr m ↦
          let d = c m.0 m.1 in
          let none : [] ≡ more ++ d.0 = sym (none_at_mark m.0 m.2) ∙ d.1 in
          subst (λ l. IsPrefix l (items_of j ps)) (sym (nil_from_length more (omega (arith, ap length none, length-append more d.0)))) (items_of j ps, refl)
      | inl same ↦
          let d = c [] tt in
          elim (prefixes_of (items_of j ps) (written_under j.policy (next_items (s.decoder.pieces []))) more d.0 (sym (opens spared []) ∙ d.1)) [
            | inl f ↦ f
            | inr m ↦ absurd (none_next same m.0 (λ r bytes.
                let f = c r bytes in
                first_under j.policy (next_items (s.decoder.pieces r)) m.0 (m.1 ++ f.0)
                (append_cancel_left (items_of j ps) (written_under j.policy (next_items (s.decoder.pieces r))) (m.0 ∷ (m.1 ++ f.0)) (sym (opens spared r) ∙ f.1 ∙ ap (λ l. l ++ f.0) m.2 ∙ append_assoc (items_of j ps) (m.0 ∷ m.1) f.0))))
          ]
    ];
    whole = whole;
  }
