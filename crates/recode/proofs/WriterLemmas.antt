-- Buffers and writers that are lent and given back. How bytes and lines are passed on after what is held, and
-- what is left if a writer failed. How what the writers' functions promise is put together.
use Rattle.std.proofs.Common.{◌≡◌, ◌∙◌, ℕ, Option, None, Result, Ok, Err, OnOk, IfErr, ap, arith, refl, sym, take, Some, ◌≤◌, ◌<◌, ◌+◌, ◌-◌, List, [], ◌∷◌, ◌++◌, map, drop, length, OnErr, IsErrAnd, Bool, true, subst, append_assoc, append-nil, take-add, rules}
use Rattle.recode.specs.calls.Buffers.{AreEnough, KeepSizes, KeepsRoom, HoldsAnyCharacter, capacity, is_wide}
use Rattle.recode.specs.calls.Lent.{AreLent, KeepsLent}
use Rattle.recode.specs.calls.Writers.{AreReady, AreTheSame, HandsOn, HandsOnIf, HandsOnUnder, HoldNothing, TellWhatTaken, Writers, writers_view, written_by}
use Rattle.recode.specs.calls.Held.{holding_none, LeavesPrefix, LeavesPrefixFor, Passes, PassesBytes, WritersView, held_items, held_line_bytes, item_of, line_items, log_line_of}
use Rattle.recode.specs.declared.job.Buffers.{Buffers}
use Rattle.recode.specs.declared.job.Pivot.{Pivot}
use Rattle.recode.specs.declared.job.Pivot.TheVariants.{Utf8, Utf16}
use Rattle.recode.specs.declared.writers.MalformedLine.{MalformedLine}
use Rattle.encoding_mem.specs.declared.codec.reference.Reference.{Reference}
use Rattle.recode.specs.Policy.{reference_form, reference_of, written_under}
use Rattle.recode.specs.declared.job.Policy.{Policy}
use Rattle.std.proofs.lemmas.List.{map-append}
use Rattle.std.proofs.lemmas.Slice.{take-put_mid_below}
use borrow.Rule.Slice.PartMut.{put_mid}
use Rattle.encoding_mem.specs.Items.{Item, Byte, LostAt}
use Rattle.recode_log.specs.Line.{line_bytes}
use Rattle.recode_log.specs.declared.line.LogLine.{LogLine}
use Rattle.recode_log.specs.declared.line.LogLine.TheVariants.{Bad, Lost}
use Rattle.recode.specs.Devices.{Grew, Written, Wrote}
use Rattle.recode.specs.TaggedByte.{Line, Out, tagged, tagged_item}
use Rattle.recode.specs.WrittenItems.{IsSpared, WritesPrefix, lost_line_count}
use Rattle.recode.specs.declared.job.Fault.{Fault}
use Rattle.recode.specs.declared.job.Fault.TheVariants.{Write, Log, Unmappable}
use Rattle.recode.specs.laws.Items.{lost_line_count-append, lost_line_count-bytes, tagged-append, written_spared, spared_nil}
use Rattle.recode.proofs.TraceLemmas.{WritesPrefixFor-of, Wrote-nil, Wrote-trans, left_behind, under_bytes, under_lines, written_first, wrote_bytes}
use Rattle.recode_log.specs.Counted.{inner_of, passed_of}
use Rattle.recode.proofs.TurnLemmas.{last_is, size_into}
use Rattle.recode_log.specs.laws.Counts.{counts_none, counts_then}
use Rattle.recode.proofs.OrderLemmas.{writes_none, writes_then}
use Rattle.recode_log.specs.laws.Told.{taken_none, taken_then}

-- ---- results

pub ok_map : {T E A B : Type 0} (r : Result T E) → OnOk r A → (A → B) → OnOk r B
ok_map (Ok x) k f = f k
ok_map (Err e) k f = tt

pub err_map : {T E : Type 0} {P Q : E → Type 0} (r : Result T E) → IfErr r P → ((e : E) → P e → Q e) → IfErr r Q
err_map (Ok x) h f = tt
err_map (Err e) h f = f e h

-- ---- buffers and writers that are lent and given back

pub kept_start : (b : Buffers) → KeepSizes b b
kept_start b = record { input = refl; pivot = refl; pivot_kind = refl; output = refl; check = refl; check_kind = refl }

pub kept_on : (a b c : Buffers) → KeepSizes a b → KeepSizes b c → KeepSizes a c
kept_on a b c p q = search rules

holds_still : (p q : Pivot) → HoldsAnyCharacter p → capacity q ≡ capacity p → is_wide q ≡ is_wide p → HoldsAnyCharacter q
holds_still (Utf8 a) (Utf8 b) h size kind = omega (arith, h, size)
holds_still (Utf16 a) (Utf16 b) h size kind = omega (arith, h, size)
holds_still _ _ h size kind = absurd (cc)

pub room_start : (p : Pivot) → HoldsAnyCharacter p → KeepsRoom p p
room_start p h = record { roomy = h; kind = refl; size = refl }

pub room_on : {p q r : Pivot} → KeepsRoom p q → KeepsRoom q r → KeepsRoom p r
room_on h k = record { roomy = k.roomy; kind = k.kind ∙ h.kind; size = k.size ∙ h.size }

pub lent_start : (p c : Pivot) → AreLent p c → KeepsLent p c p c
lent_start p c lent = record { pivot = room_start p lent.pivot; check = room_start c lent.check }

pub lent_on : {p c p1 c1 p2 c2 : Pivot} → KeepsLent p c p1 c1 → KeepsLent p1 c1 p2 c2 → KeepsLent p c p2 c2
lent_on h k = record { pivot = room_on h.pivot k.pivot; check = room_on h.check k.check }

pub kept_enough : (b c : Buffers) → AreEnough b → KeepSizes b c → AreEnough c
kept_enough b c e k = search (rules, arith, holds_still)

pub same_start : {R W L : Type 0} (a : Writers R W L) → AreReady a → AreTheSame a a
same_start a ready = record { room = refl; within = ready.within; line = ready.line }

pub same_on : {R W L : Type 0} {a b c : Writers R W L} → AreTheSame a b → AreTheSame b c → AreTheSame a c
same_on p q = record { room = q.room ∙ p.room; within = q.within; line = q.line }

-- writers for which nothing is held
pub view_none : {R W L : Type 0} (a : Writers R W L) → HoldNothing a → writers_view a ≡ holding_none (written_by a)
view_none a h =
    ap (λ (line : Option MalformedLine). record { written = written_by a; line = line; bytes = take a.held a.buffer }) h.line
    ∙ ap (λ (n : ℕ). record { written = written_by a; line = None; bytes = take n a.buffer }) h.bytes

-- a policy that writes no reference stops, and another writes one of its form
pub form_of : (p : Policy) → (reference_of p ≡ None → p ≡ Policy.Stop) × ((ref : Reference) → reference_of p ≡ Some ref → ref ≡ reference_form p)
form_of Policy.Stop = (λ h. refl, λ ref h. absurd cc)
form_of _ = (λ h. absurd cc, λ ref h. cc)

-- ---- items in a row

pub passes_then : (w w' w'' : WritersView) (a b : List Item) → Passes w w' a → Passes w' w'' b → Passes w w'' (a ++ b)
passes_then w w' w'' a b h k = record {
  delivered = h.delivered ++ k.delivered;
  wrote = subst (Wrote w.written w''.written) (sym (tagged-append h.delivered k.delivered)) (Wrote-trans w.written w'.written w''.written _ _ h.wrote k.wrote);
  in_order = sym (append_assoc (held_items w) a b) ∙ ap (λ x. x ++ b) h.in_order ∙ append_assoc h.delivered (held_items w') b ∙ ap (λ x. h.delivered ++ x) k.in_order
      ∙ sym (append_assoc h.delivered k.delivered (held_items w''));
}

-- what was still to be written, before and after items were passed
still_owed : (w w' : WritersView) (passed a b : List Item) (h : Passes w w' passed) → a ≡ passed ++ b → held_items w ++ a ≡ h.delivered ++ (held_items w' ++ b)
still_owed w w' passed a b h e = ap (λ x. held_items w ++ x) e ∙ sym (append_assoc (held_items w) passed b) ∙ ap (λ x. x ++ b) h.in_order ∙ append_assoc h.delivered (held_items w') b

-- no line of a lost character is held
line_spared : (line : Option MalformedLine) (bytes : List ℕ) → lost_line_count (line_items line ++ map Byte bytes) ≡ 0
line_spared None bytes = lost_line_count-bytes bytes
line_spared (Some line) bytes = lost_line_count-bytes bytes

held_spared : (w : WritersView) → lost_line_count (held_items w) ≡ 0
held_spared w = line_spared w.line w.bytes

-- so none was delivered, if none was passed
delivered_spared : (w w' : WritersView) (p : Policy) (passed : List Item) (h : Passes w w' passed) → IsSpared p passed → IsSpared p h.delivered
delivered_spared w w' p passed h spared stops =
    omega (arith, spared stops, held_spared w, ap lost_line_count h.in_order, lost_line_count-append (held_items w) passed, lost_line_count-append h.delivered (held_items w'))

pub left_after : (w w' : WritersView) (v : Written) (p : Policy) (f : Fault) (passed a b : List Item) → Passes w w' passed → IsSpared p passed → a ≡ passed ++ b → WritesPrefix w'.written v p f (held_items w' ++ b) → WritesPrefix w.written v p f (held_items w ++ a)
left_after w w' v p f passed a b h spared e k = record {
  taken = tagged h.delivered ++ k.taken;
  wrote = Wrote-trans w.written w'.written v _ _ h.wrote k.wrote;
  left = left_behind p f h.delivered k.taken (held_items w ++ a) (held_items w' ++ b) (delivered_spared w w' p passed h spared) (still_owed w w' passed a b h e) k.left;
}

-- ---- for every continuation

pub left_for_of : (w w' : WritersView) (p : Policy) (f : Fault) (last : Bool) (total : List Item) (a : List ℕ → List Item) → LeavesPrefix w w' p f total
    → ((r : List ℕ) → (last ≡ true → r ≡ []) → (rest : List Item) × (a r ≡ total ++ rest)) → LeavesPrefixFor w w' p f last a
left_for_of w w' p f last total a h e = WritesPrefixFor-of w.written w'.written p f last (held_items w ++ total) (λ r. held_items w ++ a r) h
    (λ r none. let m = e r none in (m.0, ap (λ x. held_items w ++ x) m.1 ∙ sym (append_assoc (held_items w) total m.0)))

-- ---- bytes

-- a line that is held, as tagged bytes
line_is : (line : LogLine) → tagged_item (item_of line) ≡ map Line (line_bytes line)
line_is (Bad offset size) = refl
line_is (Lost index scalar) = refl

held_line_is : (line : Option MalformedLine) → tagged (line_items line) ≡ map Line (held_line_bytes line)
held_line_is None = refl
held_line_is (Some line) = append-nil (tagged_item (item_of (log_line_of line))) ∙ line_is (log_line_of line)

-- the line that is held is written
pub delivers_line : (w w' : Written) (line : Option MalformedLine) (bytes : List ℕ) → Wrote w w' (map Line (held_line_bytes line))
    → Passes (record { written = w; line = line; bytes = bytes }) (record { written = w'; line = None; bytes = bytes }) []
delivers_line w w' line bytes told = record {
  delivered = line_items line;
  wrote = rw (held_line_is line) told;
  in_order = append-nil (line_items line ++ map Byte bytes);
}

-- then the bytes
pub delivers : (w w' : Written) (held held' : List ℕ) → Wrote w w' (map Out held) → held' ≡ []
    → Passes (record { written = w; line = None; bytes = held }) (record { written = w'; line = None; bytes = held' }) []
delivers w w' held held' h none = record { delivered = map Byte held; wrote = wrote_bytes w w' held h; in_order = ap (λ x. map Byte held ++ map Byte x) (sym none) }

-- bytes are held
pub holds : (w : Written) (line : Option MalformedLine) (held held' bytes : List ℕ) → held' ≡ held ++ bytes
    → PassesBytes (record { written = w; line = line; bytes = held }) (record { written = w; line = line; bytes = held' }) bytes
holds w line held held' bytes e = record {
  delivered = [];
  wrote = Wrote-nil w;
  in_order = append_assoc (line_items line) (map Byte held) (map Byte bytes) ∙ ap (λ x. line_items line ++ x) (sym (map-append Byte held bytes) ∙ ap (map Byte) (sym e));
}

-- bytes at the start of the room after those that are held
pub holds_behind : (w : Written) (line : Option MalformedLine) (n m : ℕ) (buffer room : List ℕ) → n ≤ length buffer
    → PassesBytes (record { written = w; line = line; bytes = take n buffer }) (record { written = w; line = line; bytes = take (n + m) (put_mid n (length buffer - n) buffer room) }) (take m (drop ((n + m) - m) (put_mid n (length buffer - n) buffer room)))
holds_behind w line n m buffer room within =
    let after = put_mid n (length buffer - n) buffer room in
    let at : n ≡ (n + m) - m = omega arith in
    holds w line (take n buffer) (take (n + m) after) (take m (drop ((n + m) - m) after))
    (take-add n m after ∙ ap (λ k. take n after ++ take m (drop k after)) at ∙ ap (λ x. x ++ take m (drop ((n + m) - m) after)) (take-put_mid_below n (length buffer - n) buffer room n (omega arith) within))

-- bytes that were not held are written, if nothing is held
pub delivers_more : (w w' : Written) (line : Option MalformedLine) (held held' bytes : List ℕ) → line ≡ None → held ≡ [] → held' ≡ [] → Wrote w w' (map Out bytes)
    → PassesBytes (record { written = w; line = line; bytes = held }) (record { written = w'; line = line; bytes = held' }) bytes
delivers_more w w' line held held' bytes no_line none none' h =
    rw (no_line, none, none') (record { delivered = map Byte bytes; wrote = wrote_bytes w w' bytes h; in_order = sym (append-nil (map Byte bytes)) })

-- ---- lines

-- a line is held, if nothing is
pub holds_line : (w : Written) (line : Option MalformedLine) (held : List ℕ) (bad : MalformedLine) → line ≡ None → held ≡ []
    → Passes (record { written = w; line = line; bytes = held }) (record { written = w; line = Some bad; bytes = held }) (item_of (log_line_of bad) ∷ [])
holds_line w line held bad no_line none = rw (no_line, none) (record { delivered = []; wrote = Wrote-nil w; in_order = refl })

-- The line that is held, and another after it with no bytes between them, as tagged bytes.
two_lines_are : (held : Option MalformedLine) (line : LogLine) (lines : List ℕ) → lines ≡ held_line_bytes held ++ line_bytes line → tagged (line_items held ++ (item_of line ∷ [])) ≡ map Line lines
two_lines_are held line lines e =
    tagged-append (line_items held) (item_of line ∷ [])
    ∙ rw (e, map-append Line (held_line_bytes held) (line_bytes line), held_line_is held, append-nil (tagged_item (item_of line)), line_is line) refl

pub writes_lines : (w w' : Written) (held : Option MalformedLine) (bytes lines : List ℕ) (line : LogLine) → bytes ≡ [] → lines ≡ held_line_bytes held ++ line_bytes line → Wrote w w' (map Line lines)
    → Passes (record { written = w; line = held; bytes = bytes }) (record { written = w'; line = None; bytes = bytes }) (item_of line ∷ [])
writes_lines w w' held bytes lines line none is told = record {
  delivered = line_items held ++ (item_of line ∷ []);
  wrote = rw (two_lines_are held line lines is) told;
  in_order = rw (none, append-nil (line_items held)) (sym (append-nil (line_items held ++ (item_of line ∷ []))));
}

-- ---- if a writer failed

on_err : {T E A : Type 0} {P Q : E → Type 0} (r : Result T E) → IfErr r P → OnErr r A → ((e : E) → P e → A → Q e) → IfErr r Q
on_err (Ok x) is k f = tt
on_err (Err e) is k f = f e is k

-- what is held of nothing
pub none_held : (n : ℕ) (buffer : List ℕ) → n ≡ 0 → take n buffer ≡ []
none_held n buffer e = ap (λ k. take k buffer) e

-- A part of the line that is held.
module _ {T : Type 0} (r : Result T Fault) (w w' : Written) (to : (bs : List ℕ) → Grew w.log w'.log bs → Wrote w w' (map Line bs)) (line : Option MalformedLine) (held bytes : List ℕ) (failures failures' : ℕ) (is : bytes ≡ held_line_bytes line) where
  pub line_part : (Y : ℕ → Type 0) (p : Policy) → IfErr r (λ (g : Fault). g ≡ Log) → OnErr r ((n : ℕ) × (n < length bytes) × Y n × (failures' ≡ failures + 1) × Grew w.log w'.log (take n bytes))
      → IfErr r (λ (g : Fault). (to_write : List Item) → WritesPrefix w w' p g ((line_items line ++ map Byte held) ++ to_write))
  line_part Y p is_log k = on_err r is_log k (λ g same q to_write.
      let e : (line_items line ++ map Byte held) ++ to_write ≡ line_items line ++ (map Byte held ++ to_write) = append_assoc (line_items line) (map Byte held) to_write in
      let spared : lost_line_count (line_items line) ≡ 0 = ap lost_line_count (sym (append-nil (line_items line))) ∙ line_spared line [] in
      under_lines w w' p g bytes q.0 (line_items line) _ (written_under p (map Byte held ++ to_write)) same (held_line_is line ∙ ap (map Line) (sym is)) (ap (written_under p) e ∙ written_spared p (line_items line) _ (λ stops. spared)) (to (take q.0 bytes) q.4))

-- A part of the line that is held and of one after it: no bytes are held.
module _ {T : Type 0} (r : Result T Fault) (w w' : Written) (to : (bs : List ℕ) → Grew w.log w'.log bs → Wrote w w' (map Line bs)) (held : Option MalformedLine) (bytes lines : List ℕ) (line : LogLine) (failures failures' : ℕ) (none : bytes ≡ []) (is : lines ≡ held_line_bytes held ++ line_bytes line) where
  pub lines_part : (Y : ℕ → Type 0) (p : Policy) → IfErr r (λ (g : Fault). g ≡ Log) → OnErr r ((n : ℕ) × (n < length lines) × Y n × (failures' ≡ failures + 1) × Grew w.log w'.log (take n lines))
      → IfErr r (λ (g : Fault). (more : List Item) → WritesPrefix w w' p g ((line_items held ++ map Byte bytes) ++ (item_of line ∷ more)))
  lines_part Y p is_log k = on_err r is_log k (λ g same q more.
      let first = written_first p (item_of line) more in
      let e : (line_items held ++ map Byte bytes) ++ (item_of line ∷ more) ≡ line_items held ++ (item_of line ∷ more) = ap (λ x. (line_items held ++ map Byte x) ++ (item_of line ∷ more)) none ∙ ap (λ x. x ++ (item_of line ∷ more)) (append-nil (line_items held)) in
      let spared : lost_line_count (line_items held) ≡ 0 = ap lost_line_count (sym (append-nil (line_items held))) ∙ line_spared held [] in
      under_lines w w' p g lines q.0 (line_items held ++ (item_of line ∷ [])) _ first.0 same (two_lines_are held line lines is)
      (ap (written_under p) e ∙ written_spared p (line_items held) _ (λ stops. spared) ∙ ap (λ x. line_items held ++ x) first.1 ∙ sym (append_assoc (line_items held) (item_of line ∷ []) first.0)) (to (take q.0 lines) q.4))

-- A part of some bytes: nothing is held.
module _ {T : Type 0} (r : Result T Fault) (w w' : Written) (to : (bs : List ℕ) → Grew w.output w'.output bs → Wrote w w' (map Out bs)) (line : Option MalformedLine) (held bytes passed : List ℕ) (failures failures' : ℕ) (no_line : line ≡ None) (none : held ≡ []) (is : bytes ≡ passed) where
  pub delivers_part : (Y : ℕ → Type 0) (p : Policy) → IfErr r (λ (g : Fault). g ≡ Write) → OnErr r ((n : ℕ) × (n < length bytes) × Y n × (failures' ≡ failures + 1) × Grew w.output w'.output (take n bytes))
      → IfErr r (λ (g : Fault). (more : List Item) → WritesPrefix w w' p g ((line_items line ++ map Byte held) ++ (map Byte passed ++ more)))
  delivers_part Y p is_write k = on_err r is_write k (λ g same q more.
      let e : (line_items line ++ map Byte held) ++ (map Byte passed ++ more) ≡ map Byte passed ++ more = ap (λ x. (line_items x ++ map Byte held) ++ (map Byte passed ++ more)) no_line ∙ ap (λ x. map Byte x ++ (map Byte passed ++ more)) none in
      under_bytes w w' p g passed q.0 _ more same (to (take q.0 passed) (subst (λ x. Grew w.output w'.output (take q.0 x)) is q.4)) e)

-- the fault of a policy that stops, after the line of the character
pub stops_as : (w w' : WritersView) (p : Policy) (f : Fault) (i c : ℕ) (b : List Item) → f ≡ Unmappable i c → p ≡ Policy.Stop → Passes w w' (LostAt i c ∷ []) → held_items w' ≡ [] → LeavesPrefix w w' p f (LostAt i c ∷ b)
stops_as w w' p f i c b fault stops h none =
    let own : written_under p (LostAt i c ∷ b) ≡ LostAt i c ∷ [] = ap (λ (q : Policy). written_under q (LostAt i c ∷ b)) stops in
    let all : held_items w ++ (LostAt i c ∷ []) ≡ h.delivered = h.in_order ∙ ap (λ x. h.delivered ++ x) none ∙ append-nil h.delivered in
    let cut : written_under p (held_items w ++ (LostAt i c ∷ b)) ≡ held_items w ++ (LostAt i c ∷ []) = written_spared p (held_items w) (LostAt i c ∷ b) (λ is. held_spared w) ∙ ap (λ x. held_items w ++ x) own in
    record {
      taken = tagged (held_items w ++ (LostAt i c ∷ []));
      wrote = rw all h.wrote;
      left = record {
        prefix = ([], ap tagged cut ∙ sym (append-nil (tagged (held_items w ++ (LostAt i c ∷ [])))));
        policy = λ index scalar is. stops;
        stopped = λ index scalar is.
            let first : i ≡ index = cc in
            let second : c ≡ scalar = cc in
            rw (sym first, sym second) (record { items = held_items w; last = cut; whole = ap tagged (sym cut) });
      };
    }

-- writers that hold so many bytes of a room behind those that they held
abbrev pub holding_more : {R W L : Type 0} → Writers R W L → List ℕ → ℕ → Writers R W L
holding_more a room n = record a { buffer = put_mid a.held (length a.buffer - a.held) a.buffer room; held = a.held + n }

module _ {R W L : Type 0} {contents : W → Option (List ℕ)} {logged : L → Option (List ℕ)} where
  -- what the writers say of their bytes, if nothing is passed
  pub told_none : (a : Writers R W L) → TellWhatTaken contents logged a a
  told_none a = record { output = taken_none (passed_of a.ports.writer.now) (contents (inner_of a.ports.writer.now)); log = taken_none (passed_of a.ports.log.now) (logged (inner_of a.ports.log.now)) }

  -- and in a row
  pub told_then : (a b c : Writers R W L) → TellWhatTaken contents logged a b → TellWhatTaken contents logged b c → TellWhatTaken contents logged a c
  told_then a b c h k = record { output = taken_then _ _ _ _ _ _ h.output k.output; log = taken_then _ _ _ _ _ _ h.log k.log }

  -- what holds whatever the policy holds under one
  pub hands_under : {T : Type 0} {p : Policy} {a b : Writers R W L} {items : List Item} {r : Result T Fault} → HandsOn contents logged a b items r → HandsOnUnder p contents logged a b items r
  hands_under h = record { ok = h.ok; err = λ p is. h.err p tt; failures = h.failures; told = h.told }

module _ {R W L : Type 0} {contents : W → Option (List ℕ)} {logged : L → Option (List ℕ)} {applies : Policy → Type 0} where
  -- a fault that is handed on, before more was passed
  pub hands_fault : {S T : Type 0} {a b : Writers R W L} {items : List Item} (more : List Item) {e : Fault} {r : Result T Fault} → IsErrAnd r (λ (x : Fault). x ≡ e)
      → HandsOnIf {T = S} contents logged applies a b items (Err e) → HandsOnIf contents logged applies a b (items ++ more) r
  hands_fault {S} {T} {a} {b} {items} more {e} {r = Ok x} same h = absurd same
  hands_fault {S} {T} {a} {b} {items} more {e} {r = Err x} same h = rw same (record {
    ok = tt;
    err = λ p is rest. rw (append_assoc items more rest) (h.err p is (more ++ rest));
    failures = record { writer = h.failures.writer; log = h.failures.log; not_reader = h.failures.not_reader; not_other = h.failures.not_other; output_calls = h.failures.output_calls; log_calls = h.failures.log_calls; journal = h.failures.journal; same = h.failures.same; last = h.failures.last };
    told = h.told;
  })

  -- what was passed, and then what more was
  pub hands_then : {S T : Type 0} {a b c : Writers R W L} {items more : List Item} {u : S} {r : Result T Fault} → ((p : Policy) → applies p → IsSpared p items)
      → HandsOnIf contents logged applies a b items (Ok u) → HandsOnIf contents logged applies b c more r → HandsOnIf contents logged applies a c (items ++ more) r
  hands_then {S} {T} {a} {b} {c} {items} {more} {u} {r} spared h k = record {
    ok = ok_map r k.ok (λ q. passes_then (writers_view a) (writers_view b) (writers_view c) items more h.ok q);
    err = λ p is. err_map r (k.err p is) (λ f q rest. left_after (writers_view a) (writers_view b) (writers_view c).written p f items
        ((items ++ more) ++ rest) (more ++ rest) h.ok (spared p is) (append_assoc items more rest) (q rest));
    failures = search (rules, arith, same_on, counts_then, writes_then);
    told = told_then a b c h.told k.told;
  }

  -- what was held is delivered first
  pub hands_after : {S T : Type 0} {a b c : Writers R W L} {more : List Item} {u : S} {r : Result T Fault} → HandsOnIf contents logged applies a b [] (Ok u) → HandsOnIf contents logged applies b c more r → HandsOnIf contents logged applies a c more r
  hands_after {S} {T} {a} {b} {c} {more} {u} {r} h k = hands_then {items = []} (λ p is. spared_nil p) h k

  -- nothing was passed
  pub hands_start : {a : Writers R W L} → AreReady a → HandsOnIf {T = Unit {0}} contents logged applies a a [] (Ok tt)
  hands_start {a} ready = record {
    ok = record { delivered = []; wrote = Wrote-nil (written_by a); in_order = append-nil (held_items (writers_view a)) };
    err = λ p is. tt;
    failures = record { writer = omega arith; log = omega arith; not_reader = refl; not_other = refl; output_calls = counts_none _; log_calls = counts_none _; journal = writes_none _; same = same_start a ready; last = tt };
    told = told_none a;
  }

  -- bytes are held behind those that were
  pub hands_held : {a : Writers R W L} (room : List ℕ) (n : ℕ) → AreReady a → length room ≡ length a.buffer - a.held → n ≤ length room
      → HandsOnIf {T = Unit {0}} contents logged applies a (holding_more a room n) (map Byte (take n room)) (Ok tt)
  hands_held {a} room n ready size fits =
      let free = length a.buffer - a.held in
      let long : length (put_mid a.held free a.buffer room) ≡ length a.buffer = size_into a.buffer room a.held free ready.within refl size in
      record {
        ok = rw (last_is a.buffer room a.held n ready.within fits) at (holds_behind (written_by a) a.line a.held n a.buffer room ready.within);
        err = λ p is. tt;
        failures = search (rules, arith, long, counts_none, writes_none);
        told = record { output = taken_none (passed_of a.ports.writer.now) (contents (inner_of a.ports.writer.now)); log = taken_none (passed_of a.ports.log.now) (logged (inner_of a.ports.log.now)) };
      }

  -- the writers are ready still
  pub hands_ready : {a b : Writers R W L} {items : List Item} → AreReady a → HandsOnIf {T = Unit {0}} contents logged applies a b items (Ok tt) → AreReady b
  hands_ready ready h = search (rules, arith)
