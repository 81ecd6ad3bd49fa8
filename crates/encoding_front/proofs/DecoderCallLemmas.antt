-- Calls in a row, with U+FFFD for each malformed sequence. A call once no mark is sought. A whole input through one
-- last call of a new decoder.
use Rattle.std.proofs.Common.{◌≡◌, ℕ, zero, suc, ◌+◌, ◌-◌, ◌≤◌, ◌<◌, ◌↔◌, ◌⊎◌, inl, inr, Bool, true, false, cond, IsTrue, List, [], ◌∷◌, ◌++◌, length, drop, refl, sym, ◌∙◌, ap, subst, arith, append_assoc, length-append, length-drop, ◌≢◌, take, encode_utf8_all}
use Rattle.std.proofs.lemmas.List.{append-nil, drop-drop, take_at, take-append-le, take-take}
use Rattle.std.specs.Char.{len_utf8}
use Rattle.encoding_mem.specs.calls.Writing.{len_utf16, Adds}
use Rattle.encoding_mem.specs.Piece.{Piece, malformed, text, scalars, sizes, malformed_count, AreWellFormed, head_piece, ArePieces}
use Rattle.encoding_mem.specs.laws.Piece.{sizes-append, scalars-append, text-append, malformed_count-append, well_formed_count, well_formed_text}
use Rattle.encoding_mem.specs.calls.Decoding.{Takes, Reports, DecoderState, EndsWith, Suffices}
use Rattle.encoding_mem.specs.calls.DecodedLength.{is_units, counts_past_malformed, replacement_len, two_in, left_after}
use Rattle.encoding_mem.specs.declared.codec.room.OutputUnit.{OutputUnit}
use Rattle.encoding_mem.specs.declared.codec.decoder_result.DecoderResult.{DecoderResult}
use Rattle.encoding_mem.specs.declared.codec.decoder_result.DecoderResult.TheVariants.{OutputFull, Malformed, InputEmpty}
use Rattle.encoding_front.specs.calls.DecodedText.{TakesText, SufficesText, raw_result}
use Rattle.encoding_front.specs.calls.DecoderCall.{DecoderCall, RoomLeft, TextCall, free_bytes}
use Rattle.encoding_front.specs.calls.TakesMark.{LeavesRoom}
use Rattle.encoding_front.proofs.BomLemmas.{reports_join}
use Rattle.std.specs.Str.{IsUtf8}
use Rattle.encoding_tables.specs.IndexLists.{IndexLists}
use Rattle.encoding_front.specs.laws.Calls.{wrote_scalars, wrote_text}
use Rattle.encoding_front.specs.laws.Input.{text_scalars}
use Rattle.encoding_front.specs.Marks.{marked_pieces, marked_text}
use Rattle.encoding_front.specs.calls.OneShot.{IsDecoded}
use Rattle.encoding_front.specs.calls.Stream.{IsMadeFrom, IsNewDecoder, DecoderView, finishes}
use Rattle.encoding_front.specs.calls.Seeking.{is_sought}
use Rattle.encoding_front.specs.declared.coder_result.CoderResult.{CoderResult}
use Rattle.encoding_front.specs.declared.seeking.BomSet.{BomSet}
use Rattle.encoding_front.specs.declared.encoding.Encoding.{Encoding}
use Rattle.encoding_front.specs.declared.mark.Mark.{Mark}

pub starts : (P : List ℕ → List Piece) (src : List ℕ) (last : Bool) (p : ℕ) (W : List ℕ → Type 0) → W [] → TakesText P P src last p p 0 W false
starts P src last p W w = record {
  taken = [];
  had = (λ h. cc, λ h. absurd (omega (arith, h)));
  within = omega arith;
  counted = omega arith;
  writes = w;
  rest = λ r e. refl;
}

some_by : (X : Type 0) (m n : ℕ) → 0 < m + n → (0 < m → X) → X ⊎ (0 < n)
some_by X zero n h f = inr (omega (arith, h))
some_by X (suc m) n h f = inl (f (omega arith))

some_of : (a ps : List Piece) (had : Bool) → (IsTrue had ↔ (0 < malformed_count a)) → 0 < malformed_count (a ++ ps) → (IsTrue had) ⊎ (0 < malformed_count ps)
some_of a ps had h some = some_by (IsTrue had) (malformed_count a) (malformed_count ps) (omega (arith, some, malformed_count-append a ps)) (λ k. h.1 k)

-- a call, and what was taken before. The text u of its pieces was written.
then_text : (P M A : List ℕ → List Piece) (src left : List ℕ) (last : Bool) (p q s n read : ℕ) (had now : Bool) (ps : List Piece) (V Z : List ℕ → Type 0)
    → left ≡ drop n src → (IsTrue now ↔ ((IsTrue had) ⊎ (0 < malformed_count ps))) → ((t : List ℕ) → V t → Z (t ++ text ps))
    → TakesText P M src last p q n V had → read ≤ length left → q + read ≡ sizes ps + s → ((r : List ℕ) → (IsTrue last → r ≡ []) → M (left ++ r) ≡ ps ++ A (drop read left ++ r))
    → TakesText P A src last p s (n + read) Z now
then_text P M A src left last p q s n read had now ps V Z is either writes h within counted rest = record {
  taken = h.taken ++ ps;
  had = (
    λ t. elim (either.0 t) [
      | inl before ↦ omega (arith, malformed_count-append h.taken ps, h.had.0 before)
      | inr here ↦ omega (arith, malformed_count-append h.taken ps, here)
    ],
    λ some. either.1 (some_of h.taken ps had h.had some),
  );
  within = omega (arith, h.within, within, ap length is, length-drop n src);
  counted = omega (arith, h.counted, counted, sizes-append h.taken ps);
  writes = subst Z (sym (text-append h.taken ps)) (writes (text h.taken) h.writes);
  rest = λ r e.
      h.rest r e ∙ ap (λ x. h.taken ++ x) (ap (λ x. M (x ++ r)) (sym is) ∙ rest r e)
      ∙ sym (append_assoc h.taken ps (A (drop read left ++ r)))
      ∙ ap (λ x. (h.taken ++ ps) ++ A (x ++ r)) (ap (λ x. drop read x) is ∙ drop-drop read n src);
}

-- which ended for another reason than a malformed sequence
pub then_ends : (P M A : List ℕ → List Piece) (outcome : DecoderResult) (src left : List ℕ) (last : Bool) (p q s n read b : ℕ) (had : Bool) (V W Z : List ℕ → Type 0)
    → (Reports outcome b ≡ AreWellFormed) → left ≡ drop n src → ((t u : List ℕ) → V t → W u → Z (t ++ u))
    → TakesText P M src last p q n V had → Takes (Reports outcome b) M A left last q s read W → TakesText P A src last p s (n + read) Z had
then_ends P M A outcome src left last p q s n read b had V W Z is left_is writes h k =
    let well_formed_ : AreWellFormed k.taken = subst (λ (G : List Piece → Type 0). G k.taken) is k.well_formed in
    then_text P M A src left last p q s n read had had k.taken V Z left_is
    (λ t. inl t, λ e. elim e [ inl t ↦ t | inr some ↦ absurd (omega (arith, some, well_formed_count k.taken well_formed_)) ])
    (λ t v. subst (λ (u : List ℕ). Z (t ++ u)) (sym (well_formed_text k.taken well_formed_)) (writes t (scalars k.taken) v k.writes))
    h k.within k.counted k.rest

-- and so the call with U+FFFD
reports_raw : (result : CoderResult) (b : ℕ) → Reports (raw_result result) b ≡ AreWellFormed
reports_raw CoderResult.InputEmpty b = refl
reports_raw CoderResult.OutputFull b = refl

-- what is sought after a call was sought before it
pub sought_before : {a b : BomSet} → a ≡ b → IsTrue (is_sought a) → IsTrue (is_sought b)
sought_before same s = subst (λ m. IsTrue (is_sought m)) same s

pub text_ends : (was mid now : DecoderView) (outcome : DecoderResult) (result : CoderResult) (src left : List ℕ) (last : Bool) (n read : ℕ) (room : RoomLeft) (had : Bool) (V W Z : List ℕ → Type 0)
    → outcome ≡ raw_result result → left ≡ drop n src → ((t u : List ℕ) → V t → W u → Z (t ++ u))
    → TakesText was.state.pieces mid.state.pieces src last was.state.pending mid.state.pending n V had
    → ((r : List ℕ) → (IsTrue last → r ≡ []) → was.source (src ++ r) ≡ mid.source (drop n src ++ r))
    → (IsTrue (is_sought mid.opening.sought) → mid.opening.sought ≡ was.opening.sought)
    → ((t : IndexLists) → IsMadeFrom t was → IsMadeFrom t mid)
    → DecoderCall mid now left last read W room outcome → TextCall was now src last (n + read) Z room result had
text_ends was mid now outcome result src left last n read room had V W Z is left_is writes taken source marks made h =
    let unread : drop read left ≡ drop (n + read) src = ap (λ x. drop read x) left_is ∙ drop-drop read n src in
    record {
      law = then_ends was.state.pieces mid.state.pieces now.state.pieces outcome src left last was.state.pending mid.state.pending now.state.pending n read now.state.pending had V W Z
          (ap (λ (o : DecoderResult). Reports o now.state.pending) is ∙ reports_raw result now.state.pending) left_is writes taken h.law;
      ends = subst (λ (o : DecoderResult). EndsWith now.state (drop (n + read) src) last room.free (two_in room.in_units) (replacement_len room.in_units) o) is (subst (λ (x : List ℕ). EndsWith now.state x last room.free (two_in room.in_units) (replacement_len room.in_units) outcome) unread h.ends);
      source = λ r e. source r e ∙ ap (λ x. mid.source (x ++ r)) (sym left_is) ∙ h.source r e ∙ ap (λ x. now.source (x ++ r)) unread;
      marks = λ s. let k = h.marks s in (k.0 ∙ marks (sought_before k.0 s), k.1, sym unread ∙ k.2);
      finished = h.finished ∙ ap (finishes last) is;
      made = λ t is_made. h.made t (made t is_made);
    }

pub finishes_never : (last : Bool) (a b : ℕ) → finishes last (Malformed a b) ≡ false
finishes_never true a b = refl
finishes_never false a b = refl

-- which ended with one, for which U+FFFD was written
pub then_malformed : (P M A : List ℕ → List Piece) (outcome : DecoderResult) (a b : ℕ) (src left : List ℕ) (last : Bool) (p q s n read c : ℕ) (had : Bool) (V W Z : List ℕ → Type 0)
    → outcome ≡ Malformed a b → left ≡ drop n src → ((t u : List ℕ) → V t → W u → Z (t ++ (u ++ 0xFFFD ∷ [])))
    → TakesText P M src last p q n V had → Takes (Reports outcome c) M A left last q s read W → TakesText P A src last p s (n + read) Z true
then_malformed P M A outcome a b src left last p q s n read c had V W Z outcome_is left_is writes h told =
    let k : Takes (Reports (Malformed a b) c) M A left last q s read W = subst (λ (o : DecoderResult). Takes (Reports o c) M A left last q s read W) outcome_is told in
    let prefix : List Piece = k.well_formed.4.0 in
    let well_formed_ : AreWellFormed prefix = k.well_formed.4.1 in
    let is : k.taken ≡ prefix ++ malformed a ∷ [] = k.well_formed.4.2 in
    let written : text k.taken ≡ scalars k.taken ++ 0xFFFD ∷ [] =
    ap text is ∙ text-append prefix (malformed a ∷ []) ∙ ap (λ t. t ++ 0xFFFD ∷ []) (well_formed_text prefix well_formed_ ∙ sym (append-nil (scalars prefix)) ∙ sym (scalars-append prefix (malformed a ∷ [])) ∙ ap scalars (sym is)) in
    then_text P M A src left last p q s n read had true k.taken V Z left_is
    (λ t. inr (omega (arith, ap malformed_count is, malformed_count-append prefix (malformed a ∷ []))), λ e. refl)
    (λ t v. subst (λ (u : List ℕ). Z (t ++ u)) (sym written) (writes t (scalars k.taken) v k.writes))
    h k.within k.counted k.rest

-- pieces that were taken are fewer
pub fewer : (M A : List ℕ → List Piece) (outcome : DecoderResult) (a b c : ℕ) (left rest : List ℕ) (last : Bool) (q s read : ℕ) (W : List ℕ → Type 0) → outcome ≡ Malformed a b → rest ≡ drop read left → Takes (Reports outcome c) M A left last q s read W → length (A rest) < length (M left)
fewer M A outcome a b c left rest last q s read W outcome_is rest_is told =
    let k : Takes (Reports (Malformed a b) c) M A left last q s read W = subst (λ (o : DecoderResult). Takes (Reports o c) M A left last q s read W) outcome_is told in
    let prefix : List Piece = k.well_formed.4.0 in
    let all : M left ≡ k.taken ++ A rest = ap M (sym (append-nil left)) ∙ k.rest [] (λ _. refl) ∙ ap (λ x. k.taken ++ A x) (append-nil (drop read left) ∙ sym rest_is) in
    omega (arith, ap length all, length-append k.taken (A rest), ap length k.well_formed.4.2, length-append prefix (malformed a ∷ []))

-- The room.
pub suffices_start : (needs : OutputUnit → ℕ → ℕ) (t last : Bool) (size free : ℕ) → SufficesText needs needs t last size (size - 0) free free
suffices_start needs t last size free k m on is stops fits = (let same : (size - 0) + m ≡ size + m = omega arith in omega (arith, ap (needs k) same, fits))

mark_cost : (t : Bool) → cond t (len_utf16 0xFFFD) (len_utf8 0xFFFD) ≡ replacement_len t
mark_cost true = refl
mark_cost false = refl

left_on : (b : Bool) (replacement more free : ℕ) → b ≡ true → left_after b replacement more ≤ free → replacement + more ≤ free
left_on true replacement more free e h = h
left_on false replacement more free e h = cc

pub suffices_malformed : (before now after : OutputUnit → ℕ → ℕ) (t last : Bool) (size left n read old mid new rest a b cost : ℕ) (outcome : DecoderResult) → outcome ≡ Malformed a b → left ≡ size - n → cost ≡ cond t (len_utf16 0xFFFD) (len_utf8 0xFFFD) → rest + cost ≡ new → n ≤ size → read ≤ left
    → SufficesText before now t last size (size - n) old mid → Suffices now after t last left (left - read) mid new outcome → SufficesText before after t last size (size - (n + read)) old rest
suffices_malformed before now after t last size left n read old mid new rest a b cost outcome outcome_is left_is cost_is put within few h told k m on is stops fits =
    let s : Suffices now after t last left (left - read) mid new (Malformed a b) = subst (λ (o : DecoderResult). Suffices now after t last left (left - read) mid new o) outcome_is told in
    let here : now k (left + m) ≤ mid = (let same : (size - n) + m ≡ left + m = omega (arith, left_is) in omega (arith, ap (now k) same, h k m on is stops fits)) in
    let there : replacement_len t + after k ((left - read) + m) ≤ new = left_on (counts_past_malformed k) (replacement_len t) (after k ((left - read) + m)) new on (s k m is stops here) in
    let same : (left - read) + m ≡ (size - (n + read)) + m = omega (arith, left_is) in
    omega (arith, there, ap (after k) same, cost_is, mark_cost t, put)

pub never_full : (before now after : OutputUnit → ℕ → ℕ) (t last : Bool) (size left n unread old mid new : ℕ) → left ≡ size - n → SufficesText before now t last size (size - n) old mid → Suffices now after t last left unread mid new OutputFull
    → (k : OutputUnit) (m : ℕ) → counts_past_malformed k ≡ true → is_units k ≡ t → (IsTrue last → m ≡ 0) → before k (size + m) ≤ old → ⊥
never_full before now after t last size left n unread old mid new left_is h s k m on is stops fits = s k m is stops (let same : (size - n) + m ≡ left + m = omega (arith, left_is) in omega (arith, ap (now k) same, h k m on is stops fits))

-- A call once no mark is sought.

-- a mark may be taken first. M and B are N and A by another name.
pub takes_settled : (P M N A B : List ℕ → List Piece) (outcome : DecoderResult) (src left : List ℕ) (last : Bool) (p q s n read : ℕ) (W : List ℕ → Type 0)
    → ((x : List ℕ) → M x ≡ N x) → ((x : List ℕ) → B x ≡ A x) → left ≡ drop n src
    → Takes AreWellFormed P M src last p q n (λ t. t ≡ [])
    → Takes (Reports outcome s) N A left last q s read W
    → Takes (Reports outcome s) P B src last p s (n + read) W
takes_settled P M N A B outcome src left last p q s n read W m b is h k = record {
  taken = h.taken ++ k.taken;
  well_formed = reports_join outcome s s refl h.taken k.taken h.well_formed k.well_formed;
  within = omega (arith, h.within, k.within, ap length is, length-drop n src);
  counted = omega (arith, h.counted, k.counted, sizes-append h.taken k.taken);
  writes = rw (scalars-append h.taken k.taken) (rw h.writes k.writes);
  rest = λ r e.
      let more : drop read left ++ r ≡ drop (n + read) src ++ r = ap (λ x. drop read x ++ r) is ∙ ap (λ x. x ++ r) (drop-drop read n src) in
      h.rest r e ∙ ap (λ ps. h.taken ++ ps) (m (drop n src ++ r) ∙ ap (λ x. N (x ++ r)) (sym is) ∙ k.rest r e)
      ∙ sym (append_assoc h.taken k.taken (A (drop read left ++ r)))
      ∙ ap (λ x. (h.taken ++ k.taken) ++ x) (ap A more ∙ sym (b (drop (n + read) src ++ r)));
}

pub ends_settled : (s t : DecoderState) (left unread : List ℕ) (last : Bool) (free room replacement : ℕ) (outcome : DecoderResult) → ((x : List ℕ) → t.pieces x ≡ s.pieces x) → t.pending ≡ s.pending → left ≡ unread
    → EndsWith s left last free room replacement outcome → EndsWith t unread last free room replacement outcome
ends_settled s t left unread last free room replacement InputEmpty same e is h = (
  sym is ∙ h.0,
  elim h.1 [
    | inl none ↦ inl (e ∙ none.0, same [] ∙ none.1)
    | inr waits ↦ inr (
      waits.0,
      record {
        short = omega (arith, e, waits.1.short);
        undecided = record {
          more = waits.1.undecided.more;
          bytes = waits.1.undecided.bytes;
          short = waits.1.undecided.short;
          differs = λ d. waits.1.undecided.differs (ap head_piece (sym (same [])) ∙ d ∙ ap head_piece (same ([] ++ waits.1.undecided.more)));
        };
        soon = λ r p f. omega (arith, e, waits.1.soon r p (ap head_piece (sym (same r)) ∙ f));
      },
    )
  ],
)
ends_settled s t left unread last free room replacement OutputFull same e is h = (h.0, (h.1.0, (λ r f. ap head_piece (same (unread ++ r)) ∙ ap (λ x. head_piece (s.pieces (x ++ r))) (sym is) ∙ h.1.1 r f), h.1.2))
ends_settled s t left unread last free room replacement (Malformed a b) same e is h = h

-- W is what is needed before the mark is looked for, and X and B are N and A by another name
pub suffices_settled : (W X N A B : OutputUnit → ℕ → ℕ) (t last : Bool) (size left n read old new : ℕ) (outcome : DecoderResult) → ((k : OutputUnit) (m : ℕ) → X k m ≡ N k m) → ((k : OutputUnit) (m : ℕ) → B k m ≡ A k m)
    → n ≤ size → left ≡ size - n → read ≤ left → LeavesRoom W X n → Suffices N A t last left (left - read) old new outcome → Suffices W B t last size (size - (n + read)) old new outcome
suffices_settled W X N A B t last size left n read old new InputEmpty x b within is few leaves h = λ k m units stops fits.
    let same : n + (left + m) ≡ size + m = omega (arith, within, is) in
    omega (arith, b k m, h k m units stops (omega (arith, x k (left + m), leaves k (left + m), ap (W k) same, fits)))
suffices_settled W X N A B t last size left n read old new OutputFull x b within is few leaves h = λ k m units stops fits.
    (let same : n + (left + m) ≡ size + m = omega (arith, within, is) in
    h k m units stops (omega (arith, x k (left + m), leaves k (left + m), ap (W k) same, fits)))
suffices_settled W X N A B t last size left n read old new (Malformed i j) x b within is few leaves h = λ k m units stops fits.
    (let same : n + (left + m) ≡ size + m = omega (arith, within, is) in
    let there : A k ((left - read) + m) ≡ B k ((size - (n + read)) + m) = ap (A k) (let e : (left - read) + m ≡ (size - (n + read)) + m = omega (arith, within, is, few) in e) ∙ sym (b k ((size - (n + read)) + m)) in
    subst (λ (v : ℕ). left_after (counts_past_malformed k) (replacement_len t) v ≤ new) there (h k m units stops (omega (arith, x k (left + m), leaves k (left + m), ap (W k) same, fits))))

-- A whole input through one last call of a new decoder.

-- what was written is the text of the input
pub record IsWhole (t : IndexLists) (mark : Mark) (e : Encoding) (x new : List ℕ) (written : ℕ) (had : Bool) : Type 0 where
  pub decoded : IsDecoded t mark e x (take written new) had
  pub utf8 : IsUtf8 (take written new)

-- the pieces that were taken, and those that are left
taken_of : (v v' : DecoderView) (t : IndexLists) (mark : Mark) (e : Encoding) (x : List ℕ) (ps : List Piece) (read : ℕ) → IsNewDecoder v t mark e
    → ((r : List ℕ) → (IsTrue true → r ≡ []) → v.state.pieces (x ++ r) ≡ ps ++ v'.state.pieces (drop read x ++ r)) → marked_pieces t mark e x ≡ ps ++ v'.state.pieces (drop read x)
taken_of v v' t mark e x ps read begins rest =
    sym (begins.pieces x) ∙ ap v.state.pieces (sym (append-nil x)) ∙ rest [] (λ _. refl) ∙ ap (λ l. ps ++ v'.state.pieces l) (append-nil (drop read x))

whole_of : (v : DecoderView) (t : IndexLists) (mark : Mark) (e : Encoding) (x old new : List ℕ) (written : ℕ) (had : Bool)
    → IsNewDecoder v t mark e → Adds old 0 (encode_utf8_all (text (v.state.pieces x))) new written → (IsTrue had ↔ (0 < malformed_count (v.state.pieces x))) → IsWhole t mark e x new written had
whole_of v t mark e x old new written had begins adds told =
    let is : v.state.pieces x ≡ marked_pieces t mark e x = begins.pieces x in
    let are : ArePieces (marked_pieces t mark e x) = subst ArePieces is (v.state.are_pieces x) in
    let wrote : take written new ≡ encode_utf8_all (marked_text t mark e x) =
    ap (take written) adds.list ∙ take_at (encode_utf8_all (text (v.state.pieces x))) (drop written old) written (omega (arith, adds.counted)) ∙ ap (λ (l : List Piece). encode_utf8_all (text l)) is in
    record {
      decoded = record { bytes = wrote; malformed_ = subst (λ (l : List Piece). IsTrue had ↔ (0 < malformed_count l)) is told };
      utf8 = (marked_text t mark e x, (text_scalars (marked_pieces t mark e x) are, sym wrote));
    }

-- with U+FFFD for each malformed sequence
all_read : (outcome : CoderResult) → outcome ≢ CoderResult.OutputFull → outcome ≡ CoderResult.InputEmpty
all_read CoderResult.InputEmpty never = refl
all_read CoderResult.OutputFull never = absurd (never refl)

pub whole_call : (v v' : DecoderView) (t : IndexLists) (mark : Mark) (e : Encoding) (x old new : List ℕ) (outcome : CoderResult) (read written free : ℕ) (had : Bool)
    → IsNewDecoder v t mark e → outcome ≢ CoderResult.OutputFull → TextCall v v' x true read (λ (l : List ℕ). Adds old 0 (encode_utf8_all l) new written) (free_bytes free) outcome had → IsWhole t mark e x new written had
whole_call v v' t mark e x old new outcome read written free had begins never call =
    let wrote = wrote_text v v' x read (λ (l : List ℕ). Adds old 0 (encode_utf8_all l) new written) (free_bytes free) outcome had call (all_read outcome never) in
    whole_of v t mark e x old new written had begins wrote.0 wrote.1

-- without replacement, if no piece is malformed
all_decoded : (outcome : DecoderResult) → outcome ≢ DecoderResult.OutputFull → ((a b : ℕ) → outcome ≢ Malformed a b) → outcome ≡ DecoderResult.InputEmpty
all_decoded DecoderResult.InputEmpty never fine = refl
all_decoded DecoderResult.OutputFull never fine = absurd (never refl)
all_decoded (Malformed a b) never fine = absurd (fine a b refl)

pub well_formed_call : (v v' : DecoderView) (t : IndexLists) (mark : Mark) (e : Encoding) (x old new : List ℕ) (outcome : DecoderResult) (read written free : ℕ)
    → IsNewDecoder v t mark e → outcome ≢ DecoderResult.OutputFull → ((a b : ℕ) → outcome ≢ Malformed a b) → DecoderCall v v' x true read (λ (l : List ℕ). Adds old 0 (encode_utf8_all l) new written) (free_bytes free) outcome
    → IsWhole t mark e x new written false
well_formed_call v v' t mark e x old new outcome read written free begins never fine call =
    let wrote = wrote_scalars v v' x read (λ (l : List ℕ). Adds old 0 (encode_utf8_all l) new written) (free_bytes free) outcome call (all_decoded outcome never fine) in
    whole_of v t mark e x old new written false begins wrote.0 (λ h. absurd (cc), λ some. absurd (omega (arith, some, well_formed_count (v.state.pieces x) wrote.1)))

-- and if one is
pub malformed_call : (v v' : DecoderView) (t : IndexLists) (mark : Mark) (e : Encoding) (x : List ℕ) (outcome : DecoderResult) (a b read : ℕ) (W : List ℕ → Type 0)
    → IsNewDecoder v t mark e → outcome ≡ Malformed a b → Takes (Reports outcome v'.state.pending) v.state.pieces v'.state.pieces x true v.state.pending v'.state.pending read W → 0 < malformed_count (marked_pieces t mark e x)
malformed_call v v' t mark e x outcome a b read W begins is told =
    let k : Takes (Reports (Malformed a b) v'.state.pending) v.state.pieces v'.state.pieces x true v.state.pending v'.state.pending read W =
    subst (λ (o : DecoderResult). Takes (Reports o v'.state.pending) v.state.pieces v'.state.pieces x true v.state.pending v'.state.pending read W) is told in
    let prefix : List Piece = k.well_formed.4.0 in
    omega (
      arith,
      ap malformed_count (taken_of v v' t mark e x k.taken read begins k.rest),
      malformed_count-append k.taken (v'.state.pieces (drop read x)),
      ap malformed_count k.well_formed.4.2,
      malformed_count-append prefix (malformed a ∷ []),
    )

-- what a vector of so many bytes begins with
pub kept : (xs tail : List ℕ) (size w : ℕ) → w ≤ length xs → length xs ≡ size → take w (take size (xs ++ tail)) ≡ take w xs
kept xs tail size w fits same = take-take w size (xs ++ tail) (omega (arith, fits, same)) ∙ take-append-le w xs tail fits
