-- What is written ends in the line of a lost character only if the policy stops it there; and it has one such line then.
use Rattle.std.proofs.Common.{◌≡◌, ℕ, ◌+◌, Bool, true, false, List, [], ◌∷◌, ◌++◌, map, length, refl, sym, ◌∙◌, ap, arith, length-append, codes}
use Rattle.std.specs.Fmt.{decimal, digits}
use Rattle.std.proofs.lemmas.Bool.{false≢true}
use Rattle.encoding_mem.specs.Coding.{Coding, last_set}
use Rattle.encoding_mem.specs.Items.{Item, Byte, MalformedAt, LostAt, form_items, open_items, trace_from}
use Rattle.encoding_mem.specs.Piece.{Piece, well_formed, malformed}
use Rattle.encoding_mem.specs.declared.codec.form.EscapeState.{EscapeState}
use Rattle.encoding_mem.specs.declared.codec.form.EscapeState.TheVariants.{Ascii}
use Rattle.encoding_mem.specs.declared.codec.form.Form.{Form}
use Rattle.encoding_mem.specs.declared.codec.form.Form.TheVariants.{Mapped, Unmapped}
use Rattle.encoding_mem.specs.declared.codec.reference.Reference.{Reference}
use Rattle.encoding_mem.specs.declared.codec.reference.Reference.TheVariants.{Decimal, Hexadecimal}
use Rattle.recode.specs.Job.{input_pieces, target_of, trace, whole_trace}
use Rattle.recode.specs.Policy.{reference_form, up_to_loss, written_under}
use Rattle.recode.specs.WrittenItems.{lost_line_count}
use Rattle.recode.specs.declared.job.Job.{Job}
use Rattle.recode.specs.declared.job.Policy.{Policy}

-- whether the last of some items is the line of a lost character; b if there is none
abbrev ends_lost : Bool → List Item → Bool
ends_lost b [] = b
ends_lost b (Byte c ∷ s) = ends_lost false s
ends_lost b (MalformedAt offset size ∷ s) = ends_lost false s
ends_lost b (LostAt i c ∷ s) = ends_lost true s

ends_lost-append : (b : Bool) (s t : List Item) → ends_lost b (s ++ t) ≡ ends_lost (ends_lost b s) t
ends_lost-append b [] t = refl
ends_lost-append b (Byte c ∷ s) t = ends_lost-append false s t
ends_lost-append b (MalformedAt offset size ∷ s) t = ends_lost-append false s t
ends_lost-append b (LostAt i c ∷ s) t = ends_lost-append true s t

ends_lost-bytes : (bs : List ℕ) → ends_lost false (map Byte bs) ≡ false
ends_lost-bytes [] = refl
ends_lost-bytes (b ∷ bs) = ends_lost-bytes bs

-- a reference has bytes
ends_lost-form : (ref : Reference) (i : ℕ) (f : Form) → ends_lost false (form_items ref i f) ≡ false
ends_lost-form ref i (Mapped bs) = ends_lost-bytes bs
ends_lost-form Decimal i (Unmapped c) = ends_lost-bytes (decimal c ++ codes ";")
ends_lost-form Hexadecimal i (Unmapped c) = ends_lost-bytes (digits 16 true c ++ codes ";")

ends_lost-open : (ref : Reference) (e : Coding) (s : EscapeState) (i : ℕ) (t : List ℕ) → ends_lost false (open_items ref e s i t) ≡ false
ends_lost-open ref e s i [] = refl
ends_lost-open ref e s i (c ∷ t) =
    let escape : List Item = map Byte (e.escape s (e.set s c)) in
    let form : List Item = form_items ref i (e.form c) in
    let more : List Item = open_items ref e (e.set s c) (i + 1) t in
    ends_lost-append false escape (form ++ more)
    ∙ ap (λ b. ends_lost b (form ++ more)) (ends_lost-bytes (e.escape s (e.set s c)))
    ∙ ends_lost-append false form more
    ∙ ap (λ b. ends_lost b more) (ends_lost-form ref i (e.form c))
    ∙ ends_lost-open ref e (e.set s c) (i + 1) t

ends_lost-trace : (ref : Reference) (e : Coding) (s : EscapeState) (offset i : ℕ) (ps : List Piece) → ends_lost false (trace_from ref e s offset i ps) ≡ false
ends_lost-trace ref e s offset i [] = ends_lost-bytes (e.escape s Ascii)
ends_lost-trace ref e s offset i (well_formed n cs ∷ ps) =
    let rest : List Item = trace_from ref e (last_set e s cs) (offset + n) (i + length cs) ps in
    ends_lost-append false (open_items ref e s i cs) rest
    ∙ ap (λ b. ends_lost b rest) (ends_lost-open ref e s i cs)
    ∙ ends_lost-trace ref e (last_set e s cs) (offset + n) (i + length cs) ps
ends_lost-trace ref e s offset i (malformed n ∷ ps) =
    let rest : List Item = trace_from ref e (e.set s 0xFFFD) (offset + n) (i + 1) ps in
    ends_lost-append false (open_items ref e s i (0xFFFD ∷ [])) rest
    ∙ ap (λ b. ends_lost b rest) (ends_lost-open ref e s i (0xFFFD ∷ []))
    ∙ ends_lost-trace ref e (e.set s 0xFFFD) (offset + n) (i + 1) ps

ends_under : (p : Policy) (s items : List Item) (i c : ℕ) → ends_lost false s ≡ false → written_under p s ≡ items ++ (LostAt i c ∷ []) → p ≡ Policy.Stop
ends_under Policy.Stop s items i c none is = refl
ends_under _ s items i c none is = absurd (false≢true (sym none ∙ ap (ends_lost false) is ∙ ends_lost-append false items (LostAt i c ∷ [])))

first_cut : (s items : List Item) (i c : ℕ) → up_to_loss s ≡ items ++ (LostAt i c ∷ []) → lost_line_count items ≡ 0
first_cut s [] i c is = refl
first_cut [] (x ∷ items) i c is = absurd (cc)
first_cut (LostAt k d ∷ s) (x ∷ items) i c is = absurd (omega (arith, ap length is, length-append items (LostAt i c ∷ [])))
first_cut (y ∷ s) (x ∷ items) i c is =
    let head : y ≡ x = cc in
    let tails : up_to_loss s ≡ items ++ (LostAt i c ∷ []) = cc in
    ap (λ z. lost_line_count (z ∷ items)) (sym head) ∙ first_cut s items i c tails

-- if a trace ends in the line of a lost character, the policy is one that stops
pub stops_policy : (j : Job) (x : List ℕ) (items : List Item) (i c : ℕ) → trace j x ≡ items ++ (LostAt i c ∷ []) → j.policy ≡ Policy.Stop
stops_policy j x items i c is = ends_under j.policy (whole_trace j x) items i c (ends_lost-trace (reference_form j.policy) (target_of j) Ascii 0 0 (input_pieces j x)) is

-- and no other character before it is lost
pub stops_first : (j : Job) (x : List ℕ) (items : List Item) (i c : ℕ) → trace j x ≡ items ++ (LostAt i c ∷ []) → lost_line_count items ≡ 0
stops_first j x items i c is =
    first_cut (whole_trace j x) items i c (ap (λ (p : Policy). written_under p (whole_trace j x)) (sym (stops_policy j x items i c is)) ∙ is)
