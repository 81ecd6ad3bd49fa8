-- What a call did of a part of a text, if it did not come to the end of it, it did of the text.
use Rattle.std.proofs.Common.{◌≢◌, ℕ, inl, inr, Bool, false, List, [], ◌∷◌, ◌++◌, refl, ◌∙◌, ap, arith, append_assoc, length-append}
use Rattle.encoding_mem.specs.Coding.{Coding}
use Rattle.encoding_mem.specs.calls.EncoderCalls.{EncodeEndsWith, Encodes, IsSetOfNext, Leaves}
use Rattle.encoding_mem.specs.calls.EncoderRule.{Tight}
use Rattle.encoding_mem.specs.declared.codec.encoder_result.EncoderResult.{EncoderResult}
use Rattle.encoding_mem.specs.declared.codec.encoder_result.EncoderResult.TheVariants as raw_
use Rattle.encoding_mem.specs.declared.codec.form.EscapeState.{EscapeState}

set_of_next : (e : Coding) (q : EscapeState) (next more : List ℕ) (s' : EscapeState) → IsSetOfNext e q next s' → IsSetOfNext e q (next ++ more) s'
set_of_next e q [] more s' h = absurd h
set_of_next e q (c ∷ next) more s' h = h

leaves_more : (e : Coding) (last : Bool) (answer : EncoderResult) (q : EscapeState) (next rest more : List ℕ) (s' : EscapeState) → answer ≢ raw_.InputEmpty
    → Leaves e false answer q next rest s' → Leaves e last answer q (next ++ more) (rest ++ more) s'
leaves_more e last raw_.InputEmpty q next rest more s' ends h = absurd (ends refl)
leaves_more e last raw_.OutputFull q next rest more s' ends (is, inl stays) = (ap (λ l. l ++ more) is, inl stays)
leaves_more e last raw_.OutputFull q next rest more s' ends (is, inr set) = (ap (λ l. l ++ more) is, inr (set_of_next e q next more s' set))
leaves_more e last (raw_.Unmappable m) q next rest more s' ends (c, is, form, set) = (c, ap (λ l. l ++ more) is, form, set)

pub encodes_more : (e : Coding) (last : Bool) (answer : EncoderResult) (s : EscapeState) (part written : List ℕ) (s' : EscapeState) (rest more : List ℕ) → answer ≢ raw_.InputEmpty
    → Encodes e false answer s part written s' rest → Encodes e last answer s (part ++ more) written s' (rest ++ more)
encodes_more e last answer s part written s' rest more ends h = record {
  before = h.before;
  next = h.next ++ more;
  split = ap (λ l. l ++ more) h.split ∙ append_assoc h.before h.next more;
  mapped = h.mapped;
  bytes = h.bytes;
  leaves = leaves_more e last answer _ h.next rest more s' ends h.leaves;
}

pub ends_more : (need : ℕ) (last : Bool) (answer : EncoderResult) (s' : EscapeState) (rest more : List ℕ) (room : ℕ) → answer ≢ raw_.InputEmpty
    → EncodeEndsWith need false answer s' rest room → EncodeEndsWith need last answer s' (rest ++ more) room
ends_more need last raw_.InputEmpty s' rest more room ends h = absurd (ends refl)
ends_more need last raw_.OutputFull s' rest more room ends (full, inl some) = (full, inl (omega (arith, some, length-append rest more)))
ends_more need last raw_.OutputFull s' rest more room ends (full, inr p) = let no = p.0 in absurd (cc)
ends_more need last (raw_.Unmappable c) s' rest more room ends h = tt

pub tight_more : (e : Coding) (need : ℕ) (answer : EncoderResult) (s' : EscapeState) (rest more : List ℕ) (room : ℕ) → answer ≢ raw_.InputEmpty
    → EncodeEndsWith need false answer s' rest room → Tight e answer s' rest room → Tight e answer s' (rest ++ more) room
tight_more e need raw_.InputEmpty s' rest more room ends at h = absurd (ends refl)
tight_more e need raw_.OutputFull s' [] more room ends (full, inl some) h = absurd (omega (arith, some))
tight_more e need raw_.OutputFull s' [] more room ends (full, inr p) h = let no = p.0 in absurd (cc)
tight_more e need raw_.OutputFull s' (c ∷ rest) more room ends at h = h
tight_more e need (raw_.Unmappable c) s' rest more room ends at h = tt
