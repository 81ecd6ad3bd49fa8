use Rattle.std.proofs.Common.{arith, inl, inr, ◌≡◌, ◌≤◌, ◌++◌, length, refl, sym, subst, ◌∙◌, ap}
use Rattle.std.proofs.lemmas.Bool.{cases_lt}
use Rattle.std.proofs.lemmas.List.{take_all}
use Rattle.encoding_mem.specs.calls.Resuming.{HoldsFew, Reading, reading_of, saved_bytes, saved_pending}
use Rattle.encoding_front.specs.Encodings.{IsReady, lists_of}
use Rattle.encoding_front.specs.calls.Resumed.{resumed_in}
use Rattle.encoding_front.specs.calls.Seeking.{find_mark, sought_encoding}
use Rattle.encoding_front.specs.calls.SavedDecoders.{IsSound, sought_reading}
use Rattle.encoding_front.specs.declared.decoder.saved_decoder.SavedDecoder.{SavedDecoder}
use Rattle.encoding_front.specs.calls.VariantDecoders.{state_of}
use Rattle.encoding_front.specs.laws.Stream.{in_force}
use Rattle.encoding_front.proofs.decoder.Decoder.resumed.Goals as goal

pub resume_on-requires : goal.resume_on-requires
resume_on-requires c =
    let w = c.args.saved in
    subst HoldsFew (sym (ap (λ f. f w.pieces.mode (saved_pending w.pieces)) c.new-inner.ensures.resumed)) c.requires.sound.few

-- no more bytes are held than the bound
few_held : (own : Reading) (w : SavedDecoder) → IsSound own w → length (saved_bytes w.held) ≤ 2
few_held own w sound = elim (cases_lt 0 (length (saved_bytes w.held))) [
  | inl some ↦ let short = sound.short some in omega arith
  | inr none ↦ omega (arith, none)
]

pub returns : goal.returns
returns c =
    let t = lists_of c.args.tables in
    let w = c.args.saved in
    let own = state_of c.resume_on.new.self in
    let is : reading_of own ≡ resumed_in t w.encoding w.pieces.mode (saved_pending w.pieces) = c.resume_on.ensures.same ∙ ap (λ f. f w.pieces.mode (saved_pending w.pieces)) c.new-inner.ensures.resumed in
    let few : length c.as_slice-bytes.result.now ≤ 2 = subst (λ x. length x ≤ 2) (sym c.as_slice-bytes.ensures.bytes) (few_held _ w c.requires.sound) in
    let all : length c.as_slice-bytes.result.now ≤ c.min.result = omega (arith, few, c.min.ensures) in
    let held : c.fill.new.self ≡ saved_bytes w.held = c.fill.ensures ∙ take_all c.min.result c.as_slice-bytes.result.now all ∙ c.as_slice-bytes.ensures.bytes in
    let named = in_force w.sought w.encoding c.fill.new.self (λ sought. ap (find_mark w.sought) held ∙ c.requires.sound.prefix sought) in
    record {
      saves = record {
        own = ap (λ f. f w.pieces.mode (saved_pending w.pieces)) c.resume_on.ensures.resumed ∙ sym c.resume_on.ensures.same;
        sound = subst (λ (r : Reading). IsSound r w) (sym is) c.requires.sound;
        state = ap (sought_reading w.sought (reading_of own)) held;
        opening = ap (λ x. record { sought = w.sought; held = x; room = own.room; pending = own.pending }) held;
        in_force = named;
        source = λ x. ap (λ y. sought_encoding w.sought w.encoding (y ++ x)) held;
        finished = refl;
      };
      made = record {
        ready = subst (IsReady t) (sym named) c.requires.ready;
        reads = c.resume_on.ensures.resumed ∙ c.new-inner.ensures.resumed ∙ ap (resumed_in t) (sym named);
      };
    }
