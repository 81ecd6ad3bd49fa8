-- Events of pieces that are joined, and pieces that are not decided yet.
use Rattle.std.proofs.Common.{◌≡◌, ℕ, ◌+◌, ◌-◌, Bool, List, [], ◌∷◌, ◌++◌, drop, refl, sym, ◌∙◌, ap, subst, arith, append_assoc}
use Rattle.std.proofs.lemmas.List.{append-nil}
use Rattle.encoding_mem.specs.Piece.{Piece, well_formed, malformed, sizes, scalars, head_piece, AreWellFormed}
use Rattle.encoding_mem.specs.laws.Piece.{sizes-append, scalars-append}
use Rattle.encoding_mem.specs.Event.{scalar, malformed_at, events, scalar_events}
use Rattle.encoding_mem.specs.declared.codec.decoder_result.DecoderResult.{DecoderResult}
use Rattle.encoding_mem.specs.declared.codec.decoder_result.DecoderResult.TheVariants.{InputEmpty, OutputFull, Malformed}
use Rattle.encoding_mem.specs.calls.Decoding.{DecoderState, Reports, StateLaw, EventLaw, reported_event}
use Rattle.encoding_mem.specs.Decided.{IsDecided, IsUndecided}

events-append : (offset : ℕ) (a b : List Piece) → events offset (a ++ b) ≡ events offset a ++ events (offset + sizes a) b
events-append offset [] b = ap (λ n. events n b) (let e : offset ≡ offset + 0 = omega arith in e)
events-append offset (well_formed n cs ∷ a) b =
    let e : (offset + n) + sizes a ≡ offset + (n + sizes a) = omega arith in
    ap (λ x. scalar_events cs ++ x) (events-append (offset + n) a b ∙ ap (λ k. events (offset + n) a ++ events k b) e) ∙ sym (append_assoc (scalar_events cs) (events (offset + n) a) (events (offset + (n + sizes a)) b))
events-append offset (malformed n ∷ a) b =
    let e : (offset + n) + sizes a ≡ offset + (n + sizes a) = omega arith in
    ap (λ x. malformed_at n (offset + n) ∷ x) (events-append (offset + n) a b ∙ ap (λ k. events (offset + n) a ++ events k b) e)

scalar_events-append : (a b : List ℕ) → scalar_events (a ++ b) ≡ scalar_events a ++ scalar_events b
scalar_events-append [] b = refl
scalar_events-append (c ∷ a) b = ap (λ x. scalar c ∷ x) (scalar_events-append a b)

well_formed_events : (offset : ℕ) (ps : List Piece) → AreWellFormed ps → events offset ps ≡ scalar_events (scalars ps)
well_formed_events offset [] h = refl
well_formed_events offset (well_formed n cs ∷ ps) h = ap (λ x. scalar_events cs ++ x) (well_formed_events (offset + n) ps h.1) ∙ sym (scalar_events-append cs (scalars ps))
well_formed_events offset (malformed n ∷ ps) h = absurd h.0

malformed_events : (a : ℕ) (prefix : List Piece) → AreWellFormed prefix → events 0 (prefix ++ malformed a ∷ []) ≡ scalar_events (scalars (prefix ++ malformed a ∷ [])) ++ malformed_at a (sizes (prefix ++ malformed a ∷ [])) ∷ []
malformed_events a prefix h =
    let offset : (0 + sizes prefix) + a ≡ sizes (prefix ++ malformed a ∷ []) = omega (arith, sizes-append prefix (malformed a ∷ [])) in
    events-append 0 prefix (malformed a ∷ []) ∙ ap (λ x. x ++ malformed_at a ((0 + sizes prefix) + a) ∷ []) (well_formed_events 0 prefix h ∙ ap scalar_events (sym (scalars-append prefix (malformed a ∷ []) ∙ append-nil (scalars prefix))))
    ∙ ap (λ n. scalar_events (scalars (prefix ++ malformed a ∷ [])) ++ malformed_at a n ∷ []) offset

told_by : (outcome : DecoderResult) (pending : ℕ) (taken : List Piece) → Reports outcome pending taken → events 0 taken ≡ scalar_events (scalars taken) ++ reported_event outcome (sizes taken)
told_by InputEmpty pending taken h = well_formed_events 0 taken h ∙ sym (append-nil (scalar_events (scalars taken)))
told_by OutputFull pending taken h = well_formed_events 0 taken h ∙ sym (append-nil (scalar_events (scalars taken)))
told_by (Malformed a b) pending taken h =
    let k = h.4 in
    subst (λ t. events 0 t ≡ scalar_events (scalars t) ++ malformed_at a (sizes t) ∷ []) (sym k.2) (malformed_events a k.0 k.1)

pub event_law : (before after : DecoderState) (src : List ℕ) (last : Bool) (read : ℕ) (W : List ℕ → Type 0) (outcome : DecoderResult)
    → StateLaw before after src last read W outcome → EventLaw before after src last read W outcome
event_law before after src last read W outcome h =
    let offset : sizes h.taken ≡ before.pending + read - after.pending = omega (arith, h.counted) in
    let zero : 0 + sizes h.taken ≡ sizes h.taken = omega arith in
    let rest : (r : List ℕ) → List Piece = λ r. after.pieces (drop read src ++ r) in (
      scalars h.taken,
      h.writes,
      λ r e. ap (events 0) (h.rest r e) ∙ events-append 0 h.taken (rest r)
          ∙ ap (λ n. events 0 h.taken ++ events n (rest r)) zero
          ∙ ap (λ t. t ++ events (sizes h.taken) (rest r)) (told_by outcome after.pending h.taken h.well_formed)
          ∙ ap (λ n. (scalar_events (scalars h.taken) ++ reported_event outcome n) ++ events n (rest r)) offset,
    )

heads : (p : Piece) (ps rest : List Piece) (a b : List Piece) (a_rest b_rest : List Piece) → a ≡ (p ∷ ps) ++ a_rest → b ≡ (p ∷ ps) ++ b_rest → head_piece a ≡ head_piece b
heads p ps rest a b ar br e f = ap head_piece e ∙ sym (ap head_piece f)

pub decides_nothing : (pieces : List ℕ → List Piece) (x : List ℕ) (ps : List Piece) → IsUndecided pieces x → IsDecided pieces x ps → ps ≡ []
decides_nothing pieces x [] h k = refl
decides_nothing pieces x (p ∷ ps) h k =
    let here = k [] tt in
    let then = k h.more h.bytes in
    let now : pieces x ≡ (p ∷ ps) ++ here.0 = ap pieces (sym (append-nil x)) ∙ here.1 in
    absurd (h.differs (heads p ps [] (pieces x) (pieces (x ++ h.more)) here.0 then.0 now then.1))
