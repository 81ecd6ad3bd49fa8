-- A call that read all has taken what ends three or more bytes before the end of what was read.
use Rattle.std.proofs.Common.{◌≡◌, ℕ, ◌+◌, ◌⊎◌, inl, inr, Bool, false, IsTrue, List, [], ◌∷◌, ◌++◌, length, drop, sym, ◌∙◌, ap, arith, append_assoc, length-drop}
use Rattle.std.proofs.lemmas.List.{append-nil, append_cancel_left}
use Rattle.encoding_mem.specs.Piece.{Piece, head_piece, sizes}
use Rattle.encoding_mem.specs.calls.Decoding.{DecoderState, EndsWith, StateLaw, TakesSoon, Waits}
use Rattle.encoding_mem.specs.laws.Piece.{sizes-append}
use Rattle.encoding_mem.specs.laws.ReadCalls.{apart_parts}
use Rattle.encoding_mem.specs.declared.codec.decoder_result.DecoderResult.TheVariants.{InputEmpty}

-- what was taken, if size bytes are these pieces and what is pending
pub takes_soon : (before after : List ℕ → List Piece) (src : List ℕ) (last : Bool) (size pending : ℕ) (taken : List Piece)
    → size ≡ sizes taken + pending
    → ((r : List ℕ) → (IsTrue last → r ≡ []) → before (src ++ r) ≡ taken ++ after r)
    → ((pending ≡ 0) × (after [] ≡ [])) ⊎ ((last ≡ false) × Waits after pending)
    → TakesSoon before src last size taken
takes_soon before after src last size pending taken counted rest ends r ps more stops is early = elim (apart_parts taken ps (after r) more same) [
  | inl m ↦ m
  | inr m ↦ longer m.0 m.1
]
  where
    same : taken ++ after r ≡ ps ++ more
    same = sym (rest r stops) ∙ is

    longer : (m : List Piece) → ps ≡ taken ++ m → (rest : List Piece) × (taken ≡ ps ++ rest)
    longer [] e = ([], sym (append-nil ps ∙ e ∙ append-nil taken))
    longer (p ∷ m) e =
        let over : sizes ps ≡ sizes taken + sizes (p ∷ m) = ap sizes e ∙ sizes-append taken (p ∷ m) in
        let behind : after r ≡ p ∷ (m ++ more) = append_cancel_left taken (after r) ((p ∷ m) ++ more) (same ∙ ap (λ l. l ++ more) e ∙ append_assoc taken (p ∷ m) more) in
        elim ends [
          | inl none ↦ absurd (omega (arith, none.0, counted, over, early))
          | inr waits ↦ absurd (omega (arith, waits.1.soon r p (ap head_piece behind), counted, over, early))
        ]

-- of a call up to a malformed sequence
pub call_takes_soon : (before after : DecoderState) (src : List ℕ) (last : Bool) (read : ℕ) (W : List ℕ → Type 0) (free room replacement : ℕ)
    → (law : StateLaw before after src last read W InputEmpty) → EndsWith after (drop read src) last free room replacement InputEmpty
    → TakesSoon before.pieces src last (before.pending + length src) law.taken
call_takes_soon before after src last read W free room replacement law ends =
    let whole : read ≡ length src = omega (arith, ap length ends.0, length-drop read src, law.within) in
    takes_soon before.pieces after.pieces src last (before.pending + length src) after.pending law.taken (omega (arith, law.counted, whole))
    (λ r stops. law.rest r stops ∙ ap (λ x. law.taken ++ after.pieces (x ++ r)) ends.0) ends.1
