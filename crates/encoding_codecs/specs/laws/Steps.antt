-- Laws of what is read back of a scalar, by the first piece of its bytes.
use Rattle.std.proofs.Common.{◌≡◌, ◌≢◌, ℕ, ◌<◌, ◌≤◌, ◌⊎◌, Bool, true, false, cond, List, [], ◌∷◌, ◌++◌, length, refl, ◌∙◌, ap, arith, inl, inr}
use Rattle.std.proofs.lemmas.Bool.{cases_eq}
use Rattle.encoding_mem.specs.declared.codec.reference.Reference.{Reference}
use Rattle.encoding_mem.specs.Coding.{reference_bytes}
use Rattle.encoding_mem.specs.Piece.{Piece, well_formed, malformed, piece_len, piece_scalars, IsWellFormedPiece}
use Rattle.encoding_mem.specs.Steps.{Returns, Strays}
use Rattle.encoding_mem.specs.laws.Steps.{strays_at_reference}

-- a piece of so many bytes gives the scalar, or it is wrong
pub record IsWrong (n c : ℕ) (p : Piece) : Type 0 where
  pub within : piece_len p ≤ n
  pub wrong : (¬ (IsWellFormedPiece p)) ⊎ ((d : ℕ) × (d ≢ c) × (piece_scalars p ≡ d ∷ []))

-- a piece of n bytes is the character c, or is wrong for it
abbrev pub IsEither : ℕ → ℕ → Piece → Type 0
IsEither n c p = (p ≡ well_formed n (c ∷ [])) ⊎ IsWrong n c p

pub malformed_either : (n m c : ℕ) → m ≤ n → IsEither n c (malformed m)
malformed_either n m c fits = inr (record { within = fits; wrong = inl (λ h. h) })

pub one_either : (n c d : ℕ) → IsEither n c (well_formed n (d ∷ []))
one_either n c d = elim (cases_eq d c) [
  | inl same ↦ inl (ap (λ e. well_formed n (e ∷ [])) same)
  | inr apart ↦ inr (record { within = omega arith; wrong = inr (d, apart, refl) })
]

pub either_if : (n c : ℕ) (t : Bool) (p q : Piece) → IsEither n c p → IsEither n c q → IsEither n c (cond t p q)
either_if n c true p q h k = h
either_if n c false p q h k = k

-- bytes that begin with this piece, whatever follows
pub by_piece : (first_piece : List ℕ → Piece) (bytes : List ℕ) (c : ℕ) (p : Piece) → ((y : List ℕ) → first_piece (bytes ++ y) ≡ p) → IsEither (length bytes) c p
    → Returns first_piece bytes c ⊎ Strays first_piece bytes c
by_piece first_piece bytes c p is (inl same) = inl (record { piece = λ y. is y ∙ same })
by_piece first_piece bytes c p is (inr wrong) = inr (record { piece = p; first = is; within = wrong.within; wrong = wrong.wrong })

-- a reference stands for no character from 80 on
pub reference_strays : (ref : Reference) (first_piece : List ℕ → Piece) → ((b : ℕ) (x : List ℕ) → b < 0x80 → first_piece (b ∷ x) ≡ well_formed 1 (b ∷ [])) → (c d : ℕ) → 0x80 ≤ c
    → Strays first_piece (reference_bytes ref d) c
reference_strays ref first_piece ascii c d high = strays_at_reference ref first_piece c d (λ x. ascii 0x26 x (omega arith)) (λ same. omega (arith, same, high))
