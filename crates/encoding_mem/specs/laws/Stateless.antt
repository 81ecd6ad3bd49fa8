-- Targets with one set.
use Rattle.std.proofs.Common.{ℕ, ◌≤◌, refl, arith, Bool, true, false, cond, [], ◌∷◌, suc}
use Rattle.encoding_mem.specs.Coding.{IsCoding, FitsNeed}
use Rattle.encoding_mem.specs.Stateless.{stateless}
use Rattle.encoding_mem.specs.declared.codec.form.Form.{Form}
use Rattle.encoding_mem.specs.declared.codec.form.Form.TheVariants.{Mapped, Unmapped}

-- It is a target if no character has more than need bytes.
pub stateless_laws : (need : ℕ) (form : ℕ → Form) → need ≤ 4 → ((c : ℕ) → FitsNeed need (form c)) → IsCoding need (stateless form)
stateless_laws need form few short = record {
  stays = λ s c. refl;
  same = λ s. refl;
  short = short;
  escape_short = λ s s'. omega arith;
  few = few;
}

-- of a choice by a test
pub short_if : {n : ℕ} (b : Bool) {x y : Form} → FitsNeed n x → FitsNeed n y → FitsNeed n (cond b x y)
short_if true h k = h
short_if false h k = k

-- of one byte, and of none
pub short_one : {n a : ℕ} → FitsNeed (suc n) (Mapped (a ∷ []))
short_one = record { short = omega arith }

pub short_none : {n c : ℕ} → FitsNeed n (Unmapped c)
short_none = record { short = omega arith }
