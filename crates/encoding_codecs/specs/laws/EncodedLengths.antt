-- Room that is enough for what is written in the targets of this crate.
use Rattle.std.proofs.Common.{◌≡◌, ℕ, ◌<◌, [], ◌∷◌, sym, subst}
use Rattle.encoding_mem.specs.Coding.{IsCoding, FitsNeed}
use Rattle.encoding_mem.specs.Stateless.{stateless}
use Rattle.encoding_mem.specs.laws.Stateless.{short_one}
use Rattle.encoding_mem.specs.calls.EncodedLength.{IsRoomFor, encoded_length_two_byte}
use Rattle.encoding_mem.specs.laws.EncodedLength.{two_byte_room}
use Rattle.encoding_mem.specs.declared.codec.form.Form.{Form}
use Rattle.encoding_mem.specs.declared.codec.form.Form.TheVariants.{Mapped}

-- of two bytes a character, if ASCII is itself
pub two_byte_fits : (form : ℕ → Form) → IsCoding 2 (stateless form) → ((c : ℕ) → c < 0x80 → form c ≡ Mapped (c ∷ [])) → IsRoomFor (stateless form) encoded_length_two_byte
two_byte_fits form laws ascii = two_byte_room form laws.short (λ c low. subst (FitsNeed 1) (sym (ascii c low)) short_one)
