-- Short Latin1 texts.
use Rattle.std.proofs.Common.{◌≡◌, ℕ, zero, suc, ◌≤◌, List, [], ◌∷◌, refl, sym, subst, arith}
use Rattle.std.specs.Char.{encode_utf8}
use Rattle.std.specs.Str.{chars}
use Rattle.encoding_mem.specs.Latin1.{AllLatin1, IsLatin1Text}

no_scalars : AllLatin1 []
no_scalars i = omega arith

one_more : (c : ℕ) (cs : List ℕ) → c ≤ 0xFF → AllLatin1 cs → AllLatin1 (c ∷ cs)
one_more c cs h k zero = h
one_more c cs h k (suc i) = k i

-- `A` and `é`
chars_of_a : chars (0x41 ∷ []) ≡ 0x41 ∷ []
unfolding chars
chars_of_a = refl

chars_of_e : chars (0xC3 ∷ 0xA9 ∷ []) ≡ 0xE9 ∷ []
unfolding chars
chars_of_e = refl

chars_of_three : chars (0x41 ∷ 0xC3 ∷ 0xA9 ∷ 0x42 ∷ []) ≡ 0x41 ∷ 0xE9 ∷ 0x42 ∷ []
unfolding chars
chars_of_three = refl

pub a_is_latin1 : AllLatin1 (chars (0x41 ∷ []))
a_is_latin1 = subst AllLatin1 (sym chars_of_a) (one_more 0x41 [] (omega arith) no_scalars)

pub e_is_latin1 : AllLatin1 (chars (0xC3 ∷ 0xA9 ∷ []))
e_is_latin1 = subst AllLatin1 (sym chars_of_e) (one_more 0xE9 [] (omega arith) no_scalars)

pub three_are_latin1 : IsLatin1Text (0x41 ∷ 0xC3 ∷ 0xA9 ∷ 0x42 ∷ [])
unfolding encode_utf8
three_are_latin1 = (
  (0x41 ∷ 0xE9 ∷ 0x42 ∷ [], (refl, refl)),
  subst AllLatin1 (sym chars_of_three) (one_more 0x41 (0xE9 ∷ 0x42 ∷ []) (omega arith) (one_more 0xE9 (0x42 ∷ []) (omega arith) (one_more 0x42 [] (omega arith) no_scalars))),
)
