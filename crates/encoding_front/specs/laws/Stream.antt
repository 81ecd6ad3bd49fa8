-- What holds of a decoder that may still look for a mark.
use Rattle.std.proofs.Common.{◌≡◌, ℕ, ◌≤◌, Bool, true, false, cond, IsTrue, List, [], ◌++◌, refl, sym, subst, ◌∙◌, ap}
use Rattle.std.proofs.lemmas.List.{append-nil}
use Rattle.encoding_mem.specs.calls.DecodedLength.{decoded_length}
use Rattle.encoding_mem.specs.declared.codec.room.DecodedLength.{DecodedLength}
use Rattle.encoding_mem.specs.declared.codec.room.OutputUnit.{OutputUnit}
use Rattle.encoding_front.specs.calls.CodecBounds.{decoded_length_of}
use Rattle.encoding_front.specs.calls.Seeking.{encoding_seen, find_mark, is_sought, room_widest, sought_encoding}
use Rattle.encoding_front.specs.laws.Seeking.{widest_encoding}
use Rattle.encoding_front.specs.declared.encoding.Encoding.{Encoding}
use Rattle.encoding_front.specs.declared.seeking.BomMatch.{BomMatch}
use Rattle.encoding_front.specs.declared.seeking.BomMatch.TheVariants.{Prefix}
use Rattle.encoding_front.specs.declared.seeking.BomSet.{BomSet}

-- what is held is no whole mark: it leaves the encoding as it is
held_at : (t : Bool) (e : Encoding) (F : BomMatch) → (IsTrue t → F ≡ Prefix) → cond t (encoding_seen e F) e ≡ e
held_at true e F h = ap (encoding_seen e) (h refl)
held_at false e F h = refl

pub in_force : (s : BomSet) (e : Encoding) (held : List ℕ) → (IsTrue (is_sought s) → find_mark s held ≡ Prefix) → sought_encoding s e (held ++ []) ≡ e
in_force s e held h = ap (sought_encoding s e) (append-nil held) ∙ held_at (is_sought s) e (find_mark s held) h

-- the encoding that an input turns out to be in is that of its mark, or the one in force
pub named_by : (e : Encoding) (s : BomSet) (held : List ℕ) → (IsTrue (is_sought s) → find_mark s held ≡ Prefix) → (x : List ℕ)
    → sought_encoding s e (held ++ x) ≡ sought_encoding s (sought_encoding s e (held ++ [])) (held ++ x)
named_by e s held prefix x = ap (λ (f : Encoding). sought_encoding s f (held ++ x)) (sym (in_force s e held prefix))

-- and the room is that of the encoding in force
pub room_named : (e : Encoding) (s : BomSet) (held : List ℕ) (room : DecodedLength) → (IsTrue (is_sought s) → find_mark s held ≡ Prefix)
    → room ≡ decoded_length_of e → room ≡ decoded_length_of (sought_encoding s e (held ++ []))
room_named e s held room prefix is = is ∙ ap decoded_length_of (sym (in_force s e held prefix))

-- which is at most the widest
pub widest_by : (room : DecodedLength) (e : Encoding) → room ≡ decoded_length_of e → (k : OutputUnit) (n : ℕ) → decoded_length room k n ≤ decoded_length room_widest k n
widest_by room e is k n = subst (λ (r : DecodedLength). decoded_length r k n ≤ decoded_length room_widest k n) (sym is) (widest_encoding e k n)
