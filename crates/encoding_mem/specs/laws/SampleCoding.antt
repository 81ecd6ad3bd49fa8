-- The sample is a target of at most three bytes a step.
use Rattle.std.proofs.Common.{◌≡◌, ℕ, ◌+◌, ◌*◌, ◌≤◌, arith, Bool, true, false, cond, length, [], refl, lit≤, nat_lt, nat_eq}
use Rattle.encoding_mem.specs.Coding.{IsCoding, FitsNeed, mapped_bytes}
use Rattle.encoding_mem.specs.calls.DecodedLength.{cost_in}
use Rattle.encoding_mem.specs.calls.EncodedLength.{IsRoomFor, bound_for}
use Rattle.encoding_mem.specs.laws.EncodedLength.{cost_some}
use Rattle.encoding_mem.specs.laws.Stateless.{short_if, short_one, short_none}
use Rattle.encoding_mem.specs.examples.SampleCoding.{out_of_jis, escape_between, sample_form, sample_coding, sample_room}
use Rattle.encoding_mem.specs.declared.codec.form.EscapeState.{EscapeState}
use Rattle.encoding_mem.specs.declared.codec.form.EscapeState.TheVariants.{Ascii, Roman, Jis}

out_twice : (s : EscapeState) → out_of_jis (out_of_jis s) ≡ out_of_jis s
out_twice Ascii = refl
out_twice Roman = refl
out_twice Jis = refl

chosen : (yen hiragana : Bool) (s : EscapeState) → cond yen Roman (cond hiragana Jis (out_of_jis (cond yen Roman (cond hiragana Jis (out_of_jis s))))) ≡ cond yen Roman (cond hiragana Jis (out_of_jis s))
chosen true hiragana s = refl
chosen false true s = refl
chosen false false s = out_twice s

to_itself : (s : EscapeState) → escape_between s s ≡ []
to_itself Ascii = refl
to_itself Roman = refl
to_itself Jis = refl

short_escape : (s s' : EscapeState) → length (escape_between s s') ≤ 3
short_escape Ascii Ascii = lit≤ tt
short_escape Ascii Roman = lit≤ tt
short_escape Ascii Jis = lit≤ tt
short_escape Roman Ascii = lit≤ tt
short_escape Roman Roman = lit≤ tt
short_escape Roman Jis = lit≤ tt
short_escape Jis Ascii = lit≤ tt
short_escape Jis Roman = lit≤ tt
short_escape Jis Jis = lit≤ tt

short_form : (c : ℕ) → FitsNeed 3 (sample_form c)
short_form c = short_if (nat_lt c 0x80) short_one (short_if (nat_eq c 0xA5) short_one (short_if (nat_eq c 0x3042) (record { short = lit≤ tt }) short_none))

pub sample_coding_laws : IsCoding 3 sample_coding
sample_coding_laws = record {
  stays = λ s c. chosen (nat_eq c 0xA5) (nat_eq c 0x3042) s;
  same = to_itself;
  short = short_form;
  escape_short = short_escape;
  few = lit≤ tt;
}

each_fits : (t : Bool) (s s' : EscapeState) (c : ℕ) → length (escape_between s s') + length (mapped_bytes (sample_form c)) ≤ (bound_for sample_room t).factor * cost_in t c
each_fits true s s' c = omega (arith, short_escape s s', (short_form c).short, cost_some true c)
each_fits false s s' c = omega (arith, short_escape s s', (short_form c).short, cost_some false c)

last_fits : (t : Bool) (s : EscapeState) → length (escape_between s Ascii) ≤ (bound_for sample_room t).extra
last_fits true s = short_escape s Ascii
last_fits false s = short_escape s Ascii

pub sample_fits : IsRoomFor sample_coding sample_room
sample_fits t = record { each = λ s c. each_fits t s (sample_coding.set s c) c; last = last_fits t }
