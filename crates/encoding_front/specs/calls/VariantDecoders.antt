-- The words for the decoder of any encoding, without mark handling.
use Rattle.std.specs.Prelude.{◌≡◌, ℕ, List}
use Rattle.encoding_mem.specs.calls.Decoding.{DecoderState}
use Rattle.encoding_mem.specs.calls.Resuming.{Reading}
use Rattle.encoding_tables.specs.IndexLists.{IndexLists}
use Rattle.encoding_front.specs.Encodings.{pieces_of}
use Rattle.encoding_front.specs.calls.CodecBounds.{decoded_length_of}
use Rattle.encoding_front.specs.calls.Latin1Prefix.{Latin1Rule, by_ascii, by_index, by_mode, latin1_rule, untold}
use Rattle.encoding_front.specs.calls.Resumed.{resumed_in}
use Rattle.encoding_front.specs.contracts.variant_decoder.VariantDecoderSinkDecoder.TheImpl.{resumed-value, state-value}
use Rattle.encoding_front.specs.declared.encoding.Encoding.{Encoding}
use Rattle.encoding_front.specs.declared.variant_decoder.VariantDecoder.{VariantDecoder}
use Rattle.encoding_front.specs.declared.variant_decoder.VariantDecoder.TheVariants.{Iso2022Jp, Replacement, SingleByte, Utf16}

-- the state of the decoder of any encoding, without mark handling
abbrev pub state_of : VariantDecoder → DecoderState
state_of d = (state-value).it d

-- how the decoder of any encoding reads the bytes to come, without mark handling, if a mode, by its
-- number, and pending bytes are resumed
abbrev pub resumed_of : VariantDecoder → ℕ → List ℕ → Reading
resumed_of d = (resumed-value).it d

-- by which rule it says how far bytes are their characters in Latin1
abbrev pub rule_of : VariantDecoder → Latin1Rule
rule_of (SingleByte d) = by_index
rule_of (Iso2022Jp d) = by_mode
rule_of (Utf16 d) = untold
rule_of (Replacement d) = untold
rule_of _ = by_ascii

-- the decoder of any encoding is that of a new stream in an encoding, by some indexes
pub record IsNewIn (t : IndexLists) (e : Encoding) (d : VariantDecoder) : Type 0 where
  pub pending : (state_of d).pending ≡ 0
  pub pieces : (state_of d).pieces ≡ pieces_of t e
  pub room : (state_of d).room ≡ decoded_length_of e
  pub rule : rule_of d ≡ latin1_rule e
  pub resumed : resumed_of d ≡ resumed_in t e
