use Rattle.encoding_front.proofs.variant_decoder.VariantDecoderSinkDecoder.saved.Goals as goal

pub returns-in-Utf8 : goal.returns-in-Utf8
returns-in-Utf8 c = rw c.in-Utf8.is c.saved.ensures

pub returns-in-SingleByte : goal.returns-in-SingleByte
returns-in-SingleByte c = rw c.in-SingleByte.is c.saved-in-SingleByte.ensures

pub returns-in-Big5 : goal.returns-in-Big5
returns-in-Big5 c = rw c.in-Big5.is c.saved-in-Big5.ensures

pub returns-in-EucKr : goal.returns-in-EucKr
returns-in-EucKr c = rw c.in-EucKr.is c.saved-in-EucKr.ensures

pub returns-in-EucJp : goal.returns-in-EucJp
returns-in-EucJp c = rw c.in-EucJp.is c.saved-in-EucJp.ensures

pub returns-in-ShiftJis : goal.returns-in-ShiftJis
returns-in-ShiftJis c = rw c.in-ShiftJis.is c.saved-in-ShiftJis.ensures

pub returns-in-Gb18030 : goal.returns-in-Gb18030
returns-in-Gb18030 c = rw c.in-Gb18030.is c.saved-in-Gb18030.ensures

pub returns-in-Iso2022Jp : goal.returns-in-Iso2022Jp
returns-in-Iso2022Jp c = rw c.in-Iso2022Jp.is c.saved-in-Iso2022Jp.ensures

pub returns-in-UserDefined : goal.returns-in-UserDefined
returns-in-UserDefined c = rw c.in-UserDefined.is c.saved-in-UserDefined.ensures

pub returns-in-Utf16 : goal.returns-in-Utf16
returns-in-Utf16 c = rw c.in-Utf16.is c.saved-in-Utf16.ensures

pub returns-in-Replacement : goal.returns-in-Replacement
returns-in-Replacement c = rw c.in-Replacement.is c.saved-in-Replacement.ensures
