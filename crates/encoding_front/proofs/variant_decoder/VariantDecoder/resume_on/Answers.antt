use Rattle.std.proofs.Common.{◌≡◌, sym, subst, ap, ◌∙◌}
use Rattle.encoding_mem.specs.calls.Resuming.{HoldsFew, Reading, saved_pending}
use Rattle.encoding_mem.specs.declared.codec.saved_pieces.SavedPieces.{SavedPieces}
use Rattle.encoding_front.specs.calls.VariantDecoders.{resumed_of}
use Rattle.encoding_front.specs.declared.variant_decoder.VariantDecoder.{VariantDecoder}
use Rattle.encoding_front.proofs.variant_decoder.VariantDecoder.resume_on.Goals as goal

-- what a decoder reads by is what it reads by as the variant that it is
few_in : (d e : VariantDecoder) (s : SavedPieces) → d ≡ e → HoldsFew (resumed_of d s.mode (saved_pending s)) → HoldsFew (resumed_of e s.mode (saved_pending s))
few_in d e s is = subst (λ (v : VariantDecoder). HoldsFew (resumed_of v s.mode (saved_pending s))) is

same_in : (d e : VariantDecoder) (s : SavedPieces) (r : Reading) → d ≡ e → r ≡ resumed_of e s.mode (saved_pending s) → r ≡ resumed_of d s.mode (saved_pending s)
same_in d e s r is same = same ∙ ap (λ (v : VariantDecoder). resumed_of v s.mode (saved_pending s)) (sym is)

pub resume-requires : goal.resume-requires
resume-requires c = few_in _ _ c.args.saved c.in-Utf8.is c.requires

pub returns-in-Utf8-clause-same : goal.returns-in-Utf8-clause-same
returns-in-Utf8-clause-same c = same_in _ _ c.args.saved _ c.in-Utf8.is c.resume.ensures.same

pub resume-requires-in-SingleByte : goal.resume-requires-in-SingleByte
resume-requires-in-SingleByte c = few_in _ _ c.args.saved c.in-SingleByte.is c.requires

pub returns-in-SingleByte-clause-same : goal.returns-in-SingleByte-clause-same
returns-in-SingleByte-clause-same c = same_in _ _ c.args.saved _ c.in-SingleByte.is c.resume-in-SingleByte.ensures.same

pub resume-requires-in-Big5 : goal.resume-requires-in-Big5
resume-requires-in-Big5 c = few_in _ _ c.args.saved c.in-Big5.is c.requires

pub returns-in-Big5-clause-same : goal.returns-in-Big5-clause-same
returns-in-Big5-clause-same c = same_in _ _ c.args.saved _ c.in-Big5.is c.resume-in-Big5.ensures.same

pub resume-requires-in-EucKr : goal.resume-requires-in-EucKr
resume-requires-in-EucKr c = few_in _ _ c.args.saved c.in-EucKr.is c.requires

pub returns-in-EucKr-clause-same : goal.returns-in-EucKr-clause-same
returns-in-EucKr-clause-same c = same_in _ _ c.args.saved _ c.in-EucKr.is c.resume-in-EucKr.ensures.same

pub resume-requires-in-EucJp : goal.resume-requires-in-EucJp
resume-requires-in-EucJp c = few_in _ _ c.args.saved c.in-EucJp.is c.requires

pub returns-in-EucJp-clause-same : goal.returns-in-EucJp-clause-same
returns-in-EucJp-clause-same c = same_in _ _ c.args.saved _ c.in-EucJp.is c.resume-in-EucJp.ensures.same

pub resume-requires-in-ShiftJis : goal.resume-requires-in-ShiftJis
resume-requires-in-ShiftJis c = few_in _ _ c.args.saved c.in-ShiftJis.is c.requires

pub returns-in-ShiftJis-clause-same : goal.returns-in-ShiftJis-clause-same
returns-in-ShiftJis-clause-same c = same_in _ _ c.args.saved _ c.in-ShiftJis.is c.resume-in-ShiftJis.ensures.same

pub resume-requires-in-Gb18030 : goal.resume-requires-in-Gb18030
resume-requires-in-Gb18030 c = few_in _ _ c.args.saved c.in-Gb18030.is c.requires

pub returns-in-Gb18030-clause-same : goal.returns-in-Gb18030-clause-same
returns-in-Gb18030-clause-same c = same_in _ _ c.args.saved _ c.in-Gb18030.is c.resume-in-Gb18030.ensures.same

pub resume-requires-in-Iso2022Jp : goal.resume-requires-in-Iso2022Jp
resume-requires-in-Iso2022Jp c = few_in _ _ c.args.saved c.in-Iso2022Jp.is c.requires

pub returns-in-Iso2022Jp-clause-same : goal.returns-in-Iso2022Jp-clause-same
returns-in-Iso2022Jp-clause-same c = same_in _ _ c.args.saved _ c.in-Iso2022Jp.is c.resume-in-Iso2022Jp.ensures.same

pub resume-requires-in-UserDefined : goal.resume-requires-in-UserDefined
resume-requires-in-UserDefined c = few_in _ _ c.args.saved c.in-UserDefined.is c.requires

pub returns-in-UserDefined-clause-same : goal.returns-in-UserDefined-clause-same
returns-in-UserDefined-clause-same c = same_in _ _ c.args.saved _ c.in-UserDefined.is c.resume-in-UserDefined.ensures.same

pub resume-requires-in-Utf16 : goal.resume-requires-in-Utf16
resume-requires-in-Utf16 c = few_in _ _ c.args.saved c.in-Utf16.is c.requires

pub returns-in-Utf16-clause-same : goal.returns-in-Utf16-clause-same
returns-in-Utf16-clause-same c = same_in _ _ c.args.saved _ c.in-Utf16.is c.resume-in-Utf16.ensures.same

pub resume-requires-in-Replacement : goal.resume-requires-in-Replacement
resume-requires-in-Replacement c = few_in _ _ c.args.saved c.in-Replacement.is c.requires

pub returns-in-Replacement-clause-same : goal.returns-in-Replacement-clause-same
returns-in-Replacement-clause-same c = same_in _ _ c.args.saved _ c.in-Replacement.is c.resume-in-Replacement.ensures.same
