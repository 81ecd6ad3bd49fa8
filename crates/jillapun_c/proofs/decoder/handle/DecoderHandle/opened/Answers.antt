use Rattle.std.proofs.Common.{sym, subst, ◌∙◌}
use Rattle.encoding_front.specs.Encodings.{lists_of}
use Rattle.encoding_front.specs.calls.DecoderViews.{decoder_view}
use Rattle.encoding_front.specs.calls.SavedDecoders.{CanBeResumed}
use Rattle.jillapun_c.proofs.HeldDecoderLemmas.{can_go_on, closed_why, finished_why, goes_on}
use Rattle.jillapun_c.proofs.decoder.handle.DecoderHandle.opened.Goals as goal

pub returns-in_default : goal.returns-in_default
returns-in_default c = closed_why c.args.self.now (sym c.saved.ensures ∙ c.in_default.is)

pub returns-then-saved : goal.returns-then-saved
returns-then-saved c = finished_why c.args.self.now c.in-Some.saved (sym c.in-Some.ensures) c.if-saved.true

pub resumed-requires : goal.resumed-requires
resumed-requires c =
    let h = c.args.self.now in
    subst (λ t. CanBeResumed t c.in-Some.saved) (sym c.lent.ensures.lists) (can_go_on h c.in-Some.saved (sym c.in-Some.ensures))

pub returns : goal.returns
returns c =
    let h = c.args.self.now in
    goes_on h c.in-Some.saved (lists_of c.lent.result) (decoder_view c.resumed.result) (sym c.in-Some.ensures) c.if-saved.false c.lent.ensures.lists
    c.resumed.ensures.saves c.resumed.ensures.made
