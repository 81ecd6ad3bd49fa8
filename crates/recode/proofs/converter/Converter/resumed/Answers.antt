use Rattle.std.proofs.Common.{◌≡◌, ◌∙◌, sym, subst, ap}
use Rattle.std.proofs.Props.{props}
use Rattle.std.proofs.Math.Logic.{∥∥₁_elim}
use Rattle.encoding_mem.specs.Coding.{Coding}
use Rattle.encoding_mem.specs.calls.EncoderRule.{EncoderParts, Moves}
use Rattle.encoding_mem.specs.declared.codec.form.EscapeState.{EscapeState}
use Rattle.encoding_front.specs.Encodings.{IsReady, coding_of, output_encoding_of}
use Rattle.encoding_front.specs.contracts.decoder.DecoderStreamDecoder.TheImpl.{view-value}
use Rattle.encoding_front.specs.contracts.variant_encoder.VariantEncoderSourceEncoder.TheImpl.{parts-value}
use Rattle.recode.specs.SavedConverters.{IsSoundSaved}
use Rattle.recode.specs.declared.job.Job.{Job}
use Rattle.recode.proofs.SavedLemmas.{put_first, reader_resumes, resumed_codecs, resumed_rests, resumed_saves, resumed_small, resumed_within, resumes, sound_resumed, target_ready, waits_first}
use Rattle.recode.proofs.converter.Converter.resumed.Goals.{After-resumed-2}
use Rattle.recode.proofs.converter.Converter.resumed.Goals as goal

-- what was saved is sound with the decoders that are resumed
sound : (c : After-resumed-2) → IsSoundSaved c.args.saved c.args.text.now c.args.tables.now ((view-value).it c.resumed.result) ((view-value).it c.resumed-2.result)
sound c = sound_resumed c.args.tables.now c.args.saved c.args.text.now _ _ c.requires c.resumed.ensures.saves c.resumed.ensures.made c.resumed-2.ensures.saves c.resumed-2.ensures.made

-- the encoder is into the target, and the set is in force
coding : (c : After-resumed-2) → ((parts-value).it c.enter.new.self).coding ≡ coding_of c.args.tables.now c.args.saved.job.to
coding c = ap (λ (e : EncoderParts). e.coding) c.enter.ensures.same ∙ c.new-encoder.ensures.coding ∙ ap (λ (j : Job). coding_of c.args.tables.now j.to) c.with-job.ensures

entered : (c : After-resumed-2) → ((parts-value).it c.enter.new.self).set ≡ c.args.saved.set
entered c =
    let new : EncoderParts = (parts-value).it c.new-encoder.result in
    let s = c.args.saved.set in
    let target : new.coding ≡ coding_of c.args.tables.now c.args.saved.job.to = c.new-encoder.ensures.coding ∙ ap (λ (j : Job). coding_of c.args.tables.now j.to) c.with-job.ensures in
    ∥∥₁_elim (sound c).set (hlevel props) (λ moves. c.enter.ensures.set
    (subst (λ (x : Coding). Moves x new.set s) (sym target) (subst (λ (q : EscapeState). Moves (coding_of c.args.tables.now c.args.saved.job.to) q s) (sym c.new-encoder.ensures.set) moves)))

pub new-encoder-requires : goal.new-encoder-requires
new-encoder-requires c = subst (λ (j : Job). IsReady c.args.tables.now (output_encoding_of j.to)) (sym c.with-job.ensures) (target_ready c.args.tables.now c.args.saved c.args.text.now c.requires)

pub resumed-requires : goal.resumed-requires
resumed-requires c = resumes c.args.tables.now c.args.saved c.args.text.now c.requires

pub resumed-requires-2 : goal.resumed-requires-2
resumed-requires-2 c = reader_resumes c.args.tables.now c.args.saved c.args.text.now c.requires

pub invariant_of-result : goal.invariant_of-result
invariant_of-result c =
    let at = (goal.at.invariant_of-result c).After-resumed-2 in
    let w = c.args.saved in
    let x = c.args.text.now in
    let t = c.args.tables in
    let d = c.resumed in
    let r = c.resumed-2 in
    let k = sound at in
    let put = put_first x c.copy_from_slice.new.self _ c.copy_from_slice.ensures.after in
    record {
      codecs = resumed_codecs view-value.it parts-value.it w x t c.with-job.result d.result c.enter.new.self r.result c.with-job.ensures (coding at) (entered at) d.ensures.made r.ensures.made k;
      small = resumed_small view-value.it parts-value.it w x t c.with-job.result d.result c.enter.new.self r.result c.with-job.ensures (coding at) (entered at) d.ensures.made r.ensures.made k;
      within = resumed_within view-value.it parts-value.it w x t c.with-job.result d.result c.enter.new.self r.result c.with-job.ensures (coding at) (entered at) d.ensures.made r.ensures.made k;
      holds = waits_first x _ put k.waits;
      rests = resumed_rests view-value.it parts-value.it w x t c.with-job.result d.result c.enter.new.self r.result c.with-job.ensures (coding at) (entered at) d.ensures.made r.ensures.made k _ put;
    }

pub returns-clause-saves : goal.returns-clause-saves
returns-clause-saves c =
    let at = (goal.at.returns-clause-saves c).After-resumed-2 in
    let d = c.resumed in
    let r = c.resumed-2 in
    resumed_saves view-value.it parts-value.it c.args.saved c.args.text.now c.args.tables c.with-job.result d.result c.enter.new.self r.result c.with-job.ensures (coding at) (entered at) d.ensures.made r.ensures.made (sound at) _
    (put_first c.args.text.now c.copy_from_slice.new.self _ c.copy_from_slice.ensures.after) d.ensures.saves r.ensures.saves
