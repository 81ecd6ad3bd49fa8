use Rattle.std.proofs.Common.{◌≡◌, ◌<◌, length, None, arith, length-drop, refl, rules}
use Rattle.encoding_mem.specs.declared.codec.decoder_result.DecoderResult.TheVariants.{OutputFull}
use Rattle.recode.specs.calls.EngineView.{chars_between, standing}
use Rattle.recode.specs.declared.job.Policy.{Policy}
use Rattle.recode.proofs.TurnLemmas.{between_is, decode_turn_from, holds_between, none_open, open_after}
use Rattle.recode.proofs.VerdictLemmas.{next_tells}
use Rattle.recode.proofs.CodecCallLemmas.{IsDecoded, decoded_by, fewer_left, some_written, written_some, holds_some}
use Rattle.recode.proofs.engine.Engine.fill.Goals.{After-decode_to_pivot-call}
use Rattle.recode.proofs.engine.Engine.fill.Given.{Over}
use Rattle.recode.proofs.engine.Engine.fill.Goals as goal

-- what the decoder took, and that it wrote something if the pivot is full
took : (g : Over) (c : After-decode_to_pivot-call g)
    → IsDecoded (g.D.StreamDecoder.view c.args.self.now.decoder).state (g.D.StreamDecoder.view c.decode_to_pivot-call.new.decoder).state c.args.src.now c.args.last c.decode_to_pivot-call.result.read c.decode_to_pivot-call.result.answer (chars_between c.decode_to_pivot-call.new.pivot 0 c.decode_to_pivot-call.result.written)
took g c = let d = c.decode_to_pivot-call in decoded_by _ _ _ _ _ _ _ d.result.answer d.ensures.law (between_is d.new.pivot d.result.written)

some : (g : Over) (c : After-decode_to_pivot-call g) → c.decode_to_pivot-call.result.answer ≡ OutputFull → 0 < length (chars_between c.decode_to_pivot-call.new.pivot 0 c.decode_to_pivot-call.result.written)
some g c full = let d = c.decode_to_pivot-call in written_some (g.D.StreamDecoder.view c.args.self.now.decoder).state (g.D.StreamDecoder.view d.new.decoder).state _ _ _ _ _ d.result.answer d.ensures.law (between_is d.new.pivot d.result.written) (λ t w. holds_some d.new.pivot d.result.written t w (rw full at d.ensures.ends))

pub returns-clause-law : goal.returns-clause-law
returns-clause-law g c = λ p.
    let at = (goal.at.returns-clause-law g c).After-decode_to_pivot-call in
    let none : c.args.self.now.answer ≡ None = search rules in
    let view = g.D.StreamDecoder.view in
    let d = c.decode_to_pivot-call in
    let was = standing view g.E.RawEncoder.parts p c.args.self.now c.args.pivot.now in
    let open_ = none_open (standing view g.E.RawEncoder.parts Policy.Decimal c.args.self.now c.args.pivot.now) c.args.src.now c.args.last was.answer none c.requires.ready.open_ in
    let sound = c.requires.ready.sound in
    decode_turn_from was none open_.0 (record { index = sound.index; bad = sound.bad; lost = sound.lost }) (view d.new.decoder).state (view d.new.decoder).finished (view d.new.decoder).source c.args.src.now c.args.last d.result.read d.new.calls d.result.answer _ (took g at) (some g at) d.ensures.calls d.ensures.source

pub returns-clause-next : goal.returns-clause-next
returns-clause-next g c =
    let none : c.args.self.now.answer ≡ None = search rules in
    let d = c.decode_to_pivot-call in
    let was = standing g.D.StreamDecoder.view g.E.RawEncoder.parts Policy.Decimal c.args.self.now c.args.pivot.now in
    record {
      sound = (returns-clause-law g c Policy.Decimal).sound;
      limit = omega (arith, c.requires.ready.limit, length-drop d.result.read c.args.src.now, d.ensures.law.within);
      tells = next_tells _ _ _ _ (rw (none_open was c.args.src.now c.args.last was.answer none c.requires.ready.open_).0 at c.requires.ready.tells);
      open_ = open_after _ _ c.args.src.now c.args.last d.result.read d.result.written _ d.result.answer _ (took g (goal.at.returns-clause-next g c).After-decode_to_pivot-call) d.ensures.ends refl d.ensures.finished;
    }

pub returns-clause-fewer : goal.returns-clause-fewer
returns-clause-fewer g c = λ full.
    let at = (goal.at.returns-clause-fewer g c).After-decode_to_pivot-call in
    omega (arith, fewer_left _ _ _ _ _ _ _ (took g at) (some g at (cc)))

pub returns-clause-holds : goal.returns-clause-holds
returns-clause-holds g c = let d = c.decode_to_pivot-call in holds_between d.new.pivot d.result.written (some_written (g.D.StreamDecoder.view c.args.self.now.decoder).state (g.D.StreamDecoder.view d.new.decoder).state _ _ _ _ d.result.answer d.ensures.law)
