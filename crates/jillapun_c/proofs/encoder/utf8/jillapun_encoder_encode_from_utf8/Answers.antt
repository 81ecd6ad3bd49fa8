use Rattle.std.proofs.Common.{◌≡◌, ℕ, ◌<◌, refl, ap, sym, ◌∙◌, arith, false, length, subst}
use Rattle.std.specs.Prelude.{◌^◌, IsSomeAnd}
use Rattle.encoding_mem.specs.Conversions.{text_prefix}
use Rattle.jillapun_c.specs.Coders.{encoder_in}
use Rattle.jillapun_c.specs.DecoderCalls.{text_outcome}
use Rattle.jillapun_c.specs.EncoderCalls.{EncodesAll}
use Rattle.jillapun_c.specs.EncoderWords.{GoesOnAs}
use Rattle.jillapun_c.specs.TextParts.{IsFirstPart, told_outcome}
use Rattle.jillapun_c.specs.declared.encoder_progress.EncoderProgress.{EncoderProgress}
use Rattle.jillapun_c.proofs.EncoderHandleLemmas.{answers, answers_closed}
use Rattle.jillapun_c.proofs.TextCallLemmas.{all_goes, before_of_text, long_enough, reads_text, whole_of_part}
use Rattle.jillapun_c.proofs.TextPartLemmas.{IsPartOf, part_of_look, part_within, prefix_of_text}
use Rattle.jillapun_c.proofs.encoder.utf8.jillapun_encoder_encode_from_utf8.Goals as goal

pub keep-requires : goal.keep-requires
keep-requires c =
    let call = c.encode_from_utf8-outcome.ensures.call in
    subst (λ o. IsSomeAnd o (λ e. GoesOnAs e c.encode_from_utf8-outcome.new.self)) c.in-Some-opened.ensures (record { same = call.same; moves = call.moves })

pub returns-in_default-clause-encodes : goal.returns-in_default-clause-encodes
returns-in_default-clause-encodes c utf8 = let b = c.in_default.ensures in absurd (b.0 (sym (prefix_of_text c.args.text.now utf8) ∙ b.1))

pub returns-in_default-opened-clause-encodes : goal.returns-in_default-opened-clause-encodes
returns-in_default-opened-clause-encodes c utf8 = answers_closed (encoder_in c.args.encoder.now) _ c.in_default-opened.ensures

pub returns-clause-encodes : goal.returns-clause-encodes
returns-clause-encodes c utf8 =
    let x = c.in-Some-opened.opened in
    let after = encoder_in c.keep.new.self in
    let most : ℕ = c.most_read-most.result in
    let q : EncoderProgress = record { read = c.encode_from_utf8-outcome.result.1; written = c.encode_from_utf8-outcome.result.2; outcome = c.told_outcome.result; had_unmappable = c.encode_from_utf8-outcome.result.3; scalar = 0 } in
    let part = c.in-Some.part.now in
    let p : IsFirstPart most c.args.text.now part c.in-Some.is_whole = c.in-Some.ensures in
    let front : IsPartOf (text_prefix c.args.text.now) part most = part_of_look c.args.text.now part most p.looked p.looks p.is in
    let h : IsPartOf c.args.text.now part most = subst (λ t. IsPartOf t part most) (prefix_of_text c.args.text.now utf8) front in
    let fits : length part < 2 ^ 64 = omega (arith, part_within c.args.text.now part most front) in
    let size : length c.encode_from_utf8-outcome.new.dst ≡ length c.args.dst.now = omega (arith, c.encode_from_utf8-outcome.auto.dst) in
    answers (encoder_in c.args.encoder.now) x _ c.in-Some-opened.ensures
    (whole_of_part (λ l t r n o. EncodesAll false x after l t r n c.args.dst.now c.encode_from_utf8-outcome.new.dst o) c.args.last c.in-Some.is_whole c.args.text.now part most q h p.whole
    (λ long. all_goes x after c.args.last c.args.text.now part c.args.dst.now c.encode_from_utf8-outcome.new.dst most q h size c.encode_from_utf8-outcome.ensures.read
    (long_enough (encoder_in c.args.encoder.now) x most (length c.args.dst.now) (length part) (sym c.in-Some-opened.ensures) c.most_read-most.ensures fits long)) (
      text_outcome c.encode_from_utf8-outcome.result.0,
      record {
        encoder = c.encode_from_utf8-outcome.new.self;
        held = c.keep.ensures;
        outcome = c.encode_from_utf8-outcome.result.0;
        told = refl;
        no_scalar = refl;
        wrote = c.encode_from_utf8-outcome.ensures.wrote;
        call = c.encode_from_utf8-outcome.ensures.call;
        enough = c.encode_from_utf8-outcome.ensures.enough;
      },
      c.told_outcome.ensures ∙ ap (told_outcome c.in-Some.is_whole) c.outcome_of.ensures,
    ))

pub returns-clause-encodes_before : goal.returns-clause-encodes_before
returns-clause-encodes_before c malformed some =
    let x = c.in-Some-opened.opened in
    let after = encoder_in c.keep.new.self in
    let most : ℕ = c.most_read-most.result in
    let q : EncoderProgress = record { read = c.encode_from_utf8-outcome.result.1; written = c.encode_from_utf8-outcome.result.2; outcome = c.told_outcome.result; had_unmappable = c.encode_from_utf8-outcome.result.3; scalar = 0 } in
    let part = c.in-Some.part.now in
    let p : IsFirstPart most c.args.text.now part c.in-Some.is_whole = c.in-Some.ensures in
    let front : IsPartOf (text_prefix c.args.text.now) part most = part_of_look c.args.text.now part most p.looked p.looks p.is in
    let fits : length part < 2 ^ 64 = omega (arith, part_within c.args.text.now part most front) in
    let size : length c.encode_from_utf8-outcome.new.dst ≡ length c.args.dst.now = omega (arith, c.encode_from_utf8-outcome.auto.dst) in
    answers (encoder_in c.args.encoder.now) x _ c.in-Some-opened.ensures
    (before_of_text (λ l t r n o. EncodesAll false x after l t r n c.args.dst.now c.encode_from_utf8-outcome.new.dst o) c.args.last c.in-Some.is_whole c.args.text.now part most q front malformed p.whole
    (λ long. all_goes x after false (text_prefix c.args.text.now) part c.args.dst.now c.encode_from_utf8-outcome.new.dst most q front size c.encode_from_utf8-outcome.ensures.read
    (long_enough (encoder_in c.args.encoder.now) x most (length c.args.dst.now) (length part) (sym c.in-Some-opened.ensures) c.most_read-most.ensures fits long)) (
      text_outcome c.encode_from_utf8-outcome.result.0,
      record {
        encoder = c.encode_from_utf8-outcome.new.self;
        held = c.keep.ensures;
        outcome = c.encode_from_utf8-outcome.result.0;
        told = refl;
        no_scalar = refl;
        wrote = c.encode_from_utf8-outcome.ensures.wrote;
        call = c.encode_from_utf8-outcome.ensures.call;
        enough = c.encode_from_utf8-outcome.ensures.enough;
      },
      c.told_outcome.ensures ∙ ap (told_outcome c.in-Some.is_whole) c.outcome_of.ensures,
    ))

pub returns-clause-read : goal.returns-clause-read
returns-clause-read c ok =
    let p = c.in-Some.ensures in
    reads_text (text_prefix c.args.text.now) c.in-Some.part.now c.most_read-most.result c.encode_from_utf8-outcome.result.1
    (part_of_look c.args.text.now c.in-Some.part.now c.most_read-most.result p.looked p.looks p.is) c.encode_from_utf8-outcome.ensures.read
