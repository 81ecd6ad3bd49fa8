use Rattle.std.proofs.Common.{ap₂, ◌∙◌}
use Rattle.std.proofs.lemmas.Result.{IfOk-weaker}
use Rattle.clap.specs.Words.{with_rule}
use Rattle.recode_words.proofs.command.command.Goals as goal

pub returns : goal.returns
returns c =
    IfOk-weaker c.arg-8.result _ _ (λ r h. h.shape c.list_flag.ensures.local
    ∙ ap₂ with_rule (c.in_ok-arg-7.ensures.shape c.default_option-5.ensures.local
    ∙ ap₂ with_rule (c.in_ok-arg-6.ensures.shape c.default_option-4.ensures.local
    ∙ ap₂ with_rule (c.in_ok-arg-5.ensures.shape c.default_option-3.ensures.local
    ∙ ap₂ with_rule (c.in_ok-arg-4.ensures.shape c.default_option-2.ensures.local
    ∙ ap₂ with_rule (c.in_ok-arg-3.ensures.shape c.default_option.ensures.local
    ∙ ap₂ with_rule (c.in_ok-arg-2.ensures.shape c.required_option-2.ensures.local
    ∙ ap₂ with_rule (c.in_ok-arg.ensures.shape c.required_option.ensures.local
    ∙ ap₂ with_rule c.named_command.ensures c.required_option.ensures.rule)
    c.required_option-2.ensures.rule) c.default_option.ensures.rule)
    c.default_option-2.ensures.rule) c.default_option-3.ensures.rule)
    c.default_option-4.ensures.rule) c.default_option-5.ensures.rule) c.list_flag.ensures.rule) c.arg-8.ensures
