use Rattle.std.proofs.Common.{◌∙◌, ap₂, codes}
use Rattle.std.proofs.lemmas.Result.{IfOk-weaker}
use Rattle.clap.specs.Simple.{with_rule}
use Rattle.fzn_check.proofs.words.command.Goals as goal

pub returns : goal.returns
returns c =
    let one = c.in_ok-arg.ensures.shape c.new-2.ensures.optional.1 ∙ ap₂ with_rule c.new.ensures.app c.new-2.ensures.rule in
    IfOk-weaker c.arg-2.result _ _ (λ made h. h.shape c.new-3.ensures.optional.1 ∙ ap₂ with_rule one c.new-3.ensures.rule) c.arg-2.ensures
