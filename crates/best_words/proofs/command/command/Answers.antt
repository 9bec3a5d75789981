use Rattle.std.proofs.Common.{◌∙◌, ap₂}
use Rattle.std.proofs.lemmas.Result.{IfOk-weaker}
use Rattle.clap.specs.Simple.{with_rule}
use Rattle.best_words.proofs.command.command.Goals as goal

pub returns : goal.returns
returns c =
    let one = c.in_ok-arg.ensures.shape c.flag.ensures.own ∙ ap₂ with_rule c.new.ensures.app c.flag.ensures.rule in
    let two = c.in_ok-arg-2.ensures.shape c.letter_number.ensures.own ∙ ap₂ with_rule one c.letter_number.ensures.rule in
    let three = c.in_ok-arg-3.ensures.shape c.flag-2.ensures.own ∙ ap₂ with_rule two c.flag-2.ensures.rule in
    let four = c.in_ok-arg-4.ensures.shape c.flag-3.ensures.own ∙ ap₂ with_rule three c.flag-3.ensures.rule in
    IfOk-weaker c.arg-5.result _ _ (λ made h. h.shape c.new-2.ensures.optional.1 ∙ ap₂ with_rule four c.new-2.ensures.rule) c.arg-5.ensures
