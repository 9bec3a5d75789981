use Rattle.std.proofs.Common.{◌∙◌, ap₂}
use Rattle.std.proofs.lemmas.Result.{IfOk-weaker}
use Rattle.clap.specs.Simple.{with_rule}
use Rattle.command_line.proofs.command.command.Goals as goal

pub returns : goal.returns
returns c =
    let one = c.in_ok-arg.ensures.shape c.flag.ensures.own ∙ ap₂ with_rule c.new.ensures.app c.flag.ensures.rule in
    let two = c.in_ok-arg-2.ensures.shape c.letter_number.ensures.own ∙ ap₂ with_rule one c.letter_number.ensures.rule in
    let three = c.in_ok-arg-3.ensures.shape c.number.ensures.own ∙ ap₂ with_rule two c.number.ensures.rule in
    let four = c.in_ok-arg-4.ensures.shape c.plain_number.ensures.own ∙ ap₂ with_rule three c.plain_number.ensures.rule in
    let five = c.in_ok-arg-5.ensures.shape c.number-2.ensures.own ∙ ap₂ with_rule four c.number-2.ensures.rule in
    let six = c.in_ok-arg-6.ensures.shape c.number-3.ensures.own ∙ ap₂ with_rule five c.number-3.ensures.rule in
    let seven = c.in_ok-arg-7.ensures.shape c.word_flag.ensures.own ∙ ap₂ with_rule six c.word_flag.ensures.rule in
    let eight = c.in_ok-arg-8.ensures.shape c.word_flag-2.ensures.own ∙ ap₂ with_rule seven c.word_flag-2.ensures.rule in
    let nine = c.in_ok-arg-9.ensures.shape c.plain_number-2.ensures.own ∙ ap₂ with_rule eight c.plain_number-2.ensures.rule in
    IfOk-weaker c.arg-10.result _ _ (λ made h. h.shape c.new-2.ensures.optional.1 ∙ ap₂ with_rule nine c.new-2.ensures.rule) c.arg-10.ensures
