use Rattle.std.proofs.Common.{refl}
use Rattle.fzn_check.proofs.StepLaws.{early_stop}
use Rattle.fzn_check.proofs.judging.hides.Goals as goal

pub returns : goal.returns
returns c =
    early_stop c.args.text.now _ _ _ (c.stopped.ensures _ c.print_hidden-line.ensures) tt tt
    (record { model = c.args.model.now; is_model = c.requires.model; variable = c.args.variable; first = c.requires.first; says = refl })
