use Rattle.std.proofs.Common.{subst, refl}
use Rattle.model_text.specs.Texts.{IsCause}
use Rattle.fzn_check.proofs.StepLaws.{early_stop}
use Rattle.fzn_check.proofs.judging.refused.Goals as goal

pub returns-in-Refused : goal.returns-in-Refused
returns-in-Refused c =
    early_stop c.args.text.now _ _ _ (c.stopped.ensures _ c.print_refusal.ensures) tt tt
    (record { at = c.in-Refused.at; fault = subst (IsCause c.args.text.now) c.in-Refused.is c.requires; is_line = c.told_line-line.ensures }, refl)
