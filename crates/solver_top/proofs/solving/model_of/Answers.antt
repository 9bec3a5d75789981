use Rattle.std.proofs.Common.{subst}
use Rattle.fzn_model.specs.Resolving.{IsModelOf}
use Rattle.solver_top.proofs.solving.model_of.Goals as goal

pub returns-in-Ok-clause-well_formed : goal.returns-in-Ok-clause-well_formed
returns-in-Ok-clause-well_formed c =
    c.law_well_formed.ensures c.args.text.items c.in-Ok.ensures.items c.in-Ok.model
    (subst (λ text. IsModelOf text c.in-Ok.ensures.items c.in-Ok.model) c.deref.ensures.value c.in-Ok.ensures.resolved)
