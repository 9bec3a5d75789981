use Rattle.solver_top.proofs.KnownLaws.{answered_with}
use Rattle.solver_top.proofs.solving.search.Goals as goal

pub returns : goal.returns
returns g c = answered_with c.args.options.now c.args.model.now c.answer.result c.search_options-options.result c.search_options-options.ensures.is c.answer.ensures.answer c.answer.ensures.whole c.answer.ensures.solve
