use Rattle.answer.proofs.BeatenLaws.{where_some}
use Rattle.answer.proofs.plan.subproblem_below.Goals as goal

pub path_box_below-requires-clause-goal : goal.path_box_below-requires-clause-goal
path_box_below-requires-clause-goal g c = where_some c.args.best c.requires.plan.run.model.objective
