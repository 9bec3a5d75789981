use Rattle.moved_fixpoint.proofs.DrawnLaws.{few_there}
use Rattle.moved_fixpoint.proofs.drawing.draw.Goals as goal

pub ask_each-requires-clause-variables : goal.ask_each-requires-clause-variables
ask_each-requires-clause-variables c = few_there c.args.masks.now c.args.moved.now c.in-Some.variables.now c.in-Some.ensures.variables c.requires.moved
