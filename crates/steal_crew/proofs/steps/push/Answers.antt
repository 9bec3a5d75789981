use Rattle.steal_crew.proofs.Moves.{pushes}
use Rattle.steal_crew.proofs.steps.push.Goals as goal

pub push_as-requires-clause-pushes : goal.push_as-requires-clause-pushes
push_as-requires-clause-pushes c = pushes _ _ _ c.requires
