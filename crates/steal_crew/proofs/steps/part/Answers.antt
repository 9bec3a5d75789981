use Rattle.steal_crew.proofs.Moves.{forks}
use Rattle.steal_crew.proofs.steps.part.Goals as goal

pub another-requires : goal.another-requires
another-requires c = forks _ _ c.requires.parts
