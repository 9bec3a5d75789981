use Rattle.steal_crew.proofs.Moves.{takes}
use Rattle.steal_crew.proofs.steps.steal.Goals as goal

pub steal_as-requires-clause-takes : goal.steal_as-requires-clause-takes
steal_as-requires-clause-takes c = takes _ _ c.requires.live
