use Rattle.steal_crew.proofs.Moves.{learns}
use Rattle.steal_crew.proofs.steps.look.Goals as goal

pub len_as-requires : goal.len_as-requires
len_as-requires c = learns _ _ c.requires.live
