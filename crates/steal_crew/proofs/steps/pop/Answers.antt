use Rattle.std.proofs.Common.{[], refl}
use Rattle.steal_crew.proofs.Moves.{takes, all_taken}
use Rattle.steal_crew.proofs.steps.pop.Goals as goal

pub pop_as-requires-clause-fifo : goal.pop_as-requires-clause-fifo
pop_as-requires-clause-fifo c = λ _. takes _ _ c.requires.live

pub pop_as-requires-clause-empty : goal.pop_as-requires-clause-empty
pop_as-requires-clause-empty c = λ views law at. all_taken _ _ c.requires.live [] views law at refl
