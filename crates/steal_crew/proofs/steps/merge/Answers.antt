use Rattle.steal_crew.proofs.Moves.{merges}
use Rattle.steal_crew.proofs.steps.merge.Goals as goal

pub absorb-requires-clause-rule : goal.absorb-requires-clause-rule
absorb-requires-clause-rule c = merges _ _ _ _ c.requires.live c.requires.other_live
