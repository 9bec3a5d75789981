use Rattle.steal_crew.specs.Dealing.{IsLending}
use Rattle.steal_crew.proofs.dealing.lend_each.Given as goal

abbrev pub invariant-loop-passed : goal.invariant-loop-passed
invariant-loop-passed l = IsLending l.robber l.passed l.initial.hands.items l.hands.items
