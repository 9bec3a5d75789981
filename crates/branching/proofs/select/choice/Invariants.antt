use Rattle.branching.specs.Fronts.{IsFrontOf}
use Rattle.branching.proofs.FrontLaws.{at}
use Rattle.branching.proofs.select.choice.Given as goal

abbrev pub invariant-loop-number : goal.invariant-loop-number
invariant-loop-number l = IsFrontOf l.model l.b (at l.number l.from)
