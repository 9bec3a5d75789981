use Rattle.std.proofs.Common.{◌-◌, length}
use Rattle.steal_crew.specs.Hands.{IsSameHand, count_of, drawn_of}
use Rattle.steal_tests.proofs.threads.draw_all.Given as goal

abbrev pub invariant-loop-drawn : goal.invariant-loop-drawn
invariant-loop-drawn l = IsSameHand l.initial.hand l.hand

abbrev pub decreases-loop-drawn : goal.decreases-loop-drawn
decreases-loop-drawn l = count_of l.hand - length (drawn_of l.hand)
