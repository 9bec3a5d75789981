use Rattle.search.specs.Turns.{least_left, IsLeastTurns}
use Rattle.race_tests.proofs.races.plain_least.Given as goal

-- the search can go on
abbrev pub invariant-turns : goal.invariant-turns
invariant-turns g l = record {
  turns : IsLeastTurns l.run l.turns;
}

-- it has fewer nodes left
abbrev pub decreases-turns : goal.decreases-turns
decreases-turns g l = least_left l.turns
