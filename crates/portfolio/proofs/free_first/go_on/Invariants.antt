use Rattle.race.specs.Firsts.{IsRoad}
use Rattle.portfolio.proofs.free_first.go_on.Given as goal

-- the free search can go on
abbrev pub invariant-loop : goal.invariant-loop
invariant-loop g l = IsRoad l.task l.road
