use Rattle.race.specs.Firsts.{IsPlain, IsRoad}
use Rattle.race.proofs.first.race.Given as goal

-- both searches can go on
abbrev pub invariant-loop : goal.invariant-loop
invariant-loop g l = record {
  plain : IsPlain l.task l.plain;
  road : IsRoad l.task l.road;
}
