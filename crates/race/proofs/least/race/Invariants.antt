use Rattle.std.specs.Prelude.{IfSome}
use Rattle.free_search.specs.Free.{IsFreeSearch}
use Rattle.race.specs.Leasts.{IsStanding}
use Rattle.race.proofs.least.race.Given as goal

-- the plain search can go on, and the free one if it is made
abbrev pub invariant-loop : goal.invariant-loop
invariant-loop g l = record {
  standing : IsStanding l.task l.plain l.raced.best;
  is_free : IfSome l.raced.free (IsFreeSearch l.task.run.now);
}
