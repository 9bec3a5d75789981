use Rattle.std.specs.Prelude.{IfSome}
use Rattle.free_search.specs.Free.{IsFreeSearch}
use Rattle.race.specs.Leasts.{IsIncumbent, best_cost, IsAsLow}
use Rattle.race.proofs.lowering.improve.Given as goal

-- the best one is a solution that costs at most what the first cost, and the free search can go on
abbrev pub invariant-loop : goal.invariant-loop
invariant-loop g l = record {
  is_free : IsFreeSearch l.task.run.now l.free;
  incumbent : IfSome l.incumbent (IsIncumbent l.task.run.now.model.now l.task.sub.now);
  as_low : IsAsLow (best_cost l.incumbent) (best_cost l.fn.best);
}
