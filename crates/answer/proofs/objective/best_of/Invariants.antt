use Rattle.std.proofs.Common.{length, All, flat_map}
use Rattle.search.specs.Costs.{IsObjectiveIn}
use Rattle.answer.specs.Results.{listed, least_collected}
use Rattle.answer.specs.Unfinished.{IsBestOf}
use Rattle.answer.proofs.objective.best_of.Given as goal

-- the best of what was collected so far
abbrev pub invariant-loop-end : goal.invariant-loop-end
invariant-loop-end l = record {
  best : IsBestOf l.goal (flat_map least_collected l.yielded) l.best;
  own : All (λ a. IsObjectiveIn (length a) l.goal) (listed l.best);
  rest : All (λ a. IsObjectiveIn (length a) l.goal) (flat_map least_collected l.end-iterator.rest.items);
}
