use Rattle.std.proofs.Common.{◌≡◌}
use Rattle.best_search.specs.Searches.{IsBestSearch, lowest_of}
use Rattle.best_search.proofs.better.BestSearch.next.Given as goal

-- both searches can go on, and no plan was found
abbrev pub invariant-loop : goal.invariant-loop
invariant-loop g l = record {
  search : IsBestSearch l.run l.self;
  lowest : lowest_of l.self ≡ lowest_of l.initial.self;
}
