use Rattle.free_search.specs.Free.{IsFreeSearch}
use Rattle.best_search.specs.Searches.{IsPlain}
use Rattle.best_search.proofs.any.by_turns.Given as goal

-- both searches can go on
abbrev pub invariant-loop : goal.invariant-loop
invariant-loop g l = record {
  is_free : IsFreeSearch l.run l.free;
  is_plain : IsPlain l.run l.plain;
}
