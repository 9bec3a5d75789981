use Rattle.std.proofs.Common.{◌≡◌, ℕ, ℤ, Option}
use Rattle.std.specs.List.{All, sum_by}
use Rattle.best_bound.specs.Lists.{Among, IsLeastCost}
use Rattle.best_bound.specs.Seats.{IsBestSeatOf, best_parts, costs_seen, costs_posted}
use Rattle.search.specs.Machine.{Reached}
use Rattle.search.specs.LeastEnds.{least_in, least_alone, PostsCosts, CostsLess}
use Rattle.search.specs.Stacks.{boxes_of, below_of, count_of, IsReady}
use Rattle.search.specs.Weights.{weight}
use Rattle.search.proofs.SearchLaws.{IsCounted}
use Rattle.search.proofs.LeastRunLaws.{IsLow, IsReachedAlone}
use Rattle.search.proofs.least.search_least.Given as goal

-- the boxes and what was found are those of a state that is reached with the costs that the seat has seen, and where it has
-- all parts also with none of others
abbrev pub invariant-boxes : goal.invariant-boxes
invariant-boxes g l = record {
  lowest : Option ℤ;
  count : ℕ;
  reached : Reached (least_in l.run (costs_seen l.seat) l.initial.searcher.boxes.current)
      (record { stack = boxes_of l.searcher; best = lowest; count = count; found = l.found });
  low : IsLow lowest (costs_seen l.seat);
  counted : IsCounted l.run.node_limit l.nodes count;
  ready : IsReady l.run l.searcher;
  same_count : count_of l.searcher ≡ count_of l.initial.searcher;
  bottom : below_of l.searcher ≡ below_of l.initial.searcher;
  seat : IsBestSeatOf l.best l.seat;
  parts : best_parts l.seat ≡ best_parts l.initial.seat;
  kept : (cost : ℤ) → Among (costs_seen l.initial.seat) cost → Among (costs_seen l.seat) cost;
  posted : PostsCosts l.run.model.now.goal l.found (costs_posted l.initial.seat) (costs_posted l.seat);
  below : All (CostsLess l.run.model.now.goal (costs_seen l.initial.seat)) l.found;
  alone : best_parts l.initial.seat ≡ 1024 → (known : Option ℤ) → IsLeastCost (costs_posted l.initial.seat) known →
      IsReachedAlone (least_alone l.run known l.initial.searcher.boxes.current) (costs_posted l.seat) (boxes_of l.searcher) count l.found;
}

abbrev pub decreases-boxes : goal.decreases-boxes
decreases-boxes g l = sum_by weight (boxes_of l.searcher)
