use Rattle.std.proofs.Common.{◌≡◌, ◌≢◌, ◌<◌, ℕ, [], None}
use Rattle.std.specs.List.{sum_by}
use Rattle.best_bound.specs.Lists.{Among}
use Rattle.best_bound.specs.Seats.{IsFoundSeatOf, found_parts, numbers_seen, numbers_posted}
use Rattle.search.specs.declared.kind.Kind.{Kind}
use Rattle.search.specs.Machine.{Reached}
use Rattle.search.specs.Ends.{search_in}
use Rattle.search.specs.Stacks.{boxes_of, below_of, count_of, IsReady}
use Rattle.search.specs.Weights.{weight}
use Rattle.search.proofs.SearchLaws.{IsCounted}
use Rattle.search.proofs.first.search_first.Given as goal

-- the boxes and what was found are those of a state that is reached, in which the nodes are counted; nothing is posted
abbrev pub invariant-boxes : goal.invariant-boxes
invariant-boxes g l = record {
  count : ℕ;
  reached : Reached (search_in l.run Kind.First l.initial.searcher.boxes.current)
      (record { stack = boxes_of l.searcher; best = None; count = count; found = l.solutions });
  counted : IsCounted l.run.node_limit l.nodes count;
  sought : l.solutions ≡ [];
  ready : IsReady l.run l.searcher;
  same_count : count_of l.searcher ≡ count_of l.initial.searcher;
  bottom : below_of l.searcher ≡ below_of l.initial.searcher;
  seat : IsFoundSeatOf l.numbered.found.now l.seat;
  parts : found_parts l.seat ≡ found_parts l.initial.seat;
  posted : numbers_posted l.seat ≡ numbers_posted l.initial.seat;
  seen : (n : ℕ) → Among (numbers_seen l.initial.seat) n → Among (numbers_seen l.seat) n;
  fresh : (n : ℕ) → Among (numbers_seen l.initial.seat) n → n < l.numbered.number → boxes_of l.searcher ≢ [];
}

abbrev pub decreases-boxes : goal.decreases-boxes
decreases-boxes g l = sum_by weight (boxes_of l.searcher)
