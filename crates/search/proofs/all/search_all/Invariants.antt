use Rattle.std.proofs.Common.{◌≡◌, ℕ, None}
use Rattle.std.specs.List.{sum_by}
use Rattle.search.specs.declared.kind.Kind.{Kind}
use Rattle.search.specs.Machine.{Reached}
use Rattle.search.specs.Ends.{search_in}
use Rattle.search.specs.Stacks.{boxes_of, below_of, count_of, IsReady}
use Rattle.search.specs.Weights.{weight}
use Rattle.search.proofs.SearchLaws.{IsCounted}
use Rattle.search.proofs.all.search_all.Given as goal

-- the boxes and what was found are those of a state that is reached, in which the nodes are counted
abbrev pub invariant-boxes : goal.invariant-boxes
invariant-boxes g l = record {
  count : ℕ;
  reached : Reached (search_in l.run Kind.All l.initial.searcher.boxes.current)
      (record { stack = boxes_of l.searcher; best = None; count = count; found = l.found });
  counted : IsCounted l.run.node_limit l.nodes count;
  ready : IsReady l.run l.searcher;
  same_count : count_of l.searcher ≡ count_of l.initial.searcher;
  bottom : below_of l.searcher ≡ below_of l.initial.searcher;
}

abbrev pub decreases-boxes : goal.decreases-boxes
decreases-boxes g l = sum_by weight (boxes_of l.searcher)
