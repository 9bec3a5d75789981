use Rattle.std.proofs.Common.{◌≡◌, ◌≤◌}
use Rattle.search.specs.Turns.{least_asked, least_left, lowest_of, found_last, IsLeastTurns}
use Rattle.search.proofs.least_turns.LeastTurns.go_on.Given as goal

-- the search of the same box goes on, nothing was found, and as much is left at most
abbrev pub invariant-nodes : goal.invariant-nodes
invariant-nodes g l = record {
  turns : IsLeastTurns l.run l.self;
  asked : least_asked l.self ≡ least_asked l.initial.self;
  last : found_last l.self ≡ found_last l.initial.self;
  lowest : lowest_of l.self ≡ lowest_of l.initial.self;
  less : least_left l.self ≤ least_left l.initial.self;
}

abbrev pub decreases-nodes : goal.decreases-nodes
decreases-nodes g l = least_left l.self
