use Rattle.std.proofs.Common.{◌≡◌, ◌≤◌}
use Rattle.search.specs.Turns.{first_asked, first_left, IsFirstTurns}
use Rattle.search.proofs.first_turns.FirstTurns.go_on.Given as goal

-- the search of the same box goes on, and as much is left at most
abbrev pub invariant-nodes : goal.invariant-nodes
invariant-nodes g l = record {
  turns : IsFirstTurns l.run l.self;
  asked : first_asked l.self ≡ first_asked l.initial.self;
  less : first_left l.self ≤ first_left l.initial.self;
}

abbrev pub decreases-nodes : goal.decreases-nodes
decreases-nodes g l = first_left l.self
