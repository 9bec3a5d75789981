use Rattle.std.proofs.Common.{◌≡◌, ◌≤◌, ◌+◌, take}
use Rattle.subproblem_walk.specs.Turns.{AreTurnsTo}
use Rattle.subproblem_walk.proofs.turns.shared_turns.Given as goal

abbrev pub invariant-loop-count : goal.invariant-loop-count
invariant-loop-count l = record {
  within : l.count ≤ l.limit;
  depth : l.rest.depth + l.count ≡ l.fn.address.depth;
  to : AreTurnsTo l.fn.address.depth l.fn.address.number (take l.count l.turns) l.rest.depth l.rest.number;
}
