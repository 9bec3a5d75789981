use Rattle.std.specs.Prelude.{ℕ}
use Rattle.std.proofs.Common.{◌≡◌, None}
use Rattle.search.specs.Turns.{least_left}
use Rattle.race.specs.Leasts.{IsStanding}
use Rattle.race.proofs.least.plain_turn.Given as goal

-- the plain search can go on, and what is best costs at most as much as what it knows of
abbrev pub invariant-turns : goal.invariant-turns
invariant-turns g l = record {
  standing : IsStanding l.task l.plain l.incumbent;
  whole : l.fn.units ≡ None → l.most ≡ None;
}

-- it has fewer nodes left
abbrev pub decreases-turns : goal.decreases-turns
decreases-turns g l = least_left l.plain
