use Rattle.std.proofs.Common.{◌≡◌, take, drop}
use Rattle.guarded_tell.specs.Words.{point_of}
use Rattle.free_search.proofs.points.values.Given as goal

-- the values so far
abbrev pub invariant-loop-var : goal.invariant-loop-var
invariant-loop-var l = l.values ≡ take l.var (drop 1 (point_of l.b))
