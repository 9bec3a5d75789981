use Rattle.std.proofs.Common.{take, All}
use Rattle.portfolio.specs.Told.{IsBoundedFrom}
use Rattle.portfolio.proofs.together.bound_of_parts.Given as goal

-- the bound isn't above those so far
abbrev pub invariant-loop-part : goal.invariant-loop-part
invariant-loop-part l = All (IsBoundedFrom l.at_least) (take l.part-index l.told)
