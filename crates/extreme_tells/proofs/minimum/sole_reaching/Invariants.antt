-- What is found so far is all that the variables so far hold.
use Rattle.std.proofs.Common.{◌≡◌, take}
use Rattle.std.specs.List.{filter}
use Rattle.std.specs.Option.{option_to_list}
use Rattle.extreme_tells.specs.Minimum.{min_reaches}
use Rattle.extreme_tells.proofs.minimum.sole_reaching.Given as goal

abbrev pub invariant-loop-i : goal.invariant-loop-i
invariant-loop-i l = option_to_list l.found ≡ filter (min_reaches l.m l.b) (take l.i l.xs)
