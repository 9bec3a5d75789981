use Rattle.std.proofs.Common.{◌≡◌, take}
use Rattle.bit_domain.specs.Mixes.{hull}
use Rattle.mix_rounds.proofs.cache.pairs_of.Given as goal

abbrev pub invariant-loop-v : goal.invariant-loop-v
invariant-loop-v l = l.pairs.items ≡ take l.v (hull l.m)
