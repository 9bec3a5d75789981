-- The pairs so far have their domains.
use Rattle.std.proofs.Common.{◌≡◌, take}
use Rattle.bit_domain.specs.Mixes.{mix_of}
use Rattle.bit_domain.proofs.mix.doms_of.Given as goal

abbrev pub invariant-loop-v : goal.invariant-loop-v
invariant-loop-v l = l.doms.items ≡ mix_of (take l.v l.b)
