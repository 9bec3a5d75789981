use Rattle.std.proofs.Common.{◌≡◌, flat_map, take}
use Rattle.decompose.specs.Kernels.{kernels_on}
use Rattle.decompose.proofs.kernels.kernels_of.Given as goal

-- the kernels of the constraints so far
abbrev pub invariant-loop-constraint : goal.invariant-loop-constraint
invariant-loop-constraint l = l.kernels ≡ flat_map (kernels_on l.places.numbering) (take l.constraint-index l.constraints)
