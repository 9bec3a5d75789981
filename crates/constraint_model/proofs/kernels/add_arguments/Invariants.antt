use Rattle.std.proofs.Common.{◌≡◌, drop}
use Rattle.constraint_model.specs.Fits.{constants_at}
use Rattle.constraint_model.proofs.ConstantLaws.{Added}
use Rattle.constraint_model.proofs.kernels.add_arguments.Given as goal

abbrev pub invariant-loop-place : goal.invariant-loop-place
invariant-loop-place l =
    Added l.initial.found.numbers l.found.numbers (constants_at l.letters l.operands) (constants_at (drop l.place l.letters) (drop l.place l.operands))
    × (l.found.arrays ≡ l.initial.found.arrays)
