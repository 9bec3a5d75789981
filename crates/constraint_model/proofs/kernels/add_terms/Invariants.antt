use Rattle.std.proofs.Common.{◌≡◌, drop, flat_map}
use Rattle.constraint_model.specs.Fits.{constant_of}
use Rattle.constraint_model.proofs.ConstantLaws.{Added}
use Rattle.constraint_model.proofs.kernels.add_terms.Given as goal

abbrev pub invariant-loop-term : goal.invariant-loop-term
invariant-loop-term l =
    Added l.initial.found.numbers l.found.numbers (flat_map constant_of l.terms) (flat_map constant_of (drop l.term-index l.terms))
    × (l.found.arrays ≡ l.initial.found.arrays)
