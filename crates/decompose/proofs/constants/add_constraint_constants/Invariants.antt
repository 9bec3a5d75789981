use Rattle.std.proofs.Common.{◌≡◌, fold, flat_map, take}
use Rattle.constraint_model.specs.Fits.{add_once, constants_in}
use Rattle.decompose.proofs.constants.add_constraint_constants.Given as goal

-- the constants of the constraints so far are added, and the arrays are the same
abbrev pub invariant-loop-constraint : goal.invariant-loop-constraint
invariant-loop-constraint l =
    (l.found.numbers ≡ fold add_once l.fn.found.numbers (flat_map constants_in (take l.constraint-index l.constraints))) × (l.found.arrays ≡ l.fn.found.arrays)
