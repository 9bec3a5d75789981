use Rattle.std.proofs.Common.{◌≡◌, take}
use Rattle.std.specs.List.{fold, flat_map}
use Rattle.constraint_model.specs.Fits.{add_once, constants_in}
use Rattle.fzn_model.proofs.draft.add_all_constants.Given as goal

-- the constants of the constraints so far
abbrev pub invariant-loop-constraint : goal.invariant-loop-constraint
invariant-loop-constraint l =
    (l.found.numbers ≡ fold add_once l.initial.found.numbers (flat_map constants_in (take l.constraint-index l.constraints))) × (l.found.arrays ≡ l.initial.found.arrays)
