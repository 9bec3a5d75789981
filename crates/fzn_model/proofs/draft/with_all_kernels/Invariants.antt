use Rattle.std.proofs.Common.{◌≡◌, ◌+◌, ◌≤◌, take}
use Rattle.std.specs.List.{sum_by}
use Rattle.constraint_model.specs.Fits.{kernels_of}
use Rattle.constraint_model.specs.Limits.{most_kernels}
use Rattle.fzn_model.proofs.draft.with_all_kernels.Given as goal

-- the propagators of the constraints so far, which are not too many
abbrev pub invariant-loop-constraint : goal.invariant-loop-constraint
invariant-loop-constraint l = (l.kernels ≡ l.total + sum_by kernels_of (take l.constraint-index l.constraints)) × (l.kernels ≤ most_kernels)
