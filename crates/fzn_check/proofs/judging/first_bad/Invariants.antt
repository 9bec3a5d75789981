use Rattle.std.proofs.Common.{◌<◌, ℕ, []}
use Rattle.std.specs.Prelude.{slice_index_or}
use Rattle.constraint_model.specs.Relations.{IsSolution}
use Rattle.fzn_check.proofs.judging.first_bad.Given as goal

-- each solution so far is one
abbrev pub invariant-loop-place : goal.invariant-loop-place
invariant-loop-place g l = (k : ℕ) → k < l.place → IsSolution l.model (slice_index_or l.solutions k [])
