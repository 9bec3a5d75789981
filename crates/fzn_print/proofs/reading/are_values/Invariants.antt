use Rattle.std.proofs.Common.{◌<◌, ℕ, pos}
use Rattle.std.specs.Prelude.{slice_index_or}
use Rattle.constraint_model.specs.declared.model.VarDecl.{VarDecl}
use Rattle.fzn_print.specs.Reading.{IsValue}
use Rattle.fzn_print.proofs.reading.are_values.Given as goal

-- those so far are
abbrev pub invariant-loop-place : goal.invariant-loop-place
invariant-loop-place l = (k : ℕ) (d : VarDecl) → k < l.place → IsValue (slice_index_or l.vars k d).is_bool (slice_index_or l.values k (pos 0))
