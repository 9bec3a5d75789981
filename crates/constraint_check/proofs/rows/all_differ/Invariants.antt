-- All differ where the rest do.
use Rattle.std.proofs.Common.{◌≡◌, drop}
use Rattle.constraint_check.specs.Tests.{all_differ}
use Rattle.constraint_check.proofs.rows.all_differ.Given as goal

abbrev pub invariant-loop-place : goal.invariant-loop-place
invariant-loop-place l = all_differ l.solution (drop l.place l.terms) ≡ all_differ l.solution l.terms
