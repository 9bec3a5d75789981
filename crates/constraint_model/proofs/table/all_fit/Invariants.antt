use Rattle.std.proofs.Common.{◌≡◌, drop}
use Rattle.constraint_model.specs.Fits.{all_fit}
use Rattle.constraint_model.proofs.table.all_fit.Given as goal

-- all fit exactly where the rest do
abbrev pub invariant-loop-place : goal.invariant-loop-place
invariant-loop-place l = all_fit (drop l.place l.letters) (drop l.place l.meanings) ≡ all_fit l.letters l.meanings
