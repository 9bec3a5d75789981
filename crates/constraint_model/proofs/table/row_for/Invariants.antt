use Rattle.std.proofs.Common.{◌≡◌, drop, map}
use Rattle.std.specs.Prelude.{find}
use Rattle.constraint_model.specs.Table.{signatures}
use Rattle.constraint_model.specs.Fits.{fits_row}
use Rattle.constraint_model.proofs.table.row_for.Given as goal

-- the first list that fits is the first of the rest
abbrev pub invariant-loop-letters : goal.invariant-loop-letters
invariant-loop-letters l = find (fits_row l.meanings) (map (λ letters. letters.now) (drop l.letters-index l.letters-items)) ≡ find (fits_row l.meanings) (signatures l.fn.name)
