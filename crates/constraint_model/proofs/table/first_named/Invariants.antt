use Rattle.std.proofs.Common.{◌≡◌, drop}
use Rattle.std.specs.Prelude.{find, bytes_eq}
use Rattle.constraint_model.proofs.table.first_named.Given as goal

-- the first row that is spelled so is the first of the rest
abbrev pub invariant-loop-row : goal.invariant-loop-row
invariant-loop-row l = find (λ row. bytes_eq row.spelling.now l.word) (drop l.row-index l.rows) ≡ find (λ row. bytes_eq row.spelling.now l.word) l.rows
