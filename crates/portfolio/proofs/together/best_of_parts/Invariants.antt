use Rattle.std.proofs.Common.{All}
use Rattle.std.specs.Prelude.{IfSome}
use Rattle.interval.specs.Boxes.{Bounds}
use Rattle.constraint_model.specs.declared.model.FznModel.{FznModel}
use Rattle.race.specs.Leasts.{IsIncumbent}
use Rattle.portfolio.proofs.together.best_of_parts.Given as goal

-- where those that come are solutions too, the best so far is one
abbrev pub invariant-loop-part : goal.invariant-loop-part
invariant-loop-part l = (model : FznModel) (b : Bounds) → IfSome l.fn.first (IsIncumbent model b) → All (λ told. IfSome told.best (IsIncumbent model b)) l.fn.told.items →
    IfSome l.best (IsIncumbent model b) × All (λ told. IfSome told.best (IsIncumbent model b)) l.part-iterator.rest.items
