-- The variables of the terms stand behind the literal's.
use Rattle.std.proofs.Common.{suc, ℕ, List, length, subst, sym, arith}
use Rattle.guarded_tell.specs.Words.{AreVariables}
use Rattle.kernel_visits.proofs.resting.is_open_at.Goals as goal

pub are_open_at-requires-clause-variables : goal.are_open_at-requires-clause-variables
are_open_at-requires-clause-variables c =
    subst (λ (v : List ℕ). AreVariables (length c.args.b.now) v) (sym c.in-Some-Some.ensures') (record { each = λ i h. c.requires.variables.each (suc i) (omega arith) })
