use Rattle.std.proofs.Common.{List, subst, arith}
use Rattle.constraint_model.specs.declared.model.VarDecl.{VarDecl}
use Rattle.constraint_model.specs.Relations.{IsWithin}
use Rattle.fzn_check.proofs.WithinLaws.{solution_is}
use Rattle.fzn_check.proofs.checking.first_wrong.Goals as goal

pub returns-in-None : goal.returns-in-None
returns-in-None g c =
    solution_is c.args.model.now c.args.solution.now (subst (λ (vs : List VarDecl). IsWithin c.args.solution.now vs) c.as_slice.ensures c.in_default.ensures) c.in-None.ensures.first
