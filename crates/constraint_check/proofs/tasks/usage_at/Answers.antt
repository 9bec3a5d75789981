use Rattle.std.proofs.Common.{sym, subst}
use Rattle.constraint_model.specs.Numbers.{IsInProfile}
use Rattle.constraint_check.proofs.SumLaws.{coded_small, value_small}
use Rattle.constraint_check.proofs.tasks.usage_at.Goals as goal

pub returns-then-is_under_way-clause-small : goal.returns-then-is_under_way-clause-small
returns-then-is_under_way-clause-small c =
    coded_small c.value_of.result (subst IsInProfile (sym c.value_of.ensures) (value_small c.args.solution.now c.args.usage c.requires.numbers c.requires.usage))
