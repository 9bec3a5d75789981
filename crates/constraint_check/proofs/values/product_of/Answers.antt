use Rattle.std.proofs.Common.{sym, subst}
use Rattle.constraint_model.specs.Numbers.{IsInProfile}
use Rattle.constraint_check.proofs.SumLaws.{coded_product_small, value_small}
use Rattle.constraint_check.proofs.values.product_of.Goals as goal

pub returns-clause-small : goal.returns-clause-small
returns-clause-small c =
    let first = subst IsInProfile (sym c.value_of.ensures) (value_small c.args.solution.now c.args.coefficient c.requires.numbers c.requires.coefficient) in
    let second = subst IsInProfile (sym c.value_of-2.ensures) (value_small c.args.solution.now c.args.term c.requires.numbers c.requires.term) in
    coded_product_small c.value_of.result c.value_of-2.result first second
