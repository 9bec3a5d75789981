use Rattle.fixpoint_tests.proofs.SmallKernels.{at_most_made, equal_made, parted_made, read_back}
use Rattle.fixpoint_tests.proofs.drawn.sum.Goals as goal

pub returns-in_ok-variables : goal.returns-in_ok-variables
returns-in_ok-variables c = parted_made c.sum_lit-lit.result c.in_ok-coeffs.coeffs c.in_ok-numbers.numbers c.in_ok-vars.vars c.in_ok-variables.variables _ c.in_ok-numbers.ensures c.in_ok-variables.ensures
    (equal_made c.sum_lit-lit.result c.in_ok-coeffs.coeffs c.in_ok-vars.vars c.number-limit.result _ (read_back c.number-limit.result c.number-limit.ensures)
    c.sum_lit-lit.ensures c.in_ok-coeffs.ensures.small c.in_ok-coeffs.ensures.three c.in_ok-vars.ensures.below c.in_ok-vars.ensures.three c.number-limit.ensures)

pub returns-else-is_equation : goal.returns-else-is_equation
returns-else-is_equation c = at_most_made c.sum_lit-lit.result c.in_ok-coeffs.coeffs c.in_ok-vars.vars c.number-limit.result _ (read_back c.number-limit.result c.number-limit.ensures)
    c.sum_lit-lit.ensures c.in_ok-coeffs.ensures.small c.in_ok-coeffs.ensures.three c.in_ok-vars.ensures.below c.in_ok-vars.ensures.three c.number-limit.ensures
