-- The variables of the terms stand behind the literal's, and the sums say how long the kernel rests.
use Rattle.std.proofs.Common.{ℤ, suc, subst, arith}
use Rattle.std.proofs.lemmas.Int.{to_z-of_z}
use mir.Syntax.{w64}
use Rattle.kernel_visits.specs.Settled.{IsEquationSumFor}
use Rattle.kernel_visits.proofs.SettledLaws.{equation_rests}
use Rattle.kernel_visits.proofs.slight_sum.give_whole_slight_equation.Goals as goal

pub stands_false-requires-clause-proper : goal.stands_false-requires-clause-proper
stands_false-requires-clause-proper g c = c.requires.proper 0 (omega arith)

pub equation_sum_rest-requires-clause-variable : goal.equation_sum_rest-requires-clause-variable
equation_sum_rest-requires-clause-variable g c = c.requires.variables.each 0 (omega arith)

pub equation_sum_rest-requires-clause-proper : goal.equation_sum_rest-requires-clause-proper
equation_sum_rest-requires-clause-proper g c = c.requires.proper 0 (omega arith)

pub slight_sums-sums-requires-clause-variables : goal.slight_sums-sums-requires-clause-variables
slight_sums-sums-requires-clause-variables g c = record { each = λ i h. c.requires.variables.each (suc i) (omega arith) }

pub slight_sums-sums-requires-clause-proper : goal.slight_sums-sums-requires-clause-proper
slight_sums-sums-requires-clause-proper g c = λ i h. c.requires.proper (suc i) (omega arith)

pub returns-clause-rest : goal.returns-clause-rest
returns-clause-rest g c k kernel e =
    let Q : ℤ → Type 0 = λ z. IsEquationSumFor c.args.b.now c.args.lit z c.slight_sums-sums.result c.equation_sum_rest.result in
    equation_rests c.law_quotient_order.ensures c.law_clamp_order.ensures c.args.b.now k kernel c.args.lit c.args.coeffs.now c.args.vars.now c.args.limit c.slight_sums-sums.result c.slight_sums-sums.ensures.sums e c.equation_sum_rest.result
    (subst Q (to_z-of_z w64 c.args.limit c.ranges.limit) c.equation_sum_rest.ensures)
