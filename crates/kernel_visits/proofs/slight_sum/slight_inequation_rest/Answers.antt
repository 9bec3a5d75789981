-- Two open terms, and sums that leave room, say that nothing narrows, and how long the kernel rests.
use Rattle.std.proofs.Common.{ℤ, suc, subst, arith}
use Rattle.std.proofs.lemmas.Bool.{OnTrue_at}
use Rattle.std.proofs.lemmas.Int.{to_z-of_z}
use mir.Syntax.{w64}
use Rattle.small_sums.specs.Short.{IsEquationQuiet}
use Rattle.kernel_visits.specs.Settled.{IsEquationSumFor}
use Rattle.kernel_visits.proofs.OpenLaws.{open_quiet}
use Rattle.small_sums.proofs.QuietLaws.{equation_quiet, not_sure}
use Rattle.kernel_visits.proofs.SeenLaws.{open_rests}
use Rattle.kernel_visits.proofs.SettledLaws.{equation_rests}
use Rattle.kernel_visits.proofs.slight_sum.slight_inequation_rest.Goals as goal

pub are_two_open-requires-clause-variables : goal.are_two_open-requires-clause-variables
are_two_open-requires-clause-variables c = record { each = λ i h. c.requires.variables.each (suc i) (omega arith) }

pub returns-then-are_two_open-clause-quiet : goal.returns-then-are_two_open-clause-quiet
returns-then-are_two_open-clause-quiet c =
    open_quiet c.law_clamp_order.ensures c.args.b.now c.args.lit c.args.coeffs.now c.args.vars.now c.args.limit c.requires.linear.same_length
    (not_sure c.law_clamp_order.ensures c.args.b.now c.args.lit c.requires.out) c.requires.out c.if-are_two_open.ensures

pub returns-then-are_two_open-clause-rest : goal.returns-then-are_two_open-clause-rest
returns-then-are_two_open-clause-rest c k kernel e =
    open_rests c.law_quotient_order.ensures c.law_clamp_order.ensures c.args.b.now k kernel c.args.lit c.args.coeffs.now c.args.vars.now c.args.limit e (c.requires.out, c.if-are_two_open.ensures)

pub slight_sums-sums-requires-clause-variables : goal.slight_sums-sums-requires-clause-variables
slight_sums-sums-requires-clause-variables c = record { each = λ i h. c.requires.variables.each (suc i) (omega arith) }

pub slight_sums-sums-requires-clause-proper : goal.slight_sums-sums-requires-clause-proper
slight_sums-sums-requires-clause-proper c = λ i h. c.requires.proper (suc i) (omega arith)

pub leaves_room_on_both_sides-requires-clause-variable : goal.leaves_room_on_both_sides-requires-clause-variable
leaves_room_on_both_sides-requires-clause-variable c = c.requires.variables.each 0 (omega arith)

pub leaves_room_on_both_sides-requires-clause-proper : goal.leaves_room_on_both_sides-requires-clause-proper
leaves_room_on_both_sides-requires-clause-proper c = c.requires.proper 0 (omega arith)

pub equation_sum_rest-requires-clause-variable : goal.equation_sum_rest-requires-clause-variable
equation_sum_rest-requires-clause-variable c = c.requires.variables.each 0 (omega arith)

pub equation_sum_rest-requires-clause-proper : goal.equation_sum_rest-requires-clause-proper
equation_sum_rest-requires-clause-proper c = c.requires.proper 0 (omega arith)

pub returns-then-leaves_room_on_both_sides-clause-quiet : goal.returns-then-leaves_room_on_both_sides-clause-quiet
returns-then-leaves_room_on_both_sides-clause-quiet c =
    let Q : ℤ → Type 0 = λ z. IsEquationQuiet c.args.b.now c.args.lit z c.slight_sums-sums.result in
    equation_quiet c.law_quotient_order.ensures c.law_clamp_order.ensures c.args.b.now c.args.lit c.args.coeffs.now c.args.vars.now c.slight_sums-sums.result c.requires.linear.same_length c.slight_sums-sums.ensures.sums c.args.limit
    (subst Q (to_z-of_z w64 c.args.limit c.ranges.limit) (OnTrue_at c.if-leaves_room_on_both_sides.true c.leaves_room_on_both_sides.ensures))

pub returns-then-leaves_room_on_both_sides-clause-rest : goal.returns-then-leaves_room_on_both_sides-clause-rest
returns-then-leaves_room_on_both_sides-clause-rest c k kernel e =
    let Q : ℤ → Type 0 = λ z. IsEquationSumFor c.args.b.now c.args.lit z c.slight_sums-sums.result c.equation_sum_rest.result in
    equation_rests c.law_quotient_order.ensures c.law_clamp_order.ensures c.args.b.now k kernel c.args.lit c.args.coeffs.now c.args.vars.now c.args.limit c.slight_sums-sums.result c.slight_sums-sums.ensures.sums e c.equation_sum_rest.result
    (subst Q (to_z-of_z w64 c.args.limit c.ranges.limit) c.equation_sum_rest.ensures)
