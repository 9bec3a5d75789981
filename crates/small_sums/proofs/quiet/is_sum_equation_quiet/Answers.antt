-- The literal's variable stands before those of the sum. Sums that leave room say that nothing narrows.
use Rattle.std.proofs.Common.{ℤ, suc, subst, arith}
use Rattle.std.proofs.lemmas.Bool.{OnTrue_at, OnTrue_from}
use Rattle.std.proofs.lemmas.Int.{to_z-of_z}
use mir.Syntax.{w64}
use Rattle.small_sums.specs.Short.{IsEquationQuiet}
use Rattle.small_sums.proofs.QuietLaws.{equation_quiet}
use Rattle.small_sums.proofs.quiet.is_sum_equation_quiet.Goals as goal

pub short_sums-requires-clause-variables : goal.short_sums-requires-clause-variables
short_sums-requires-clause-variables c = record { each = λ i h. c.requires.variables.each (suc i) (omega arith) }

pub short_sums-requires-clause-proper : goal.short_sums-requires-clause-proper
short_sums-requires-clause-proper c = λ i h. c.requires.proper (suc i) (omega arith)

pub returns-in-Some : goal.returns-in-Some
returns-in-Some c = OnTrue_from _ _ (λ e.
    let Q : ℤ → Type 0 = λ z. IsEquationQuiet c.args.b.now c.args.lit z c.in-Some.sums in
    equation_quiet c.law_quotient_order.ensures c.law_clamp_order.ensures c.args.b.now c.args.lit c.args.coeffs.now c.args.vars.now c.in-Some.sums c.requires.linear.same_length c.in-Some.ensures.sums c.args.limit
    (subst Q (to_z-of_z w64 c.args.limit c.ranges.limit) (OnTrue_at e c.leaves_room_on_both_sides.ensures)))

pub leaves_room_on_both_sides-requires-clause-proper : goal.leaves_room_on_both_sides-requires-clause-proper
leaves_room_on_both_sides-requires-clause-proper c = c.requires.proper 0 (omega arith)
