-- The literal's variable stands before the two of the sum. Two terms that have room narrow nothing.
use Rattle.std.proofs.Common.{ℤ, suc, subst, arith}
use Rattle.std.proofs.lemmas.Bool.{OnTrue_at, OnTrue_from}
use Rattle.std.proofs.lemmas.Int.{to_z-of_z}
use mir.Syntax.{w64}
use Rattle.small_sums.specs.Short.{sums_of_two, IsPairEquationQuiet}
use Rattle.small_sums.proofs.PairLaws.{two_sums, pair_equation}
use Rattle.small_sums.proofs.QuietLaws.{equation_quiet}
use Rattle.small_sums.proofs.quiet.is_pair_equation_quiet.Goals as goal

pub pair_of-requires-clause-variables : goal.pair_of-requires-clause-variables
pair_of-requires-clause-variables c = record { each = λ i h. c.requires.variables.each (suc i) (omega arith) }

pub pair_of-requires-clause-proper : goal.pair_of-requires-clause-proper
pair_of-requires-clause-proper c = λ i h. c.requires.proper (suc i) (omega arith)

pub returns-in-Some : goal.returns-in-Some
returns-in-Some c = OnTrue_from _ _ (λ e.
    let p = c.in-Some.pair in
    let Q : ℤ → Type 0 = λ z. IsPairEquationQuiet c.args.b.now c.args.lit z p in
    let sums = two_sums c.args.b.now p.first p.second c.args.coeffs.now c.args.vars.now c.requires.two c.requires.linear.same_length c.in-Some.ensures.first c.in-Some.ensures.second in
    equation_quiet c.law_quotient_order.ensures c.law_clamp_order.ensures c.args.b.now c.args.lit c.args.coeffs.now c.args.vars.now (sums_of_two p.first p.second) c.requires.linear.same_length sums c.args.limit
    (pair_equation c.args.b.now c.args.lit c.args.limit p (subst Q (to_z-of_z w64 c.args.limit c.ranges.limit) (OnTrue_at e c.pair_leaves_room_on_both_sides.ensures))))

pub pair_leaves_room_on_both_sides-requires-clause-proper : goal.pair_leaves_room_on_both_sides-requires-clause-proper
pair_leaves_room_on_both_sides-requires-clause-proper c = c.requires.proper 0 (omega arith)
