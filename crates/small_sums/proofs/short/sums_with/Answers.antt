-- The greater of two is at least as great as either.
use Rattle.std.proofs.Common.{FitsSigned, arith, rules}
use Rattle.std.proofs.lemmas.Int.{ints}
use mir.Syntax.{w64}
use Rattle.small_sums.specs.Short.{small_limit, small_product_limit, short_sum_limit}
use Rattle.small_sums.proofs.short.sums_with.Goals as goal

pub returns : goal.returns
unfolding small_limit small_product_limit short_sum_limit
returns c =
    let f : FitsSigned w64 c.args.sums.widest = search rules in
    let m : FitsSigned w64 c.max.result = search rules in
    record {
      least = omega (arith, ints);
      greatest = omega (arith, ints);
      least_in_range = omega (arith, ints, c.if-not-is_short.ensures);
      greatest_in_range = omega (arith, ints, c.if-not-is_short-2.ensures);
      wider = omega (arith, ints, c.max.ensures.self_bound);
      within = omega (arith, ints, c.max.ensures.other_bound);
    }
