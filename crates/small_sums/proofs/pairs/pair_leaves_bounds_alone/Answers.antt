-- Neither sum is the limit, whichever term is fixed.
use Rattle.std.proofs.Common.{◌+ℤ◌, arith}
use Rattle.std.proofs.lemmas.Bool.{OnTrue_at, OnTrue_from}
use Rattle.std.proofs.lemmas.Int.{ints}
use Rattle.std.specs.Prelude.{◌≢◌}
use Rattle.small_sums.specs.Short.{IsPairUnequalQuiet}
use Rattle.small_sums.proofs.pairs.pair_leaves_bounds_alone.Goals as goal

pub returns-else-pair : goal.returns-else-pair
returns-else-pair c = OnTrue_from c.is_neither_sum.result (IsPairUnequalQuiet c.args.limit c.args.pair) (λ e.
    let low : c.args.limit ≢ (c.args.pair.first.least +ℤ c.args.pair.second.least) = λ q. OnTrue_at e c.is_neither_sum.ensures.least (omega (arith, ints, q)) in
    let high : c.args.limit ≢ (c.args.pair.first.greatest +ℤ c.args.pair.second.greatest) = λ q. OnTrue_at e c.is_neither_sum.ensures.greatest (omega (arith, ints, q)) in
    record { first_low = λ h. low; first_high = λ h. high; second_low = λ h. low; second_high = λ h. high })
