-- The sums are those of the two terms.
use Rattle.std.proofs.Common.{◌+ℤ◌, ◌<ℤ◌, FitsSigned, to_z, of_z, arith, rules}
use Rattle.std.proofs.lemmas.Bool.{OnTrue_from}
use Rattle.std.proofs.lemmas.Int.{ints}
use mir.Syntax.{w64}
use Rattle.std.specs.Int.RustNames.{int_lt}
use Rattle.kernel_visits.proofs.resting.lies_between.Goals as goal

pub returns-then-sum-limit-clause-least : goal.returns-then-sum-limit-clause-least
returns-then-sum-limit-clause-least c =
    let f : FitsSigned w64 c.sum.result = search rules in
    OnTrue_from (int_lt (to_z w64 (of_z w64 c.args.limit)) (to_z w64 (of_z w64 c.sum-then-sum-limit.result))) ((c.args.pair.first.least +ℤ c.args.pair.second.least) <ℤ c.args.limit)
    (λ e. omega (arith, ints, c.sum.ensures, c.if-sum-limit.true))

pub returns-then-sum-limit-clause-greatest : goal.returns-then-sum-limit-clause-greatest
returns-then-sum-limit-clause-greatest c =
    let f : FitsSigned w64 c.sum-then-sum-limit.result = search rules in
    OnTrue_from (int_lt (to_z w64 (of_z w64 c.args.limit)) (to_z w64 (of_z w64 c.sum-then-sum-limit.result))) (c.args.limit <ℤ (c.args.pair.first.greatest +ℤ c.args.pair.second.greatest))
    (λ e. omega (arith, ints, c.sum-then-sum-limit.ensures, e))
