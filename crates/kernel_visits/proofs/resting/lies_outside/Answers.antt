-- The sums are those of the two terms.
use Rattle.std.proofs.Common.{◌+ℤ◌, ◌<ℤ◌, ◌⊎◌, FitsSigned, to_z, of_z, inr, arith, rules}
use Rattle.std.proofs.lemmas.Bool.{OnTrue_from}
use Rattle.std.proofs.lemmas.Int.{ints}
use mir.Syntax.{w64}
use Rattle.std.specs.Int.RustNames.{int_lt}
use Rattle.kernel_visits.proofs.resting.lies_outside.Goals as goal

pub returns-else-limit-sum : goal.returns-else-limit-sum
returns-else-limit-sum c =
    let f : FitsSigned w64 c.sum-else-limit-sum.result = search rules in
    OnTrue_from (int_lt (to_z w64 (of_z w64 c.sum-else-limit-sum.result)) (to_z w64 (of_z w64 c.args.limit)))
    ((c.args.limit <ℤ (c.args.pair.first.least +ℤ c.args.pair.second.least)) ⊎ ((c.args.pair.first.greatest +ℤ c.args.pair.second.greatest) <ℤ c.args.limit))
    (λ e. inr (omega (arith, ints, c.sum-else-limit-sum.ensures)))
