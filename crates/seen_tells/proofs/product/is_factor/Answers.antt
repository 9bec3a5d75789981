-- The low is at least 1 and at most the high, which is at most the limit.
use Rattle.std.proofs.Common.{FitsSigned, rules, arith}
use Rattle.std.proofs.lemmas.Bool.{OnTrue_from}
use Rattle.std.proofs.lemmas.Int.{ints, to_z-of_z}
use mir.Syntax.{w64}
use Rattle.seen_tells.specs.Natural.{HasFactors, factor_limit}
use Rattle.seen_tells.proofs.product.is_factor.Goals as goal

pub returns-then-low-ge1 : goal.returns-then-low-ge1
unfolding factor_limit
returns-then-low-ge1 c =
    let low_fits : FitsSigned w64 c.low.result = search rules in
    let high_fits : FitsSigned w64 c.high.result = search rules in
    let low = to_z-of_z w64 c.low.result low_fits in
    let high = to_z-of_z w64 c.high.result high_fits in
    let least = c.if-low-ge1.true in
    let low_value = c.low.ensures.value in
    let high_value = c.high.ensures.value in
    OnTrue_from _ (HasFactors c.args.b.now c.args.v) (λ e. record {
      low = (omega (arith, ints), omega (arith, ints, c.requires.proper));
      high = (omega (arith, ints, c.requires.proper), omega (arith, ints));
      order = c.requires.proper;
    })
