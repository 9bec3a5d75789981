-- A slight coefficient has small products with all bounds, and small numbers have small products.
use Rattle.std.proofs.Common.{arith}
use Rattle.std.proofs.lemmas.Bool.{OnTrue_at, OnTrue_from}
use Rattle.std.proofs.lemmas.Int.{ints}
use Rattle.small_sums.proofs.ShortLaws.{product_small, product_slight}
use Rattle.small_sums.proofs.short.has_small_products.Goals as goal

pub returns-then-is_slight-clause-low : goal.returns-then-is_slight-clause-low
returns-then-is_slight-clause-low c = OnTrue_from _ _ (λ e. product_slight c.args.coeff c.args.low (omega (arith, ints, c.if-is_slight.ensures)) c.requires.low)

pub returns-then-is_slight-clause-high : goal.returns-then-is_slight-clause-high
returns-then-is_slight-clause-high c = OnTrue_from _ _ (λ e. product_slight c.args.coeff c.args.high (omega (arith, ints, c.if-is_slight.ensures)) c.requires.high)

pub returns-else-is_slight-clause-low : goal.returns-else-is_slight-clause-low
returns-else-is_slight-clause-low c = OnTrue_from _ _ (λ e.
    let a = OnTrue_at e c.are_small.ensures.coefficient in
    let z = OnTrue_at e c.are_small.ensures.low in
    product_small c.args.coeff c.args.low (omega (arith, ints, a)) (omega (arith, ints, z)))

pub returns-else-is_slight-clause-high : goal.returns-else-is_slight-clause-high
returns-else-is_slight-clause-high c = OnTrue_from _ _ (λ e.
    let a = OnTrue_at e c.are_small.ensures.coefficient in
    let z = OnTrue_at e c.are_small.ensures.high in
    product_small c.args.coeff c.args.high (omega (arith, ints, a)) (omega (arith, ints, z)))
