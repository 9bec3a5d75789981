-- The corner products are small.
use Rattle.std.proofs.Common.{arith}
use Rattle.std.proofs.lemmas.Int.{ints}
use Rattle.interval.specs.Limits.{bound_limit, largest_number}
use Rattle.arithmetic_tells.proofs.DivisionCode.{square, least_product_small, greatest_product_small}
use Rattle.arithmetic_tells.proofs.division.dividends.Goals as goal

pub overflow_sub-result : goal.overflow_sub-result
unfolding square bound_limit largest_number
overflow_sub-result c =
    let n = least_product_small c.args.z c.args.y c.requires.z_low c.requires.z_high c.requires.y_low c.requires.y_high in
    let e = c.corner_products-least.ensures.least in
    omega (arith, ints)

pub overflow_add-result : goal.overflow_add-result
unfolding square bound_limit largest_number
overflow_add-result c =
    let n = greatest_product_small c.args.z c.args.y c.requires.z_low c.requires.z_high c.requires.y_low c.requires.y_high in
    let e = c.corner_products-least.ensures.greatest in
    omega (arith, ints)

pub returns-clause-least : goal.returns-clause-least
unfolding square bound_limit largest_number
returns-clause-least c =
    let n = least_product_small c.args.z c.args.y c.requires.z_low c.requires.z_high c.requires.y_low c.requires.y_high in
    let e = c.corner_products-least.ensures.least in
    omega (arith, ints)

pub returns-clause-greatest : goal.returns-clause-greatest
unfolding square bound_limit largest_number
returns-clause-greatest c =
    let n = greatest_product_small c.args.z c.args.y c.requires.z_low c.requires.z_high c.requires.y_low c.requires.y_high in
    let e = c.corner_products-least.ensures.greatest in
    omega (arith, ints)
