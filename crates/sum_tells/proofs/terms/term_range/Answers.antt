-- The two products are exact, and the lesser and the greater of them are the least and the greatest value.
use Rattle.std.proofs.Common.{◌≡◌, ◌∙◌, ◌≤◌, ap, ◌*ℤ◌, unsigned_abs}
use Rattle.std.specs.Int.{int_min, int_max}
use Rattle.interval.specs.Boxes.{low_of, high_of}
use Rattle.sum_tells.specs.Linear.{least_of, greatest_of, product_limit}
use Rattle.sum_tells.proofs.ProductLaws.{coded_product, coded_product_is, product_small, least_small, greatest_small, product_fits}
use Rattle.sum_tells.proofs.terms.term_range.Goals as goal

at_low : (c : goal.After-max) → coded_product c.args.coeff c.low.result ≡ c.args.coeff *ℤ low_of c.args.b.now c.args.var
at_low c = coded_product_is c.args.coeff c.low.result c.requires.coefficient c.low.ensures.in_range ∙ ap (λ z. c.args.coeff *ℤ z) c.low.ensures.value

at_high : (c : goal.After-max) → coded_product c.args.coeff c.high.result ≡ c.args.coeff *ℤ high_of c.args.b.now c.args.var
at_high c = coded_product_is c.args.coeff c.high.result c.requires.coefficient c.high.ensures.in_range ∙ ap (λ z. c.args.coeff *ℤ z) c.high.ensures.value

low_small : (c : goal.After-max) → unsigned_abs (coded_product c.args.coeff c.low.result) ≤ product_limit
low_small c = rw (coded_product_is c.args.coeff c.low.result c.requires.coefficient c.low.ensures.in_range) (product_small c.args.coeff c.low.result c.requires.coefficient c.low.ensures.in_range)

high_small : (c : goal.After-max) → unsigned_abs (coded_product c.args.coeff c.high.result) ≤ product_limit
high_small c = rw (coded_product_is c.args.coeff c.high.result c.requires.coefficient c.high.ensures.in_range) (product_small c.args.coeff c.high.result c.requires.coefficient c.high.ensures.in_range)

min_small : (c : goal.After-max) → unsigned_abs c.min.result ≤ product_limit
min_small c = rw c.min.ensures.value (least_small (coded_product c.args.coeff c.low.result) (coded_product c.args.coeff c.high.result) product_limit (low_small c) (high_small c))

max_small : (c : goal.After-max) → unsigned_abs c.max.result ≤ product_limit
max_small c = rw c.max.ensures.value (greatest_small (coded_product c.args.coeff c.low.result) (coded_product c.args.coeff c.high.result) product_limit (low_small c) (high_small c))

pub returns-clause-least : goal.returns-clause-least
unfolding least_of
returns-clause-least c = product_fits c.min.result (min_small c) ∙ c.min.ensures.value ∙ (λ i. int_min (at_low c i) (at_high c i))

pub returns-clause-greatest : goal.returns-clause-greatest
unfolding greatest_of
returns-clause-greatest c = product_fits c.max.result (max_small c) ∙ c.max.ensures.value ∙ (λ i. int_max (at_low c i) (at_high c i))

pub returns-clause-least_in_range : goal.returns-clause-least_in_range
returns-clause-least_in_range c = rw (product_fits c.min.result (min_small c)) (min_small c)

pub returns-clause-greatest_in_range : goal.returns-clause-greatest_in_range
returns-clause-greatest_in_range c = rw (product_fits c.max.result (max_small c)) (max_small c)
