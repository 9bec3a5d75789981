-- The lesser and the greater product are the least and the greatest value.
use Rattle.std.proofs.Common.{◌∙◌}
use Rattle.std.specs.Int.{int_min, int_max}
use Rattle.interval.specs.Boxes.{low_of, high_of}
use Rattle.sum_tells.specs.Linear.{least_of, greatest_of}
use Rattle.small_sums.proofs.ShortLaws.{short_fits, bound_of, product_at, min_small, max_small}
use Rattle.small_sums.proofs.short.small_term.Goals as goal

pub returns : goal.returns
unfolding least_of greatest_of
returns c =
    let low = c.small_product-at_low.ensures in
    let high = c.small_product-at_high.ensures in
    let at_low = product_at c.args.coeff c.low-low.result (low_of c.args.b.now c.args.var) c.small_product-at_low.result c.ranges.coeff c.low-low.ensures.in_range c.low-low.ensures.value low.value low.in_range in
    let at_high = product_at c.args.coeff c.high-high.result (high_of c.args.b.now c.args.var) c.small_product-at_high.result c.ranges.coeff c.high-high.ensures.in_range c.high-high.ensures.value high.value high.in_range in
    let least = min_small c.small_product-at_low.result c.small_product-at_high.result c.min.result low.in_range high.in_range c.min.ensures.value in
    let greatest = max_small c.small_product-at_low.result c.small_product-at_high.result c.max.result low.in_range high.in_range c.max.ensures.value in
    record {
      bounds = record {
        low = bound_of c.low-low.result (low_of c.args.b.now c.args.var) c.low-low.ensures.in_range c.low-low.ensures.value;
        high = bound_of c.high-high.result (high_of c.args.b.now c.args.var) c.high-high.ensures.in_range c.high-high.ensures.value;
      };
      least = short_fits c.min.result least ∙ c.min.ensures.value ∙ (λ i. int_min (at_low i) (at_high i));
      greatest = short_fits c.max.result greatest ∙ c.max.ensures.value ∙ (λ i. int_max (at_low i) (at_high i));
      small = record {
        least = rw (short_fits c.min.result least) least;
        greatest = rw (short_fits c.max.result greatest) greatest;
      };
    }
