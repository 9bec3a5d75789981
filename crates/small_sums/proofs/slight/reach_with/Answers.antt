-- Both products are exact and within the coefficient's share.
use Rattle.std.proofs.Common.{◌≡◌, ℤ, ◌*ℤ◌, unsigned_abs, ap, sym, ◌∙◌, arith}
use Rattle.std.proofs.lemmas.Int.{ints}
use Rattle.interval.specs.Boxes.{low_of, high_of}
use Rattle.small_sums.proofs.ShortLaws.{bound_of, product_at}
use Rattle.small_sums.proofs.SlightLaws.{coded_share, slight_alone, bound_read, product_share, reach_room, reach_more, room_along, moved_along}
use Rattle.small_sums.proofs.slight.reach_with.Goals as goal

pub small_product-at_low-requires : goal.small_product-at_low-requires
small_product-at_low-requires c = coded_share c.args.coeff c.low-low.result c.ranges.coeff (slight_alone c.args.coeff c.args.reach c.requires.slight) c.low-low.ensures.in_range

pub small_product-requires : goal.small_product-requires
small_product-requires c = coded_share c.args.coeff c.high-high.result c.ranges.coeff (slight_alone c.args.coeff c.args.reach c.requires.slight) c.high-high.ensures.in_range

pub reach_with_both-requires-clause-room : goal.reach_with_both-requires-clause-room
reach_with_both-requires-clause-room c =
    let b = c.args.b.now in
    let low = bound_of c.low-low.result (low_of b c.args.var) c.low-low.ensures.in_range c.low-low.ensures.value in
    let high = bound_of c.high-high.result (high_of b c.args.var) c.high-high.ensures.in_range c.high-high.ensures.value in
    let at_low = product_at c.args.coeff c.low-low.result (low_of b c.args.var) c.small_product-at_low.result c.ranges.coeff c.low-low.ensures.in_range c.low-low.ensures.value c.small_product-at_low.ensures.value c.small_product-at_low.ensures.in_range in
    let at_high = product_at c.args.coeff c.high-high.result (high_of b c.args.var) c.small_product.result c.ranges.coeff c.high-high.ensures.in_range c.high-high.ensures.value c.small_product.ensures.value c.small_product.ensures.in_range in
    room_along c.args.reach _ _ _ _ (sym at_low) (sym at_high)
    (reach_room c.requires.slight.size (unsigned_abs c.args.coeff) c.args.reach (c.args.coeff *ℤ low_of b c.args.var) (c.args.coeff *ℤ high_of b c.args.var) c.requires.slight.reach
    (product_share c.args.coeff (low_of b c.args.var) low) (product_share c.args.coeff (high_of b c.args.var) high) c.requires.slight.room)

pub reach_with_one-requires : goal.reach_with_one-requires
reach_with_one-requires c =
    let b = c.args.b.now in
    let low = bound_of c.low-low.result (low_of b c.args.var) c.low-low.ensures.in_range c.low-low.ensures.value in
    let at_low = product_at c.args.coeff c.low-low.result (low_of b c.args.var) c.small_product-at_low.result c.ranges.coeff c.low-low.ensures.in_range c.low-low.ensures.value c.small_product-at_low.ensures.value c.small_product-at_low.ensures.in_range in
    room_along c.args.reach _ _ _ _ (sym at_low) (sym at_low)
    (reach_room c.requires.slight.size (unsigned_abs c.args.coeff) c.args.reach (c.args.coeff *ℤ low_of b c.args.var) (c.args.coeff *ℤ low_of b c.args.var) c.requires.slight.reach
    (product_share c.args.coeff (low_of b c.args.var) low) (product_share c.args.coeff (low_of b c.args.var) low) c.requires.slight.room)

pub returns-then-low-high : goal.returns-then-low-high
returns-then-low-high c =
    let b = c.args.b.now in
    let low = bound_of c.low-low.result (low_of b c.args.var) c.low-low.ensures.in_range c.low-low.ensures.value in
    let high = bound_of c.high-high.result (high_of b c.args.var) c.high-high.ensures.in_range c.high-high.ensures.value in
    let at_low = product_at c.args.coeff c.low-low.result (low_of b c.args.var) c.small_product-at_low.result c.ranges.coeff c.low-low.ensures.in_range c.low-low.ensures.value c.small_product-at_low.ensures.value c.small_product-at_low.ensures.in_range in
    let at_high = product_at c.args.coeff c.high-high.result (high_of b c.args.var) c.small_product.result c.ranges.coeff c.high-high.ensures.in_range c.high-high.ensures.value c.small_product.ensures.value c.small_product.ensures.in_range in
    let moved = moved_along c.args.reach c.reach_with_both.result _ _ _ _ at_low at_high c.reach_with_both.ensures in
    record {
      bounds = record { low = low; high = high };
      moved = moved;
      in_range = λ size reach. reach_more size (unsigned_abs c.args.coeff) c.args.reach (c.args.coeff *ℤ low_of b c.args.var) (c.args.coeff *ℤ high_of b c.args.var) reach
          (product_share c.args.coeff (low_of b c.args.var) low) (product_share c.args.coeff (high_of b c.args.var) high) c.reach_with_both.result moved;
    }

pub returns-else-low-high : goal.returns-else-low-high
returns-else-low-high c =
    let b = c.args.b.now in
    let low = bound_of c.low-low.result (low_of b c.args.var) c.low-low.ensures.in_range c.low-low.ensures.value in
    let high = bound_of c.high-high.result (high_of b c.args.var) c.high-high.ensures.in_range c.high-high.ensures.value in
    let at_low = product_at c.args.coeff c.low-low.result (low_of b c.args.var) c.small_product-at_low.result c.ranges.coeff c.low-low.ensures.in_range c.low-low.ensures.value c.small_product-at_low.ensures.value c.small_product-at_low.ensures.in_range in
    let low_read = bound_read c.low-low.result (low_of b c.args.var) c.low-low.ensures.in_range c.low-low.ensures.value in
    let high_read = bound_read c.high-high.result (high_of b c.args.var) c.high-high.ensures.in_range c.high-high.ensures.value in
    let same : low_of b c.args.var ≡ high_of b c.args.var = omega (arith, ints, low_read, high_read, c.if-low-high.false, c.requires.proper) in
    let moved = moved_along c.args.reach c.reach_with_one.result _ _ _ _ at_low (at_low ∙ ap (λ (z : ℤ). c.args.coeff *ℤ z) same) c.reach_with_one.ensures in
    record {
      bounds = record { low = low; high = high };
      moved = moved;
      in_range = λ size reach. reach_more size (unsigned_abs c.args.coeff) c.args.reach (c.args.coeff *ℤ low_of b c.args.var) (c.args.coeff *ℤ high_of b c.args.var) reach
          (product_share c.args.coeff (low_of b c.args.var) low) (product_share c.args.coeff (high_of b c.args.var) high) c.reach_with_one.result moved;
    }
