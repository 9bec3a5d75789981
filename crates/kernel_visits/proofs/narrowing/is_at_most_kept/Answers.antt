-- The product is exact, so that the bound that the tell is of is as tight.
use Rattle.std.proofs.Common.{arith}
use Rattle.std.proofs.lemmas.Bool.{OnTrue_from}
use Rattle.std.proofs.lemmas.Int.{ints}
use Rattle.kernel_visits.proofs.RoomLaws.{high_within, low_within}
use Rattle.kernel_visits.proofs.narrowing.is_at_most_kept.Goals as goal

pub returns-then-coeff-gt0 : goal.returns-then-coeff-gt0
returns-then-coeff-gt0 c = OnTrue_from _ _ (λ e.
    high_within c.law_quotient_order.ensures c.law_clamp_order.ensures c.args.b.now c.args.var c.args.coeff c.high.result c.args.room c.ranges.coeff c.ranges.room c.high.ensures.in_range c.high.ensures.value (omega (arith, ints, c.if-coeff-gt0.true)) e)

pub returns-then-coeff-lt0 : goal.returns-then-coeff-lt0
returns-then-coeff-lt0 c = OnTrue_from _ _ (λ e.
    low_within c.law_quotient_order.ensures c.law_clamp_order.ensures c.args.b.now c.args.var c.args.coeff c.low.result c.args.room c.ranges.coeff c.ranges.room c.low.ensures.in_range c.low.ensures.value (omega (arith, ints, c.if-coeff-lt0.true)) e)
