-- The ranges are those of the box.
use Rattle.std.proofs.lemmas.Bool.{OnTrue_at, OnTrue_from}
use Rattle.arithmetic_tells.proofs.ProductQuiet.{proper_range, ranges_quiet}
use Rattle.arithmetic_tells.proofs.products.is_factor_seen_quiet.Goals as goal

pub returns : goal.returns
returns c = OnTrue_from _ _ (λ e.
    ranges_quiet c.law_quotient_order.ensures c.law_clamp_order.ensures c.args.b.now c.args.x c.args.y c.args.z
    c.range_of.result c.range_of-2.result c.range_of-3.result
    c.range_of.ensures.value c.range_of-2.ensures.value c.range_of-3.ensures.value
    c.range_of.ensures.low c.range_of.ensures.high c.requires.y_proper (OnTrue_at e c.is_factor_quiet.ensures))

pub is_factor_quiet-requires-clause-y_proper : goal.is_factor_quiet-requires-clause-y_proper
is_factor_quiet-requires-clause-y_proper c = proper_range c.args.b.now c.args.y c.range_of-2.result c.range_of-2.ensures.value c.requires.y_proper
