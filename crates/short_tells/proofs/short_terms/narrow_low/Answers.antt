-- A term that grows by no more than the slack isn't narrowed.
use Rattle.std.proofs.Common.{ℤ, List, refl, sym, subst}
use Rattle.tells.specs.declared.tell.Tell.{Tell}
use Rattle.interval.specs.Limits.{IsBound}
use Rattle.tells.specs.Hearing.{HearsAll}
use Rattle.short_tells.proofs.ShortTellLaws.{low_stays}
use Rattle.short_tells.proofs.GrowthLaws.{short_read, within_read, wide_read}
use Rattle.short_tells.proofs.short_terms.narrow_low.Goals as goal

pub is_within-requires-clause-short : goal.is_within-requires-clause-short
is_within-requires-clause-short g c = short_read c.args.b.now c.args.var c.low.result c.high.result c.low.ensures.in_range c.low.ensures.value c.high.ensures.in_range c.high.ensures.value c.args.size c.ranges.size c.requires.growth

pub returns-then-is_within : goal.returns-then-is_within
returns-then-is_within g c =
    let P : List Tell → Type 0 = λ ts. HearsAll g.H.Hear.hears c.args.h.now ts c.args.h.now in
    let within = within_read c.args.b.now c.args.var c.low.result c.high.result c.low.ensures.in_range c.low.ensures.value c.high.ensures.in_range c.high.ensures.value c.args.size c.args.slack c.ranges.size c.ranges.slack c.is_within.result c.is_within.ensures c.if-is_within.true in
    let bound = subst (λ (z : ℤ). IsBound z) c.low.ensures.value c.low.ensures.in_range in
    subst P (sym (low_stays c.law_quotient_order.ensures c.law_clamp_order.ensures c.args.b.now c.args.var c.args.size c.args.slack c.requires.size within bound)) refl

pub hear_low-requires-clause-wide : goal.hear_low-requires-clause-wide
hear_low-requires-clause-wide g c = wide_read c.args.b.now c.args.var c.low.result c.high.result c.low.ensures.in_range c.low.ensures.value c.high.ensures.in_range c.high.ensures.value c.args.size c.args.slack c.ranges.size c.ranges.slack c.is_within.result c.is_within.ensures c.if-is_within.false
