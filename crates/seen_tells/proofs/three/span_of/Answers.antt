-- A variable's own values, or those of its opposite, are those of the term of its sign.
use Rattle.std.proofs.Common.{sym, subst}
use Rattle.small_sums.specs.Short.{IsTermOf}
use Rattle.kernel_visits.specs.declared.shape.Sign.{Sign}
use Rattle.kernel_visits.specs.declared.shape.Sign.TheVariants.{Plus, Minus}
use Rattle.kernel_visits.specs.Shapes.{unit_of}
use Rattle.seen_tells.proofs.ThreeLaws.{least_is_bound, greatest_is_bound}
use Rattle.seen_tells.proofs.three.span_of.Goals as goal

pub returns-in-Plus : goal.returns-in-Plus
returns-in-Plus c = record {
  term = subst (λ (s : Sign). IsTermOf c.args.b.now (unit_of s) c.args.var c.plain.result) (sym c.in-Plus.is) c.plain.ensures;
  least = least_is_bound c.args.b.now c.args.var c.plain.result Plus c.plain.ensures;
  greatest = greatest_is_bound c.args.b.now c.args.var c.plain.result Plus c.plain.ensures;
}

pub returns-in-Minus : goal.returns-in-Minus
returns-in-Minus c = record {
  term = subst (λ (s : Sign). IsTermOf c.args.b.now (unit_of s) c.args.var c.opposite.result) (sym c.in-Minus.is) c.opposite.ensures;
  least = least_is_bound c.args.b.now c.args.var c.opposite.result Minus c.opposite.ensures;
  greatest = greatest_is_bound c.args.b.now c.args.var c.opposite.result Minus c.opposite.ensures;
}
