-- The terms stand in the order that the coefficient says.
use Rattle.std.proofs.Common.{◌≡◌, ℤ, sym, subst}
use Rattle.std.proofs.lemmas.Int.{to_z-of_z}
use mir.Syntax.{w64}
use Rattle.guarded_tell.specs.declared.kernel.Kernel.TheVariants.{Eq}
use Rattle.seen_tells.specs.Held.{ordered_signs, ordered_vars}
use Rattle.seen_tells.proofs.HeldLaws.{same_ordered}
use Rattle.seen_tells.proofs.held.held_same.Goals as goal

pub ordered_same-requires-clause-order : goal.ordered_same-requires-clause-order
ordered_same-requires-clause-order c =
    subst (λ (z : ℤ). c.args.k.now ≡ Eq c.args.lit (ordered_signs c.ends_below-x_first.result) (ordered_vars c.ends_below-x_first.result c.args.x c.args.y) z) (sym (to_z-of_z w64 c.args.limit c.ranges.limit))
    (same_ordered c.args.k.now c.in-Eq.lit c.in-Eq.coeffs c.in-Eq.vars c.in-Eq.limit c.ends_below-x_first.result c.args.lit c.args.x c.args.y c.args.limit c.ends_below-x_first.ensures c.in-Eq.is c.requires.shape)
