-- The terms stand in the order that the coefficient says.
use Rattle.std.proofs.Common.{◌≡◌, ◌∙◌, ℤ, sym, subst}
use Rattle.std.proofs.lemmas.Int.{to_z-of_z}
use mir.Syntax.{w64}
use Rattle.guarded_tell.specs.declared.kernel.Kernel.TheVariants.{Le}
use Rattle.seen_tells.specs.Held.{ordered_signs, ordered_vars}
use Rattle.seen_tells.proofs.HeldLaws.{at_most_ordered}
use Rattle.seen_tells.proofs.held.held_at_most.Goals as goal

pub ordered_at_most-requires-clause-order : goal.ordered_at_most-requires-clause-order
ordered_at_most-requires-clause-order c =
    let same : c.as_slice.result.now ≡ c.in-Le.coeffs = cc in
    let is : c.args.k.now ≡ Le c.in-Le.lit c.as_slice.result.now c.in-Le.vars c.in-Le.limit = c.in-Le.is ∙ (λ i. Le c.in-Le.lit (sym same i) c.in-Le.vars c.in-Le.limit) in
    subst (λ (z : ℤ). c.args.k.now ≡ Le c.args.lit (ordered_signs c.begins_above-x_first.result) (ordered_vars c.begins_above-x_first.result c.args.x c.args.y) z) (sym (to_z-of_z w64 c.args.limit c.ranges.limit))
    (at_most_ordered c.args.k.now c.in-Le.lit c.as_slice.result.now c.in-Le.vars c.in-Le.limit c.begins_above-x_first.result c.args.lit c.args.x c.args.y c.args.limit c.begins_above-x_first.ensures is c.requires.shape)
