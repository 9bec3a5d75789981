-- The kernel's literal is that of the equation.
use Rattle.std.proofs.Common.{◌≡◌, ℤ, sym, subst}
use Rattle.std.proofs.lemmas.Int.{to_z-of_z}
use mir.Syntax.{w64}
use Rattle.guarded_tell.specs.declared.kernel.Kernel.TheVariants.{Eq}
use Rattle.kernel_visits.specs.Shapes.{units_of, places_of}
use Rattle.kernel_visits.proofs.ShapeLaws.{three_is}
use Rattle.seen_tells.proofs.ThreeLaws.{literal_placed, literal_proper}
use Rattle.seen_tells.proofs.three.seen_three.Goals as goal

pub stands_true-requires-clause-variable : goal.stands_true-requires-clause-variable
stands_true-requires-clause-variable c =
    literal_placed c.args.k.now c.args.b.now c.in-Eq.lit c.args.terms c.args.limit c.requires.kernel
    (three_is c.args.k.now c.in-Eq.lit c.in-Eq.coeffs c.in-Eq.vars c.in-Eq.limit c.in-Eq.is c.args.terms c.args.limit c.requires.shape)

pub stands_true-requires-clause-proper : goal.stands_true-requires-clause-proper
stands_true-requires-clause-proper c =
    literal_proper c.args.k.now c.args.b.now c.in-Eq.lit c.args.terms c.args.limit c.requires.kernel
    (three_is c.args.k.now c.in-Eq.lit c.in-Eq.coeffs c.in-Eq.vars c.in-Eq.limit c.in-Eq.is c.args.terms c.args.limit c.requires.shape) c.requires.proper

pub seen_sure-requires-clause-equation : goal.seen_sure-requires-clause-equation
seen_sure-requires-clause-equation c =
    subst (λ (z : ℤ). c.args.k.now ≡ Eq c.in-Eq.lit (units_of c.args.terms) (places_of c.args.terms) z) (sym (to_z-of_z w64 c.args.limit c.ranges.limit))
    (three_is c.args.k.now c.in-Eq.lit c.in-Eq.coeffs c.in-Eq.vars c.in-Eq.limit c.in-Eq.is c.args.terms c.args.limit c.requires.shape)
