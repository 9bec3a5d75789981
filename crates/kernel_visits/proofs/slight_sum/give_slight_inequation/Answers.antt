-- What keeps the box is heard.
use Rattle.std.proofs.Common.{ℤ, subst}
use Rattle.std.specs.List.{All}
use Rattle.std.proofs.lemmas.Int.{to_z-of_z}
use mir.Syntax.{w64}
use Rattle.guarded_tell.specs.Words.{Keeps}
use Rattle.sum_tells.specs.Equality.{eq_tells}
use Rattle.short_tells.proofs.ShortSumLaws.{quiet_heard}
use Rattle.kernel_visits.proofs.slight_sum.give_slight_inequation.Goals as goal

pub returns-in-Some-clause-given : goal.returns-in-Some-clause-given
returns-in-Some-clause-given g c =
    let Q : ℤ → Type 0 = λ z. All (Keeps c.args.b.now) (eq_tells c.args.lit c.args.coeffs.now c.args.vars.now z c.args.b.now) in
    quiet_heard g.H.Hear.hears c.args.h.now c.args.b.now (eq_tells c.args.lit c.args.coeffs.now c.args.vars.now c.args.limit c.args.b.now)
    (subst Q (to_z-of_z w64 c.args.limit c.ranges.limit) c.in-Some.ensures.quiet)
