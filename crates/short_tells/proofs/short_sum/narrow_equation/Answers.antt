-- What is seen to narrow nothing is heard.
use Rattle.std.proofs.Common.{ℤ, subst}
use Rattle.std.proofs.lemmas.Bool.{OnTrue_at, OnTrue_from}
use Rattle.std.proofs.lemmas.Int.{to_z-of_z}
use mir.Syntax.{w64}
use Rattle.std.specs.List.{All}
use Rattle.tells.specs.Words.{Keeps}
use Rattle.sum_tells.specs.Equality.{eq_tells}
use Rattle.short_tells.proofs.ShortSumLaws.{quiet_heard}
use Rattle.short_tells.proofs.short_sum.narrow_equation.Goals as goal

pub returns-in_default-clause-given : goal.returns-in_default-clause-given
returns-in_default-clause-given g c = OnTrue_from _ _ (λ e.
    let Q : ℤ → Type 0 = λ z. All (Keeps c.args.b.now) (eq_tells c.args.lit c.args.coeffs.now c.args.vars.now z c.args.b.now) in
    quiet_heard g.H.Hear.hears c.args.h.now c.args.b.now (eq_tells c.args.lit c.args.coeffs.now c.args.vars.now c.args.limit c.args.b.now)
    (subst Q (to_z-of_z w64 c.args.limit c.ranges.limit) (OnTrue_at e c.is_whole_equation_quiet.ensures)))
