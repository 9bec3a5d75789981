-- What is found says it.
use Rattle.std.proofs.Common.{sym, subst}
use Rattle.std.specs.Bool.{MatchBool}
use Rattle.kernel_visits.specs.Open.{AreTwoOpen, IsOpenAt}
use Rattle.kernel_visits.specs.Found.{IsNoneOrOne}
use Rattle.kernel_visits.proofs.FoundLaws.{open_or_one}
use Rattle.kernel_visits.proofs.quiet.are_two_open.Goals as goal

pub returns : goal.returns
returns c =
    subst (λ r. MatchBool r (AreTwoOpen c.args.b.now c.args.coeffs.now c.args.vars.now) (IsNoneOrOne (IsOpenAt c.args.b.now c.args.coeffs.now c.args.vars.now))) (sym c.is_two.ensures)
    (open_or_one c.args.b.now c.args.coeffs.now c.args.vars.now c.open_places-found.result c.open_places-found.ensures)
