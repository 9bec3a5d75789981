use Rattle.fzn_check.proofs.BadLaws.{all_are_right, numbers_at}
use Rattle.fzn_check.proofs.judging.first_bad.Goals as goal

pub first_wrong-requires-clause-numbers : goal.first_wrong-requires-clause-numbers
first_wrong-requires-clause-numbers g c =
    λ ks b. numbers_at c.args.model.now.vars c.args.solutions.now c.loop-place.place c.index-solutions-place.result c.as_slice.result.now c.requires.values c.loop-place-test.true c.index-solutions-place.is c.as_slice.ensures

pub returns : goal.returns
returns g c = all_are_right c.args.model.now c.args.solutions.now c.loop-place.place c.loop-place.invariant c.loop-place-test.false
