use Rattle.std.proofs.Common.{arith}
use Rattle.fzn_check.proofs.WithinLaws.{all_inside}
use Rattle.fzn_check.proofs.checking.first_outside.Goals as goal

pub returns : goal.returns
returns c =
    let over = c.loop-place-test.false in
    all_inside c.args.vars.now c.args.solution.now c.requires (λ v inside. c.loop-place.invariant v (omega arith))
