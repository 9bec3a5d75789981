use Rattle.std.proofs.Common.{◌≡◌, subst, arith}
use Rattle.rounds.specs.Even.{AreDealt}
use Rattle.rounds.proofs.cuts.deal_all.Goals as goal

pub returns : goal.returns
returns c =
    let all : c.loop-j.j ≡ c.args.count = omega arith in
    subst (λ n. AreDealt n c.args.lanes c.loop-j.shares.items) all c.loop-j.invariant
