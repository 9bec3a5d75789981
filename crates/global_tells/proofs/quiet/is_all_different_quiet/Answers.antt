-- At the end all places are wide.
use Rattle.std.proofs.Common.{arith}
use Rattle.global_tells.proofs.QuietLaws.{wide_quiet}
use Rattle.global_tells.proofs.quiet.is_all_different_quiet.Goals as goal

pub returns : goal.returns
returns c = wide_quiet c.args.b.now c.args.xs.now (λ k h. c.loop-i.invariant k (let e = c.loop-i-test.false in omega arith))
