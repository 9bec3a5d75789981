use Rattle.constraint_check.specs.Tests.{passes}
use Rattle.constraint_check.proofs.HoldLaws.{reified_last}
use Rattle.constraint_check.proofs.holding.reified.Goals as goal

pub returns-in-Some : goal.returns-in-Some
returns-in-Some c =
    let a = c.args.solution.now in
    let some = c.in-Some in
    reified_last (passes c.args.test a) a c.args.operands.now some.others.now some.last.now c.passes.result c.says.result some.ensures.cases.0 c.passes.ensures c.says.ensures
