use Rattle.std.proofs.Common.{◌≤◌, List, length, subst}
use Rattle.constraint_model.specs.declared.model.Phase.{Phase}
use Rattle.branching.proofs.FrontLaws.{chosen_here, passed_on, all_behind}
use Rattle.branching.proofs.select.choice.Goals as goal

pub returns-in-Some-clause-choice : goal.returns-in-Some-clause-choice
returns-in-Some-clause-choice c = chosen_here c.args.model.now c.args.b.now c.loop-number.number c.loop-number.from c.loop-number.invariant
    c.as_slice-phases.result.now c.as_slice-phases.ensures c.loop-number-test.true c.index-phases-number.result c.index-phases-number.is
    c.requires.phases c.in-Some.var c.in-Some.ensures.chosen

pub loop-number-preserved : goal.loop-number-preserved
loop-number-preserved c = passed_on c.args.model.now c.args.b.now c.loop-number.number c.loop-number.from c.loop-number.invariant
    c.as_slice-phases.result.now c.as_slice-phases.ensures c.loop-number-test.true c.index-phases-number.result c.index-phases-number.is
    c.in_default.ensures.none

pub returns-clause-none : goal.returns-clause-none
returns-clause-none c = all_behind c.args.model.now c.args.b.now c.loop-number.number c.loop-number.from c.loop-number.invariant c.requires.phases
    (subst (λ (xs : List Phase). length xs ≤ c.loop-number.number) c.as_slice-phases.ensures c.loop-number-test.false)
