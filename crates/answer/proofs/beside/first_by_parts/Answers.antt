use Rattle.std.proofs.Common.{List, ◌∙◌, subst}
use Rattle.guarded_tell.specs.declared.kernel.Kernel.{Kernel}
use Rattle.branching.specs.Tree.{SolutionsIn}
use Rattle.answer.specs.Plans.{model_of}
use Rattle.answer.proofs.GivenLaws.{none_open}
use Rattle.answer.proofs.HeadLaws.{first_of_all}
use Rattle.answer.proofs.PartPaths.{listed_by_parts}
use Rattle.answer.proofs.TellingHeads.{plan_can, head_of_first}
use Rattle.answer.proofs.beside.first_by_parts.Goals as goal

pub returns : goal.returns
returns g c = λ found s.
    let plan = c.args.plan.now in
    let is = c.requires.plan in
    let are = c.in_ok-ends.ensures.ends in
    let none = c.requires.unlimited in
    head_of_first found c.first_of.result
    (c.first_of.ensures
    ∙ first_of_all c.law_one_list.ensures c.law_paths.ensures (listed_by_parts c.law_whole_of_parts.ensures.whole c.law_one_list.ensures c.law_every_list.ensures c.law_cuts.ensures) (model_of plan) plan.options plan.parts.now
    c.requires.parts.are plan.start.now c.in_ok-ends.ends found (plan_can c.law_inside_order.ensures plan is c.len-length.ensures.in_range) are
    (none_open (model_of plan) plan.options none.node_limit none.round_limit plan.parts.now plan.start.now c.in_ok-ends.ends are)
    (subst (λ (ks : List Kernel). SolutionsIn (model_of plan) ks plan.start.now found) is.run.program.kernels s))
