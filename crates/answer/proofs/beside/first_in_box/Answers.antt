use Rattle.answer.proofs.PlanLaws.{is_plan, parts_in}
use Rattle.answer.proofs.beside.first_in_box.Goals as goal

pub first_in_plan-requires-clause-plan : goal.first_in_plan-requires-clause-plan
first_in_plan-requires-clause-plan g c = λ lifetimes outlive.
    is_plan _ c.requires.set_up (parts_in c.args.options c.as_slice.result.now c.in_ok-parts.parts.items c.as_slice.ensures.value c.in_ok-parts.ensures) c.requires.inside

pub first_in_plan-requires-clause-parts : goal.first_in_plan-requires-clause-parts
first_in_plan-requires-clause-parts g c = λ lifetimes outlive.
    parts_in c.args.options c.as_slice.result.now c.in_ok-parts.parts.items c.as_slice.ensures.value c.in_ok-parts.ensures
