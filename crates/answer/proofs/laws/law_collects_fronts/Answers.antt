use Rattle.std.proofs.Common.{Bool, subst₂}
use Rattle.constraint_model.specs.declared.model.Goal.{Goal}
use Rattle.answer.specs.Unfinished.{AreAllCollected, GivesCollected}
use Rattle.answer.proofs.FrontLaws.{come_in_fronts}
use Rattle.answer.proofs.laws.law_collects_fronts.Goals as goal

pub returns : goal.returns
returns c = λ model options answer form satisfy all h.
    let collected : AreAllCollected model options answer = subst₂ (λ (g : Goal) (b : Bool). GivesCollected g b model options answer) satisfy all h in
    come_in_fronts c.law_inside_order.ensures c.law_cuts.ensures c.law_found_first.ensures model form (c.law_some_program.ensures model form) options
    collected.results collected.are answer.solutions collected.solutions
