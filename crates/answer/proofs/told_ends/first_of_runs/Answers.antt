use Rattle.answer.specs.Plans.{model_of}
use Rattle.answer.specs.Jobs.{numbers_of}
use Rattle.answer.specs.Portfolios.{TellsHead}
use Rattle.answer.proofs.TellingRuns.{ends_taken}
use Rattle.answer.proofs.TellingHeads.{plan_can, parts_tell, tells_whole}
use Rattle.answer.proofs.told_ends.first_of_runs.Goals as goal

pub returns : goal.returns
returns g c =
    let plan = c.args.plan.now in
    let by = c.remove-whole.ensures in
    tells_whole plan c.requires.plan c.first_told.result
    (parts_tell c.law_one_list.ensures c.law_every_list.ensures c.law_paths.ensures c.law_cuts.ensures c.law_whole_of_parts.ensures.whole (model_of plan) plan.parts.now c.requires.parts plan.start.now
    (plan_can c.law_inside_order.ensures plan c.requires.plan c.len-length.ensures.in_range) c.remove-whole.result c.remove-whole.new.self.items
    (ends_taken (TellsHead (model_of plan) plan.parts.now plan.start.now) (numbers_of plan) c.args.ends c.into_vec-told.result.items c.remove-whole.result c.remove-whole.new.self.items c.into_vec-told.ensures by.value
    by.by_index.2 c.requires.ends)
    c.first_told.result c.first_told.ensures)
