use Rattle.std.proofs.Common.{◌∷◌, sym, subst, ◌∙◌}
use Rattle.interval.specs.Boxes.{Bounds}
use Rattle.portfolio.specs.Told.{TellsLeast}
use Rattle.answer.specs.Plans.{model_of}
use Rattle.answer.specs.Jobs.{numbers_of}
use Rattle.answer.specs.Portfolios.{AreTellingEnds, TellsCost}
use Rattle.answer.proofs.ListedLaws.{is_program}
use Rattle.answer.proofs.TellingRuns.{ends_taken}
use Rattle.answer.proofs.TellingCosts.{least_tells}
use Rattle.answer.proofs.told_ends.least_of_runs.Goals as goal

pub returns : goal.returns
returns g c =
    let plan = c.args.plan.now in
    let model = model_of plan in
    let is = c.requires.plan in
    let by = c.remove-whole.ensures in
    let start = c.requires.whole ∙ is.run.program.start in
    subst (λ (b : Bounds). TellsLeast model b c.least_told.result) (sym start)
    (least_tells c.law_inside_order.ensures c.law_one_list.ensures c.law_every_list.ensures c.law_paths.ensures c.law_cuts.ensures c.law_whole_of_parts.ensures.whole c.law_solutions_listed.ensures model is.run.model.search
    (is_program model plan.run.now.program.now is.run.program) plan.options plan.parts.now c.requires.parts c.remove-whole.result c.remove-whole.new.self.items
    (subst (λ (b : Bounds). AreTellingEnds (TellsCost model plan.parts.now b) (numbers_of plan) (c.remove-whole.result ∷ c.remove-whole.new.self.items)) start
    (ends_taken (TellsCost model plan.parts.now plan.start.now) (numbers_of plan) c.args.ends c.into_vec-told.result.items c.remove-whole.result c.remove-whole.new.self.items c.into_vec-told.ensures by.value by.by_index.2
    c.requires.ends))
    c.requires.objective c.least_told.result c.least_told.ensures)
