use Rattle.answer.specs.Plans.{model_of}
use Rattle.answer.proofs.RunLists.{all_runs_joined}
use Rattle.answer.proofs.all_job.AllJobJobUnitOwnAllEnd.join_back.Goals as goal

pub returns-clause-stands : goal.returns-clause-stands
returns-clause-stands g c = λ runs others h k.
    let plan = c.args.self.now.plan.now in
    all_runs_joined (model_of plan) plan.options plan.parts.now plan.start.now runs others h k
