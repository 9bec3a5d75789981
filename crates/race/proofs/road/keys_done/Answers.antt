use Rattle.first_keys.specs.Least.{asked}
use Rattle.race.proofs.FirstLaws.{same_first}
use Rattle.race.proofs.road.keys_done.Goals as goal

pub returns : goal.returns
returns g c =
    let task = c.args.task.now in
    same_first task.run.now.model.now task.run.now.program.now.kernels (asked c.args.keys) task.sub.now c.into_solution.result c.requires.same_box c.into_solution.ensures.first
