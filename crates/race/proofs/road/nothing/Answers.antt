use Rattle.race.proofs.FirstLaws.{none_first}
use Rattle.race.proofs.road.nothing.Goals as goal

pub returns : goal.returns
returns g c =
    let task = c.args.task.now in
    none_first c.law_solutions_listed.ensures task.run.now.model.now task.run.now.program.now task.sub.now c.requires.task.run.program c.requires.task.run.model.search
    c.len-length.ensures.in_range c.requires.task.inside c.requires.none
