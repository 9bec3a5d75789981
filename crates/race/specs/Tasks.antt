-- What a race is asked.
use Rattle.std.specs.Prelude.{◌≡◌, true}
use Rattle.interval.specs.Boxes.{IsInside}
use Rattle.solution_lists.specs.Static.{IsStaticSearch}
use Rattle.search.specs.Premises.{IsRun}
use Rattle.race.specs.declared.task.Task.{Task}

-- the box lies in the start of the run's program, and the order is static where it is said to be
pub record IsTask {L : Type 0} (task : Task L) : Type 0 where
  pub run : IsRun task.run.now
  pub inside : IsInside task.sub.now task.run.now.program.now.start
  pub static_order : task.is_static ≡ true → IsStaticSearch task.run.now.model.now
