-- What is asked of a free search.
use Rattle.std.specs.Prelude.{length}
use Rattle.interval.specs.Boxes.{IsInside}
use Rattle.search.specs.Premises.{IsRun, CanSearch}
use Rattle.free_search.specs.declared.task.Task.{Task}

-- the box that is searched lies in the space, and the space in the start of the run's program
pub record IsTask {L : Type 0} (task : Task L) : Type 0 where
  pub run : IsRun task.run.now
  pub can : CanSearch task.run.now (length task.space.now)
  pub inside : IsInside task.space.now task.run.now.program.now.start
  pub assumed : IsInside task.sub.now task.space.now
