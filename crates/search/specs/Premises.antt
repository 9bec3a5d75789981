-- What is asked of a run.
use Rattle.std.specs.Prelude.{ℕ, ◌<◌, ◌≤◌, length, All}
use Rattle.guarded_tell.specs.Kernels.{IsKernel}
use Rattle.moved_fixpoint.specs.Moved.{AreMasksOf}
use Rattle.constraint_model.specs.Searches.{IsSearchOf}
use Rattle.constraint_model.specs.WellFormed.{IsWellFormed}
use Rattle.decompose.specs.Program.{IsProgramOf}
use Rattle.search.specs.declared.run.Run.{Run}

-- the program is the model's, the masks are the program's, and there are 1 to 64 lanes
pub record IsRun {L : Type 0} (run : Run L) : Type 0 where
  pub model : IsWellFormed run.model.now
  pub program : IsProgramOf run.model.now run.program.now
  pub masks : AreMasksOf run.program.now.kernels (length run.program.now.start) run.masks.now
  pub some_lanes : 1 ≤ run.lanes
  pub most_lanes : run.lanes ≤ 64

-- boxes of so many variables can be searched
pub record CanSearch {L : Type 0} (run : Run L) (count : ℕ) : Type 0 where
  pub phases : IsSearchOf run.model.now
  pub kernels : All (IsKernel count) run.program.now.kernels
  pub long : length run.model.now.vars < count
  pub masks : AreMasksOf run.program.now.kernels count run.masks.now
  pub some_lanes : 1 ≤ run.lanes
  pub most_lanes : run.lanes ≤ 64
