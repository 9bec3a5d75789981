-- What all runs of one job share.
use Rattle.std.specs.Prelude.{◌≡◌, ◌≤◌, List, length, All}
use Rattle.interval.specs.Boxes.{IsInside}
use Rattle.guarded_tell.specs.declared.kernel.Kernel.{Kernel}
use Rattle.constraint_model.specs.declared.model.FznModel.{FznModel}
use Rattle.search.specs.Premises.{IsRun}
use Rattle.crew.specs.declared.workers.Workers.{Workers}
use Rattle.crew.specs.Crews.{workers_of, steals_of}
use Rattle.tree_cover.specs.Covers.{IsPart}
use Rattle.answer.specs.declared.options.Options.{Options}
use Rattle.answer.specs.declared.plan.Plan.{Plan}

abbrev pub model_of : {L : Type 0} → Plan L → FznModel
model_of plan = plan.run.now.model.now

abbrev pub kernels_in : {L : Type 0} → Plan L → List Kernel
kernels_in plan = plan.run.now.program.now.kernels

-- the run is one, it has the lanes and the limits of the options, the parts are some of a tree, and the box lies in the start of
-- the model's program
pub record IsPlan {L : Type 0} (plan : Plan L) : Type 0 where
  pub run : IsRun plan.run.now
  pub lanes : plan.run.now.lanes ≡ plan.options.lanes
  pub node_limit : plan.run.now.node_limit ≡ plan.options.node_limit
  pub round_limit : plan.run.now.round_limit ≡ plan.options.round_limit
  pub parts : All IsPart plan.parts.now
  pub few : length plan.parts.now ≤ 65536
  pub inside : IsInside plan.start.now plan.run.now.program.now.start

-- the crew has as many workers as the options say, and they get their numbers in that way
pub record IsCrewFor (options : Options) (crew : Workers) : Type 0 where
  pub workers : workers_of crew ≡ options.workers
  pub steals : steals_of crew ≡ options.steal
