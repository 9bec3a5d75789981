use Rattle.shared_lanes.proofs.lane.run_with.Goals as goal

pub returns : goal.returns
returns g c = λ first given fits. c.requires.does first _ _ c.args.i _ _ _ c.requires.index given fits c.run.ensures
