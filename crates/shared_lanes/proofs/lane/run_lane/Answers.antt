use Rattle.std.proofs.Common.{subst}
use Rattle.std.specs.Prelude.{Option}
use Rattle.shared_lanes.specs.Lanes.{HasSeat}
use Rattle.shared_lanes.proofs.lane.run_lane.Goals as goal

pub run_with-lane-requires-clause-lane : goal.run_with-lane-requires-clause-lane
run_with-lane-requires-clause-lane g c =
    (c.requires.lane.0, subst (λ (o : Option g.row.S.Denot). HasSeat o (g.J.Shared.given c.args.job.now c.requires.lane.0)) c.in-Some.is c.requires.lane.1, c.requires.lane.2)

pub returns-in-Some : goal.returns-in-Some
returns-in-Some g c = λ first given fits.
    c.run_with-lane.ensures first (subst (λ (o : Option g.row.S.Denot). HasSeat o (g.J.Shared.given c.args.job.now first)) c.in-Some.is given) fits
