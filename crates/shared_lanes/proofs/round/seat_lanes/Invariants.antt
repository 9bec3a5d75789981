use Rattle.std.proofs.Common.{◌<◌, ℕ, false, get_or}
use Rattle.shared_lanes.specs.declared.lane.Lane.{Lane}
use Rattle.shared_lanes.specs.Lanes.{HasSeat, SameCaches}
use Rattle.shared_lanes.proofs.round.seat_lanes.Given as goal

abbrev pub invariant-loop-i : goal.invariant-loop-i
invariant-loop-i g l = record {
  taken : g.J.Shared.taken l.job l.initial.first 0 l.first false;
  caches : SameCaches l.initial.lanes l.lanes;
  given : (j : ℕ) (d : Lane g.row.S.Denot g.row.C.Denot) → j < l.i → HasSeat (get_or l.lanes j d).seat (g.J.Shared.given l.job l.initial.first);
}
