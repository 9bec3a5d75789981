use Rattle.std.proofs.Common.{◌≡◌, ◌<◌, ◌≤◌, ℕ, false, length, get_or}
use Rattle.shared_lanes.specs.declared.lane.Lane.{Lane}
use Rattle.shared_lanes.specs.Lanes.{HasSeat, SameCaches}
use Rattle.shared_lanes.proofs.round.unseat_lanes.Given as goal

abbrev pub invariant-loop-i : goal.invariant-loop-i
invariant-loop-i g l = record {
  caches : SameCaches l.initial.lanes l.lanes;
  rest : (j : ℕ) (d : Lane g.row.S.Denot g.row.C.Denot) → l.i ≤ j → get_or l.lanes j d ≡ get_or l.initial.lanes j d;
  taken : (begun : g.row.S.Denot) → g.J.Shared.taken l.job begun 0 l.initial.first false
      → ((i : ℕ) (d : Lane g.row.S.Denot g.row.C.Denot) → i < length l.initial.lanes → HasSeat (get_or l.initial.lanes i d).seat (λ s. g.J.Shared.ran l.job begun i s (get_or l.initial.lanes i d).moved))
      → g.J.Shared.taken l.job begun l.i l.first l.moved;
}
