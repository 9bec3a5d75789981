use Rattle.std.proofs.Common.{◌≡◌, length, subst, ◌∙◌, arith}
use Rattle.shared_lanes.proofs.Keeping.{fit_kept}
use Rattle.shared_lanes.proofs.round.run_lanes.Goals as goal
use Rattle.shared_lanes.proofs.round.run_lanes.Goals.{After-branch-seat_lanes}

pub run_all-requires-clause-lanes : goal.run_all-requires-clause-lanes
run_all-requires-clause-lanes g c κs within = (
  c.args.first.now,
  λ i d h.
      (c.in_ok-seat_lanes.ensures.given i d (omega (arith, c.seat_lanes.ensures.caches.length_is)), fit_kept (g.J.Shared.fits c.args.job.now c.args.first.now) _ _ c.seat_lanes.ensures.caches c.requires.fits i d h),
)

pub unseat_lanes-requires : goal.unseat_lanes-requires
unseat_lanes-requires g c = (
  c.args.first.now,
  c.seat_lanes.ensures.taken,
  λ i d h.
      (c.run_all.ensures c.args.first.now
      (λ i d h. (c.in_ok-seat_lanes.ensures.given i d (omega (arith, c.seat_lanes.ensures.caches.length_is)), fit_kept (g.J.Shared.fits c.args.job.now c.args.first.now) _ _ c.seat_lanes.ensures.caches c.requires.fits i d h))
      i d (omega (arith, c.run_all.auto.lanes))).0,
)

pub returns-clause-taken : goal.returns-clause-taken
returns-clause-taken g c =
    let same : length c.run_all.new.lanes ≡ length c.args.lanes.now = c.run_all.auto.lanes ∙ c.seat_lanes.ensures.caches.length_is in
    subst (λ n. g.J.Shared.taken c.args.job.now c.args.first.now n c.unseat_lanes.new.first c.unseat_lanes.result) same
    (c.unseat_lanes.ensures.taken c.args.first.now c.seat_lanes.ensures.taken (λ i d h.
    (c.run_all.ensures c.args.first.now
    (λ i d h. (c.in_ok-seat_lanes.ensures.given i d (omega (arith, c.seat_lanes.ensures.caches.length_is)), fit_kept (g.J.Shared.fits c.args.job.now c.args.first.now) _ _ c.seat_lanes.ensures.caches c.requires.fits i d h))
    i d (omega (arith, c.run_all.auto.lanes))).0))

pub returns-clause-fits : goal.returns-clause-fits
returns-clause-fits g c = fit_kept (g.J.Shared.fits c.args.job.now c.args.first.now) c.run_all.new.lanes c.unseat_lanes.new.lanes c.unseat_lanes.ensures.caches (λ i d h.
    (c.run_all.ensures c.args.first.now
    (λ i d h. (c.in_ok-seat_lanes.ensures.given i d (omega (arith, c.seat_lanes.ensures.caches.length_is)), fit_kept (g.J.Shared.fits c.args.job.now c.args.first.now) _ _ c.seat_lanes.ensures.caches c.requires.fits i d h))
    i d (omega (arith, c.run_all.auto.lanes))).1)
