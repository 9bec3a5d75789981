use Rattle.std.proofs.Common.{◌≡◌, ◌+◌, ◌-◌, subst, arith}
use Rattle.crew.proofs.hiring.hire.Goals as goal

pub returns-clause-seat : goal.returns-clause-seat
returns-clause-seat g c = λ workers few first.
    let one : first.parts ≡ (first.parts - 1) + 1 = omega arith in
    record {
      seat_fits = c.split.ensures.fits;
      parts = first.parts - 1;
      all = omega arith;
      has = c.split.ensures.parts (first.parts - 1) (subst (g.J.Job.has_parts c.args.seat.now) one first.has);
    }
