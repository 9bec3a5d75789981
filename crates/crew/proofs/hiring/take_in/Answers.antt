use Rattle.std.proofs.Common.{◌+◌, arith}
use Rattle.crew.proofs.Made.{some_joined}
use Rattle.crew.proofs.hiring.take_in.Goals as goal

pub returns-clause-seat : goal.returns-clause-seat
returns-clause-seat g c = λ workers first. record {
  seat_fits = c.join_back.ensures.fits;
  parts = first.parts + 1;
  all = omega (arith, first.all);
  has = c.join_back.ensures.parts first.parts 1 first.has c.requires.worker.part;
}

pub returns-clause-made : goal.returns-clause-made
returns-clause-made g c = λ numbers others made back. some_joined _ numbers others _ _ _ c.join_back.ensures.stands made back
