use Rattle.std.proofs.Common.{arith}
use Rattle.fzn_io.proofs.StreamLaws.{adds_next, front_fits}
use Rattle.fzn_io.proofs.whole.write_all.Goals as goal

pub loop-done-preserved : goal.loop-done-preserved
loop-done-preserved g c = (
  front_fits _ _ _ c.loop-done.invariant.0 c.in-Ok.ensures.within,
  adds_next _ _ _ _ _ _ c.loop-done.invariant.0 c.loop-done.invariant.1 c.in-Ok.ensures.added,
  omega (arith, c.in-Ok.ensures.never_falls, c.loop-done.invariant.2),
)
