use Rattle.std.proofs.Common.{ℕ, subst, below_more}
use Rattle.std.specs.Prelude.{◌≤ℤ◌}
use Rattle.interval.specs.Boxes.{low_of, high_of}
use Rattle.nogoods.proofs.bounds_met.meet_bounds.Goals as goal

pub loop-place-preserved : goal.loop-place-preserved
loop-place-preserved c = record {
  placed = c.in_ok-meet_pair.ensures.placed;
  others = λ p i m. c.loop-place.invariant.others p i (c.in_ok-meet_pair.ensures.met p i m).others;
  lows = λ p i m. let s = c.in_ok-meet_pair.ensures.met p i m in
      below_more _ _ (c.loop-place.invariant.lows p i s.others)
      (subst (λ (v : ℕ). low_of c.args.b.now v ≤ℤ low_of p v) c.var_at.ensures s.low);
  highs = λ p i m. let s = c.in_ok-meet_pair.ensures.met p i m in
      below_more _ _ (c.loop-place.invariant.highs p i s.others)
      (subst (λ (v : ℕ). high_of p v ≤ℤ high_of c.args.b.now v) c.var_at.ensures s.high);
}
