-- What one tell does to a box.
use Rattle.std.proofs.Common.{◌≡◌, ℤ, ◌<ℤ◌, arith, sym, subst}
use Rattle.std.proofs.lemmas.Int.{ints}
use Rattle.interval.specs.Boxes.{Bounds, low_of, high_of}
use Rattle.guarded_tell.specs.Words.{Tell}
use Rattle.guarded_tell.specs.Words.{Side}
use Rattle.guarded_tell.specs.Words.{Low, High}
use Rattle.guarded_tell.specs.Words.{KeepsSide}
use Rattle.moved_fixpoint.specs.declared.joiner.Progress.{Progress}
use Rattle.moved_fixpoint.specs.Heard.{GoesOn, HasPut, told_low, told_high, IsHeard}

module _ (b : Bounds) (p : Progress) (t : Tell) (after : Bounds) (p' : Progress) (going : GoesOn p) where
  -- a low that is told is tighter than the box's
  pub heard_low : (low high told : ℤ) → t.side ≡ Low → HasPut p' b t.var told high after → told ≡ t.bound → high ≡ high_of b t.var →
      low ≡ low_of b t.var → low <ℤ t.bound → IsHeard b p t after p'
  heard_low low high told e put l h o narrows = record {
    over = λ f. absurd (f going);
    kept = λ g k. let k' = subst (λ (s : Side). KeepsSide b s t.var t.bound) e k in absurd (omega (arith, ints));
    put = λ g n. subst (λ (s : Side). HasPut p' b t.var (told_low b s t.var t.bound) (told_high b s t.var t.bound) after) (sym e)
        (subst (λ (z : ℤ). HasPut p' b t.var t.bound z after) h (subst (λ (z : ℤ). HasPut p' b t.var z high after) l put));
  }

  pub heard_high : (low high told : ℤ) → t.side ≡ High → HasPut p' b t.var low told after → told ≡ t.bound → low ≡ low_of b t.var →
      high ≡ high_of b t.var → t.bound <ℤ high → IsHeard b p t after p'
  heard_high low high told e put h l o narrows = record {
    over = λ f. absurd (f going);
    kept = λ g k. let k' = subst (λ (s : Side). KeepsSide b s t.var t.bound) e k in absurd (omega (arith, ints));
    put = λ g n. subst (λ (s : Side). HasPut p' b t.var (told_low b s t.var t.bound) (told_high b s t.var t.bound) after) (sym e)
        (subst (λ (z : ℤ). HasPut p' b t.var z t.bound after) l (subst (λ (z : ℤ). HasPut p' b t.var low z after) h put));
  }
