-- Copying a variable's pair from one box into another.
use Rattle.std.proofs.Common.{◌≡◌, ℕ, ◌<◌, length, inl, inr, ap, sym, ◌∙◌}
use Rattle.interval.specs.Boxes.{Bounds, low_of, high_of, put_of}
use Rattle.fixpoint_laws.proofs.Boxes.{get_put}
use Rattle.fixpoint_laws.proofs.Pair.{low_put, high_put}

-- both boxes have the same bounds of variable w
pub record SameAt (a b : Bounds) (w : ℕ) : Type 0 where
  pub low : low_of a w ≡ low_of b w
  pub high : high_of a w ≡ high_of b w

pub copied_here : (into from : Bounds) (v : ℕ) → v < length into → SameAt (put_of into v (low_of from v) (high_of from v)) from v
copied_here into from v h = record {
  low = low_put into v (low_of from v) (high_of from v) h;
  high = high_put into v (low_of from v) (high_of from v) h;
}

pub copied_before : (into from : Bounds) (v w : ℕ) → v < length into → SameAt into from w →
    SameAt (put_of into v (low_of from v) (high_of from v)) from w
copied_before into from v w h s = elim (get_put into v (low_of from v) (high_of from v) w h) [
  | inl x ↦ record { low = x.1 ∙ sym (ap (low_of from) x.0); high = x.2 ∙ sym (ap (high_of from) x.0) }
  | inr x ↦ record { low = x.0 ∙ s.low; high = x.1 ∙ s.high }
]
