-- Clamping goes with the order.
use Rattle.std.proofs.Common.{◌≡◌, ◌↔◌, ℤ, ◌≤ℤ◌, arith}
use Rattle.std.proofs.lemmas.Int.{ints, clamps}
use Rattle.interval.specs.Limits.{IsBound, IsNumber, bound_limit, clamp_of, ClampOrder}

clamp_in_range : (z : ℤ) → IsBound (clamp_of z)
unfolding clamp_of
clamp_in_range z = omega (arith, ints, clamps)

clamp_same : (z : ℤ) → IsBound z → clamp_of z ≡ z
unfolding clamp_of
clamp_same z h = omega (arith, ints, clamps)

clamp_rises : (y z : ℤ) → y ≤ℤ z → clamp_of y ≤ℤ clamp_of z
unfolding clamp_of
clamp_rises y z h = omega (arith, ints, clamps)

clamp_above : (x z : ℤ) → IsNumber x → (x ≤ℤ clamp_of z) ↔ (x ≤ℤ z)
unfolding clamp_of bound_limit
clamp_above x z h = (λ k. omega (arith, ints, clamps), λ k. omega (arith, ints, clamps))

clamp_below : (x z : ℤ) → IsNumber x → (clamp_of z ≤ℤ x) ↔ (z ≤ℤ x)
unfolding clamp_of bound_limit
clamp_below x z h = (λ k. omega (arith, ints, clamps), λ k. omega (arith, ints, clamps))

pub clamp_order : ClampOrder
clamp_order = record {
  in_range = clamp_in_range;
  same = clamp_same;
  rises = clamp_rises;
  above_number = clamp_above;
  below_number = clamp_below;
}
