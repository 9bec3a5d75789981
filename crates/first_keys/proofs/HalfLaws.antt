-- Two ranges that make up one.
use Rattle.std.proofs.Common.{◌≡◌, ℤ, true, false, inl, inr, arith}
use Rattle.std.specs.Prelude.{pos, ◌+ℤ◌, ◌-ℤ◌, ◌≤ℤ◌, ◌<ℤ◌}
use Rattle.std.proofs.lemmas.Int.{ints, by_lt_z}
use Rattle.interval.specs.Limits.{IsBound}
use Rattle.first_keys.specs.declared.halves.Halves.{Halves}
use Rattle.first_keys.specs.Halves.{AreHalves, AreNearer}

bound_between : (low high z : ℤ) → IsBound low → IsBound high → low ≤ℤ z → z ≤ℤ high → IsBound z
bound_between low high z l h a b = omega (arith, ints)

bound_as : (x z : ℤ) → IsBound x → z ≡ x → IsBound z
bound_as x z h e = omega (arith, ints)

module _ (low high cut : ℤ) (halves : Halves) (is_low : IsBound low) (is_high : IsBound high) (from : low ≤ℤ cut) (to : cut <ℤ high) where
  -- those up to the cut, and those above it
  pub lower_halves : halves.better_low ≡ low → halves.better_high ≡ cut → halves.rest_low ≡ cut +ℤ pos 1 → halves.rest_high ≡ high → AreHalves low high halves
  lower_halves e f g h = record {
    better_low = bound_as low halves.better_low is_low e;
    better_high = bound_between low high halves.better_high is_low is_high (omega (arith, ints)) (omega (arith, ints));
    rest_low = bound_between low high halves.rest_low is_low is_high (omega (arith, ints)) (omega (arith, ints));
    rest_high = bound_as high halves.rest_high is_high h;
    better_from = omega (arith, ints);
    better_to = omega (arith, ints);
    rest_from = omega (arith, ints);
    rest_to = omega (arith, ints);
    each = λ z l m. by_lt_z cut z (λ above. inr (omega (arith, ints), omega (arith, ints))) (λ below. inl (omega (arith, ints), omega (arith, ints)));
  }

module _ (low high cut : ℤ) (halves : Halves) (is_low : IsBound low) (is_high : IsBound high) (from : low <ℤ cut) (to : cut ≤ℤ high) where
  -- those from the cut on, and those below it
  pub upper_halves : halves.better_low ≡ cut → halves.better_high ≡ high → halves.rest_low ≡ low → halves.rest_high ≡ cut -ℤ pos 1 → AreHalves low high halves
  upper_halves e f g h = record {
    better_low = bound_between low high halves.better_low is_low is_high (omega (arith, ints)) (omega (arith, ints));
    better_high = bound_as high halves.better_high is_high f;
    rest_low = bound_as low halves.rest_low is_low g;
    rest_high = bound_between low high halves.rest_high is_low is_high (omega (arith, ints)) (omega (arith, ints));
    better_from = omega (arith, ints);
    better_to = omega (arith, ints);
    rest_from = omega (arith, ints);
    rest_to = omega (arith, ints);
    each = λ z l m. by_lt_z z cut (λ below. inr (omega (arith, ints), omega (arith, ints))) (λ above. inl (omega (arith, ints), omega (arith, ints)));
  }

-- where the cut lies in the middle of the numbers that are better than the known one
pub lower_nearer : (low high value cut : ℤ) (halves : Halves) → low ≤ℤ cut → ((cut -ℤ low) +ℤ (cut -ℤ low)) <ℤ (value -ℤ low) →
    ((value -ℤ cut) +ℤ (value -ℤ cut)) ≤ℤ ((value -ℤ low) +ℤ pos 2) → value ≤ℤ high → halves.better_low ≡ low → halves.better_high ≡ cut →
    halves.rest_low ≡ cut +ℤ pos 1 → halves.rest_high ≡ high → AreNearer false low high value halves
lower_nearer low high value cut halves from near middle to e f g h = record {
  some = omega (arith, ints);
  found = λ z l m. omega (arith, ints);
  from = omega (arith, ints);
  to = omega (arith, ints);
  refuted = omega (arith, ints);
}

pub upper_nearer : (low high value cut : ℤ) (halves : Halves) → cut ≤ℤ high → ((high -ℤ cut) +ℤ (high -ℤ cut)) <ℤ (high -ℤ value) →
    ((cut -ℤ value) +ℤ (cut -ℤ value)) ≤ℤ ((high -ℤ value) +ℤ pos 2) → low ≤ℤ value → halves.better_low ≡ cut → halves.better_high ≡ high →
    halves.rest_low ≡ low → halves.rest_high ≡ cut -ℤ pos 1 → AreNearer true low high value halves
upper_nearer low high value cut halves to near middle from e f g h = record {
  some = omega (arith, ints);
  found = λ z l m. omega (arith, ints);
  from = omega (arith, ints);
  to = omega (arith, ints);
  refuted = omega (arith, ints);
}
