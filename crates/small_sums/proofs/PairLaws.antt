-- Sums of two terms.
use Rattle.std.proofs.Common.{◌≡◌, ℕ, zero, suc, ◌<◌, ◌≤◌, List, [], ◌∷◌, length, get_or, ℤ, pos, negsuc, ◌+ℤ◌, ◌-ℤ◌, ◌≤ℤ◌, ◌⊎◌, inl, inr, ⊎_elim, unsigned_abs, to_z, of_z, w64, arith}
use Rattle.std.proofs.lemmas.Int.{ints, clamps}
use Rattle.std.specs.Int.{int_max}
use Rattle.std.specs.Int.RustNames.{int_le}
use Rattle.interval.specs.Limits.{IsBound, bound_limit, largest_number}
use Rattle.interval.specs.Boxes.{Bounds, low_of, high_of}
use Rattle.tells.specs.declared.tell.Lit.{Lit}
use Rattle.small_sums.specs.declared.short.SmallTerm.{SmallTerm}
use Rattle.small_sums.specs.declared.pairs.Pair.{Pair}
use Rattle.sum_tells.specs.Linear.{sum_over, least_of, greatest_of}
use Rattle.small_sums.specs.Short.{small_limit, small_product_limit, HasBounds, IsTermOf, AreSums, sums_of_two, growth_of, IsAtMostQuiet, IsUnequalQuiet, IsEquationQuiet, IsPairAtMostQuiet, IsPairUnequalQuiet, IsPairEquationQuiet}
use Rattle.small_sums.proofs.ShortLaws.{bound_of}
use Rattle.tell_laws.proofs.LiteralLaws.{by_bool}

-- a bound is small
bound_small : (z : ℤ) → IsBound z → unsigned_abs z ≤ small_product_limit
unfolding bound_limit largest_number small_product_limit small_limit
bound_small z h = omega arith

module _ (b : Bounds) (v : ℕ) (low high : ℤ) (low_bound : IsBound low) (high_bound : IsBound high) (at_low : low ≡ low_of b v) (at_high : high ≡ high_of b v) (proper : low_of b v ≤ℤ high_of b v) where
  -- what the code makes of a bound
  coded : (z : ℤ) → IsBound z → to_z w64 (of_z w64 z) ≡ z
  unfolding bound_limit largest_number
  coded z h = omega (arith, ints)

  pub plain_term : IsTermOf b (pos 1) v (record { least = to_z w64 (of_z w64 low); greatest = to_z w64 (of_z w64 high) })
  unfolding least_of greatest_of
  plain_term =
      let of_low = coded low low_bound in
      let of_high = coded high high_bound in
      record {
        bounds = record { low = bound_of low (low_of b v) low_bound at_low; high = bound_of high (high_of b v) high_bound at_high };
        least = omega (arith, ints, clamps);
        greatest = omega (arith, ints, clamps);
        small = record { least = rw of_low (bound_small low low_bound); greatest = rw of_high (bound_small high high_bound) };
      }

  -- what the code makes of a bound's opposite
  coded_opposite : (z : ℤ) → IsBound z → to_z w64 (of_z w64 (pos 0 -ℤ to_z w64 (of_z w64 z))) ≡ pos 0 -ℤ z
  unfolding bound_limit largest_number
  coded_opposite z h = omega (arith, ints)

  opposite_small : (z : ℤ) → IsBound z → unsigned_abs (pos 0 -ℤ z) ≤ small_product_limit
  unfolding bound_limit largest_number small_product_limit small_limit
  opposite_small z h = omega (arith, ints)

  pub opposite_term : IsTermOf b (negsuc 0) v (record { least = to_z w64 (of_z w64 (pos 0 -ℤ to_z w64 (of_z w64 high))); greatest = to_z w64 (of_z w64 (pos 0 -ℤ to_z w64 (of_z w64 low))) })
  unfolding least_of greatest_of
  opposite_term =
      let of_high = coded_opposite high high_bound in
      let of_low = coded_opposite low low_bound in
      record {
        bounds = record { low = bound_of low (low_of b v) low_bound at_low; high = bound_of high (high_of b v) high_bound at_high };
        least = omega (arith, ints, clamps);
        greatest = omega (arith, ints, clamps);
        small = record { least = rw of_high (opposite_small high high_bound); greatest = rw of_low (opposite_small low low_bound) };
      }

-- what holds of the first two places
two_each : (P : ℕ → Type 0) → P 0 → P 1 → (i : ℕ) → i < 2 → P i
two_each P p q zero h = p
two_each P p q (suc zero) h = q
two_each P p q (suc (suc i)) h = absurd (omega arith)

module _ (b : Bounds) (t u : SmallTerm) where
  rising : (a : ℤ) (x : ℕ) → least_of b (a, x) ≤ℤ greatest_of b (a, x)
  unfolding least_of greatest_of
  rising a x = omega (arith, ints, clamps)

  pub two_sums : (coeffs : List ℤ) (vars : List ℕ) → length coeffs ≡ 2 → length coeffs ≡ length vars
      → IsTermOf b (get_or coeffs 0 (pos 0)) (get_or vars 0 0) t → IsTermOf b (get_or coeffs 1 (pos 0)) (get_or vars 1 0) u
      → AreSums b coeffs vars (sums_of_two t u)
  unfolding sum_over
  two_sums [] vars e f p q = absurd (omega arith)
  two_sums (a ∷ []) vars e f p q = absurd (omega arith)
  two_sums (a ∷ c ∷ d ∷ coeffs) vars e f p q = absurd (omega arith)
  two_sums (a ∷ c ∷ []) [] e f p q = absurd (omega arith)
  two_sums (a ∷ c ∷ []) (x ∷ []) e f p q = absurd (omega arith)
  two_sums (a ∷ c ∷ []) (x ∷ y ∷ z ∷ vars) e f p q = absurd (omega arith)
  two_sums (a ∷ c ∷ []) (x ∷ y ∷ []) e f p q =
      let first_rises = rising a x in
      let second_rises = rising c y in
      record {
        least = omega (arith, ints, p.least, q.least);
        greatest = omega (arith, ints, p.greatest, q.greatest);
        above_zero = omega (arith, ints, clamps, p.least, p.greatest);
        bounds = λ i h. two_each (λ k. HasBounds b (get_or (x ∷ y ∷ []) k 0)) p.bounds q.bounds i (omega arith);
        within = λ i h. two_each (λ k. growth_of b (get_or (a ∷ c ∷ []) k (pos 0)) (get_or (x ∷ y ∷ []) k 0) ≤ℤ (sums_of_two t u).widest)
            (omega (arith, ints, clamps, p.least, p.greatest)) (omega (arith, ints, clamps, q.least, q.greatest)) i (omega arith);
      }

module _ (b : Bounds) (l : Lit) (limit : ℤ) (p : Pair) where
  pub pair_at_most : IsPairAtMostQuiet b l limit p → IsAtMostQuiet b l limit (sums_of_two p.first p.second)
  pair_at_most q = record {
    sure = λ t. let x = q.sure_first t in let y = q.sure_second t in omega (arith, ints, clamps);
    out = λ t o. let x = q.out_first t o in let y = q.out_second t o in omega (arith, ints, clamps);
    open_low = q.open_low;
    open_high = q.open_high;
  }

  -- the difference of the sums is that of one term only where the other is fixed
  whole : ((p.first.greatest +ℤ p.second.greatest) -ℤ (p.first.least +ℤ p.second.least)) ≤ℤ int_max (p.first.greatest -ℤ p.first.least) (p.second.greatest -ℤ p.second.least)
      → (p.first.greatest ≤ℤ p.first.least) ⊎ (p.second.greatest ≤ℤ p.second.least)
  whole h = by_bool (int_le p.first.greatest p.first.least) (λ e. inl (omega (arith, ints))) (λ e. inr (omega (arith, ints, clamps)))

  pair_unequal : IsPairUnequalQuiet limit p → IsUnequalQuiet limit (sums_of_two p.first p.second)
  pair_unequal q = record {
    low = λ h. ⊎_elim q.first_low q.second_low (whole h);
    high = λ h. ⊎_elim q.first_high q.second_high (whole h);
  }

  pub pair_equation : IsPairEquationQuiet b l limit p → IsEquationQuiet b l limit (sums_of_two p.first p.second)
  pair_equation q = record {
    sure_low = λ t. let x = q.sure_first t in let y = q.sure_second t in omega (arith, ints, clamps);
    sure_high = λ t. let x = q.sure_first t in let y = q.sure_second t in omega (arith, ints, clamps);
    out = λ t o. pair_unequal (q.out t o);
    open_low = q.open_low;
    open_high = q.open_high;
    open_wide = q.open_wide;
  }
