use Rattle.std.proofs.Common.{ℕ, ℤ, ◌≡◌, [], ◌∷◌, sym, subst, arith, w64, to_z, of_z}
use Rattle.std.proofs.lemmas.Int.{ints}
use Rattle.interval.specs.Limits.{IsBound, bound_limit, largest_number, box_limit}
use Rattle.interval.specs.Boxes.{IsInRange, low_of, high_of}
use Rattle.fixpoint_tests.proofs.stores.one.Goals as goal

-- a bound is read as it was written
read_back : (z : ℤ) → IsBound z → to_z w64 (of_z w64 z) ≡ z
unfolding bound_limit largest_number
read_back z h = omega (arith, ints)

single : (a b : ℤ) → IsBound a → IsBound b → IsInRange ((a, b) ∷ [])
unfolding box_limit
single a b p q = record {
  short = omega arith;
  lows = λ v h. let e : v ≡ 0 = omega arith in subst (λ (x : ℕ). IsBound (low_of ((a, b) ∷ []) x)) (sym e) p;
  highs = λ v h. let e : v ≡ 0 = omega arith in subst (λ (x : ℕ). IsBound (high_of ((a, b) ∷ []) x)) (sym e) q;
}

pub from_pairs-requires : goal.from_pairs-requires
from_pairs-requires c = single _ _ (subst IsBound (sym (read_back c.args.low c.requires.low)) c.requires.low) (subst IsBound (sym (read_back c.args.high c.requires.high)) c.requires.high)
