-- What small sums meet.
use Rattle.std.proofs.Common.{◌≡◌, ℕ, zero, suc, ℤ, pos, ◌<◌, ◌≤◌, true, List, [], ◌∷◌, length, get_or, refl, sym, ap, subst, arith}
use Rattle.std.specs.Prelude.{nat_lt, unsigned_abs}
use Rattle.std.proofs.lemmas.List.Sums.{AllPass-from_list_all}
use Rattle.std.proofs.lemmas.Bool.Decides.{nat_tests}
use Rattle.interval.specs.Limits.{IsNumber, largest_number}
use Rattle.guarded_tell.specs.Words.{Lit}
use Rattle.guarded_tell.specs.declared.kernel.Kernel.TheVariants.{Le}
use Rattle.guarded_tell.specs.Words.{AreVariables}
use Rattle.sum_tells.specs.Linear.{IsLinear, term_limit}
use Rattle.guarded_tell.specs.Kernels.{vars_of, HasNumbers, IsKernel}
use Rattle.learning_tests.specs.Small.{is_small, are_small, are_below_four}

less : (a b : ℕ) → nat_lt a b ≡ true → a < b
less a b e = grind (arith, nat_tests)

small_number : (z : ℤ) → is_small z ≡ true → IsNumber z
unfolding largest_number
small_number z h = let k : unsigned_abs z < 15 = less (unsigned_abs z) 15 h in omega arith

linear : (coeffs : List ℤ) (vars : List ℕ) (limit : ℤ) → are_small coeffs ≡ true → length coeffs ≡ length vars → length coeffs ≤ 3 → is_small limit ≡ true → IsLinear coeffs vars limit
unfolding term_limit
linear coeffs vars limit c e s h = record {
  same_length = e;
  short = omega arith;
  coefficients = λ i k. small_number (get_or coeffs i (pos 0)) (AllPass-from_list_all is_small coeffs c i (pos 0) k);
  limit_in_range = small_number limit h;
}

variables : (t : ℕ) (vars : List ℕ) → t < 4 → are_below_four vars ≡ true → AreVariables 4 (t ∷ vars)
variables t vars h b = record { each = each }
  where
    each : (i : ℕ) → i < length (t ∷ vars) → get_or (t ∷ vars) i 0 < 4
    each zero k = h
    each (suc i) k = less (get_or vars i 0) 4 (AllPass-from_list_all (λ v. nat_lt v 4) vars b i 0 (omega arith))

-- the kernel of a small sum, with its lists as the code made them
pub sum_made : (l : Lit) (coeffs cs : List ℤ) (vars vs : List ℕ) (limit z : ℤ) → cs ≡ coeffs → vs ≡ vars → z ≡ limit → l.var < 4 →
    are_small coeffs ≡ true → are_below_four vars ≡ true → length coeffs ≡ length vars → length coeffs ≤ 3 → is_small limit ≡ true → IsKernel 4 (Le l cs vs z)
unfolding vars_of HasNumbers
sum_made l coeffs cs vars vs limit z e f g h c b n s k =
    subst (λ (x : ℤ). IsKernel 4 (Le l cs vs x)) (sym g)
    (subst (λ (xs : List ℕ). IsKernel 4 (Le l cs xs limit)) (sym f)
    (subst (λ (xs : List ℤ). IsKernel 4 (Le l xs vars limit)) (sym e)
    (record { variables = variables l.var vars h b; numbers = linear coeffs vars limit c n s k })))
