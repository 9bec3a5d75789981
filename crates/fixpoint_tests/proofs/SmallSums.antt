-- What small sums and cuts meet.
use Rattle.std.proofs.Common.{◌≡◌, ℕ, zero, suc, ℤ, pos, ◌<◌, ◌≤◌, true, List, [], ◌∷◌, length, get_or, refl, sym, ap, subst, arith}
use Rattle.std.specs.Prelude.{nat_lt, unsigned_abs, Vec}
use Rattle.std.specs.declared.alloc.Global.{Global}
use Rattle.std.specs.List.{Contains}
use Rattle.std.proofs.lemmas.List.Sums.{AllPass-from_list_all}
use Rattle.std.proofs.lemmas.Bool.Decides.{nat_tests}
use Rattle.interval.specs.Limits.{IsNumber, largest_number}
use Rattle.guarded_tell.specs.Words.{Lit}
use Rattle.guarded_tell.specs.declared.kernel.Kernel.TheVariants.{Le, Eq}
use Rattle.guarded_tell.specs.Words.{AreVariables}
use Rattle.sum_tells.specs.Linear.{IsLinear, term_limit}
use Rattle.guarded_tell.specs.Kernels.{vars_of, HasNumbers, IsKernel}
use Rattle.rounds.specs.Shares.{IsCut, share_limit, share_at}
use Rattle.fixpoint_tests.specs.Small.{is_small, are_small, are_below_four}

less : (a b : ℕ) → nat_lt a b ≡ true → a < b
less a b e = grind (arith, nat_tests)

small_number : (z : ℤ) → is_small z ≡ true → IsNumber z
unfolding largest_number
small_number z h = let k : unsigned_abs z < 15 = less (unsigned_abs z) 15 h in omega arith

linear : (coeffs : List ℤ) (vars : List ℕ) (limit : ℤ) → are_small coeffs ≡ true → length coeffs ≡ length vars → length coeffs ≤ 3 → is_small limit ≡ true → IsLinear coeffs vars limit
unfolding term_limit
linear coeffs vars limit c e s h = record {
  same_length = e;
  short = omega arith;
  coefficients = λ i k. small_number (get_or coeffs i (pos 0)) (AllPass-from_list_all is_small coeffs c i (pos 0) k);
  limit_in_range = small_number limit h;
}

variables : (t : ℕ) (vars : List ℕ) → t < 4 → are_below_four vars ≡ true → AreVariables 4 (t ∷ vars)
variables t vars h b = record { each = each }
  where
    each : (i : ℕ) → i < length (t ∷ vars) → get_or (t ∷ vars) i 0 < 4
    each zero k = h
    each (suc i) k = less (get_or vars i 0) 4 (AllPass-from_list_all (λ v. nat_lt v 4) vars b i 0 (omega arith))

-- the kernel of a small sum, with its lists as the code made them
pub sum_made : (l : Lit) (coeffs cs : List ℤ) (vars vs : List ℕ) (limit z : ℤ) → cs ≡ coeffs → vs ≡ vars → z ≡ limit → l.var < 4 →
    are_small coeffs ≡ true → are_below_four vars ≡ true → length coeffs ≡ length vars → length coeffs ≤ 3 → is_small limit ≡ true → IsKernel 4 (Le l cs vs z)
unfolding vars_of HasNumbers
sum_made l coeffs cs vars vs limit z e f g h c b n s k =
    subst (λ (x : ℤ). IsKernel 4 (Le l cs vs x)) (sym g)
    (subst (λ (xs : List ℕ). IsKernel 4 (Le l cs xs limit)) (sym f)
    (subst (λ (xs : List ℤ). IsKernel 4 (Le l xs vars limit)) (sym e)
    (record { variables = variables l.var vars h b; numbers = linear coeffs vars limit c n s k })))

-- the kernel of a small equation
pub equation_made : (l : Lit) (coeffs cs : List ℤ) (vars vs : List ℕ) (limit z : ℤ) → cs ≡ coeffs → vs ≡ vars → z ≡ limit → l.var < 4 →
    are_small coeffs ≡ true → are_below_four vars ≡ true → length coeffs ≡ length vars → length coeffs ≤ 3 → is_small limit ≡ true → IsKernel 4 (Eq l cs vs z)
unfolding vars_of HasNumbers
equation_made l coeffs cs vars vs limit z e f g h c b n s k =
    subst (λ (x : ℤ). IsKernel 4 (Eq l cs vs x)) (sym g)
    (subst (λ (xs : List ℕ). IsKernel 4 (Eq l cs xs limit)) (sym f)
    (subst (λ (xs : List ℤ). IsKernel 4 (Eq l xs vars limit)) (sym e)
    (record { variables = variables l.var vars h b; numbers = linear coeffs vars limit c n s k })))

two_shares : (a b c : Vec ℕ Global) → a.items ≡ [] → b.items ≡ 0 ∷ 1 ∷ [] → c.items ≡ 1 ∷ [] → IsCut 2 (a ∷ b ∷ c ∷ [])
unfolding share_limit
two_shares a b c e f g = record { some = omega arith; short = omega arith; in_range = in_range; covers = covers }
  where
    both : (k : ℕ) (d : ℕ) → k < 2 → get_or (0 ∷ 1 ∷ []) k d < 2
    both zero d h = omega arith
    both (suc zero) d h = omega arith
    both (suc (suc k)) d h = absurd (omega arith)

    last : (k : ℕ) (d : ℕ) → k < 1 → get_or (1 ∷ []) k d < 2
    last zero d h = omega arith
    last (suc k) d h = absurd (omega arith)

    along : (xs ys : List ℕ) → xs ≡ ys → ((k : ℕ) (d : ℕ) → k < length ys → get_or ys k d < 2) → (k : ℕ) (d : ℕ) → k < length xs → get_or xs k d < 2
    along xs ys q all k d h = subst (λ (zs : List ℕ). get_or zs k d < 2) (sym q) (all k d (subst (λ (zs : List ℕ). k < length zs) q h))

    in_range : (i : ℕ) → i < 3 → (k : ℕ) (d : ℕ) → k < length (share_at (a ∷ b ∷ c ∷ []) i) → get_or (share_at (a ∷ b ∷ c ∷ []) i) k d < 2
    in_range zero h k d l = absurd (omega (arith, ap length e))
    in_range (suc zero) h k d l = along b.items (0 ∷ 1 ∷ []) f both k d l
    in_range (suc (suc zero)) h k d l = along c.items (1 ∷ []) g last k d l
    in_range (suc (suc (suc i))) h k d l = absurd (omega arith)

    covers : (j : ℕ) → j < 2 → (i : ℕ) × (i < 3) × Contains (share_at (a ∷ b ∷ c ∷ []) i) j
    covers zero h = (1, omega arith, subst (λ (xs : List ℕ). Contains xs 0) (sym f) (0, omega arith, refl))
    covers (suc zero) h = (2, omega arith, subst (λ (xs : List ℕ). Contains xs 1) (sym g) (0, omega arith, refl))
    covers (suc (suc j)) h = absurd (omega arith)

-- an empty share, one of both kernels and one of the second
pub overlapping : (xs : List (Vec ℕ Global)) (a b c : Vec ℕ Global) → xs ≡ a ∷ b ∷ c ∷ [] → a.items ≡ [] → b.items ≡ 0 ∷ 1 ∷ [] → c.items ≡ 1 ∷ [] → IsCut 2 xs
overlapping xs a b c q e f g = subst (IsCut 2) (sym q) (two_shares a b c e f g)
