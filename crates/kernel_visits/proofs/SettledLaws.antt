-- What is seen of sums holds in all boxes inside.
use Rattle.std.proofs.Common.{◌≡◌, ℕ, zero, suc, ◌<◌, List, [], ◌∷◌, length, get_or, true, ℤ, pos, ◌-ℤ◌, ◌≤ℤ◌, ◌⊎◌, inl, inr, sym, refl, subst, arith}
use Rattle.std.proofs.lemmas.Int.{ints, clamps}
use Rattle.std.specs.List.{All, zip}
use Rattle.tells.specs.declared.tell.Lit.{Lit}
use Rattle.interval.specs.Limits.{ClampOrder}
use Rattle.interval.specs.Quotients.{QuotientOrder}
use Rattle.interval.specs.Boxes.{Bounds, IsInside}
use Rattle.small_sums.specs.declared.short.Sums.{Sums}
use Rattle.kernel_visits.specs.declared.resting.Rest.{Rest}
use Rattle.kernel_visits.specs.declared.resting.Rest.TheVariants.{Awake, UntilFixed, ForGood}
use Rattle.guarded_tell.specs.declared.kernel.Kernel.{Kernel}
use Rattle.guarded_tell.specs.declared.kernel.Kernel.TheVariants.{Le, Eq}
use Rattle.guarded_tell.specs.Words.{Keeps, is_out, AreVariables, IsProperIn, IsInsideIn}
use Rattle.sum_tells.specs.Linear.{Term, IsLinear, least_of, greatest_of, sum_over, at_most_tells}
use Rattle.sum_tells.specs.Equality.{eq_tells}
use Rattle.small_sums.specs.Short.{AreSums, IsUnequalQuiet}
use Rattle.guarded_tell.specs.Kernels.{vars_of, tells, HasNumbers, IsKernel}
use Rattle.kernel_visits.specs.Rests.{IsRest}
use Rattle.kernel_visits.specs.Settled.{IsSumSettled, IsSumApart, IsSumFixed, IsAtMostSumFor, IsEquationSumFor}
use Rattle.sum_tells.proofs.TermLaws.{length-zip, get_or-zip}
use Rattle.sum_tells.proofs.SumLaws.{least_sums, greatest_sums}
use Rattle.small_sums.proofs.QuietLaws.{not_sure, at_most_quiet, equation_quiet}
use Rattle.kernel_visits.proofs.RestLaws.{Lies, lies, sure_lies, out_lies, low_bound, high_bound}

least_below : (b : Bounds) (t : Term) → least_of b t ≤ℤ greatest_of b t
unfolding least_of greatest_of
least_below b t = omega (arith, ints, clamps)

sums_order : (b : Bounds) (ts : List Term) → sum_over (least_of b) ts ≤ℤ sum_over (greatest_of b) ts
unfolding sum_over
sums_order b [] = omega (arith, ints)
sums_order b (t ∷ ts) = let first = least_below b t in let rest = sums_order b ts in omega (arith, ints)

-- no term can grow by more than the whole sum
growth_within : (b : Bounds) (ts : List Term) (i : ℕ) (d : Term) → i < length ts →
    (greatest_of b (get_or ts i d) -ℤ least_of b (get_or ts i d)) ≤ℤ (sum_over (greatest_of b) ts -ℤ sum_over (least_of b) ts)
unfolding sum_over
growth_within b [] i d h = absurd (omega arith)
growth_within b (t ∷ ts) zero d h = let rest = sums_order b ts in omega (arith, ints)
growth_within b (t ∷ ts) (suc i) d h = let first = least_below b t in let rest = growth_within b ts i d (omega arith) in omega (arith, ints)

abbrev sums_of : Bounds → List ℤ → List ℕ → Sums
sums_of b coeffs vars =
    let ts = zip coeffs vars in
    record { least = sum_over (least_of b) ts; greatest = sum_over (greatest_of b) ts; widest = sum_over (greatest_of b) ts -ℤ sum_over (least_of b) ts }

module _ (quotients : QuotientOrder) (clamped : ClampOrder) (b c : Bounds) (inside : IsInside c b) (l : Lit) (coeffs : List ℤ) (vars : List ℕ) (same : length coeffs ≡ length vars)
    (variables : AreVariables (length b) (l.var ∷ vars)) (proper : IsProperIn (l.var ∷ vars) c) (s : Sums) (sums : AreSums b coeffs vars s) where
  lies_at : (i : ℕ) → i < length (l.var ∷ vars) → Lies b c (get_or (l.var ∷ vars) i 0)
  lies_at i h = lies b c (get_or (l.var ∷ vars) i 0) inside (variables.each i h) (proper i h)

  inside_in : IsInsideIn (l.var ∷ vars) c b
  inside_in = record { lows = λ i h. let w = lies_at i h in w.low; highs = λ i h. let w = lies_at i h in w.high }

  sums_there : AreSums c coeffs vars (sums_of c coeffs vars)
  sums_there = record {
    least = refl;
    greatest = refl;
    above_zero = let order = sums_order c (zip coeffs vars) in omega (arith, ints);
    bounds = λ i h.
        let was = sums.bounds i h in
        let w = lies_at (suc i) (omega arith) in
        record { low = low_bound b c (get_or vars i 0) w was.low was.high; high = high_bound b c (get_or vars i 0) w was.low was.high };
    within = λ i h.
        let P : Term → Type 0 = λ t. (greatest_of c t -ℤ least_of c t) ≤ℤ (sum_over (greatest_of c) (zip coeffs vars) -ℤ sum_over (least_of c) (zip coeffs vars)) in
        subst P (get_or-zip coeffs vars i same) (growth_within c (zip coeffs vars) i (pos 0, 0) (omega (arith, length-zip coeffs vars same)));
  }

  rises : s.least ≤ℤ sum_over (least_of c) (zip coeffs vars)
  rises = let is = sums.least in let h = least_sums c b l coeffs vars same proper inside_in in omega (arith, ints)

  falls : sum_over (greatest_of c) (zip coeffs vars) ≤ℤ s.greatest
  falls = let is = sums.greatest in let h = greatest_sums c b l coeffs vars same proper inside_in in omega (arith, ints)

  literal_there : Lies b c l.var
  literal_there = lies_at 0 (omega arith)

  at_most_there : (limit : ℤ) → IsSumSettled b l limit s → All (Keeps c) (at_most_tells l coeffs vars limit c)
  at_most_there limit (inl (sure, le)) =
      let t = sure_lies b c l literal_there sure in
      let up = rises in let down = falls in
      at_most_quiet quotients clamped c l coeffs vars (sums_of c coeffs vars) same sums_there limit (record {
        sure = λ e. omega (arith, ints);
        out = λ e o. absurd (cc);
        open_low = λ e o. absurd (cc);
        open_high = λ e o. absurd (cc);
      })
  at_most_there limit (inr (out, more)) =
      let t = out_lies b c l literal_there out in
      let u = not_sure clamped c l t in
      let up = rises in let down = falls in
      at_most_quiet quotients clamped c l coeffs vars (sums_of c coeffs vars) same sums_there limit (record {
        sure = λ e. absurd (cc);
        out = λ e o. omega (arith, ints);
        open_low = λ e o. absurd (cc);
        open_high = λ e o. absurd (cc);
      })

  apart_there : (limit : ℤ) → is_out l b ≡ true → IsUnequalQuiet limit (sums_of c coeffs vars) → All (Keeps c) (eq_tells l coeffs vars limit c)
  apart_there limit out quiet =
      let t = out_lies b c l literal_there out in
      let u = not_sure clamped c l t in
      equation_quiet quotients clamped c l coeffs vars (sums_of c coeffs vars) same sums_there limit (record {
        sure_low = λ e. absurd (cc);
        sure_high = λ e. absurd (cc);
        out = λ e o. quiet;
        open_low = λ e o. absurd (cc);
        open_high = λ e o. absurd (cc);
        open_wide = λ e o. absurd (cc);
      })

  equation_there : (limit : ℤ) → IsSumApart b l limit s ⊎ IsSumFixed b l limit s → All (Keeps c) (eq_tells l coeffs vars limit c)
  equation_there limit (inl (out, inl below)) =
      let up = rises in let order = sums_order c (zip coeffs vars) in
      apart_there limit out (record { low = λ h e. omega (arith, ints); high = λ h e. omega (arith, ints) })
  equation_there limit (inl (out, inr above)) =
      let down = falls in let order = sums_order c (zip coeffs vars) in
      apart_there limit out (record { low = λ h e. omega (arith, ints); high = λ h e. omega (arith, ints) })
  equation_there limit (inr (sure, low, high)) =
      let t = sure_lies b c l literal_there sure in
      let up = rises in let down = falls in let order = sums_order c (zip coeffs vars) in
      equation_quiet quotients clamped c l coeffs vars (sums_of c coeffs vars) same sums_there limit (record {
        sure_low = λ e. omega (arith, ints);
        sure_high = λ e. omega (arith, ints);
        out = λ e o. absurd (cc);
        open_low = λ e o. absurd (cc);
        open_high = λ e o. absurd (cc);
        open_wide = λ e o. absurd (cc);
      })

module _ (quotients : QuotientOrder) (clamped : ClampOrder) (b : Bounds) (k : Kernel) (kernel : IsKernel (length b) k) (l : Lit) (coeffs : List ℤ) (vars : List ℕ) (limit : ℤ) (s : Sums) (sums : AreSums b coeffs vars s) where
  pub at_most_rests : k ≡ Le l coeffs vars limit → (r : Rest) → IsAtMostSumFor b l limit s r → IsRest k b r
  unfolding tells vars_of HasNumbers
  at_most_rests e Awake h = tt
  at_most_rests e UntilFixed h = absurd h
  at_most_rests e ForGood h = λ c inside prop.
      let linear : IsLinear coeffs vars limit = subst (λ (j : Kernel). HasNumbers j) e kernel.numbers in
      let there : AreVariables (length b) (l.var ∷ vars) = subst (λ (j : Kernel). AreVariables (length b) (vars_of j)) e kernel.variables in
      let proper_all : IsProperIn (l.var ∷ vars) c = subst (λ (j : Kernel). IsProperIn (vars_of j) c) e prop in
      record {
        proper = prop;
        kept = subst (λ (j : Kernel). All (Keeps c) (tells j c)) (sym e)
            (at_most_there quotients clamped b c inside l coeffs vars linear.same_length there proper_all s sums limit h);
      }

  pub equation_rests : k ≡ Eq l coeffs vars limit → (r : Rest) → IsEquationSumFor b l limit s r → IsRest k b r
  unfolding tells vars_of HasNumbers
  equation_rests e Awake h = tt
  equation_rests e UntilFixed h = absurd h
  equation_rests e ForGood h = λ c inside prop.
      let linear : IsLinear coeffs vars limit = subst (λ (j : Kernel). HasNumbers j) e kernel.numbers in
      let there : AreVariables (length b) (l.var ∷ vars) = subst (λ (j : Kernel). AreVariables (length b) (vars_of j)) e kernel.variables in
      let proper_all : IsProperIn (l.var ∷ vars) c = subst (λ (j : Kernel). IsProperIn (vars_of j) c) e prop in
      record {
        proper = prop;
        kept = subst (λ (j : Kernel). All (Keeps c) (tells j c)) (sym e)
            (equation_there quotients clamped b c inside l coeffs vars linear.same_length there proper_all s sums limit h);
      }
