-- A term of a sum whose other terms are all fixed.
use Rattle.std.specs.Prelude.{◌≡◌, ℕ, ℤ, ◌-ℤ◌, ◌<ℤ◌}
use Rattle.interval.specs.Limits.{IsBound}
use Rattle.interval.specs.Boxes.{Bounds}
use Rattle.sum_tells.specs.Linear.{least_of, greatest_of}
use Rattle.small_sums.specs.declared.short.Sums.{Sums}
use Rattle.small_sums.specs.declared.short.SmallTerm.{SmallTerm}

-- what a term is at least and at most, and both are bounds
pub record IsBoundTerm (b : Bounds) (coeff : ℤ) (var : ℕ) (t : SmallTerm) : Type 0 where
  pub least : t.least ≡ least_of b (coeff, var)
  pub greatest : t.greatest ≡ greatest_of b (coeff, var)
  pub least_bound : IsBound t.least
  pub greatest_bound : IsBound t.greatest

-- a term isn't fixed, those beside it in the sum are, and p is what they leave of the limit
pub record IsLeftBeside (t : SmallTerm) (limit : ℤ) (s : Sums) (p : ℤ) : Type 0 where
  pub wide : t.least <ℤ t.greatest
  pub fixed : (s.least -ℤ t.least) ≡ (s.greatest -ℤ t.greatest)
  pub rest : p ≡ (limit -ℤ (s.least -ℤ t.least))
